-- The two formats, and what they allow.
use Rattle.std.specs.Prelude.{ℕ}
use Rattle.bts_container.specs.declared.format.Format.{Format}
use Rattle.bts_container.specs.declared.format.Format.TheVariants as format

abbrev pub number_of : Format → ℕ
number_of format.One = 1
number_of format.Two = 2

-- the most bytes of a container
abbrev pub size_limit : Format → ℕ
size_limit format.One = 32_768
size_limit format.Two = 1_048_576
