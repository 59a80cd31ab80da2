-- The last line of a run.
use Rattle.std.specs.Prelude.{ℕ, [], ◌∷◌, ◌++◌, codes}
use Rattle.std.specs.Fmt.{decimal}
use Rattle.bts_names.specs.Names.{Bytes}

-- a word and a count
abbrev pub counted_line : Bytes → ℕ → Bytes
counted_line word n = word ++ 32 ∷ decimal n ++ 10 ∷ []

-- all was done: the count of units
abbrev pub end_line : ℕ → Bytes
end_line n = counted_line (codes "END") n

-- the limit was met: the count of activations
abbrev pub limit_line : ℕ → Bytes
limit_line n = counted_line (codes "limit") n
