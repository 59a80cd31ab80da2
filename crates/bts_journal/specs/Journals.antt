-- A journal on its disk.
use Rattle.std.specs.Prelude.{ℕ}

-- the disk, the offset of the last gate, and how many bytes there is room for
pub record State (D : Type 0) : Type 0 where
  pub disk : D
  pub end : ℕ
  pub room : ℕ
