-- Short lists in arrays of one length.
use Rattle.std.specs.Prelude.{◌≡◌, ℕ, ◌-◌, List, ◌++◌, length, take, replicate}

-- numbers, and zeros behind them up to so many
abbrev pub padded : ℕ → List ℕ → List ℕ
padded most n = n ++ replicate (most - length n) 0

-- the array holds so many numbers in front, and zeros behind them
pub record IsPadded (most : ℕ) (array : List ℕ) (count : ℕ) : Type 0 where
  pub zeros : array ≡ padded most (take count array)
  pub inside : count ≡ length (take count array)
