-- The grammar of names, and the range of moments.
use Rattle.std.specs.Prelude.{ℕ, Bool, false, not, ◌&&◌, ◌||◌, nat_eq, nat_le, List, ◌∷◌, length}
use Rattle.std.specs.List.{list_all}

abbrev pub is_between : ℕ → ℕ → ℕ → Bool
is_between low high n = nat_le low n && nat_le n high

-- A to Z, a to z, 0 to 9, and `$ @ # . - _`
unfoldable pub is_name_byte : ℕ → Bool
is_name_byte b =
    is_between 65 90 b || is_between 97 122 b || is_between 48 57 b
    || nat_eq b 36 || nat_eq b 64 || nat_eq b 35 || nat_eq b 46 || nat_eq b 45 || nat_eq b 95

-- 1 to so many name bytes
abbrev pub is_word_within : ℕ → List ℕ → Bool
is_word_within most n = is_between 1 most (length n) && list_all is_name_byte n

-- names that begin with DFH are the system's
abbrev pub is_system : List ℕ → Bool
is_system (a ∷ b ∷ c ∷ n) = nat_eq a 68 && nat_eq b 70 && nat_eq c 72
is_system n = false

-- a name of at most so many bytes
abbrev pub is_name_within : ℕ → List ℕ → Bool
is_name_within most n = is_word_within most n && not (is_system n)

-- the second 9999-12-31T23:59:59
abbrev pub last_second : ℕ
last_second = 253402300799
