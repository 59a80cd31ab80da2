-- Words, numbers and lines in texts.
use Rattle.std.specs.Prelude.{ℕ, Bool, false, cond, ◌&&◌, ◌+◌, ◌-◌, ◌*◌, nat_eq, nat_le, [], ◌∷◌, fold, take, drop, length, reverse, position, ◌==◌, Option, Some, None}
use Rattle.std.specs.Option.{option_and_then}
use Rattle.std.specs.List.{list_all}
use Rattle.std.specs.Str.{bytes_eq}
use Rattle.bts_names.specs.Names.{Bytes}
use Rattle.bts_names.specs.Grammar.{is_between}

-- ---- numbers

abbrev pub is_digit : ℕ → Bool
is_digit b = is_between 48 57 b

-- decimal digits without a leading zero, or 0
unfoldable pub is_decimal : Bytes → Bool
is_decimal [] = false
is_decimal (b ∷ []) = is_digit b
is_decimal (b ∷ c ∷ bs) = is_between 49 57 b && list_all is_digit (c ∷ bs)

abbrev pub decimal_value : Bytes → ℕ
decimal_value = fold (λ n b. 10 * n + (b - 48)) 0

unfoldable pub number_in : Bytes → Option ℕ
number_in bytes = cond (is_decimal bytes) (Some (decimal_value bytes)) None

-- a number that is at most so much
abbrev pub only_if : {A : Type 0} → (A → Bool) → Option A → Option A
only_if test x = option_and_then (λ y. cond (test y) (Some y) None) x

unfoldable pub number_within : ℕ → Bytes → Option ℕ
number_within most bytes = only_if (λ n. nat_le n most) (number_in bytes)

-- ---- what stands behind a beginning, and in front of an end

infixl 10 ◌>>=◌
abbrev pub ◌>>=◌ : {A B : Type 0} → Option A → (A → Option B) → Option B
None >>= f = None
(Some x) >>= f = f x

unfoldable pub behind_front : Bytes → Bytes → Option Bytes
behind_front front text = cond (bytes_eq (take (length front) text) front) (Some (drop (length front) text)) None

-- the bytes in front of the first one of this value, and those behind it
unfoldable pub cut_at : ℕ → Bytes → Option (Bytes × Bytes)
cut_at c text = do
  n ← position (λ b. b == c) text
  Some (take n text, drop (n + 1) text)

-- the bytes in front of the last one of this value, and those behind it
unfoldable pub cut_at_last : ℕ → Bytes → Option (Bytes × Bytes)
cut_at_last c text = do
  n ← position (λ b. b == c) (reverse text)
  Some (take (length text - (n + 1)) text, drop (length text - n) text)

-- the bytes in front of this one, which stands last and nowhere else
unfoldable pub closed_by : ℕ → Bytes → Option Bytes
closed_by c text = do
  parts ← cut_at c text
  cond (nat_eq (length parts.1) 0) (Some parts.0) None

abbrev pub without_spaces : Bytes → Bytes
without_spaces [] = []
without_spaces (b ∷ bs) = cond (nat_eq b 32) (without_spaces bs) (b ∷ bs)

-- the first word of a line, and the line from the next one on
abbrev pub or_whole : Bytes → Option (Bytes × Bytes) → Bytes × Bytes
or_whole line None = (line, [])
or_whole line (Some x) = (x.0, without_spaces x.1)

unfoldable pub first_word : Bytes → Bytes × Bytes
first_word line = or_whole line (cut_at 32 line)
