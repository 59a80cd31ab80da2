-- Numbers in decimal digits.
use Rattle.std.proofs.Common.{◌≡◌, ℕ, ◌+◌, ◌-◌, ◌*◌, ◌<◌, ◌≤◌, true, [], ◌∷◌, refl, arith, Some, None}
use Rattle.std.proofs.lemmas.Bool.{lt-leb, le-leb, leb-true, and_parts}
use Rattle.std.specs.Prelude.{nat_le, fold}
use Rattle.std.specs.List.{list_all}
use Rattle.bts_names.specs.Names.{Bytes}
use Rattle.bts_names.specs.Grammar.{is_between}
use Rattle.bts_forms.specs.Texts.{is_digit, is_decimal, only_if}

from_one : (b : ℕ) → is_between 49 57 b ≡ true → is_digit b ≡ true
from_one b h =
    let parts = and_parts (nat_le 49 b) (nat_le b 57) h in
    let from : 49 ≤ b = leb-true 49 b parts.0 in
    rw (le-leb 48 b (omega arith), parts.1) refl

pub digits_of_decimal : (bytes : Bytes) → is_decimal bytes ≡ true → list_all is_digit bytes ≡ true
unfolding is_decimal
digits_of_decimal [] h = cc
digits_of_decimal (b ∷ []) h = rw h refl
digits_of_decimal (b ∷ c ∷ bs) h =
    let parts = and_parts (is_between 49 57 b) (list_all is_digit (c ∷ bs)) h in
    rw (from_one b parts.0, parts.1) refl

-- a number that has grown too large stays so
value_grows : (n : ℕ) (digits : Bytes) → n ≤ fold (λ v b. 10 * v + (b - 48)) n digits
value_grows n [] = omega arith
value_grows n (b ∷ bs) =
    let more = value_grows (10 * n + (b - 48)) bs in
    omega arith

pub too_large : (most n : ℕ) (digits : Bytes) → most < n → only_if (λ v. nat_le v most) (Some (fold (λ v b. 10 * v + (b - 48)) n digits)) ≡ None
too_large most n digits h =
    let grown = value_grows n digits in
    rw (lt-leb (fold (λ v b. 10 * v + (b - 48)) n digits) most (omega arith)) refl
