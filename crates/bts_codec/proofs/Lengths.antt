-- How long spellings are.
use Rattle.std.proofs.Common.{◌≡◌, ℕ, zero, suc, ◌+◌, ◌*◌, ◌/◌, ◌≤◌, Bool, List, [], ◌∷◌, length, flat_map, Some, None, IsTrue, inl, inr, arith, length-append, leb-true}
use Rattle.std.specs.Prelude.{nat_le}
use Rattle.std.specs.List.{list_all}
use Rattle.std.proofs.lemmas.Bool.{and_parts, cases_lt}
use Rattle.std.proofs.Math.Nat.{mul-suc, mul-le-mul_left}
use Rattle.bts_names.specs.Names.{Bytes, Name}
use Rattle.bts_names.specs.Grammar.{is_between, is_name_within, is_word_within}
use Rattle.bts_codec.specs.Formats.{Format, ◌&◌, only, nothing, number, number_bytes, number_from, string, at_most, optional}
use Rattle.bts_codec.specs.Fields.{name_within, path, u32_from}
use Rattle.bts_codec.proofs.OneForm.{small_bytes, great_bytes}

-- no spelling is longer
abbrev pub IsWithin : {A : Type 0} → ℕ → Format A → Type 0
IsWithin {A} most f = (x : A) → IsTrue (f.fits x) → length (f.spell x) ≤ most

number-long : (most n : ℕ) → length (number_bytes most n) ≤ most
unfolding number_bytes
number-long zero n = omega arith
number-long (suc most) n = elim (cases_lt n 128) [
  | inl small ↦ rw (small_bytes most n small) (omega arith)
  | inr great ↦
      let rest : length (number_bytes most (n / 128)) ≤ most = number-long most (n / 128) in
      rw (great_bytes most n great) (omega (arith, rest))
]

pub number_within : (n : ℕ) → length (number.spell n) ≤ 10
number_within n = number-long 10 n

pub number_from_within : (low high : ℕ) → IsWithin 10 (number_from low high)
number_from_within low high n fits = number_within n

-- a number that fits its bounds
pub at_most_high : (low high n : ℕ) → IsTrue ((number_from low high).fits n) → n ≤ high
at_most_high low high n fits =
    let within = (and_parts (number.fits n) (is_between low high n) fits).1 in
    leb-true n high (and_parts (nat_le low n) (nat_le n high) within).1

module _ {A B : Type 0} (f : Format A) (g : Format B) where
  pub pair_within : (j k most : ℕ) → IsWithin j f → IsWithin k g → j + k ≤ most → IsWithin most (f & g)
  pair_within j k most hf hg fit x fits =
      let both = and_parts (f.fits x.0) (g.fits x.1) fits in
      let one : length (f.spell x.0) ≤ j = hf x.0 both.0 in
      let two : length (g.spell x.1) ≤ k = hg x.1 both.1 in
      omega (arith, fit, one, two, length-append (f.spell x.0) (g.spell x.1))

module _ {A : Type 0} (f : Format A) where
  pub only_within : (most : ℕ) (test : A → Bool) → IsWithin most f → IsWithin most (only test f)
  only_within most test hf x fits = hf x (and_parts (f.fits x) (test x) fits).0

  -- a tag, and a value behind it
  pub tagged_within : (j : ℕ) → IsWithin j f → (x : A) → IsTrue (f.fits x) → (tag most : ℕ) → j + 1 ≤ most → length (tag ∷ f.spell x) ≤ most
  tagged_within j hf x fits tag most fit =
      let one : length (f.spell x) ≤ j = hf x fits in
      omega (arith, fit, one)

  each-within : (k : ℕ) → IsWithin k f → (xs : List A) → IsTrue (list_all f.fits xs) → length (flat_map f.spell xs) ≤ k * length xs
  each-within k hf [] fits = omega arith
  each-within k hf (x ∷ xs) fits =
      let both = and_parts (f.fits x) (list_all f.fits xs) fits in
      let one : length (f.spell x) ≤ k = hf x both.0 in
      let more : length (flat_map f.spell xs) ≤ k * length xs = each-within k hf xs both.1 in
      let step : k * suc (length xs) ≡ k * length xs + k = mul-suc k (length xs) in
      omega (arith, one, more, step, length-append (f.spell x) (flat_map f.spell xs))

  pub at_most_within : (n k most : ℕ) → IsWithin k f → 10 + k * n ≤ most → IsWithin most (at_most n f)
  at_most_within n k most hf fit xs fits =
      let both = and_parts ((number_from 0 n).fits (length xs)) (list_all f.fits xs) fits in
      let few : length xs ≤ n = at_most_high 0 n (length xs) both.0 in
      let all : length (flat_map f.spell xs) ≤ k * length xs = each-within k hf xs both.1 in
      let fewer : k * length xs ≤ k * n = mul-le-mul_left k few in
      let count : length (number.spell (length xs)) ≤ 10 = number_within (length xs) in
      omega (arith, fit, all, fewer, count, length-append (number.spell (length xs)) (flat_map f.spell xs))

  pub optional_within : (j most : ℕ) → IsWithin j f → j + 1 ≤ most → 1 ≤ most → IsWithin most (optional f)
  optional_within j most hf fit one None fits = one
  optional_within j most hf fit one (Some x) fits = tagged_within j hf x fits 1 most fit

pub string_long : (s : Bytes) → length (string.spell s) ≤ 10 + length s
string_long s = omega (arith, number_within (length s), length-append (number.spell (length s)) s)

pub name_length : (most : ℕ) (n : Name) → IsTrue (is_name_within most n) → length n ≤ most
name_length most n fits =
    let word = (and_parts (is_word_within most n) _ fits).0 in
    let long = (and_parts (is_between 1 most (length n)) _ word).0 in
    leb-true (length n) most (and_parts (nat_le 1 (length n)) (nat_le (length n) most) long).1

pub name_within_within : (most : ℕ) → IsWithin (10 + most) (name_within most)
name_within_within most n fits =
    let long : length n ≤ most = name_length most n (and_parts (string.fits n) (is_name_within most n) fits).1 in
    omega (arith, long, string_long n)

pub path_within : IsWithin 330 path
path_within = at_most_within (u32_from 1) 32 10 330 (number_from_within 1 4_294_967_295) (omega arith)

pub nothing_within : IsWithin 0 nothing
nothing_within x fits = omega arith
