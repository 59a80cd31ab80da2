-- A number in its one form.
use Rattle.std.proofs.Common.{◌≡◌, ℕ, zero, suc, ◌+◌, ◌-◌, ◌*◌, ◌/◌, ◌%◌, ◌^◌, ◌<◌, ◌≤◌, Bool, true, false, cond, ◌&&◌, [], ◌∷◌, ◌++◌, Option, Some, None, refl, sym, ◌∙◌, ap, inl, inr, arith, lt-ltb, le-ltb, ltb-true, leb-true, le-leb, append_assoc}
use Rattle.std.specs.Prelude.{nat_lt, nat_le}
use Rattle.std.proofs.lemmas.Bool.{cases_lt}
use Rattle.bts_names.specs.Names.{Bytes}
use Rattle.bts_codec.specs.Formats.{number, number_bytes, number_at, behind_low}
use Rattle.bts_codec.specs.Laws.{IsFormat}
use Rattle.bts_codec.proofs.Options.{first_is, second_is}

-- the bytes of a small number, and those of a great one
pub small_bytes : (most n : ℕ) → n < 128 → number_bytes (suc most) n ≡ n ∷ []
unfolding number_bytes
small_bytes most n h = rw (number_bytes, lt-ltb n 128 h) refl

pub great_bytes : (most n : ℕ) → 128 ≤ n → number_bytes (suc most) n ≡ (128 + n % 128) ∷ number_bytes most (n / 128)
unfolding number_bytes
great_bytes most n h = rw (number_bytes, le-ltb n 128 h) refl

-- one more byte of a number is written
pub one_more : (out start : Bytes) (turn n : ℕ) → turn < 10 → 128 ≤ n
    → out ++ number_bytes (10 - turn) n ≡ start → (out ++ (128 + n % 128) ∷ []) ++ number_bytes (10 - (turn + 1)) (n / 128) ≡ start
one_more out start turn n h great so_far =
    let k : 10 - turn ≡ suc (10 - (turn + 1)) = omega arith in
    let one : number_bytes (10 - turn) n ≡ (128 + n % 128) ∷ number_bytes (10 - (turn + 1)) (n / 128) = rw k (great_bytes (10 - (turn + 1)) n great) in
    append_assoc out ((128 + n % 128) ∷ []) (number_bytes (10 - (turn + 1)) (n / 128)) ∙ sym (ap (λ (t : Bytes). out ++ t) one) ∙ so_far

small_at : (most b : ℕ) (bytes : Bytes) → b < 128 → number_at (suc most) (b ∷ bytes) ≡ Some (b, bytes)
unfolding number_at
small_at most b bytes h = rw (number_at, lt-ltb b 128 h) refl

great_at : (most b : ℕ) (bytes : Bytes) → 128 ≤ b → number_at (suc most) (b ∷ bytes) ≡ behind_low b (number_at most bytes)
unfolding number_at
great_at most b bytes h = rw (number_at, le-ltb b 128 h) refl

behind_some : (b high : ℕ) (rest : Bytes) → b < 256 → 1 ≤ high → high ≤ 2 ^ 57 - 1 → behind_low b (Some (high, rest)) ≡ Some (128 * high + (b - 128), rest)
behind_some b high rest h low most = rw (lt-ltb b 256 h, le-leb 1 high low, le-leb high (2 ^ 57 - 1) most) refl

again : (most n : ℕ) (rest : Bytes) → n < 2 ^ 64 → n < 128 ^ suc most → number_at (suc most) (number_bytes (suc most) n ++ rest) ≡ Some (n, rest)
again zero n rest fits h =
    let small : n < 128 = omega arith in
    rw (small_bytes zero n small, small_at zero n rest small) refl
again (suc most) n rest fits h =
    elim (cases_lt n 128) as (λ c. number_at (suc (suc most)) (number_bytes (suc (suc most)) n ++ rest) ≡ Some (n, rest)) [
      | inl small ↦ rw (small_bytes (suc most) n small, small_at (suc most) n rest small) refl
      | inr great ↦
          let below : n / 128 < 128 ^ suc most = omega arith in
          let whole : 128 * (n / 128) + (128 + n % 128 - 128) ≡ n = omega arith in
          rw (great_bytes (suc most) n great, great_at (suc most) (128 + n % 128) (number_bytes (suc most) (n / 128) ++ rest) (omega arith), again most (n / 128) rest (omega arith) below, behind_some (128 + n % 128) (n / 128) rest (omega arith) (omega arith) (omega arith), whole) refl
    ]

-- what stands behind a byte that another follows
record Low (b : ℕ) (found : Option (ℕ × Bytes)) (n : ℕ) (rest : Bytes) : Type 0 where
  high : ℕ
  is : found ≡ Some (high, rest)
  byte : b < 256
  some : 1 ≤ high
  below : high ≤ 2 ^ 57 - 1
  whole : n ≡ 128 * high + (b - 128)

low_from : (b : ℕ) (x : ℕ × Bytes) (n : ℕ) (rest : Bytes) (byte low high : Bool) → nat_lt b 256 ≡ byte → nat_le 1 x.0 ≡ low → nat_le x.0 (2 ^ 57 - 1) ≡ high
    → ◌≡◌ {A = Option (ℕ × Bytes)} (cond (byte && (low && high)) (Some (128 * x.0 + (b - 128), x.1)) None) (Some (n, rest)) → Low b (Some x) n rest
low_from b x n rest true true true hb hl hh e =
    record {
      high = x.0;
      is = ap (λ (r : Bytes). Some (x.0, r)) (second_is (128 * x.0 + (b - 128)) n x.1 rest e);
      byte = ltb-true b 256 hb;
      some = leb-true 1 x.0 hl;
      below = leb-true x.0 (2 ^ 57 - 1) hh;
      whole = sym (first_is (128 * x.0 + (b - 128)) n x.1 rest e);
    }
low_from b x n rest false low high hb hl hh e = absurd (cc e)
low_from b x n rest true false high hb hl hh e = absurd (cc e)
low_from b x n rest true true false hb hl hh e = absurd (cc e)

low_of : (b : ℕ) (found : Option (ℕ × Bytes)) (n : ℕ) (rest : Bytes) → behind_low b found ≡ Some (n, rest) → Low b found n rest
low_of b None n rest e = absurd (cc e)
low_of b (Some x) n rest e = low_from b x n rest (nat_lt b 256) (nat_le 1 x.0) (nat_le x.0 (2 ^ 57 - 1)) refl refl refl e

takes : (most : ℕ) (bytes rest : Bytes) (n : ℕ) → number_at most bytes ≡ Some (n, rest) → (bytes ≡ number_bytes most n ++ rest) × (n < 2 ^ 64)
unfolding number_at
takes zero bytes rest n e = absurd (cc e)
takes (suc most) [] rest n e = absurd (cc e)
takes (suc most) (b ∷ bytes) rest n e =
    elim (cases_lt b 128) as (λ c. (b ∷ bytes ≡ number_bytes (suc most) n ++ rest) × (n < 2 ^ 64)) [
      | inl small ↦
          let here : ◌≡◌ {A = Option (ℕ × Bytes)} (Some (b, bytes)) (Some (n, rest)) = sym (small_at most b bytes small) ∙ e in
          let byte : b ≡ n = first_is b n bytes rest here in
          let left : bytes ≡ rest = second_is b n bytes rest here in
          (rw (← byte, small_bytes most b small, left) refl, omega (arith, byte))
      | inr great ↦
          let low : Low b (number_at most bytes) n rest = low_of b (number_at most bytes) n rest (sym (great_at most b bytes great) ∙ e) in
          let whole : n ≡ 128 * low.high + (b - 128) = low.whole in
          let below : low.high ≤ 2 ^ 57 - 1 = low.below in
          let some : 1 ≤ low.high = low.some in
          let byte : b < 256 = low.byte in
          let behind : bytes ≡ number_bytes most low.high ++ rest = (takes most bytes rest low.high low.is).0 in
          let first : 128 + n % 128 ≡ b = omega arith in
          let second : n / 128 ≡ low.high = omega arith in
          (rw (great_bytes most n (omega arith), first, second) (ap (λ (t : Bytes). b ∷ t) behind), omega arith)
    ]

pub number_is : IsFormat number
number_is = record {
  again = λ n rest fits. again 9 n rest (ltb-true n (2 ^ 64) fits) (omega (arith, ltb-true n (2 ^ 64) fits));
  takes = λ bytes rest n e. let t = takes 10 bytes rest n e in (t.0, lt-ltb n (2 ^ 64) t.1);
}
