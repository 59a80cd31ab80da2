-- Pieces of a stream, one behind the other.
use Rattle.std.proofs.Common.{◌≡◌, ℕ, ◌+◌, ◌-◌, ◌≤◌, List, ◌++◌, length, take, drop, Option, Some, None}
use Rattle.std.proofs.Common.{sym, ap, ◌∙◌, arith, append_assoc, subst}
use Rattle.std.specs.Io.KnownBytes.{Appends, Consumes}
use Rattle.std.proofs.lemmas.List.{drop-drop, length-append, length-drop, length-take-le}
use Rattle.std.proofs.lemmas.List.{take-append-drop, take_at}
use Rattle.std.proofs.Math.Seq.{take-add}
use Rattle.bts_io.specs.Streams.{ConsumesWithin}

-- a piece of the rest is appended behind a front
Appends-then : (a b c : Option (List ℕ)) (n k : ℕ) (xs : List ℕ)
    → Appends a b (take n xs) → Appends b c (take k (drop n xs)) → Appends a c (take (n + k) xs)
Appends-then None b c n k xs p q = tt
Appends-then (Some x) None c n k xs p q = absurd p
Appends-then (Some x) (Some y) None n k xs p q = absurd q
Appends-then (Some x) (Some y) (Some z) n k xs p q =
    let more = take k (drop n xs) in
    let e : take (n + k) xs ≡ take n xs ++ more = take-add n k xs in
    rw e (q ∙ (ap (λ (l : List ℕ). l ++ more) p ∙ append_assoc x (take n xs) more))

-- what isn't the rest of the bytes was appended
pub record Written (a b : Option (List ℕ)) (bytes rest : List ℕ) : Type 0 where
  pub fits : length rest ≤ length bytes
  pub behind : rest ≡ drop (length bytes - length rest) bytes
  pub held : Appends a b (take (length bytes - length rest) bytes)

pub Written-then : (a b c : Option (List ℕ)) (bytes rest : List ℕ) (n : ℕ) → n ≤ length rest
    → Written a b bytes rest → Appends b c (take n rest) → Written a c bytes (drop n rest)
Written-then a b c bytes rest n some w more =
    let at = length bytes - length rest in
    let left : length (drop n rest) ≡ length rest - n = length-drop n rest in
    let e : length bytes - length (drop n rest) ≡ at + n = omega (arith, left, w.fits, some) in
    let P : List ℕ → Type 0 = λ r. Appends b c (take n r) in
    record {
      fits = omega (arith, left, w.fits);
      behind = rw e (ap (λ (r : List ℕ). drop n r) w.behind ∙ drop-drop n at bytes);
      held = rw e (Appends-then a b c at n bytes w.held (subst P w.behind more));
    }

-- a piece is consumed behind another
Consumes-then : (a b c : Option (List ℕ)) (xs ys : List ℕ)
    → Consumes a b xs → Consumes b c ys → Consumes a c (xs ++ ys)
Consumes-then None b c xs ys p q = tt
Consumes-then (Some x) None c xs ys p q = absurd p
Consumes-then (Some x) (Some y) None xs ys p q = absurd q
Consumes-then (Some x) (Some y) (Some z) xs ys p q =
    p ∙ (ap (λ (l : List ℕ). xs ++ l) q ∙ sym (append_assoc xs ys z))

pub ConsumesWithin-then : (a b c : Option (List ℕ)) (xs : List ℕ) (n most : ℕ) → length xs + n ≤ most
    → Consumes a b xs → ConsumesWithin b c n → ConsumesWithin a c most
ConsumesWithin-then a b c xs n most fits p (ys, q, bound) =
    (xs ++ ys, Consumes-then a b c xs ys p q, omega (arith, length-append xs ys, fits, bound))

-- what went to the front of a buffer stood in front of the rest
pub moved-front : (n : ℕ) (left into : List ℕ) → n ≤ length left
    → left ≡ take n (take n left ++ into) ++ drop n left
moved-front n left into fits =
    let len : length (take n left) ≡ n = length-take-le n left fits in
    rw (take_at (take n left) into n len) (sym (take-append-drop n left))
