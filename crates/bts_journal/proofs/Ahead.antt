-- What the first bytes of a file tell of all of them.
use Rattle.std.proofs.Common.{◌≡◌, inl, inr, ℕ, ◌+◌, ◌-◌, ◌≤◌, Bool, true, false, not, ◌||◌, cond, [], ◌∷◌, ◌++◌, length, take, drop, refl, ap, sym, ◌∙◌, arith, length-append, length-drop, Option, Some, None, IsTrue, is_some, le-leb}
use Rattle.std.specs.Prelude.{nat_le}
use Rattle.std.specs.Int.{w32, from_be_bytes}
use Rattle.std.proofs.lemmas.List.{take-append-drop, take-append-le, drop-take}
use Rattle.std.proofs.lemmas.Bool.{cases_lt, le-ltb, lt-ltb, lt-leb}
use Rattle.bts_names.specs.Names.{Bytes, same}
use Rattle.bts_journal.specs.Gates.{is_open, first_gate, signature, is_repository, is_closed, split, record_at, goes_on, goes_on_within}
use Rattle.bts_journal.specs.Scans.{GoesOn}
use Rattle.bts_journal.specs.Units.{IsFirstBad}
use Rattle.bts_journal.proofs.SoFar.{none_yet, no_record}

record-fits : (n : ℕ) (bytes : Bytes) (len : ℕ) → len ≡ 5 + length bytes → nat_le (n + 5) len ≡ is_some (split n bytes)
record-fits n bytes len long = elim (cases_lt (length bytes) n) [
  | inl few ↦
      lt-leb (n + 5) len (omega (arith, few, long))
      ∙ sym (ap (λ (t : Bool). is_some (cond {A = Option (Bytes × Bytes)} t None (Some (take n bytes, drop n bytes)))) (lt-ltb (length bytes) n few))
  | inr fits ↦
      le-leb (n + 5) len (omega (arith, fits, long))
      ∙ sym (ap (λ (t : Bool). is_some (cond {A = Option (Bytes × Bytes)} t None (Some (take n bytes, drop n bytes)))) (le-ltb (length bytes) n fits))
]

at-gate : (n : ℕ) (bytes : Bytes) (len : ℕ) (t : Bool) → len ≡ 5 + length bytes → not t || nat_le (n + 5) len ≡ not t || is_some (cond {A = Option (Bytes × Bytes)} t (split n bytes) None)
at-gate n bytes len false long = refl
at-gate n bytes len true long = record-fits n bytes len long

module _ (rest front : Bytes) (is : front ≡ take (length front) rest) where
  abbrev behind : Bytes
  behind = drop (length front) rest

  whole : rest ≡ front ++ behind
  whole = sym (take-append-drop (length front) rest) ∙ ap (λ (x : Bytes). x ++ behind) (sym is)

  long : length rest ≡ length front + length behind
  long = omega (arith, ap length whole, length-append front behind)

  -- whether it is a repository
  pub repository_ahead : first_gate ≤ length front → is_repository front ≡ is_repository rest
  repository_ahead enough =
      let all : first_gate ≤ length rest = omega (arith, enough, long) in
      let eight : take 8 front ≡ take 8 rest = sym (ap (λ (x : Bytes). take 8 x) whole ∙ take-append-le 8 front behind (omega (arith, enough))) in
      ap (λ (t : Bool). cond t false (same (take 8 front) signature)) (le-ltb (length front) first_gate enough)
      ∙ ap (λ (x : Bytes). same x signature) eight
      ∙ sym (ap (λ (t : Bool). cond t false (same (take 8 rest) signature)) (le-ltb (length rest) first_gate all))

at-front : (front tail : Bytes) (len : ℕ) → 5 ≤ length front → len ≡ length front + length tail → goes_on_within len front ≡ goes_on (front ++ tail)
at-front [] tail len five long = absurd (omega (arith, five))
at-front (g ∷ []) tail len five long = absurd (omega (arith, five))
at-front (g ∷ a ∷ []) tail len five long = absurd (omega (arith, five))
at-front (g ∷ a ∷ b ∷ []) tail len five long = absurd (omega (arith, five))
at-front (g ∷ a ∷ b ∷ c ∷ []) tail len five long = absurd (omega (arith, five))
at-front (g ∷ a ∷ b ∷ c ∷ d ∷ bytes) tail len five long =
    at-gate (from_be_bytes w32 (a ∷ b ∷ c ∷ d ∷ [])) (bytes ++ tail) len (is_open g) (omega (arith, long, length-append bytes tail))

-- whether a gate stands there, and a whole record behind an open one
pub goes_on_ahead : (rest front : Bytes) (len : ℕ) → front ≡ take (length front) rest → 5 ≤ length front → length rest ≡ len → goes_on_within len front ≡ goes_on rest
goes_on_ahead rest front len is five all =
    let tail = drop (length front) rest in
    let parts : rest ≡ front ++ tail = whole rest front is in
    at-front front tail len five (omega (arith, all, long rest front is)) ∙ ap goes_on (sym parts)

-- ---- the first gate

pub goes_first : (bytes : Bytes) → IsTrue (is_repository bytes) → IsTrue (goes_on (drop first_gate bytes)) → GoesOn bytes
goes_first bytes is next = record {
  repository = is;
  payloads = [];
  units = [];
  rest = drop first_gate bytes;
  records = refl;
  are = tt;
  next = next;
}

or-none : (a : Bool) (o : Option (Bytes × Bytes)) → a || is_some o ≡ false → (a ≡ false) × (o ≡ None)
or-none true o e = cc
or-none false None e = (refl, refl)
or-none false (Some x) e = cc

pub bad_first : (bytes : Bytes) → IsTrue (is_repository bytes) → goes_on (drop first_gate bytes) ≡ false → IsFirstBad bytes first_gate
bad_first bytes is stops =
    let both = or-none (is_closed (drop first_gate bytes)) (record_at (drop first_gate bytes)) stops in
    no_record bytes (drop first_gate bytes) [] first_gate is (none_yet bytes (drop first_gate bytes) refl) both.1 both.0

module _ (bytes front : Bytes) (len : ℕ) (all : length bytes ≡ len) (is : front ≡ take (length front) bytes) (enough : 69 ≤ length front) where
  at-first-gate : drop first_gate front ≡ take (length (drop first_gate front)) (drop first_gate bytes)
  at-first-gate =
      let more = length (drop first_gate front) in
      let size : length front ≡ first_gate + more = omega (arith, enough, length-drop first_gate front) in
      ap (λ (x : Bytes). drop first_gate x) (is ∙ ap (λ (n : ℕ). take n bytes) size) ∙ drop-take first_gate more bytes

  first_goes_on : goes_on_within (len - first_gate) (drop first_gate front) ≡ goes_on (drop first_gate bytes)
  first_goes_on =
      goes_on_ahead (drop first_gate bytes) (drop first_gate front) (len - first_gate) at-first-gate
      (omega (arith, enough, length-drop first_gate front)) (omega (arith, all, length-drop first_gate bytes))

  first_repository : is_repository front ≡ is_repository bytes
  first_repository = repository_ahead bytes front is (omega (arith, enough))

  -- why a file isn't read that its first bytes refuse
  pub first_none : is_repository front ≡ false → is_repository bytes ≡ false
  first_none none = sym first_repository ∙ none

  pub first_bad : is_repository front ≡ true → goes_on_within (len - first_gate) (drop first_gate front) ≡ false → IsFirstBad bytes first_gate
  first_bad it stops = bad_first bytes (sym first_repository ∙ it) (sym first_goes_on ∙ stops)

  -- one that they don't
  pub first_passes : is_repository front ≡ true → goes_on_within (len - first_gate) (drop first_gate front) ≡ true → GoesOn bytes
  first_passes it goes = goes_first bytes (sym first_repository ∙ it) (sym first_goes_on ∙ goes)
