-- What stands behind a mark: going back to it gives what was marked.
use Rattle.std.proofs.Common.{◌≡◌, ◌<◌, ℕ, zero, suc, List, [], ◌∷◌, ◌++◌, length, take, refl, sym, ap, subst, ◌∙◌, append_assoc, take_at, le_of_suc-le-suc, not-suc-le-zero}
use Rattle.std.specs.Prelude.{Option, Some, None}
use Rattle.std.specs.List.{slice_get}
use Rattle.bts_tree.specs.Scopes.{HeldProcess, LeavesMarks, ScopeMark, marked, gone_back, kept, Step, AreSteps, last_held}

module _ {X : Type 0} where
  at_place : (xs : List X) (x : X) (later : List X) → slice_get (xs ++ x ∷ later) (length xs) ≡ Some x
  at_place [] x later = refl
  at_place (y ∷ xs) x later = at_place xs x later

  -- what is taken of a list up to a place behind x still has x at its place
  cut : (xs : List X) (x : X) (later : List X) (k : ℕ) → length xs < k → (rest : List X) × (take k (xs ++ x ∷ later) ≡ xs ++ x ∷ rest)
  cut [] x later zero h = absurd (not-suc-le-zero h)
  cut [] x later (suc k) h = (take k later, refl)
  cut (y ∷ xs) x later zero h = absurd (not-suc-le-zero h)
  cut (y ∷ xs) x later (suc k) h =
      let r = cut xs x later k (le_of_suc-le-suc h) in
      (r.0, ap (λ us. y ∷ us) r.1)

-- the mark of what stood stands at its place, those in front of it are as they were, and others may be behind it
record StandsBehind (base h : HeldProcess) : Type 0 where
  top : h.top ≡ base.top
  later : List ScopeMark
  marks : h.marks ≡ base.marks ++ (base.process, base.saved) ∷ later

just_marked : (h : HeldProcess) → StandsBehind h (marked h)
just_marked h = record { top = refl; later = []; marks = refl }

back_from : (base h : HeldProcess) → StandsBehind base h → gone_back (length base.marks) h ≡ base
back_from base h s =
    let got = ap (λ ms. slice_get ms (length base.marks)) s.marks ∙ at_place base.marks (base.process, base.saved) s.later in
    let front = ap (take (length base.marks)) s.marks ∙ take_at base.marks ((base.process, base.saved) ∷ s.later) (length base.marks) refl in
    ap (λ o. elim o [ None ↦ h | Some m ↦ record { process = m.0; top = h.top; marks = take (length base.marks) h.marks; saved = m.1 } ]) got
    ∙ (λ i. record { process = base.process; top = s.top i; marks = front i; saved = base.saved })

module _ (base h : HeldProcess) (k : ℕ) (n : length base.marks < k) (s : StandsBehind base h) where
  front_stays : (rest : List ScopeMark) × (take k h.marks ≡ base.marks ++ (base.process, base.saved) ∷ rest)
  front_stays =
      let r = cut base.marks (base.process, base.saved) s.later k n in
      (r.0, ap (take k) s.marks ∙ r.1)

  behind_kept : StandsBehind base (kept k h)
  behind_kept = record { top = s.top; later = front_stays.0; marks = front_stays.1 }

  behind_back : (o : Option ScopeMark)
      → StandsBehind base (elim o [ None ↦ h | Some m ↦ record { process = m.0; top = h.top; marks = take k h.marks; saved = m.1 } ])
  behind_back None = s
  behind_back (Some m) = record { top = s.top; later = front_stays.0; marks = front_stays.1 }

behind_mark : (base h : HeldProcess) → StandsBehind base h → StandsBehind base (marked h)
behind_mark base h s = record {
  top = s.top;
  later = s.later ++ (h.process, h.saved) ∷ [];
  marks = ap (λ ms. ms ++ (h.process, h.saved) ∷ []) s.marks ∙ append_assoc base.marks ((base.process, base.saved) ∷ s.later) ((h.process, h.saved) ∷ []);
}

behind_step : (base h next : HeldProcess) → Step (length base.marks) h next → StandsBehind base h → StandsBehind base next
behind_step base h next (Step.leaves l) s = record { top = l.top ∙ s.top; later = s.later; marks = l.marks ∙ s.marks }
behind_step base h next (Step.marks e) s = subst (StandsBehind base) (sym e) (behind_mark base h s)
behind_step base h next (Step.goes_back k n e) s = subst (StandsBehind base) (sym e) (behind_back base h k n s (slice_get h.marks k))
behind_step base h next (Step.keeps k n e) s = subst (StandsBehind base) (sym e) (behind_kept base h k n s)

behind_all : (base h : HeldProcess) (calls : List HeldProcess) → AreSteps (length base.marks) h calls → StandsBehind base h → StandsBehind base (last_held h calls)
behind_all base h [] steps s = s
behind_all base h (next ∷ rest) steps s = behind_all base next rest steps.1 (behind_step base h next steps.0 s)

pub back_to_mark : (h : HeldProcess) (calls : List HeldProcess) → AreSteps (length h.marks) (marked h) calls
    → gone_back (length h.marks) (last_held (marked h) calls) ≡ h
back_to_mark h calls steps = back_from h (last_held (marked h) calls) (behind_all h (marked h) calls steps (just_marked h))

-- the same where one call that leaves the marks stands behind the mark
pub back_after : (h at_mark after : HeldProcess) (k : ℕ) → at_mark ≡ marked h → LeavesMarks at_mark after → k ≡ length h.marks → gone_back k after ≡ h
back_after h at_mark after k e leaves l =
    let step : Step (length h.marks) (marked h) after = Step.leaves (subst (λ (x : HeldProcess). LeavesMarks x after) e leaves) in
    ap (λ j. gone_back j after) l ∙ back_to_mark h (after ∷ []) (step, tt)
