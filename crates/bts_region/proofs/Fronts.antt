-- Each history in order is a front of the serial one, and the serial history is one.
use Rattle.std.proofs.Common.{◌≡◌, ◌≤◌, ℕ, ◌+◌, Bool, true, false, nat_eq, List, [], ◌∷◌, ◌++◌, unwrap_or, refl, sym, ap, ◌∙◌, subst, arith, max}
use Rattle.std.proofs.Math.Nat.{add-zero, zero-add}
use Rattle.std.proofs.lemmas.Bool.{and_parts}
use Rattle.bts_command.specs.declared.ended.Ended.{Ended}
use Rattle.bts_region.specs.Enabled.{least}
use Rattle.bts_region.specs.Histories.{IsClocked, IsLegal}
use Rattle.bts_region.specs.Items.{clock_in}
use Rattle.bts_interp.specs.Items.{item_done}
use Rattle.bts_command.specs.Kinds.{is_activation}
use Rattle.bts_region.specs.Positions.{Position, behind, behind_all}
use Rattle.bts_region.specs.Serial.{IsInOrder, IsLeast, IsSerial, activations_in, is_over}
use Rattle.bts_region.proofs.Counts.{counted_first, equal_numbers, one_if}
use Rattle.bts_region.proofs.OneUnit.{one_unit}
use Rattle.bts_session.specs.declared.session.Session.{Session}

-- ---- the limit

first_activation : (x : Ended) (h : List Ended) → activations_in (x ∷ h) ≡ one_if (is_activation x.unit) + activations_in h
first_activation x h = counted_first (λ e. is_activation e.unit) x h

past_the_limit : (limit made others : ℕ) (is_one : Bool) → is_one ≡ true → nat_eq made limit ≡ true → made + (one_if is_one + others) ≤ limit → ⊥
past_the_limit limit made others true a q l = let e : made ≡ limit = equal_numbers made limit q in omega (arith, e, l)
past_the_limit limit made others false a q l = cc

module _ (session : Session) (limit : ℕ) where
  -- a history in order from a position behind so many activations
  record Goes (at : Position) (made : ℕ) (h : List Ended) : Type 0 where
    legal : IsLegal session at h
    clocked : IsClocked session at h
    in_turn : IsLeast session at h
    limited : made + activations_in h ≤ limit

  -- where a history can't go on, none does
  stops : (at : Position) (made : ℕ) (x : Ended) (h : List Ended) → Goes at made (x ∷ h) → is_over limit made (least session at) ≡ true → ⊥
  stops at made x h g over =
      let t : (is_activation x.unit ≡ true) × (nat_eq made limit ≡ true) = and_parts _ _ (subst (λ o. is_over limit made o ≡ true) g.in_turn.0 over) in
      past_the_limit limit made (activations_in h) (is_activation x.unit) t.0 t.1 (subst (λ n. made + n ≤ limit) (first_activation x h) g.limited)

  one_first : (at : Position) (made : ℕ) (x y : Ended) (h k : List Ended) → Goes at made (x ∷ h) → Goes at made (y ∷ k) → x ≡ y
  one_first at made x y h k a b =
      let u : x.unit ≡ y.unit = ap (λ o. unwrap_or o x.unit) (sym a.in_turn.0 ∙ b.in_turn.0) in
      one_unit session at x y u (a.clocked.0 ∙ ap (λ z. max at.moment (clock_in (item_done session z))) u ∙ sym b.clocked.0) a.legal.0 b.legal.0

  others : (at : Position) (made : ℕ) (x : Ended) (h : List Ended) → Goes at made (x ∷ h) → Goes (behind at x) (made + one_if (is_activation x.unit)) h
  others at made x h g =
      let n : activations_in (x ∷ h) ≡ one_if (is_activation x.unit) + activations_in h = first_activation x h in
      record { legal = g.legal.1; clocked = g.clocked.1; in_turn = g.in_turn.1; limited = omega (arith, n, g.limited) }

  -- a history that can't go on
  abbrev IsOver : Position → ℕ → List Ended → Type 0
  IsOver at made h = is_over limit (made + activations_in h) (least session (behind_all at h)) ≡ true

  over_behind : (at : Position) (made : ℕ) (x : Ended) (h : List Ended) → IsOver at made (x ∷ h) → IsOver (behind at x) (made + one_if (is_activation x.unit)) h
  over_behind at made x h o =
      let n : activations_in (x ∷ h) ≡ one_if (is_activation x.unit) + activations_in h = first_activation x h in
      let same : made + activations_in (x ∷ h) ≡ made + one_if (is_activation x.unit) + activations_in h = omega (arith, n) in
      subst (λ z. is_over limit z (least session (behind_all (behind at x) h)) ≡ true) same o

  over_here : (at : Position) (made : ℕ) → IsOver at made [] → is_over limit made (least session at) ≡ true
  over_here at made o = subst (λ z. is_over limit z (least session at) ≡ true) (add-zero made) o

  -- what the second one, which can't go on, has behind the first one
  front : (h k : List Ended) (at : Position) (made : ℕ) → Goes at made h → Goes at made k → IsOver at made k → (rest : List Ended) × (k ≡ h ++ rest)
  front [] k at made a b o = (k, refl)
  front (x ∷ h) [] at made a b o = absurd (stops at made x h a (over_here at made o))
  front (x ∷ h) (y ∷ k) at made a b o =
      let e : y ≡ x = sym (one_first at made x y h k a b) in
      let b' : Goes at made (x ∷ k) = subst (λ z. Goes at made (z ∷ k)) e b in
      let o' : IsOver at made (x ∷ k) = subst (λ z. IsOver at made (z ∷ k)) e o in
      let t : (rest : List Ended) × (k ≡ h ++ rest) = front h k (behind at x) (made + one_if (is_activation x.unit)) (others at made x h a) (others at made x k b') (over_behind at made x k o') in
      (t.0, ap (λ z. z ∷ k) e ∙ ap (λ z. x ∷ z) t.1)

  same_all : (h k : List Ended) (at : Position) (made : ℕ) → Goes at made h → Goes at made k → IsOver at made h → IsOver at made k → h ≡ k
  same_all [] [] at made a b o q = refl
  same_all [] (y ∷ k) at made a b o q = absurd (stops at made y k b (over_here at made o))
  same_all (x ∷ h) [] at made a b o q = absurd (stops at made x h a (over_here at made q))
  same_all (x ∷ h) (y ∷ k) at made a b o q =
      let e : y ≡ x = sym (one_first at made x y h k a b) in
      let b' : Goes at made (x ∷ k) = subst (λ z. Goes at made (z ∷ k)) e b in
      let q' : IsOver at made (x ∷ k) = subst (λ z. IsOver at made (z ∷ k)) e q in
      let n : ℕ = made + one_if (is_activation x.unit) in
      ap (λ z. x ∷ z) (same_all h k (behind at x) n (others at made x h a) (others at made x k b') (over_behind at made x h o) (over_behind at made x k q')) ∙ ap (λ z. z ∷ k) (sym e)

  goes_from : (at : Position) (h : List Ended) → IsInOrder session at limit h → Goes at 0 h
  goes_from at h o = record { legal = o.legal; clocked = o.clocked; in_turn = o.least; limited = subst (λ n. n ≤ limit) (sym (zero-add (activations_in h))) o.limited }

  over_from : (at : Position) (h : List Ended) → is_over limit (activations_in h) (least session (behind_all at h)) ≡ true → IsOver at 0 h
  over_from at h o = subst (λ n. is_over limit n (least session (behind_all at h)) ≡ true) (sym (zero-add (activations_in h))) o

  pub front_of_serial : (at : Position) (h k : List Ended) → IsInOrder session at limit h → IsSerial session at limit k → (rest : List Ended) × (k ≡ h ++ rest)
  front_of_serial at h k a b = front h k at 0 (goes_from at h a) (goes_from at k b.in_order) (over_from at k b.over)

  pub one_serial : (at : Position) (h k : List Ended) → IsSerial session at limit h → IsSerial session at limit k → h ≡ k
  one_serial at h k a b = same_all h k at 0 (goes_from at h a.in_order) (goes_from at k b.in_order) (over_from at h a.over) (over_from at k b.over)
