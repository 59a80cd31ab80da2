-- Things under names stay in the order of their names, and what is then read under a name.
use Rattle.std.proofs.Common.{◌≡◌, Bool, true, false, cond, List, [], ◌∷◌, Some, None, Ordering, Less, Equal, Greater, is_eq, nat_cmp, refl, ap, sym, ◌∙◌}
use Rattle.std.specs.Map.{keys_of}
use Rattle.std.specs.List.{AllByRecursion}
use Rattle.std.specs.List.Sorted.{IsStrictlySortedBy}
use Rattle.std.specs.Ordering.{match_ordering, ordering_reverse}
use Rattle.std.specs.Cmp.Lexicographic.{slice_cmp}
use Rattle.std.proofs.lemmas.Cmp.{nat_list_cmp_total}
use Rattle.std.proofs.lemmas.Map.{lookup-remove_entry}
use Rattle.std.proofs.lemmas.Map.Keys.{IsDistinct-from_sorted, sorted_head, sorted_tail}
use Rattle.bts_event.proofs.Orders.{IsRising}
use Rattle.bts_event.proofs.Same.{same_laws, same_sym}
use Rattle.bts_names.specs.Named.{in_order, lookup, without}
use Rattle.bts_names.specs.Names.{Name, same, same_exact}

rising_cons : (n : Name) (ns : List Name) → AllByRecursion (λ y. slice_cmp nat_cmp n y ≡ Less) ns → IsRising ns → IsRising (n ∷ ns)
unfolding IsStrictlySortedBy
rising_cons n ns a s = (a, s)

above : (name : Name) (k : Name) (ns : List Name) → slice_cmp nat_cmp name k ≡ Less → AllByRecursion (λ y. slice_cmp nat_cmp k y ≡ Less) ns → AllByRecursion (λ y. slice_cmp nat_cmp name y ≡ Less) ns
above name k [] h a = tt
above name k (n ∷ ns) h a = (nat_list_cmp_total.trans name k n h a.0, above name k ns h a.1)

flipped : (a b : Name) → slice_cmp nat_cmp a b ≡ Greater → slice_cmp nat_cmp b a ≡ Less
flipped a b h = nat_list_cmp_total.antisymm b a ∙ ap ordering_reverse h

rising_one : (n : Name) → IsRising (n ∷ [])
unfolding IsStrictlySortedBy
rising_one n = (tt, tt)

module _ {X : Type 0} where
  -- ---- without a name

  all_left : (P : Name → Type 0) (t : Bool) (e : Name × X) (es fs : List (Name × X)) → AllByRecursion P (e.0 ∷ keys_of es) → AllByRecursion P (keys_of fs) → AllByRecursion P (keys_of (cond t es (e ∷ fs)))
  all_left P true e es fs a b = a.1
  all_left P false e es fs a b = (a.0, b)

  all_without : (P : Name → Type 0) (es : List (Name × X)) (name : Name) → AllByRecursion P (keys_of es) → AllByRecursion P (keys_of (without name es))
  all_without P [] name a = a
  all_without P (e ∷ es) name a = all_left P (same name e.0) e es (without name es) a (all_without P es name a.1)

  rising_left : (t : Bool) (e : Name × X) (es fs : List (Name × X)) → IsRising (keys_of es) → AllByRecursion (λ y. slice_cmp nat_cmp e.0 y ≡ Less) (keys_of fs) → IsRising (keys_of fs) → IsRising (keys_of (cond t es (e ∷ fs)))
  rising_left true e es fs s a b = s
  rising_left false e es fs s a b = rising_cons e.0 (keys_of fs) a b

  pub rising_without : (es : List (Name × X)) (name : Name) → IsRising (keys_of es) → IsRising (keys_of (without name es))
  rising_without [] name s = s
  rising_without (e ∷ es) name s =
      let t = sorted_tail (slice_cmp nat_cmp) e.0 (keys_of es) s in
      rising_left (same name e.0) e es (without name es) t
      (all_without (λ y. slice_cmp nat_cmp e.0 y ≡ Less) es name (sorted_head (slice_cmp nat_cmp) e.0 (keys_of es) s)) (rising_without es name t)

  pub lookup-without : (es : List (Name × X)) (name q : Name) → IsRising (keys_of es) → lookup q (without name es) ≡ cond (same name q) None (lookup q es)
  lookup-without es name q s =
      lookup-remove_entry same_laws (same name) (λ x y h. ap (λ n. same n y) (same_exact name x h)) q es (IsDistinct-from_sorted (slice_cmp nat_cmp) (keys_of es) s)

  -- ---- with a new name

  all_more : (P : Name → Type 0) (r : Ordering) (name : Name) (v : X) (e : Name × X) (es fs : List (Name × X)) → P name → AllByRecursion P (e.0 ∷ keys_of es) → AllByRecursion P (keys_of fs)
      → AllByRecursion P (keys_of (match_ordering r ((name, v) ∷ e ∷ es) ((e.0, v) ∷ es) (e ∷ fs)))
  all_more P Less name v e es fs p a b = (p, a)
  all_more P Equal name v e es fs p a b = a
  all_more P Greater name v e es fs p a b = (a.0, b)

  all_in_order : (P : Name → Type 0) (es : List (Name × X)) (name : Name) (v : X) → P name → AllByRecursion P (keys_of es) → AllByRecursion P (keys_of (in_order name v es))
  all_in_order P [] name v p a = (p, tt)
  all_in_order P (e ∷ es) name v p a = all_more P (slice_cmp nat_cmp name e.0) name v e es (in_order name v es) p a (all_in_order P es name v p a.1)

  rising_more : (r : Ordering) (name : Name) (v : X) (e : Name × X) (es fs : List (Name × X)) → slice_cmp nat_cmp name e.0 ≡ r → IsRising (e.0 ∷ keys_of es) → IsRising (keys_of fs)
      → (slice_cmp nat_cmp e.0 name ≡ Less → AllByRecursion (λ y. slice_cmp nat_cmp e.0 y ≡ Less) (keys_of fs))
      → IsRising (keys_of (match_ordering r ((name, v) ∷ e ∷ es) ((e.0, v) ∷ es) (e ∷ fs)))
  rising_more Less name v e es fs h s t f =
      rising_cons name (e.0 ∷ keys_of es) (h, above name e.0 (keys_of es) h (sorted_head (slice_cmp nat_cmp) e.0 (keys_of es) s)) s
  rising_more Equal name v e es fs h s t f = s
  rising_more Greater name v e es fs h s t f = rising_cons e.0 (keys_of fs) (f (flipped name e.0 h)) t

  pub rising_in_order : (es : List (Name × X)) (name : Name) (v : X) → IsRising (keys_of es) → IsRising (keys_of (in_order name v es))
  rising_in_order [] name v s = rising_one name
  rising_in_order (e ∷ es) name v s =
      rising_more (slice_cmp nat_cmp name e.0) name v e es (in_order name v es) refl s (rising_in_order es name v (sorted_tail (slice_cmp nat_cmp) e.0 (keys_of es) s))
      (λ h. all_in_order (λ y. slice_cmp nat_cmp e.0 y ≡ Less) es name v h (sorted_head (slice_cmp nat_cmp) e.0 (keys_of es) s))

  found_more : (r : Ordering) (t : Bool) (name q : Name) (v : X) (e : Name × X) (es fs : List (Name × X)) → slice_cmp nat_cmp name e.0 ≡ r → same name q ≡ t
      → lookup q fs ≡ cond t (Some v) (lookup q es)
      → lookup q (match_ordering r ((name, v) ∷ e ∷ es) ((e.0, v) ∷ es) (e ∷ fs)) ≡ cond t (Some v) (lookup q (e ∷ es))
  found_more Less t name q v e es fs h g ih = ap (λ b. cond b (Some v) (lookup q (e ∷ es))) (same_sym q name ∙ g)
  found_more Equal true name q v e es fs h g ih =
      let k : same name e.0 ≡ true = ap is_eq h in
      ap (λ b. cond b (Some v) (lookup q es)) (ap (λ n. same n e.0) (sym (same_exact name q g)) ∙ k)
  found_more Equal false name q v e es fs h g ih =
      let k : same name e.0 ≡ true = ap is_eq h in
      let d : same q e.0 ≡ false = ap (same q) (sym (same_exact name e.0 k)) ∙ same_sym q name ∙ g in
      ap (λ b. cond b (Some v) (lookup q es)) d ∙ sym (ap (λ b. cond b (Some e.1) (lookup q es)) d)
  found_more Greater true name q v e es fs h g ih =
      let k : same name e.0 ≡ false = ap is_eq h in
      ap (λ b. cond b (Some e.1) (lookup q fs)) (ap (λ n. same n e.0) (sym (same_exact name q g)) ∙ k) ∙ ih
  found_more Greater false name q v e es fs h g ih = ap (cond (same q e.0) (Some e.1)) ih

  pub lookup-in_order : (es : List (Name × X)) (name : Name) (v : X) (q : Name) → lookup q (in_order name v es) ≡ cond (same name q) (Some v) (lookup q es)
  lookup-in_order [] name v q = ap (λ b. cond b (Some v) None) (same_sym q name)
  lookup-in_order (e ∷ es) name v q =
      found_more (slice_cmp nat_cmp name e.0) (same name q) name q v e es (in_order name v es) refl refl (lookup-in_order es name v q)
