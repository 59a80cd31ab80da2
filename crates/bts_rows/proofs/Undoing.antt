-- A child goes in either order with a change of its parent; and one that was added, and goes again, leaves the process as it was.
use Rattle.std.proofs.Common.{◌≡◌, ◌≤◌, ℕ, zero, suc, ◌+◌, Bool, true, false, cond, not, ◌||◌, nat_cmp, nat_le, length, length-append, [], ◌∷◌, Option, Some, None, Ordering, Less, Equal, Greater, is_eq, option_map, unwrap_or, refl, sym, ap, ◌∙◌, true≢false, arith}
use Rattle.std.specs.List.{filter, list_all}
use Rattle.std.specs.Ordering.{match_ordering}
use Rattle.std.specs.Cmp.Lexicographic.{slice_cmp}
use Rattle.std.proofs.lemmas.Bool.{and_parts, leb-true}
use Rattle.bts_names.specs.Names.{ActivityPath, same, same_exact}
use Rattle.bts_names.specs.Named.{in_order, lookup}
use Rattle.bts_tree.specs.declared.activity.Activity.{Activity}
use Rattle.bts_tree.specs.Activities.{Activities, changed_at, stays_without, without_below}
use Rattle.bts_tree.specs.Paths.{leads_to}
use Rattle.bts_tree.specs.Processes.{Process, activities, added, edited, on_tree, purged, removed}
use Rattle.bts_rows.proofs.Edits.{changed_at-cons}
use Rattle.bts_rows.proofs.Entries.{all_from}
use Rattle.bts_rows.proofs.Order.{leads_own}
use Rattle.bts_rows.proofs.Changes.{only}
use Rattle.bts_rows.proofs.Gone.{child_goes, last_step}
use Rattle.bts_rows.proofs.Paths.{below, not_root, path_case}
use Rattle.bts_rows.proofs.Trees.{IsFamily}

-- a child and all below it go out of the tree
pub removed_is : (p : ActivityPath) (k : ℕ) (s : Process) → removed (below p k) true s ≡ on_tree (without_below (below p k) true) s
removed_is p k s = ap (λ b. cond b (purged s) (on_tree (without_below (below p k) true) s)) (not_root p k)

-- ---- in either order

module _ (keeps : ActivityPath → Bool) (p : ActivityPath) (f : Activity → Activity) (own : keeps p ≡ true) where
  abbrev left : Activities → Activities
  left t = filter (λ x. keeps x.0) t

  left_changed : (t : Activities) → left (changed_at p f t) ≡ changed_at p f (left t)
  left_changed [] = refl
  left_changed (x ∷ t) = ap left (changed_at-cons p f x t) ∙ by (same p x.0) (keeps x.0) refl refl (left_changed t)
    where
      by : (b c : Bool) → same p x.0 ≡ b → keeps x.0 ≡ c → left (changed_at p f t) ≡ changed_at p f (left t)
          → left (cond b ((x.0, f x.1) ∷ t) (x ∷ changed_at p f t)) ≡ changed_at p f (cond c (x ∷ left t) (left t))
      by true true d e i =
          ap (λ b. cond b ((x.0, f x.1) ∷ left t) (left t)) e
          ∙ sym (changed_at-cons p f x (left t) ∙ ap (λ b. cond b ((x.0, f x.1) ∷ left t) (x ∷ changed_at p f (left t))) d)
      by true false d e i = absurd (true≢false (sym own ∙ ap keeps (same_exact p x.0 d) ∙ e))
      by false true d e i =
          ap (λ b. cond b (x ∷ left (changed_at p f t)) (left (changed_at p f t))) e ∙ ap (λ u. x ∷ u) i
          ∙ sym (changed_at-cons p f x (left t) ∙ ap (λ b. cond b ((x.0, f x.1) ∷ left t) (x ∷ changed_at p f (left t))) d)
      by false false d e i = ap (λ b. cond b (x ∷ left (changed_at p f t)) (left (changed_at p f t))) e ∙ i

pub removed_edited : (p : ActivityPath) (k : ℕ) (f : Activity → Activity) (s : Process)
    → removed (below p k) true (edited p f s) ≡ edited p f (removed (below p k) true s)
removed_edited p k f s =
    removed_is p k (edited p f s) ∙ ap (λ t. record s { tree = t }) (by s.tree) ∙ sym (ap (edited p f) (removed_is p k s))
  where
    by : (o : Option Activities)
        → option_map (without_below (below p k) true) (option_map (changed_at p f) o) ≡ option_map (changed_at p f)
        (option_map (without_below (below p k) true) o)
    by None = refl
    by (Some t) = ap Some (left_changed (stays_without (below p k) true) p f (child_goes p k).own t)

-- ---- what was added goes again

-- nothing stands at a path or below it
abbrev pub is_free : ActivityPath → Activities → Bool
is_free c t = list_all (λ x. not (leads_to c x.0)) t

module _ (c : ActivityPath) (new : Activity) where
  abbrev without : Activities → Activities
  without t = without_below c true t

  all_stay : (t : Activities) → is_free c t ≡ true → without t ≡ t
  all_stay [] h = refl
  all_stay (x ∷ t) h = let a = and_parts (not (leads_to c x.0)) (is_free c t) h in by (leads_to c x.0) a.0 (all_stay t a.1)
    where
      by : (b : Bool) → not b ≡ true → without t ≡ t → cond (not b || false) (x ∷ without t) (without t) ≡ x ∷ t
      by true h i = cc
      by false h i = ap (λ u. x ∷ u) i

  new_goes : (t : Activities) → without ((c, new) ∷ t) ≡ without t
  new_goes t = ap (λ b. cond (not b || false) ((c, new) ∷ without t) (without t)) (leads_own c)

  added_goes : (t : Activities) → is_free c t ≡ true → without (in_order c new t) ≡ t
  added_goes [] h = new_goes []
  added_goes (x ∷ t) h =
      let a = and_parts (not (leads_to c x.0)) (is_free c t) h in by (slice_cmp nat_cmp c x.0) refl a.0 (added_goes t a.1)
    where
      stays : (b : Bool) (u : Activities) → not b ≡ true → without u ≡ t → cond (not b || false) (x ∷ without u) (without u) ≡ x ∷ t
      stays true u h i = cc
      stays false u h i = ap (λ v. x ∷ v) i

      by : (o : Ordering) → slice_cmp nat_cmp c x.0 ≡ o → not (leads_to c x.0) ≡ true → without (in_order c new t) ≡ t
          → without (match_ordering o ((c, new) ∷ x ∷ t) ((x.0, new) ∷ t) (x ∷ in_order c new t)) ≡ x ∷ t
      by Less e k i = new_goes (x ∷ t) ∙ all_stay (x ∷ t) h
      by Equal e k i =
          absurd (true≢false (sym k ∙ ap (λ z. not (leads_to c z)) (sym (same_exact c x.0 (ap is_eq e))) ∙ ap not (leads_own c)))
      by Greater e k i = stays (leads_to c x.0) (in_order c new t) k i

pub removed_added : (p : ActivityPath) (k : ℕ) (new : Activity) (s : Process) → is_free (below p k) (activities s) ≡ true
    → removed (below p k) true (added (below p k) new s) ≡ s
removed_added p k new s h = removed_is p k (added (below p k) new s) ∙ ap (λ t. record s { tree = t }) (by s.tree h)
  where
    by : (o : Option Activities) → is_free (below p k) (unwrap_or o []) ≡ true
        → option_map (without_below (below p k) true) (option_map (in_order (below p k) new) o) ≡ o
    by None h = refl
    by (Some t) h = ap Some (added_goes (below p k) new t h)

-- ---- the next child's path is free

module _ (t : Activities) (f : IsFamily t) (p : ActivityPath) (a : Activity) (found : lookup p t ≡ Some a) where
  abbrev next : ActivityPath
  next = below p (a.made + 1)

  none_there : (x : Activity) → lookup next t ≡ Some x → ⊥
  none_there x h =
      let y = f.parents p (a.made + 1) x h in
      let l = leb-true (a.made + 1) y.parent.made (and_parts (nat_le 1 (a.made + 1)) (nat_le (a.made + 1) y.parent.made) y.fits.number).1 in
      let m = ap (λ (z : Activity). z.made) (only t p y.parent a y.found found) in
      omega (arith, l, m)

  at_root : (p : ActivityPath) (k : ℕ) → leads_to (below p k) [] ≡ true → ⊥
  at_root [] k h = cc
  at_root (m ∷ p) k h = cc

  step : (r : ActivityPath) (k : ℕ) (x : Activity) → ((y : Activity) → lookup r t ≡ Some y → leads_to next r ≡ true → ⊥)
      → lookup (below r k) t ≡ Some x → leads_to next (below r k) ≡ true → ⊥
  step r k x i h e = by (leads_to next r) refl
    where
      by : (b : Bool) → leads_to next r ≡ b → ⊥
      by true d = let y = f.parents r k x h in i y.parent y.found d
      by false d = none_there x (ap (λ z. lookup z t) (last_step next r k e d) ∙ h)

  -- what stands below it would have its parents there
  none_below : (fuel : ℕ) (q : ActivityPath) (x : Activity) → length q ≤ fuel → lookup q t ≡ Some x → leads_to next q ≡ true → ⊥
  none_below zero q x =
      path_case (λ z. length z ≤ zero → lookup z t ≡ Some x → leads_to next z ≡ true → ⊥) (λ l h e. at_root p (a.made + 1) e)
      (λ r k l h e. let m = length-append r (k ∷ []) in omega (arith, l, m)) q
  none_below (suc fuel) q x =
      path_case (λ z. length z ≤ suc fuel → lookup z t ≡ Some x → leads_to next z ≡ true → ⊥) (λ l h e. at_root p (a.made + 1) e)
      (λ r k l h e. step r k x (λ y g d. none_below fuel r y (let m = length-append r (k ∷ []) in omega (arith, l, m)) g d) h e) q

  pub next_is_free : is_free next t ≡ true
  next_is_free = all_from (λ x. not (leads_to next x.0)) t f.order (λ q x h. by q x h (leads_to next q) refl)
    where
      by : (q : ActivityPath) (x : Activity) → lookup q t ≡ Some x → (b : Bool) → leads_to next q ≡ b → not b ≡ true
      by q x h true e = absurd (none_below (length q) q x (omega arith) h e)
      by q x h false e = refl
