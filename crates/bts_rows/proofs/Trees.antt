-- A sound tree, read at its paths: what each activity is to its parent, and to its children.
use Rattle.std.proofs.Common.{◌≡◌, ℕ, ◌≤◌, Bool, true, false, cond, not, ◌&&◌, ◌||◌, nat_le, length, [], ◌∷◌, map, Option, Some, None, is_some, is_none, option_map, unwrap_or, refl, sym, ap, subst, ◌∙◌, true≢false, arith}
use Rattle.std.specs.List.{filter, list_any, AllByRecursion, IsDistinct}
use Rattle.std.specs.Map.{keys_of}
use Rattle.std.proofs.lemmas.Bool.{and_parts, eqb-true, eq-eqb}
use Rattle.std.proofs.lemmas.Map.Keys.{IsDistinct-cons, IsDistinct-head, IsDistinct-tail, sorted_head, sorted_tail}
use Rattle.bts_names.specs.Names.{Name, ActivityPath, same, same_exact, root_name}
use Rattle.bts_names.specs.Named.{lookup, is_there}
use Rattle.bts_event.specs.declared.event.Event.{Event}
use Rattle.bts_event.specs.declared.event.Trigger.TheVariants.{Completion}
use Rattle.bts_event.specs.Events.{is_completion, is_completion_of, is_fired_atomic}
use Rattle.bts_event.proofs.Orders.{IsRising}
use Rattle.bts_event.proofs.Same.{same_refl, same_sym}
use Rattle.bts_tree.proofs.Paths.{parent_of_child}
use Rattle.bts_tree.specs.declared.activity.Activity.{Activity}
use Rattle.bts_tree.specs.Activities.{Activities, path_limit}
use Rattle.bts_tree.specs.Paths.{is_child_of, number_of, parent_of}
use Rattle.bts_tree.specs.Soundness.{FitsChildren, FitsParent, IsSoundActivity, IsSoundTree, children_of, is_event_of_child, is_fired, is_root, needs_event}
use Rattle.bts_rows.proofs.Edits.{missing}
use Rattle.bts_rows.proofs.Entries.{all_at, all_from, any_at, any_from, apart_first, behind_first, both_so, here, right_so}
use Rattle.bts_rows.proofs.Completions.{childs_event, completes, is_completion-from, of_child}
use Rattle.bts_rows.proofs.Order.{IsInOrder, path_cmp}
use Rattle.bts_rows.proofs.OrderKept.{order_passing}
use Rattle.bts_rows.proofs.TimerEvents.{if_so, not_so, or_true, so_not, trigger_at}
use Rattle.bts_rows.proofs.Written.{all_found}
use Rattle.bts_rows.proofs.Paths.{below, child_below, child_path, not_root, number_below, one_number, path_case}

-- ---- what is read

-- the event of a child waits unfired in its parent's pool
pub record Waits (a : Activity) (k : ℕ) (b : Activity) : Type 0 where
  pub name : Name
  pub named : b.completion ≡ Some name
  pub fires : trigger_at (lookup name a.pool.events) ≡ Some (Completion k)
  pub unfired : is_fired_atomic (lookup name a.pool.events) ≡ false

-- an activity is a child of another, of this number
pub record IsChild (a : Activity) (k : ℕ) (b : Activity) : Type 0 where
  pub number : (nat_le 1 k && nat_le k a.made) ≡ true
  pub named : same b.name root_name ≡ false
  pub completes : is_none b.completion ≡ false
  pub waits : needs_event b ≡ true → Waits a k b

pub record IsFirst (a : Activity) : Type 0 where
  pub named : same a.name root_name ≡ true
  pub completes : is_none a.completion ≡ true
  pub told : a.told ≡ true

pub record HasParent (t : Activities) (q : ActivityPath) (k : ℕ) (b : Activity) : Type 0 where
  pub parent : Activity
  pub found : lookup q t ≡ Some parent
  pub fits : IsChild parent k b
  pub depth : length (below q k) ≤ path_limit

pub record HasChild (t : Activities) (q : ActivityPath) (n : Name) (k : ℕ) : Type 0 where
  pub child : Activity
  pub found : lookup (below q k) t ≡ Some child
  pub named : child.completion ≡ Some n

pub record IsFamily (t : Activities) : Type 0 where
  pub order : IsInOrder t
  pub root : is_there [] t ≡ true
  pub sound : (q : ActivityPath) (a : Activity) → lookup q t ≡ Some a → IsSoundActivity a
  pub first : (a : Activity) → lookup [] t ≡ Some a → IsFirst a
  pub parents : (q : ActivityPath) (k : ℕ) (b : Activity) → lookup (below q k) t ≡ Some b → HasParent t q k b
  pub names : (q : ActivityPath) (j k : ℕ) (b c : Activity) → lookup (below q j) t ≡ Some b → lookup (below q k) t ≡ Some c
      → same b.name c.name ≡ true → j ≡ k
  pub events : (q : ActivityPath) (a : Activity) (n : Name) (k : ℕ) → lookup q t ≡ Some a
      → trigger_at (lookup n a.pool.events) ≡ Some (Completion k) → HasChild t q n k

-- ---- tests

right_of : (r x : Bool) → r ≡ false → (r || x) ≡ true → x ≡ true
right_of true x e h = cc
right_of false x e h = h

needed : (r n x : Bool) → r ≡ false → n ≡ true → (r || not n || x) ≡ true → x ≡ true
needed true n x e f h = cc
needed false true x e f h = h
needed false false x e f h = cc

need_so : (r n x : Bool) → (n ≡ true → x ≡ true) → (r || not n || x) ≡ true
need_so true n x f = refl
need_so false true x f = f refl
need_so false false x f = refl

told_so : (r x : Bool) → (r ≡ true → x ≡ true) → (not r || x) ≡ true
told_so true x f = f refl
told_so false x f = refl

record Passing (test : Activity → Bool) (o : Option Activity) : Type 0 where
  value : Activity
  found : o ≡ Some value
  passed : test value ≡ true

passing : (test : Activity → Bool) (o : Option Activity) → unwrap_or (option_map test o) false ≡ true → Passing test o
passing test None h = cc
passing test (Some a) h = record { value = a; found = refl; passed = h }

passes_at : (test : Activity → Bool) (o : Option Activity) (a : Activity) → o ≡ Some a → test a ≡ true
    → unwrap_or (option_map test o) false ≡ true
passes_at test o a e h = ap (λ z. unwrap_or (option_map test z) false) e ∙ h

named_case : (o : Option Name) (n : Name) → unwrap_or (option_map (same n) o) false ≡ true → o ≡ Some n
named_case None n h = cc
named_case (Some m) n h = ap Some (sym (same_exact n m h))

named_so : (o : Option Name) (n : Name) → o ≡ Some n → unwrap_or (option_map (same n) o) false ≡ true
named_so o n e = ap (λ z. unwrap_or (option_map (same n) z) false) e ∙ same_refl n

-- ---- the event of a child

abbrev waits_test : ℕ → Activity → Name × Event → Bool
waits_test k b e = (is_completion_of k e.1 && unwrap_or (option_map (same e.0) b.completion) false) && not (is_fired e.1)

waits_from : (a : Activity) (k : ℕ) (b : Activity) → IsRising (keys_of a.pool.events) → list_any (waits_test k b) a.pool.events ≡ true
    → Waits a k b
waits_from a k b rise h =
    let x = any_at (waits_test k b) a.pool.events rise h in
    let parts = and_parts _ _ x.passed in
    let its = and_parts _ _ parts.0 in
    record {
      name = x.name;
      named = named_case b.completion x.name its.1;
      fires = ap trigger_at x.found ∙ completes x.value k its.0;
      unfired = ap is_fired_atomic x.found ∙ not_so _ parts.1;
    }

waits_so : (a : Activity) (k : ℕ) (b : Activity) → Waits a k b → list_any (waits_test k b) a.pool.events ≡ true
waits_so a k b w =
    let y = childs_event a.pool.events w.name k w.fires in
    any_from (waits_test k b) a.pool.events w.name y.value y.found
    (both_so _ _ (both_so _ _ (y.is_its k ∙ eq-eqb k k refl) (named_so b.completion w.name w.named))
    (so_not _ (sym (ap is_fired_atomic y.found) ∙ w.unfired)))

-- ---- children

module _ (test : ActivityPath → Bool) where
  pub found_passing : (q : ActivityPath) (t : Activities) → test q ≡ true → lookup q (filter (λ x. test x.0) t) ≡ lookup q t
  found_passing q [] h = refl
  found_passing q (x ∷ t) h = by (same q x.0) (test x.0) refl refl (found_passing q t h)
    where
      by : (b c : Bool) → same q x.0 ≡ b → test x.0 ≡ c → lookup q (filter (λ y. test y.0) t) ≡ lookup q t
          → lookup q (cond c (x ∷ filter (λ y. test y.0) t) (filter (λ y. test y.0) t)) ≡ cond b (Some x.1) (lookup q t)
      by true true e d i = ap (λ b. cond b (Some x.1) (lookup q (filter (λ y. test y.0) t))) e
      by false true e d i = ap (λ b. cond b (Some x.1) (lookup q (filter (λ y. test y.0) t))) e ∙ i
      by true false e d i = absurd (true≢false (sym h ∙ ap test (same_exact q x.0 e) ∙ d))
      by false false e d i = i

  pub passes_found : (q : ActivityPath) (t : Activities) (a : Activity) → lookup q (filter (λ x. test x.0) t) ≡ Some a → test q ≡ true
  passes_found q t a h = by (test q) refl
    where
      by : (b : Bool) → test q ≡ b → b ≡ true
      by true e = refl
      by false e = let z : None ≡ Some a = sym (missing test q t e) ∙ h in cc

-- names of activities that stand at different paths
name_found : (P : Name → Type 0) (es : Activities) (y : ActivityPath) (c : Activity) → AllByRecursion P (map (λ x. x.1.name) es)
    → lookup y es ≡ Some c → P c.name
name_found P [] y c h e = cc
name_found P (x ∷ es) y c h e = by (same y x.0) e (name_found P es y c h.1)
  where
    by : (b : Bool) → cond b (Some x.1) (lookup y es) ≡ Some c → (lookup y es ≡ Some c → P c.name) → P c.name
    by true k i = let w : x.1 ≡ c = cc in subst (λ z. P z.name) w h.0
    by false k i = i k

distinct_at : (es : Activities) (x y : ActivityPath) (b c : Activity) → IsDistinct same (map (λ z. z.1.name) es) → lookup x es ≡ Some b
    → lookup y es ≡ Some c → same b.name c.name ≡ true → x ≡ y
distinct_at [] x y b c d h k s = cc
distinct_at (e ∷ es) x y b c d h k s =
    by (same x e.0) (same y e.0) refl refl h k (distinct_at es x y b c (IsDistinct-tail same e.1.name (map (λ z. z.1.name) es) d))
  where
    head : AllByRecursion (λ n. same e.1.name n ≡ false) (map (λ z. z.1.name) es)
    head = IsDistinct-head same e.1.name (map (λ z. z.1.name) es) d

    by : (f g : Bool) → same x e.0 ≡ f → same y e.0 ≡ g → cond f (Some e.1) (lookup x es) ≡ Some b
        → cond g (Some e.1) (lookup y es) ≡ Some c → (lookup x es ≡ Some b → lookup y es ≡ Some c → same b.name c.name ≡ true → x ≡ y)
        → x ≡ y
    by true true p q h k i = same_exact x e.0 p ∙ sym (same_exact y e.0 q)
    by true false p q h k i =
        let w : e.1 ≡ b = cc in
        absurd
        (true≢false (sym s ∙ ap (λ (z : Activity). same z.name c.name) (sym w) ∙ name_found (λ n. same e.1.name n ≡ false) es y c head k))
    by false true p q h k i =
        let w : e.1 ≡ c = cc in
        absurd
        (true≢false
        (sym s ∙ same_sym b.name c.name ∙ ap (λ (z : Activity). same z.name b.name) (sym w)
        ∙ name_found (λ n. same e.1.name n ≡ false) es x b head h))
    by false false p q h k i = i h k s

pub each_found : (P : ActivityPath × Activity → Type 0) (es : Activities) → IsInOrder es
    → ((y : ActivityPath) (c : Activity) → lookup y es ≡ Some c → P (y, c)) → AllByRecursion P es
each_found P [] s f = tt
each_found P (e ∷ es) s f =
    (f e.0 e.1 (here e es), each_found P es (sorted_tail path_cmp e.0 (keys_of es) s) (λ y c k. f y c (behind_first e es y c s k)))

names_of : (P : Name → Type 0) (es : Activities) → AllByRecursion (λ x. P x.1.name) es → AllByRecursion P (map (λ z. z.1.name) es)
names_of P [] h = tt
names_of P (e ∷ es) h = (h.0, names_of P es h.1)

distinct_from : (es : Activities) → IsInOrder es
    → ((x y : ActivityPath) (b c : Activity) → lookup x es ≡ Some b → lookup y es ≡ Some c → same b.name c.name ≡ true → x ≡ y)
    → IsDistinct same (map (λ z. z.1.name) es)
unfolding IsDistinct
distinct_from [] s f = tt
distinct_from (e ∷ es) s f =
    let tail = sorted_tail path_cmp e.0 (keys_of es) s in
    IsDistinct-cons same e.1.name (map (λ z. z.1.name) es)
    (names_of (λ n. same e.1.name n ≡ false) es
    (each_found (λ x. same e.1.name x.1.name ≡ false) es tail (λ y c k. by y c (same e.1.name c.name) refl k)))
    (distinct_from es tail (λ x y b c h k d. f x y b c (behind_first e es x b s h) (behind_first e es y c s k) d))
  where
    by : (y : ActivityPath) (c : Activity) (b : Bool) → same e.1.name c.name ≡ b → lookup y es ≡ Some c → b ≡ false
    by y c true d k =
        let q : e.0 ≡ y = f e.0 y e.1 c (here e es) (behind_first e es y c s k) d in
        absurd
        (true≢false (sym (same_refl e.0) ∙ ap (λ z. same z e.0) q ∙ apart_first e es y c (sorted_head path_cmp e.0 (keys_of es) s) k))
    by y c false d k = refl

-- ---- from a sound tree

module _ (t : Activities) (s : IsSoundTree t) where
  own : (q : ActivityPath) (a : Activity) → lookup q t ≡ Some a → IsSoundActivity a
  own q a h = all_found (λ x. IsSoundActivity x.1) q a t s.activities h

  first_from : (a : Activity) → lookup [] t ≡ Some a → IsFirst a
  first_from a h = let f = all_found (FitsParent t) [] a t s.parents h in record { named = f.name; completes = f.completion; told = f.told }

  parent_from : (q : ActivityPath) (k : ℕ) (b : Activity) → lookup (below q k) t ≡ Some b → HasParent t q k b
  parent_from q k b h =
      let f = all_found (FitsParent t) (below q k) b t s.parents h in
      let p = passing (λ a. nat_le 1 (number_of (below q k)) && nat_le (number_of (below q k)) a.made) (lookup (parent_of (below q k)) t)
      (right_of (is_root (below q k)) _ (not_root q k) f.number) in
      record {
        parent = p.value;
        found = ap (λ y. lookup y t) (sym (parent_of_child q k)) ∙ p.found;
        fits = record {
          number = subst (λ j. (nat_le 1 j && nat_le j p.value.made) ≡ true) (number_below q k) p.passed;
          named = f.name ∙ not_root q k;
          completes = f.completion ∙ not_root q k;
          waits = λ n. waits_from p.value k b (own (parent_of (below q k)) p.value p.found).pool.events.ordered
              (subst (λ j. list_any (waits_test j b) p.value.pool.events ≡ true) (number_below q k)
              (sym (ap (λ o. unwrap_or (option_map (λ a. list_any (λ e. is_event_of_child e (below q k, b) && not (is_fired e.1)) a.pool.events) o) false) p.found)
              ∙ needed (is_root (below q k)) (needs_event b) _ (not_root q k) n f.event));
        };
        depth = f.depth;
      }

  names_from : (q : ActivityPath) (j k : ℕ) (b c : Activity) → HasParent t q j b → lookup (below q j) t ≡ Some b
      → lookup (below q k) t ≡ Some c → same b.name c.name ≡ true → j ≡ k
  names_from q j k b c p h l d =
      one_number q j k
      (distinct_at (children_of q t) (below q j) (below q k) b c (all_found (FitsChildren t) q p.parent t s.children p.found).distinct_names
      (found_passing (is_child_of q) (below q j) t (child_below q j) ∙ h)
      (found_passing (is_child_of q) (below q k) t (child_below q k) ∙ l) d)

  events_from : (q : ActivityPath) (a : Activity) (n : Name) (k : ℕ) → lookup q t ≡ Some a
      → trigger_at (lookup n a.pool.events) ≡ Some (Completion k) → HasChild t q n k
  events_from q a n k h e =
      let v = childs_event a.pool.events n k e in
      let some = or_true (is_completion v.value) _ (is_completion-from v.value k (ap trigger_at (sym v.found) ∙ e))
      (all_at (λ e. not (is_completion e.1) || list_any (is_event_of_child e) (children_of q t)) a.pool.events n v.value
      (all_found (FitsChildren t) q a t s.children h).events v.found) in
      let x = any_at (is_event_of_child (n, v.value)) (children_of q t) (order_passing (is_child_of q) t s.paths_rise) some in
      let parts = and_parts _ _ x.passed in
      let number : k ≡ number_of x.name = eqb-true k (number_of x.name) (sym (v.is_its (number_of x.name)) ∙ parts.0) in
      let c = passes_found (is_child_of q) x.name t x.value x.found in
      let path : below q k ≡ x.name = ap (below q) number ∙ sym (child_path q x.name c) in
      record {
        child = x.value;
        found = ap (λ y. lookup y t) path ∙ sym (found_passing (is_child_of q) x.name t c) ∙ x.found;
        named = named_case x.value.completion n parts.1;
      }

  pub family_from : IsFamily t
  family_from = record {
    order = s.paths_rise;
    root = s.root;
    sound = own;
    first = first_from;
    parents = parent_from;
    names = λ q j k b c h l d. names_from q j k b c (parent_from q j b h) h l d;
    events = events_from;
  }

-- ---- and back

module _ (t : Activities) (f : IsFamily t) where
  first_fits : (a : Activity) → lookup [] t ≡ Some a → FitsParent t ([], a)
  first_fits a h =
      let r = f.first a h in
      record { parent = refl; number = refl; name = r.named; completion = r.completes; told = r.told; event = refl; depth = omega arith }

  child_fits : (q : ActivityPath) (k : ℕ) (b : Activity) → HasParent t q k b → FitsParent t (below q k, b)
  child_fits q k b p =
      let found : lookup (parent_of (below q k)) t ≡ Some p.parent = ap (λ y. lookup y t) (parent_of_child q k) ∙ p.found in
      record {
        parent = right_so (is_root (below q k)) _ (ap is_some found);
        number =
            right_so (is_root (below q k)) _
            (passes_at (λ a. nat_le 1 (number_of (below q k)) && nat_le (number_of (below q k)) a.made) _ p.parent found
            (subst (λ j. (nat_le 1 j && nat_le j p.parent.made) ≡ true) (sym (number_below q k)) p.fits.number));
        name = p.fits.named ∙ sym (not_root q k);
        completion = p.fits.completes ∙ sym (not_root q k);
        told = told_so (is_root (below q k)) b.told (λ r. absurd (true≢false (sym r ∙ not_root q k)));
        event =
            need_so (is_root (below q k)) (needs_event b) _
            (λ n. passes_at (λ a. list_any (λ e. is_event_of_child e (below q k, b) && not (is_fired e.1)) a.pool.events) _ p.parent found
            (subst (λ j. list_any (waits_test j b) p.parent.pool.events ≡ true) (sym (number_below q k)) (waits_so p.parent k b (p.fits.waits n))));
        depth = p.depth;
      }

  parent_fits : (x : ActivityPath) (b : Activity) → lookup x t ≡ Some b → FitsParent t (x, b)
  parent_fits x b =
      path_case (λ y. lookup y t ≡ Some b → FitsParent t (y, b)) (first_fits b) (λ q k h. child_fits q k b (f.parents q k b h)) x

  same_child : (q x y : ActivityPath) (b c : Activity) → lookup x (children_of q t) ≡ Some b → lookup y (children_of q t) ≡ Some c
      → same b.name c.name ≡ true → x ≡ y
  same_child q x y b c h k d =
      let i = passes_found (is_child_of q) x t b h in
      let j = passes_found (is_child_of q) y t c k in
      let e = child_path q x i in
      let g = child_path q y j in
      e ∙ ap (below q) (f.names q (number_of x) (number_of y) b c (ap (λ z. lookup z t) (sym e) ∙ sym (found_passing (is_child_of q) x t i) ∙ h) (ap (λ z. lookup z t) (sym g) ∙ sym (found_passing (is_child_of q) y t j) ∙ k) d) ∙ sym g

  event_fits : (q : ActivityPath) (a : Activity) (n : Name) (v : Event) → lookup q t ≡ Some a → lookup n a.pool.events ≡ Some v
      → is_completion v ≡ true → list_any (is_event_of_child (n, v)) (children_of q t) ≡ true
  event_fits q a n v h e c =
      let o = of_child v c in
      let y = childs_event a.pool.events n o.child (ap trigger_at e ∙ o.completes) in
      let w : y.value ≡ v = let z : Some y.value ≡ Some v = sym y.found ∙ e in cc in
      let x = f.events q a n o.child h (ap trigger_at e ∙ o.completes) in
      any_from (is_event_of_child (n, v)) (children_of q t) (below q o.child) x.child
      (found_passing (is_child_of q) (below q o.child) t (child_below q o.child) ∙ x.found)
      (both_so _ _
      (ap (is_completion_of (number_of (below q o.child))) (sym w) ∙ y.is_its (number_of (below q o.child))
      ∙ eq-eqb o.child (number_of (below q o.child)) (sym (number_below q o.child)))
      (named_so x.child.completion n x.named))

  children_fit : (q : ActivityPath) (a : Activity) → lookup q t ≡ Some a → FitsChildren t (q, a)
  children_fit q a h = record {
    distinct_names = distinct_from (children_of q t) (order_passing (is_child_of q) t f.order) (same_child q);
    events =
        all_from (λ e. not (is_completion e.1) || list_any (is_event_of_child e) (children_of q t)) a.pool.events
        (f.sound q a h).pool.events.ordered (λ n v e. if_so (is_completion v) _ (event_fits q a n v h e));
  }

  pub tree_from : IsSoundTree t
  tree_from = record {
    paths_rise = f.order;
    root = f.root;
    activities = each_found (λ x. IsSoundActivity x.1) t f.order f.sound;
    parents = each_found (FitsParent t) t f.order parent_fits;
    children = each_found (FitsChildren t) t f.order children_fit;
  }
