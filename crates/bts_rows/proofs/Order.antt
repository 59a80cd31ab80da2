-- Paths in order, and what stands before a path, within it and behind it.
use Rattle.std.proofs.Common.{◌≡◌, ℕ, Bool, true, false, cond, not, ◌&&◌, ◌||◌, [], ◌∷◌, ◌++◌, Ordering, Less, Equal, Greater, is_lt, is_gt, nat_cmp, nat_eq, nat_lt, refl, sym, ap, subst, ◌∙◌, true≢false, arith}
use Rattle.std.specs.List.{filter, AllByRecursion}
use Rattle.std.specs.List.Sorted.{IsStrictlySortedBy}
use Rattle.std.specs.Map.{keys_of}
use Rattle.std.specs.Ordering.{ordering_then}
use Rattle.std.specs.Cmp.Lexicographic.{slice_cmp}
use Rattle.std.proofs.lemmas.Bool.{and_parts, eqb-true, eq-eqb}
use Rattle.std.proofs.lemmas.Cmp.{nat_list_cmp_total}
use Rattle.std.proofs.lemmas.Grind.{common_steps}
use Rattle.std.proofs.lemmas.Map.Keys.{sorted_head, sorted_tail}
use Rattle.std.proofs.lemmas.Map.Lookups.{exact_bytes}
use Rattle.bts_names.specs.Names.{ActivityPath}
use Rattle.bts_tree.specs.declared.activity.Activity.{Activity}
use Rattle.bts_tree.specs.Activities.{Activities, within}
use Rattle.bts_tree.specs.Paths.{leads_to}
use Rattle.bts_tree.specs.Processes.{before, behind}
use Rattle.bts_rows.proofs.TimerEvents.{not_so}

abbrev pub path_cmp : ActivityPath → ActivityPath → Ordering
path_cmp = slice_cmp nat_cmp

abbrev pub is_before : ActivityPath → ActivityPath → Bool
is_before x p = is_lt (path_cmp x p)

-- behind a path and all below it
abbrev pub is_behind : ActivityPath → ActivityPath → Bool
is_behind x p = is_gt (path_cmp x p) && not (leads_to p x)

-- activities by rising path
abbrev pub IsInOrder : Activities → Type 0
IsInOrder t = IsStrictlySortedBy path_cmp (keys_of t)

pub less_from : (o : Ordering) → is_lt o ≡ true → o ≡ Less
less_from Less h = refl
less_from Equal h = cc
less_from Greater h = cc

lt_case : (s t : Bool) (o : Ordering) → is_lt (ordering_then (cond s Less (cond t Equal Greater)) o) ≡ (s || (t && is_lt o))
lt_case true t o = refl
lt_case false true o = refl
lt_case false false o = refl

-- the first numbers decide, and where they are the same the others do
pub before_cons : (a b : ℕ) (x y : ActivityPath) → is_before (a ∷ x) (b ∷ y) ≡ (nat_lt a b || (nat_eq a b && is_before x y))
before_cons a b x y = lt_case (nat_lt a b) (nat_eq a b) (path_cmp x y)

pub before_trans : (x y z : ActivityPath) → is_before x y ≡ true → is_before y z ≡ true → is_before x z ≡ true
before_trans x y z h k = ap is_lt (nat_list_cmp_total.trans x y z (less_from _ h) (less_from _ k))

within_head : (a b : ℕ) (r s : Bool) → (r ≡ true → s ≡ false) → (nat_eq a b && r) ≡ true → (nat_lt b a || (nat_eq b a && s)) ≡ false
within_head a b r s h k = grind (arith, common_steps)

-- what is within a path isn't before it
pub within_not_before : (p x : ActivityPath) → leads_to p x ≡ true → is_before x p ≡ false
within_not_before [] [] h = refl
within_not_before [] (b ∷ x) h = refl
within_not_before (a ∷ p) [] h = cc
within_not_before (a ∷ p) (b ∷ x) h = before_cons b a x p ∙ within_head a b (leads_to p x) (is_before x p) (within_not_before p x) h

behind_head : (a b c : ℕ) (r s t u : Bool) → (r ≡ true → s ≡ false → t ≡ false → u ≡ false) → (nat_lt b c || (nat_eq b c && r)) ≡ true → (nat_lt b a || (nat_eq b a && s)) ≡ false → (nat_eq a b && t) ≡ false
    → (nat_eq a c && u) ≡ false
behind_head a b c r s t u h k l m = grind (arith, common_steps)

-- behind what stands behind a path, nothing is within it
pub not_within_behind : (p x y : ActivityPath) → is_before x y ≡ true → is_before x p ≡ false → leads_to p x ≡ false → leads_to p y ≡ false
not_within_behind [] x y h k l = cc
not_within_behind (a ∷ p) [] y h k l = cc
not_within_behind (a ∷ p) (b ∷ x) [] h k l = refl
not_within_behind (a ∷ p) (b ∷ x) (c ∷ y) h k l =
    behind_head a b c (is_before x y) (is_before x p) (leads_to p x) (leads_to p y) (not_within_behind p x y) (sym (before_cons b c x y) ∙ h) (sym (before_cons b a x p) ∙ k) l

pub leads_own : (p : ActivityPath) → leads_to p p ≡ true
leads_own [] = refl
leads_own (a ∷ p) = rw (eq-eqb a a refl) (leads_own p)

-- a path that leads to another leads to all below that
pub leads_on : (p q r : ActivityPath) → leads_to p q ≡ true → leads_to q r ≡ true → leads_to p r ≡ true
leads_on [] q r h k = refl
leads_on (x ∷ p) [] r h k = cc
leads_on (x ∷ p) (y ∷ q) [] h k = cc
leads_on (x ∷ p) (y ∷ q) (z ∷ r) h k =
    let a = and_parts (nat_eq x y) (leads_to p q) h in
    let b = and_parts (nat_eq y z) (leads_to q r) k in
    both (nat_eq x z) (leads_to p r) (eq-eqb x z (eqb-true x y a.0 ∙ eqb-true y z b.0)) (leads_on p q r a.1 b.1)
  where
    both : (s t : Bool) → s ≡ true → t ≡ true → (s && t) ≡ true
    both s t e f = rw e f

behind_case : (o : Ordering) (x p : ActivityPath) → path_cmp x p ≡ o → is_behind x p ≡ (not (is_before x p) && not (leads_to p x))
behind_case Less x p h = rw h
behind_case Equal x p h =
    let l : leads_to p x ≡ true = subst (λ q. leads_to p q ≡ true) (sym (exact_bytes x p h)) (leads_own p) in
    rw (h, l)
behind_case Greater x p h = rw h

-- behind all that is within a path: neither before it nor within it
pub behind_is : (x p : ActivityPath) → is_behind x p ≡ (not (is_before x p) && not (leads_to p x))
behind_is x p = behind_case (path_cmp x p) x p refl

pub within_not_behind : (p x : ActivityPath) → leads_to p x ≡ true → is_behind x p ≡ false
within_not_behind p x h = behind_is x p ∙ rw (within_not_before p x h, h)

-- ---- a tree is what stands before a path, within it and behind it

-- nothing passes a test that fails at all that stands behind a path
none_passes : (f : ActivityPath → Bool) (x : ActivityPath) (t : Activities) → ((y : ActivityPath) → is_before x y ≡ true → f y ≡ false)
    → AllByRecursion (λ y. path_cmp x y ≡ Less) (keys_of t) → filter (λ z. f z.0) t ≡ []
none_passes f x [] h k = refl
none_passes f x (z ∷ t) h k = rw (h z.0 (ap is_lt k.0)) (none_passes f x t h k.1)

not_before_behind : (b : Bool) (p x y : ActivityPath) → is_before y p ≡ b → is_before x y ≡ true → is_before x p ≡ false → b ≡ false
not_before_behind false p x y e h k = refl
not_before_behind true p x y e h k = absurd (true≢false (sym (before_trans x y p h e) ∙ k))

module _ (p : ActivityPath) (x : ActivityPath × Activity) (t : Activities) where
  split_one : (b : Bool) → is_before x.0 p ≡ b → (w : Bool) → leads_to p x.0 ≡ w → AllByRecursion (λ y. path_cmp x.0 y ≡ Less) (keys_of t)
      → before p t ++ within p t ++ behind p t ≡ t → before p (x ∷ t) ++ within p (x ∷ t) ++ behind p (x ∷ t) ≡ x ∷ t
  split_one true e true d a i = absurd (true≢false (sym e ∙ within_not_before p x.0 d))
  split_one true e false d a i =
      let h : is_behind x.0 p ≡ false = behind_is x.0 p ∙ rw e in
      rw (h, e, d) (ap (λ r. x ∷ r) i)
  split_one false e true d a i =
      let n : before p t ≡ [] = none_passes (λ y. is_before y p) x.0 t (λ y l. not_before_behind _ p x.0 y refl l e) a in
      rw (within_not_behind p x.0 d, e, d, n) (ap (λ r. x ∷ r) (rw n at i))
  split_one false e false d a i =
      let n : before p t ≡ [] = none_passes (λ y. is_before y p) x.0 t (λ y l. not_before_behind _ p x.0 y refl l e) a in
      let m : within p t ≡ [] = none_passes (leads_to p) x.0 t (λ y l. not_within_behind p x.0 y l e d) a in
      let h : is_behind x.0 p ≡ true = behind_is x.0 p ∙ rw (e, d) in
      rw (h, e, d, n, m) (ap (λ r. x ∷ r) (rw (n, m) at i))

pub split_tree : (p : ActivityPath) (t : Activities) → IsInOrder t → before p t ++ within p t ++ behind p t ≡ t
split_tree p [] s = refl
split_tree p (x ∷ t) s =
    split_one p x t (is_before x.0 p) refl (leads_to p x.0) refl (sorted_head path_cmp x.0 (keys_of t) s) (split_tree p t (sorted_tail path_cmp x.0 (keys_of t) s))

-- ---- what stands before and behind a path below another

before_head : (a b c : ℕ) (r s t : Bool) → (r ≡ true → s ≡ true → t ≡ true) → (nat_lt a b || (nat_eq a b && r)) ≡ true → (nat_eq b c && s) ≡ true → (nat_lt a c || (nat_eq a c && t)) ≡ true
before_head a b c r s t h k l = grind (arith, common_steps)

-- what stands before a path stands before all below it
pub before_below : (x p q : ActivityPath) → is_before x p ≡ true → leads_to p q ≡ true → is_before x q ≡ true
before_below [] [] q h k = cc
before_below (a ∷ x) [] q h k = cc
before_below x (b ∷ p) [] h k = cc
before_below [] (b ∷ p) (c ∷ q) h k = refl
before_below (a ∷ x) (b ∷ p) (c ∷ q) h k =
    before_cons a c x q ∙ before_head a b c (is_before x p) (leads_to p q) (is_before x q) (before_below x p q) (sym (before_cons a b x p) ∙ h) k

behind_below_head : (a b c : ℕ) (r s t u : Bool) → (r ≡ false → s ≡ false → t ≡ true → u ≡ false) → (nat_lt a b || (nat_eq a b && r)) ≡ false → (nat_eq b a && s) ≡ false → (nat_eq b c && t) ≡ true
    → (nat_lt a c || (nat_eq a c && u)) ≡ false
behind_below_head a b c r s t u h k l m = grind (arith, common_steps)

-- what stands behind a path isn't before anything below it
pub behind_below : (x p q : ActivityPath) → is_before x p ≡ false → leads_to p x ≡ false → leads_to p q ≡ true → is_before x q ≡ false
behind_below x [] q h k l = cc
behind_below x (b ∷ p) [] h k l = cc
behind_below [] (b ∷ p) (c ∷ q) h k l = cc
behind_below (a ∷ x) (b ∷ p) (c ∷ q) h k l =
    before_cons a c x q ∙ behind_below_head a b c (is_before x p) (leads_to p x) (leads_to p q) (is_before x q) (behind_below x p q) (sym (before_cons a b x p) ∙ h) k l

-- behind a path and all within it
pub behind_parts : (x p : ActivityPath) → is_behind x p ≡ true → (is_before x p ≡ false) × (leads_to p x ≡ false)
behind_parts x p h = let a = and_parts (not (is_before x p)) (not (leads_to p x)) (sym (behind_is x p) ∙ h) in (not_so _ a.0, not_so _ a.1)
