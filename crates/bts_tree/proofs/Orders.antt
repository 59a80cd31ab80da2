-- That the lists of what is enabled stand in order.
use Rattle.std.proofs.Common.{◌≡◌, Bool, true, false, cond, List, [], ◌∷◌, ◌++◌, ℕ, refl, ap, sym, subst, ◌∙◌}
use Rattle.std.specs.Cmp.{IsTotalOrder}
use Rattle.std.specs.Cmp.Lexicographic.{slice_cmp}
use Rattle.std.specs.List.{AllByRecursion, filter, flat_map}
use Rattle.std.specs.List.Sorted.{IsStrictlySortedBy}
use Rattle.std.specs.Map.{keys_of}
use Rattle.std.specs.Option.{unwrap_or}
use Rattle.std.specs.Ordering.{nat_cmp, ordering_then, ordering_reverse}
use Rattle.std.specs.Prelude.{Option, Some, None, map}
use Rattle.std.specs.declared.cmp.Ordering.{Ordering}
use Rattle.std.specs.declared.cmp.Ordering.TheVariants.{Less, Equal, Greater}
use Rattle.std.proofs.lemmas.Cmp.{nat_list_cmp_total}
use Rattle.std.proofs.lemmas.Map.Keys.{sorted_head, sorted_tail}
use Rattle.bts_names.specs.Keys.{key_cmp}
use Rattle.bts_names.specs.Names.{Name, ActivityPath}
use Rattle.bts_names.specs.declared.key.Key.{Key}
use Rattle.bts_timer.specs.Due.{is_due}
use Rattle.bts_timer.specs.Timers.{Timers}
use Rattle.bts_timer.specs.declared.timer.Timer.{Timer}
use Rattle.bts_tree.proofs.Slots.{key_total}
use Rattle.bts_tree.specs.Activities.{Activities}
use Rattle.bts_tree.specs.Processes.{Process, activities}
use Rattle.bts_tree.specs.Repositories.{Processes, Place, TimerPlace, place_cmp, timer_place_cmp, chosen_at, chosen_of, chosen, due_at, due_among, due_of, due_in}
use Rattle.bts_tree.specs.Soundness.{AreSound, IsSoundInFrames, IsSoundActivity, IsSoundUnder}
use Rattle.bts_tree.specs.declared.activity.Activity.{Activity}

-- ---- lists

module _ {X : Type 0} where
  sorted_nil : (c : X → X → Ordering) → IsStrictlySortedBy c []
  unfolding IsStrictlySortedBy
  sorted_nil c = tt

  sorted_cons : (c : X → X → Ordering) (x : X) (xs : List X) → AllByRecursion (λ y. c x y ≡ Less) xs → IsStrictlySortedBy c xs → IsStrictlySortedBy c (x ∷ xs)
  unfolding IsStrictlySortedBy
  sorted_cons c x xs a s = (a, s)

  all_append : (P : X → Type 0) (xs ys : List X) → AllByRecursion P xs → AllByRecursion P ys → AllByRecursion P (xs ++ ys)
  all_append P [] ys a b = b
  all_append P (x ∷ xs) ys a b = (a.0, all_append P xs ys a.1 b)

  all_weaker : (P Q : X → Type 0) → ((x : X) → P x → Q x) → (xs : List X) → AllByRecursion P xs → AllByRecursion Q xs
  all_weaker P Q f [] a = tt
  all_weaker P Q f (x ∷ xs) a = (f x a.0, all_weaker P Q f xs a.1)

  sorted_append : (c : X → X → Ordering) (xs ys : List X) → IsStrictlySortedBy c xs → IsStrictlySortedBy c ys → AllByRecursion (λ x. AllByRecursion (λ y. c x y ≡ Less) ys) xs
      → IsStrictlySortedBy c (xs ++ ys)
  sorted_append c [] ys s t a = t
  sorted_append c (x ∷ xs) ys s t a =
      sorted_cons c x (xs ++ ys) (all_append (λ y. c x y ≡ Less) xs ys (sorted_head c x xs s) a.0)
      (sorted_append c xs ys (sorted_tail c x xs s) t a.1)

-- the elements that pass a test, each under a function that keeps the order
module _ {X Y K : Type 0} (c : Y → Y → Ordering) (k : K → K → Ordering) (key : X → K) (g : X → Y) (test : X → Bool) where
  all_picked : (P : K → Type 0) (Q : Y → Type 0) → ((x : X) → P (key x) → Q (g x)) → (xs : List X) → AllByRecursion P (map key xs) → AllByRecursion Q (map g (filter test xs))
  all_picked P Q f [] a = tt
  all_picked P Q f (x ∷ xs) a = by (test x) (all_picked P Q f xs a.1)
    where
      by : (b : Bool) → AllByRecursion Q (map g (filter test xs)) → AllByRecursion Q (map g (cond b (x ∷ filter test xs) (filter test xs)))
      by true i = (f x a.0, i)
      by false i = i

  picked_rise : ((x y : X) → k (key x) (key y) ≡ Less → c (g x) (g y) ≡ Less) → (xs : List X) → IsStrictlySortedBy k (map key xs) → IsStrictlySortedBy c (map g (filter test xs))
  picked_rise less [] s = sorted_nil c
  picked_rise less (x ∷ xs) s = by (test x) (picked_rise less xs (sorted_tail k (key x) (map key xs) s))
    where
      by : (b : Bool) → IsStrictlySortedBy c (map g (filter test xs)) → IsStrictlySortedBy c (map g (cond b (x ∷ filter test xs) (filter test xs)))
      by true i = sorted_cons c (g x) (map g (filter test xs)) (all_picked (λ z. k (key x) z ≡ Less) (λ z. c (g x) z ≡ Less) (less x) xs (sorted_head k (key x) (map key xs) s)) i
      by false i = i

  all_made : (Q : Y → Type 0) → ((x : X) → Q (g x)) → (xs : List X) → AllByRecursion Q (map g (filter test xs))
  all_made Q f [] = tt
  all_made Q f (x ∷ xs) = by (test x) (all_made Q f xs)
    where
      by : (b : Bool) → AllByRecursion Q (map g (filter test xs)) → AllByRecursion Q (map g (cond b (x ∷ filter test xs) (filter test xs)))
      by true i = (f x, i)
      by false i = i

-- lists that each rise, one behind the other, where each element has its list's key
module _ {X Y K : Type 0} (c : Y → Y → Ordering) (k : K → K → Ordering) (key : X → K) (own : Y → K) (Among : Y → Type 0) (f : X → List Y) (keyed : (x : X) → AllByRecursion (λ y. (own y ≡ key x) × Among y) (f x))
    (less : (y z : Y) → Among y → Among z → k (own y) (own z) ≡ Less → c y z ≡ Less) where
  all_flat : (P : K → Type 0) (xs : List X) → AllByRecursion P (map key xs) → AllByRecursion (λ z. P (own z) × Among z) (flat_map f xs)
  all_flat P [] a = tt
  all_flat P (x ∷ xs) a =
      all_append (λ z. P (own z) × Among z) (f x) (flat_map f xs)
      (all_weaker (λ z. (own z ≡ key x) × Among z) (λ z. P (own z) × Among z) (λ z e. (subst P (sym e.0) a.0, e.1)) (f x) (keyed x)) (all_flat P xs a.1)

  flat_rises : (xs : List X) → IsStrictlySortedBy k (map key xs) → AllByRecursion (λ x. IsStrictlySortedBy c (f x)) xs → IsStrictlySortedBy c (flat_map f xs)
  flat_rises [] s a = sorted_nil c
  flat_rises (x ∷ xs) s a =
      sorted_append c (f x) (flat_map f xs) a.0 (flat_rises xs (sorted_tail k (key x) (map key xs) s) a.1)
      (all_weaker (λ y. (own y ≡ key x) × Among y) (λ y. AllByRecursion (λ z. c y z ≡ Less) (flat_map f xs))
      (λ y e. all_weaker (λ z. (k (key x) (own z) ≡ Less) × Among z) (λ z. c y z ≡ Less) (λ z h. less y z e.1 h.1 (ap (λ q. k q (own z)) e.0 ∙ h.0)) (flat_map f xs)
      (all_flat (λ q. k (key x) q ≡ Less) xs (sorted_head k (key x) (map key xs) s)))
      (f x) (keyed x))

-- ---- orders

equal_itself : (o : Ordering) → o ≡ ordering_reverse o → o ≡ Equal
equal_itself Less h = cc
equal_itself Equal h = refl
equal_itself Greater h = cc

itself : {X : Type 0} {c : X → X → Ordering} → IsTotalOrder c → (x : X) → c x x ≡ Equal
itself total x = equal_itself _ (total.antisymm x x)

key_itself : (k : Key) → key_cmp k k ≡ Equal
key_itself k = itself key_total k

path_itself : (p : ActivityPath) → slice_cmp nat_cmp p p ≡ Equal
path_itself p = itself nat_list_cmp_total p

-- ---- one tree

chosen_rise : (test : Activity → Bool) (key : Key) (tree : Activities) → IsStrictlySortedBy (slice_cmp nat_cmp) (keys_of tree) → IsStrictlySortedBy place_cmp (chosen_at test key tree)
chosen_rise test key tree s =
    picked_rise place_cmp (slice_cmp nat_cmp) (λ (x : ActivityPath × Activity). x.0) (λ x. (key, x.0)) (λ x. test x.1) (λ x y h. ap (λ o. ordering_then o (slice_cmp nat_cmp x.0 y.0)) (key_itself key) ∙ h) tree s

due_rise : (now : ℕ) (key : Key) (p : ActivityPath) (timers : Timers) → IsStrictlySortedBy (slice_cmp nat_cmp) (keys_of timers) → IsStrictlySortedBy timer_place_cmp (due_at now key p timers)
due_rise now key p timers s =
    picked_rise timer_place_cmp (slice_cmp nat_cmp) (λ (t : Name × Timer). t.0) (λ t. (key, p, t.0)) (λ t. is_due now t.1)
    (λ x y h. ap (λ o. ordering_then o (ordering_then (slice_cmp nat_cmp p p) (slice_cmp nat_cmp x.0 y.0))) (key_itself key) ∙ ap (λ o. ordering_then o (slice_cmp nat_cmp x.0 y.0)) (path_itself p) ∙ h)
    timers s

-- timers of one process stand by path, and then by name
before_by_path : (a b : TimerPlace) (key : Key) → a.0 ≡ key → b.0 ≡ key → slice_cmp nat_cmp a.1 b.1 ≡ Less → timer_place_cmp a b ≡ Less
before_by_path a b key h i l =
    ap (λ o. ordering_then o (ordering_then (slice_cmp nat_cmp a.1 b.1) (slice_cmp nat_cmp a.2 b.2))) ((λ j. key_cmp (h j) (i j)) ∙ key_itself key)
    ∙ ap (λ o. ordering_then o (slice_cmp nat_cmp a.2 b.2)) l

dues_rise : (now : ℕ) (key : Key) (tree : Activities) → IsStrictlySortedBy (slice_cmp nat_cmp) (keys_of tree) → AllByRecursion (λ x. IsSoundActivity x.1) tree
    → IsStrictlySortedBy timer_place_cmp (due_among now key tree)
dues_rise now key tree s a =
    flat_rises timer_place_cmp (slice_cmp nat_cmp) (λ (x : ActivityPath × Activity). x.0) (λ (y : TimerPlace). y.1) (λ y. y.0 ≡ key) (λ x. due_at now key x.0 x.1.timers)
    (λ x. all_made timer_place_cmp (slice_cmp nat_cmp) (λ (t : Name × Timer). t.0) (λ t. (key, x.0, t.0)) (λ t. is_due now t.1) (λ y. (y.1 ≡ x.0) × (y.0 ≡ key)) (λ t. (refl, refl)) x.1.timers)
    (λ y z h i l. before_by_path y z key h i l) tree s
    (all_weaker (λ x. IsSoundActivity x.1) (λ x. IsStrictlySortedBy timer_place_cmp (due_at now key x.0 x.1.timers)) (λ x h. due_rise now key x.0 x.1.timers h.timers_rise) tree a)

-- ---- all processes

paths_rise : (s : Process) → IsSoundInFrames [] s → IsStrictlySortedBy (slice_cmp nat_cmp) (keys_of (activities s))
paths_rise s h = by s.tree h.tree
  where
    by : (t : Option Activities) → IsSoundUnder s t → IsStrictlySortedBy (slice_cmp nat_cmp) (keys_of (unwrap_or t []))
    by None u = sorted_nil (slice_cmp nat_cmp)
    by (Some t) u = u.0.paths_rise

each_sound : (s : Process) → IsSoundInFrames [] s → AllByRecursion (λ x. IsSoundActivity x.1) (activities s)
each_sound s h = by s.tree h.tree
  where
    by : (t : Option Activities) → IsSoundUnder s t → AllByRecursion (λ x. IsSoundActivity x.1) (unwrap_or t [])
    by None u = tt
    by (Some t) u = u.0.activities

pub chosen_in_order : (test : Activity → Bool) (repo : Processes) → AreSound repo → IsStrictlySortedBy place_cmp (chosen test repo)
chosen_in_order test repo h =
    flat_rises place_cmp key_cmp (λ (s : Process). s.key) (λ (y : Place). y.0) (λ y. Unit {0}) (chosen_of test)
    (λ s. all_made place_cmp (slice_cmp nat_cmp) (λ (x : ActivityPath × Activity). x.0) (λ x. (s.key, x.0)) (λ x. test x.1) (λ y. (y.0 ≡ s.key) × Unit {0}) (λ x. (refl, tt)) (activities s))
    (λ y z u v l. ap (λ o. ordering_then o (slice_cmp nat_cmp y.1 z.1)) l) repo.items h.keys_rise
    (all_weaker (IsSoundInFrames []) (λ s. IsStrictlySortedBy place_cmp (chosen_of test s)) (λ s i. chosen_rise test s.key (activities s) (paths_rise s i)) repo.items h.each)

-- the timers of an activity that are due have its key and path
dues_keyed : (now : ℕ) (s : Process) (tree : Activities) → AllByRecursion (λ (y : TimerPlace). (y.0 ≡ s.key) × Unit {0}) (due_among now s.key tree)
dues_keyed now s [] = tt
dues_keyed now s (x ∷ tree) =
    all_append (λ y. (y.0 ≡ s.key) × Unit {0}) (due_at now s.key x.0 x.1.timers) (due_among now s.key tree)
    (all_made timer_place_cmp (slice_cmp nat_cmp) (λ (t : Name × Timer). t.0) (λ t. (s.key, x.0, t.0)) (λ t. is_due now t.1) (λ y. (y.0 ≡ s.key) × Unit {0}) (λ t. (refl, tt)) x.1.timers)
    (dues_keyed now s tree)

pub due_in_order : (now : ℕ) (repo : Processes) → AreSound repo → IsStrictlySortedBy timer_place_cmp (due_in now repo)
due_in_order now repo h =
    flat_rises timer_place_cmp key_cmp (λ (s : Process). s.key) (λ (y : TimerPlace). y.0) (λ y. Unit {0}) (due_of now) (λ s. dues_keyed now s (activities s))
    (λ y z u v l. ap (λ o. ordering_then o (ordering_then (slice_cmp nat_cmp y.1 z.1) (slice_cmp nat_cmp y.2 z.2))) l) repo.items h.keys_rise
    (all_weaker (IsSoundInFrames []) (λ s. IsStrictlySortedBy timer_place_cmp (due_of now s)) (λ s i. dues_rise now s.key (activities s) (paths_rise s i) (each_sound s i)) repo.items h.each)
