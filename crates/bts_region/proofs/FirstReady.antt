-- The first activation that is enabled is enabled where it stands.
use Rattle.std.proofs.Common.{◌≡◌, Bool, true, false, cond, List, [], ◌∷◌, ◌++◌, map, Option, None, Some, unwrap_or, is_eq, refl, sym, ap, subst, ◌∙◌}
use Rattle.std.specs.Cmp.Lexicographic.{slice_cmp}
use Rattle.std.specs.List.{AllByRecursion, filter, flat_map}
use Rattle.std.specs.List.Sorted.{IsStrictlySortedBy}
use Rattle.std.specs.Map.{keys_of}
use Rattle.std.specs.Option.{option_map}
use Rattle.std.specs.Ordering.{nat_cmp, ordering_reverse}
use Rattle.std.specs.declared.cmp.Ordering.{Ordering}
use Rattle.std.specs.declared.cmp.Ordering.TheVariants.{Less, Equal, Greater}
use Rattle.std.proofs.lemmas.Cmp.{nat_list_cmp_total}
use Rattle.std.proofs.lemmas.Map.Keys.{sorted_head, sorted_tail}
use Rattle.bts_names.specs.Keys.{key_cmp}
use Rattle.bts_names.specs.Named.{lookup}
use Rattle.bts_names.specs.Names.{ActivityPath, same}
use Rattle.bts_names.specs.declared.key.Key.{Key}
use Rattle.bts_names.proofs.Sameness.{same_where_equal}
use Rattle.bts_tree.proofs.Slots.{key_total}
use Rattle.bts_tree.specs.Activities.{Activities, is_ready}
use Rattle.bts_container.specs.declared.format.Format.{Format}
use Rattle.bts_tree.specs.Processes.{Process, activities, no_process}
use Rattle.bts_tree.specs.Repositories.{Place, Processes, chosen_of, found_or, is_ready_at, ready_in, same_key}
use Rattle.bts_tree.specs.Soundness.{AreSound, IsSoundInFrames, IsSoundUnder}
use Rattle.bts_tree.specs.declared.activity.Activity.{Activity}

-- ---- lists

first_all : {X : Type 0} (P : X → Type 0) (x : X) (xs ys : List X) → AllByRecursion P ys → ys ≡ x ∷ xs → P x
first_all P x xs ys h e = let a : AllByRecursion P (x ∷ xs) = subst (AllByRecursion P) e h in a.0

-- ---- in one process

abbrev readies : Activities → List (ActivityPath × Activity)
readies tree = filter (λ x. is_ready x.1) tree

paths_behind : (p : ActivityPath) (tree : Activities) → AllByRecursion (λ q. slice_cmp nat_cmp p q ≡ Less) (keys_of tree) → AllByRecursion (λ x. slice_cmp nat_cmp p x.0 ≡ Less) (readies tree)
paths_behind p [] h = tt
paths_behind p (x ∷ tree) h = by (is_ready x.1) (paths_behind p tree h.1)
  where
    by : (b : Bool) → AllByRecursion (λ x. slice_cmp nat_cmp p x.0 ≡ Less) (readies tree) → AllByRecursion (λ x. slice_cmp nat_cmp p x.0 ≡ Less) (cond b (x ∷ readies tree) (readies tree))
    by true i = (h.0, i)
    by false i = i

abbrev is_ready_there : ActivityPath → Activities → Bool
is_ready_there p tree = unwrap_or (option_map is_ready (lookup p tree)) false

other_path : (p q : ActivityPath) → slice_cmp nat_cmp p q ≡ Less → same q p ≡ false
other_path p q l = ap is_eq (nat_list_cmp_total.antisymm q p ∙ ap ordering_reverse l)

ready_in_tree : (tree : Activities) → IsStrictlySortedBy (slice_cmp nat_cmp) (keys_of tree) → (x : ActivityPath × Activity) (xs : List (ActivityPath × Activity)) → readies tree ≡ x ∷ xs → is_ready_there x.0 tree ≡ true
ready_in_tree [] s x xs e = cc
ready_in_tree (y ∷ tree) s x xs e = by (λ q. ready_in_tree tree (sorted_tail (slice_cmp nat_cmp) y.0 (keys_of tree) s) x xs q) (is_ready y.1) refl e
  where
    found : (z : ActivityPath × Activity) → z ≡ x → is_ready z.1 ≡ true → unwrap_or (option_map is_ready (cond (same x.0 z.0) (Some z.1) (lookup x.0 tree))) false ≡ true
    found z q r =
        ap (λ b. unwrap_or (option_map is_ready (cond b (Some z.1) (lookup x.0 tree))) false) ((same_where_equal x.0 z.0).1 (ap (λ (w : ActivityPath × Activity). w.0) (sym q))) ∙ r

    by : (readies tree ≡ x ∷ xs → is_ready_there x.0 tree ≡ true) → (b : Bool) → is_ready y.1 ≡ b → cond b (y ∷ readies tree) (readies tree) ≡ x ∷ xs → is_ready_there x.0 (y ∷ tree) ≡ true
    by others true r q = found y (first_of q) r
      where
        first_of : y ∷ readies tree ≡ x ∷ xs → y ≡ x
        first_of w = cc
    by others false r q =
        ap (λ b. unwrap_or (option_map is_ready (cond b (Some y.1) (lookup x.0 tree))) false)
        (other_path y.0 x.0 (first_all (λ z. slice_cmp nat_cmp y.0 z.0 ≡ Less) x xs (readies tree) (paths_behind y.0 tree (sorted_head (slice_cmp nat_cmp) y.0 (keys_of tree) s)) q))
        ∙ others q

none_rise : IsStrictlySortedBy (slice_cmp nat_cmp) []
unfolding IsStrictlySortedBy
none_rise = tt

paths_rise : (s : Process) → IsSoundInFrames [] s → IsStrictlySortedBy (slice_cmp nat_cmp) (keys_of (activities s))
paths_rise s h = by s.tree h.tree
  where
    by : (t : Option Activities) → IsSoundUnder s t → IsStrictlySortedBy (slice_cmp nat_cmp) (keys_of (unwrap_or t []))
    by None u = none_rise
    by (Some t) u = u.0.paths_rise

ready_of : (s : Process) → IsSoundInFrames [] s → (x : Place) (xs : List Place) → chosen_of is_ready s ≡ x ∷ xs → (x.0 ≡ s.key) × (is_ready_there x.1 (activities s) ≡ true)
ready_of s h x xs e = by (readies (activities s)) refl e
  where
    by : (rs : List (ActivityPath × Activity)) → readies (activities s) ≡ rs → map (λ y. (s.key, y.0)) rs ≡ x ∷ xs → (x.0 ≡ s.key) × (is_ready_there x.1 (activities s) ≡ true)
    by [] q w = cc
    by (y ∷ ys) q w =
        let same_place : ◌≡◌ {A = Place} (s.key, y.0) x = first_place w in
        (ap (λ (z : Place). z.0) (sym same_place), ap (λ (z : Place). is_ready_there z.1 (activities s)) (sym same_place) ∙ ready_in_tree (activities s) (paths_rise s h) y ys q)
      where
        first_place : ◌≡◌ {A = List Place} ((s.key, y.0) ∷ map (λ z. (s.key, z.0)) ys) (x ∷ xs) → ◌≡◌ {A = Place} (s.key, y.0) x
        first_place w = cc

-- ---- in all processes

both_all : {X : Type 0} (P : X → Type 0) (xs ys : List X) → AllByRecursion P xs → AllByRecursion P ys → AllByRecursion P (xs ++ ys)
both_all P [] ys a b = b
both_all P (x ∷ xs) ys a b = (a.0, both_all P xs ys a.1 b)

of_key : (P : Place → Type 0) (key : Key) → ((p : ActivityPath) → P (key, p)) → (xs : List (ActivityPath × Activity)) → AllByRecursion P (map (λ x. (key, x.0)) xs)
of_key P key h [] = tt
of_key P key h (x ∷ xs) = (h x.0, of_key P key h xs)

abbrev readies_of : List Process → List Place
readies_of ss = flat_map (chosen_of is_ready) ss

abbrev keys_in : List Process → List Key
keys_in ss = map (λ s. s.key) ss

places_behind : (key : Key) (ss : List Process) → AllByRecursion (λ k. key_cmp key k ≡ Less) (keys_in ss) → AllByRecursion (λ (x : Place). key_cmp key x.0 ≡ Less) (readies_of ss)
places_behind key [] h = tt
places_behind key (s ∷ ss) h =
    both_all (λ (x : Place). key_cmp key x.0 ≡ Less) (chosen_of is_ready s) (readies_of ss) (of_key (λ (x : Place). key_cmp key x.0 ≡ Less) s.key (λ p. h.0) (readies (activities s))) (places_behind key ss h.1)

equal_itself : (o : Ordering) → o ≡ ordering_reverse o → o ≡ Equal
equal_itself Less h = cc
equal_itself Equal h = refl
equal_itself Greater h = cc

pub itself : (key : Key) → key_cmp key key ≡ Equal
itself key = equal_itself (key_cmp key key) (key_total.antisymm key key)

other_key : (a b : Key) → key_cmp a b ≡ Less → same_key b a ≡ false
other_key a b l = ap is_eq (key_total.antisymm b a ∙ ap ordering_reverse l)

module _ (f : Format) where
  abbrev at_key : Key → List Process → Process
  at_key key ss = found_or (no_process f key) key ss

  ready_among : (ss : List Process) → IsStrictlySortedBy key_cmp (keys_in ss) → AllByRecursion (IsSoundInFrames []) ss → (x : Place) (xs : List Place) → readies_of ss ≡ x ∷ xs
      → is_ready_there x.1 (activities (at_key x.0 ss)) ≡ true
  ready_among [] s h x xs e = cc
  ready_among (t ∷ ss) s h x xs e = by (λ q. ready_among ss (sorted_tail key_cmp t.key (keys_in ss) s) h.1 x xs q) (chosen_of is_ready t) refl e
    where
      by : (readies_of ss ≡ x ∷ xs → is_ready_there x.1 (activities (at_key x.0 ss)) ≡ true) → (places : List Place) → chosen_of is_ready t ≡ places → places ++ readies_of ss ≡ x ∷ xs
          → is_ready_there x.1 (activities (at_key x.0 (t ∷ ss))) ≡ true
      by others [] q w =
          ap (λ b. is_ready_there x.1 (activities (cond b t (at_key x.0 ss))))
          (other_key t.key x.0 (first_all (λ (y : Place). key_cmp t.key y.0 ≡ Less) x xs (readies_of ss) (places_behind t.key ss (sorted_head key_cmp t.key (keys_in ss) s)) w))
          ∙ others w
      by others (y ∷ ys) q w =
          let here = ready_of t h.0 x ys (q ∙ ap (λ z. z ∷ ys) (first_place w)) in
          ap (λ b. is_ready_there x.1 (activities (cond b t (at_key x.0 ss)))) (ap is_eq (ap (λ k. key_cmp k t.key) here.0 ∙ itself t.key)) ∙ here.1
        where
          first_place : y ∷ (ys ++ readies_of ss) ≡ x ∷ xs → y ≡ x
          first_place w = cc

pub first_is_ready : (repo : Processes) → AreSound repo → (x : Place) (xs : List Place) → ready_in repo ≡ x ∷ xs → is_ready_at x.0 x.1 repo ≡ true
first_is_ready repo sound x xs e = ready_among repo.format repo.items sound.keys_rise sound.each x xs e
