-- The first activity that is wanted is that of the first kept key under which there is one.
use Rattle.std.proofs.Common.{◌≡◌, Bool, true, false, cond, ◌&&◌, List, [], ◌∷◌, ◌++◌, Option, None, Some, map, refl, sym, ap, ◌∙◌}
use Rattle.std.specs.List.{AllByRecursion, filter, flat_map}
use Rattle.std.specs.List.Sorted.{IsStrictlySortedBy}
use Rattle.std.specs.Map.{keys_of, lookup}
use Rattle.std.specs.Option.{option_or}
use Rattle.std.specs.Cmp.Lexicographic.{slice_cmp}
use Rattle.std.specs.Ordering.{is_eq, is_le, is_lt, nat_cmp, ordering_reverse, ordering_then}
use Rattle.std.specs.BTreeMap.Range.{range_contains}
use Rattle.std.specs.declared.cmp.Ordering.{Ordering}
use Rattle.std.specs.declared.cmp.Ordering.TheVariants.{Less, Equal, Greater}
use Rattle.std.specs.declared.ops.Bound.TheVariants.{Unbounded}
use Rattle.std.proofs.lemmas.List.Folds.{find-append}
use Rattle.std.proofs.lemmas.Map.Keys.{sorted_head, sorted_tail}
use Rattle.bts_container.specs.declared.format.Format.{Format}
use Rattle.bts_names.specs.Keys.{key_cmp}
use Rattle.bts_names.specs.Names.{ActivityPath}
use Rattle.bts_names.specs.declared.key.Key.{Key}
use Rattle.bts_tree.proofs.Merged.{AlikeWhereGiven, merged}
use Rattle.bts_tree.proofs.Slots.{IsRising, key_self, key_total}
use Rattle.bts_tree.proofs.Awake.{awake_at, slot_where_awake}
use Rattle.bts_tree.specs.Activities.{is_ready}
use Rattle.bts_tree.specs.Indexes.{IsIndex}
use Rattle.bts_tree.specs.Keeping.{Slots, activities_in, all_of, chosen_under, first_key, flat, in_front, kept_at, processes_of}
use Rattle.bts_tree.specs.Repositories.{Place, chosen_at, chosen_of, first_behind, is_behind, place_cmp, ready_in, same_key}
use Rattle.bts_tree.specs.declared.activity.Activity.{Activity}
use Rattle.bts_tree.specs.declared.kept.Kept.{Kept}

-- ---- all processes by their keys

-- what stands in a slot further on is found behind a first one
stays_there : (e : Key × Option Kept) (whole part : Slots) → AllByRecursion (λ k. key_cmp e.0 k ≡ Less) (keys_of part) → AllByRecursion (λ d. kept_at d.0 whole ≡ d.1) part
    → AllByRecursion (λ d. kept_at d.0 (e ∷ whole) ≡ d.1) part
stays_there e whole [] l h = tt
stays_there e whole (d ∷ part) l h = (
  ap (λ b. flat (cond b (Some e.1) (lookup (same_key d.0) whole))) (ap is_eq (key_total.antisymm d.0 e.0 ∙ ap ordering_reverse l.0)) ∙ h.0,
  stays_there e whole part l.1 h.1,
)

each_there : (es : Slots) → IsRising es → AllByRecursion (λ d. kept_at d.0 es ≡ d.1) es
each_there [] s = tt
each_there (e ∷ es) s = (
  ap (λ b. flat (cond b (Some e.1) (lookup (same_key e.0) es))) (key_self e.0),
  stays_there e es es (sorted_head key_cmp e.0 (keys_of es) s) (each_there es (sorted_tail key_cmp e.0 (keys_of es) s)),
)

module _ (test : Activity → Bool) where
  by_keys : (whole part : Slots) → AllByRecursion (λ d. kept_at d.0 whole ≡ d.1) part → flat_map (chosen_of test) (processes_of part) ≡ flat_map (chosen_under test whole) (keys_of part)
  by_keys whole [] h = refl
  by_keys whole (e ∷ part) h = by e.1 ∙ ap (λ slot. chosen_at test e.0 (activities_in slot) ++ flat_map (chosen_of test) (processes_of part)) (sym h.0) ∙ ap (λ xs. chosen_under test whole e.0 ++ xs) (by_keys whole part h.1)
    where
      by : (slot : Option Kept) → flat_map (chosen_of test) (in_front e.0 slot (processes_of part)) ≡ chosen_at test e.0 (activities_in slot) ++ flat_map (chosen_of test) (processes_of part)
      by None = refl
      by (Some k) = refl

-- the kept keys give all activations that are enabled
pub ready_by_keys : (f : Format) (keys : List Key) (es : Slots) → IsIndex f keys es → IsRising es → IsStrictlySortedBy key_cmp keys → flat_map (chosen_under is_ready es) keys ≡ ready_in (all_of f es)
ready_by_keys f keys es index s rising =
    let alike : AlikeWhereGiven (chosen_under is_ready es) (keys_of es) keys = λ k g. slot_where_awake k es g ∙ sym (index.awake k (awake_at f k es s ∙ g)) in
    sym (by_keys is_ready es es (each_there es s) ∙ merged (chosen_under is_ready es) (keys_of es) keys s rising alike)

-- ---- from a key on

module _ (test : Activity → Bool) (es : Slots) (after : Option Place) where
  abbrev is_from : Key → Bool
  is_from = range_contains key_cmp (first_key after) Unbounded

  not_behind : (o p : Ordering) → (is_le o && true) ≡ false → is_lt (ordering_then o p) ≡ false
  not_behind Less p g = cc
  not_behind Equal p g = cc
  not_behind Greater p g = refl

  -- nothing of a key before it stands behind
  none_before : (key : Key) → is_from key ≡ false → (xs : List (ActivityPath × Activity)) → None ≡ first_behind place_cmp after (map (λ x. (key, x.0)) xs)
  none_before key h [] = refl
  none_before key h (x ∷ xs) = none_before key h xs ∙ sym (ap (λ b. cond b (Some (key, x.0)) (first_behind place_cmp after (map (λ y. (key, y.0)) xs))) (by after h))
    where
      by : (o : Option Place) → range_contains key_cmp (first_key o) Unbounded key ≡ false → is_behind place_cmp o (key, x.0) ≡ false
      by None h = cc
      by (Some a) h = not_behind (key_cmp a.0 key) (slice_cmp nat_cmp a.1 x.0) h

  pub from_key : (keys : List Key) → first_behind place_cmp after (flat_map (chosen_under test es) (filter is_from keys)) ≡ first_behind place_cmp after (flat_map (chosen_under test es) keys)
  from_key [] = refl
  from_key (k ∷ keys) = by (is_from k) refl (from_key keys)
    where
      here : List Place
      here = chosen_under test es k

      all : first_behind place_cmp after (here ++ flat_map (chosen_under test es) keys) ≡ option_or (first_behind place_cmp after here) (first_behind place_cmp after (flat_map (chosen_under test es) keys))
      all = find-append (is_behind place_cmp after) here (flat_map (chosen_under test es) keys)

      by : (b : Bool) → is_from k ≡ b
          → first_behind place_cmp after (flat_map (chosen_under test es) (filter is_from keys)) ≡ first_behind place_cmp after (flat_map (chosen_under test es) keys)
          → first_behind place_cmp after (flat_map (chosen_under test es) (cond b (k ∷ filter is_from keys) (filter is_from keys))) ≡ first_behind place_cmp after (here ++ flat_map (chosen_under test es) keys)
      by true h i =
          find-append (is_behind place_cmp after) here (flat_map (chosen_under test es) (filter is_from keys))
          ∙ ap (option_or (first_behind place_cmp after here)) i ∙ sym all
      by false h i =
          i
          ∙ ap (λ o. option_or o (first_behind place_cmp after (flat_map (chosen_under test es) keys))) (none_before k h (filter (λ x. test x.1) (activities_in (kept_at k es))))
          ∙ sym all
