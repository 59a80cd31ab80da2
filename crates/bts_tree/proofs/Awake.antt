-- Which processes have an activation to run, and what the kept keys say of them behind each change.
use Rattle.std.proofs.Common.{◌≡◌, Bool, true, false, not, ◌&&◌, ◌||◌, cond, List, [], ◌∷◌, Option, None, Some, is_some, map, refl, sym, ap, subst, ◌∙◌}
use Rattle.std.proofs.Math.Bool.{and-false, and-true, or-false}
use Rattle.std.specs.BTreeMap.{insert_entry}
use Rattle.std.specs.BTreeSet.{insert_key}
use Rattle.std.specs.List.{filter}
use Rattle.std.specs.List.Sorted.{IsStrictlySortedBy}
use Rattle.std.specs.Map.{keys_of, lookup, set_value}
use Rattle.std.specs.Option.{option_map, unwrap_or}
use Rattle.std.specs.Ordering.{match_ordering}
use Rattle.std.specs.declared.cmp.Ordering.{Ordering}
use Rattle.std.specs.declared.cmp.Ordering.TheVariants.{Less, Equal, Greater}
use Rattle.std.proofs.lemmas.Cmp.{eq_by_cmp_equiv}
use Rattle.std.proofs.lemmas.Map.{keys-set_value, lookup-set_value}
use Rattle.std.proofs.lemmas.Map.Keys.{sorted_tail}
use Rattle.std.proofs.lemmas.Map.Views.{any-filter_same}
use Rattle.bts_container.specs.declared.format.Format.{Format}
use Rattle.bts_container.specs.declared.format.Format.TheVariants as format
use Rattle.bts_names.specs.Keys.{key_cmp}
use Rattle.bts_names.specs.declared.key.Key.{Key}
use Rattle.bts_tree.proofs.Keys.{has_more, has_new, or_second, turned_other, turned_same}
use Rattle.bts_tree.proofs.Slots.{HasNone, IsRising, found_at, key_total, past_head, same_key_exact, slots_roomed}
use Rattle.bts_tree.specs.Activities.{Activities, is_ready}
use Rattle.bts_tree.specs.Indexes.{IsIndex, has_key, is_any_awake, is_awake, is_slot_awake, is_still_kept}
use Rattle.bts_tree.specs.Keeping.{Slots, all_of, flat, kept_at, process_or_none, raised_kept, raised_slots, slot_of, stored_in, with_slot}
use Rattle.bts_tree.specs.Processes.{Process, activities}
use Rattle.bts_tree.specs.Repositories.{Place, chosen_at, raised_activity, raised_tree, same_key}
use Rattle.bts_tree.specs.Scopes.{is_empty}
use Rattle.bts_tree.specs.declared.kept.Kept.{Kept}

-- ---- which processes have an activation to run

-- it is read in the slot of the key
pub awake_at : (f : Format) (key : Key) (es : Slots) → IsRising es → is_awake key (all_of f es) ≡ is_slot_awake key (kept_at key es)
awake_at f key es s = ap (λ (t : Process). not (is_empty (chosen_at is_ready key (activities t)))) (found_at f key es s) ∙ by (kept_at key es)
  where
    by : (slot : Option Kept) → not (is_empty (chosen_at is_ready key (activities (process_or_none f key slot)))) ≡ is_slot_awake key slot
    by None = refl
    by (Some k) = refl

none_awake : (key : Key) (es : Slots) → HasNone key es → is_any_awake key es ≡ false
none_awake key [] n = refl
none_awake key (e ∷ es) n = ap (λ b. (b && is_slot_awake e.0 e.1) || is_any_awake key es) n.0 ∙ none_awake key es n.1

pub any_awake : (key : Key) (es : Slots) → IsRising es → is_any_awake key es ≡ is_slot_awake key (kept_at key es)
any_awake key [] s = refl
any_awake key (e ∷ es) s = by (same_key key e.0) refl (any_awake key es (sorted_tail key_cmp e.0 (keys_of es) s))
  where
    by : (b : Bool) → same_key key e.0 ≡ b → is_any_awake key es ≡ is_slot_awake key (kept_at key es)
        → ((b && is_slot_awake e.0 e.1) || is_any_awake key es) ≡ is_slot_awake key (flat (cond b (Some e.1) (lookup (same_key key) es)))
    by true h i = ap (λ c. is_slot_awake e.0 e.1 || c) (none_awake key es (past_head key e es s h)) ∙ or-false (is_slot_awake e.0 e.1) ∙ ap (λ k. is_slot_awake k e.1) (sym (same_key_exact key e.0 h))
    by false h i = i

-- a process with one has a slot
pub slot_where_awake : (key : Key) (es : Slots) → is_slot_awake key (kept_at key es) ≡ true → has_key key (keys_of es) ≡ true
slot_where_awake key [] a = cc
slot_where_awake key (e ∷ es) a = by (same_key key e.0) a (slot_where_awake key es)
  where
    by : (b : Bool) → is_slot_awake key (flat (cond b (Some e.1) (lookup (same_key key) es))) ≡ true → (is_slot_awake key (kept_at key es) ≡ true → has_key key (keys_of es) ≡ true)
        → (b || has_key key (keys_of es)) ≡ true
    by true g i = refl
    by false g i = i g

-- one key more that has
pub added_awake : (key k : Key) (slot : Option Kept) (keys now : List Key) → has_key k now ≡ cond (same_key key k) true (has_key k keys) → is_slot_awake key slot ≡ true
    → has_key k now ≡ (has_key k keys || (same_key k key && is_slot_awake key slot))
added_awake key k slot keys now u a = u ∙ by (same_key key k) refl
  where
    by : (b : Bool) → same_key key k ≡ b → cond b true (has_key k keys) ≡ (has_key k keys || (same_key k key && is_slot_awake key slot))
    by true e = sym (or_second (has_key k keys) _ (ap (λ c. c && is_slot_awake key slot) (turned_same key k e) ∙ a))
    by false e = sym (ap (λ c. has_key k keys || (c && is_slot_awake key slot)) (turned_other key k e) ∙ or-false (has_key k keys))

-- ---- slots

pub there_from_key : (key : Key) (es : Slots) → has_key key (keys_of es) ≡ true → is_some (lookup (same_key key) es) ≡ true
there_from_key key [] h = cc
there_from_key key (e ∷ es) h = by (same_key key e.0) h (there_from_key key es)
  where
    by : (b : Bool) → (b || has_key key (keys_of es)) ≡ true → (has_key key (keys_of es) ≡ true → is_some (lookup (same_key key) es) ≡ true)
        → is_some (cond b (Some e.1) (lookup (same_key key) es)) ≡ true
    by true h next = refl
    by false h next = next h

key_from_there : (key : Key) (es : Slots) → is_some (lookup (same_key key) es) ≡ true → has_key key (keys_of es) ≡ true
key_from_there key [] h = cc
key_from_there key (e ∷ es) h = by (same_key key e.0) h (key_from_there key es)
  where
    by : (b : Bool) → is_some (cond b (Some e.1) (lookup (same_key key) es)) ≡ true → (is_some (lookup (same_key key) es) ≡ true → has_key key (keys_of es) ≡ true)
        → (b || has_key key (keys_of es)) ≡ true
    by true h next = refl
    by false h next = next h

keys_more : (key : Key) (slot : Option Kept) (es : Slots) → keys_of (insert_entry key_cmp es key slot) ≡ insert_key key_cmp (keys_of es) key
keys_more key slot [] = refl
keys_more key slot (e ∷ es) = by (key_cmp key e.0) (keys_more key slot es)
  where
    by : (o : Ordering) → keys_of (insert_entry key_cmp es key slot) ≡ insert_key key_cmp (keys_of es) key
        → keys_of (match_ordering o ((key, slot) ∷ e ∷ es) ((e.0, slot) ∷ es) (e ∷ insert_entry key_cmp es key slot))
        ≡ match_ordering o (key ∷ e.0 ∷ keys_of es) (e.0 ∷ keys_of es) (e.0 ∷ insert_key key_cmp (keys_of es) key)
    by Less i = refl
    by Equal i = refl
    by Greater i = ap (λ ks. e.0 ∷ ks) i

slot_stays : (key new : Key) (es : Slots) → has_key key (keys_of es) ≡ true → has_key key (keys_of (with_slot new es)) ≡ true
slot_stays key new es h = by (is_some (lookup (same_key new) es))
  where
    by : (b : Bool) → has_key key (keys_of (cond b es (insert_entry key_cmp es new None))) ≡ true
    by true = h
    by false = ap (has_key key) (keys_more new None es) ∙ has_more key new (keys_of es) h

pub slot_made : (key : Key) (es : Slots) → has_key key (keys_of (with_slot key es)) ≡ true
slot_made key es = by (is_some (lookup (same_key key) es)) refl
  where
    by : (b : Bool) → is_some (lookup (same_key key) es) ≡ b → has_key key (keys_of (cond b es (insert_entry key_cmp es key None))) ≡ true
    by true h = key_from_there key es h
    by false h = ap (has_key key) (keys_more key None es) ∙ has_new key (keys_of es)

-- ---- in the second format

keys_raised : (es : Slots) → keys_of (raised_slots es) ≡ keys_of es
keys_raised [] = refl
keys_raised (e ∷ es) = ap (λ ks. e.0 ∷ ks) (keys_raised es)

kept_raised : (key : Key) (es : Slots) → kept_at key (raised_slots es) ≡ option_map raised_kept (kept_at key es)
kept_raised key [] = refl
kept_raised key (e ∷ es) = by (same_key key e.0) (kept_raised key es)
  where
    by : (b : Bool) → kept_at key (raised_slots es) ≡ option_map raised_kept (kept_at key es)
        → flat (cond b (Some (option_map raised_kept e.1)) (lookup (same_key key) (raised_slots es))) ≡ option_map raised_kept (flat (cond b (Some e.1) (lookup (same_key key) es)))
    by true i = refl
    by false i = i

ready_raised : (key : Key) (t : Activities) → chosen_at is_ready key (raised_tree t) ≡ chosen_at is_ready key t
ready_raised key [] = refl
ready_raised key (x ∷ t) = by (is_ready x.1) (ready_raised key t)
  where
    by : (b : Bool) → chosen_at is_ready key (raised_tree t) ≡ chosen_at is_ready key t
        → map {B = Place} (λ y. (key, y.0)) (cond b ((x.0, raised_activity x.1) ∷ filter (λ z. is_ready z.1) (raised_tree t)) (filter (λ z. is_ready z.1) (raised_tree t)))
        ≡ map {B = Place} (λ y. (key, y.0)) (cond b (x ∷ filter (λ z. is_ready z.1) t) (filter (λ z. is_ready z.1) t))
    by true i = ap (λ ps. (key, x.0) ∷ ps) i
    by false i = i

awake_raised : (key : Key) (slot : Option Kept) → is_slot_awake key (option_map raised_kept slot) ≡ is_slot_awake key slot
awake_raised key None = refl
awake_raised key (Some k) = by k.tree
  where
    by : (o : Option Activities) → not (is_empty (chosen_at is_ready key (unwrap_or (option_map raised_tree o) []))) ≡ not (is_empty (chosen_at is_ready key (unwrap_or o [])))
    by None = refl
    by (Some t) = ap (λ ps. not (is_empty ps)) (ready_raised key t)

-- ---- the kept keys behind each change

-- those of the processes that have something to run
pub made_index : (f : Format) (keys : List Key) (es : Slots) → IsRising es → ((key : Key) → has_key key keys ≡ is_any_awake key es) → IsIndex f keys es
made_index f keys es s u = record {
  awake = λ key a. u key ∙ any_awake key es s ∙ sym (awake_at f key es s) ∙ a;
  slots = λ key h. slot_where_awake key es (sym (any_awake key es s) ∙ sym (u key) ∙ h);
}

module _ (f : Format) (keys : List Key) (es : Slots) (index : IsIndex f keys es) where
  -- there is a slot more
  pub more_room : (new : Key) → IsIndex f keys (with_slot new es)
  more_room new = record {
    awake = λ key a. index.awake key (ap (λ ss. is_awake key (record { format = f; items = ss })) (sym (slots_roomed new es)) ∙ a);
    slots = λ key h. slot_stays key new es (index.slots key h);
  }

  module _ (new : Key) (now : List Key) where
    -- one key more, for which there is a slot
    pub one_more : ((key : Key) → has_key key now ≡ cond (same_key new key) true (has_key key keys)) → has_key new (keys_of es) ≡ true → IsIndex f now es
    one_more u there = record { awake = λ key a. u key ∙ stays (same_key new key) (has_key key keys) (index.awake key a); slots = λ key h. slot key (same_key new key) refl (sym (u key) ∙ h) }
      where
        stays : (b c : Bool) → c ≡ true → cond b true c ≡ true
        stays true c h = refl
        stays false c h = h

        slot : (key : Key) (b : Bool) → same_key new key ≡ b → cond b true (has_key key keys) ≡ true → has_key key (keys_of es) ≡ true
        slot key true e g = ap (λ k. has_key k (keys_of es)) (sym (same_key_exact new key e)) ∙ there
        slot key false e g = index.slots key g

    -- without the key of a process that has nothing to run
    pub one_less : ((key : Key) → has_key key now ≡ cond (same_key new key) false (has_key key keys)) → is_awake new (all_of f es) ≡ false → IsIndex f now es
    one_less u idle = record { awake = λ key a. u key ∙ stays key (same_key new key) refl a; slots = λ key h. index.slots key (was (same_key new key) (has_key key keys) (sym (u key) ∙ h)) }
      where
        stays : (key : Key) (b : Bool) → same_key new key ≡ b → is_awake key (all_of f es) ≡ true → cond b false (has_key key keys) ≡ true
        stays key true e a = let same = ap (λ k. is_awake k (all_of f es)) (same_key_exact new key e) in let no : true ≡ false = sym a ∙ sym same ∙ idle in cc
        stays key false e a = index.awake key a

        was : (b c : Bool) → cond b false c ≡ true → c ≡ true
        was true c h = cc
        was false c h = h

  module _ (s : IsRising es) where
    -- in the second format
    pub raised_index : IsIndex format.Two keys (raised_slots es)
    raised_index = record {
      awake = λ key a. index.awake key (awake_at f key es s ∙ sym (awake_raised key (kept_at key es)) ∙ ap (is_slot_awake key) (sym (kept_raised key es)) ∙ sym (awake_at format.Two key (raised_slots es) rises) ∙ a);
      slots = λ key h. ap (has_key key) (keys_raised es) ∙ index.slots key h;
    }
      where
        rises : IsRising (raised_slots es)
        rises = subst (λ ks. IsStrictlySortedBy key_cmp ks) (sym (keys_raised es)) s

    -- without all keys of processes that have nothing to run
    pub awake_alone : (key : Key) → has_key key (filter (λ k. is_slot_awake k (kept_at k es)) keys) ≡ is_awake key (all_of f es)
    awake_alone key =
        any-filter_same (same_key key) (λ k. is_slot_awake k (kept_at k es)) (is_slot_awake key (kept_at key es)) (λ k h. ap (λ z. is_slot_awake z (kept_at z es)) (sym (same_key_exact key k h))) keys
        ∙ by (is_slot_awake key (kept_at key es)) refl
      where
        by : (b : Bool) → is_slot_awake key (kept_at key es) ≡ b → (b && has_key key keys) ≡ is_awake key (all_of f es)
        by true h = let a = awake_at f key es s ∙ h in index.awake key a ∙ sym a
        by false h = sym (awake_at f key es s ∙ h)

    pub less_idle : IsIndex f (filter (λ k. is_slot_awake k (kept_at k es)) keys) es
    less_idle = record { awake = λ key a. awake_alone key ∙ a; slots = λ key h. slot_where_awake key es (sym (awake_at f key es s) ∙ sym (awake_alone key) ∙ h) }

    -- what is put under a key that is kept
    pub put_under : (new : Process) → has_key new.key keys ≡ true → IsIndex f keys (set_value (same_key new.key) es (slot_of new))
    put_under new kept = record {
      awake = λ key a. by key (same_key new.key key) refl (sym (awake_at f key (set_value (same_key new.key) es (slot_of new)) rising) ∙ a);
      slots = λ key h. ap (has_key key) (keys-set_value (same_key new.key) es (slot_of new)) ∙ index.slots key h;
    }
      where
        rising : IsRising (set_value (same_key new.key) es (slot_of new))
        rising = subst (λ ks. IsStrictlySortedBy key_cmp ks) (sym (keys-set_value (same_key new.key) es (slot_of new))) s

        found : (key : Key) → lookup (same_key key) (set_value (same_key new.key) es (slot_of new)) ≡ cond (same_key new.key key) (Some (slot_of new)) (lookup (same_key key) es)
        found key = lookup-set_value (eq_by_cmp_equiv key_total) (same_key new.key) (λ x y h. ap (λ k. same_key k y) (same_key_exact new.key x h)) key (slot_of new) es (there_from_key new.key es (index.slots new.key kept))

        by : (key : Key) (b : Bool) → same_key new.key key ≡ b → is_slot_awake key (kept_at key (set_value (same_key new.key) es (slot_of new))) ≡ true → has_key key keys ≡ true
        by key true e a = ap (λ k. has_key k keys) (sym (same_key_exact new.key key e)) ∙ kept
        by key false e a = index.awake key (awake_at f key es s ∙ sym (ap (λ o. is_slot_awake key (flat o)) (found key ∙ ap (λ b. cond b (Some (slot_of new)) (lookup (same_key key) es)) e)) ∙ a)

-- ---- which keys are still kept where one is given up

module _ (f : Format) (key k : Key) (keys : List Key) (es : Slots) where
  -- its process has nothing to run
  pub kept_but_for : (now : List Key) → has_key k now ≡ cond (same_key key k) false (has_key k keys) → is_awake key (all_of f es) ≡ false → has_key k now ≡ is_still_kept key (stored_in f keys es) k
  kept_but_for now u idle = u ∙ by (same_key key k) refl
    where
      by : (b : Bool) → same_key key k ≡ b → cond b false (has_key k keys) ≡ (has_key k keys && (not b || is_awake k (all_of f es)))
      by true e = sym (ap (λ a. has_key k keys && a) (sym (ap (λ z. is_awake z (all_of f es)) (same_key_exact key k e)) ∙ idle) ∙ and-false (has_key k keys))
      by false e = sym (and-true (has_key k keys))

  -- and where it has something
  pub all_kept : is_awake key (all_of f es) ≡ true → has_key k keys ≡ is_still_kept key (stored_in f keys es) k
  all_kept awake = by (same_key key k) refl
    where
      by : (b : Bool) → same_key key k ≡ b → has_key k keys ≡ (has_key k keys && (not b || is_awake k (all_of f es)))
      by true e = sym (ap (λ a. has_key k keys && a) (sym (ap (λ z. is_awake z (all_of f es)) (same_key_exact key k e)) ∙ awake) ∙ and-true (has_key k keys))
      by false e = sym (and-true (has_key k keys))
