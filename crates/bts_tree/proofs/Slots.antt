-- The processes that stand in a repository's map.
use Rattle.std.proofs.Common.{◌≡◌, Bool, true, false, not, cond, ◌&&◌, ◌||◌, List, [], ◌∷◌, ◌++◌, ℕ, refl, ap, sym, subst, ◌∙◌}
use Rattle.std.specs.Prelude.{Option, Some, None, is_some, map, nat_eq}
use Rattle.std.specs.BTreeMap.{insert_entry}
use Rattle.std.specs.Cmp.{IsTotalOrder}
use Rattle.std.specs.List.{AllByRecursion, flat_map, list_any}
use Rattle.std.specs.List.Sorted.{IsStrictlySortedBy}
use Rattle.std.specs.Map.{keys_of, lookup, set_value}
use Rattle.std.specs.Option.{option_map}
use Rattle.std.specs.Ordering.{match_ordering, is_eq, ordering_then, nat_cmp}
use Rattle.std.specs.Cmp.Lexicographic.{slice_cmp}
use Rattle.std.specs.declared.cmp.Ordering.{Ordering}
use Rattle.std.specs.declared.cmp.Ordering.TheVariants.{Less, Equal, Greater}
use Rattle.std.proofs.lemmas.Cmp.{eq_by_cmp_equiv, nat_list_cmp_total, on_total, then_total}
use Rattle.std.proofs.lemmas.Map.{NonePasses, lookup-none}
use Rattle.std.proofs.lemmas.Map.Entries.{none_past_head, none_below_head}
use Rattle.std.proofs.lemmas.Map.Keys.{sorted_head, sorted_tail, IsDistinct-from_sorted}
use Rattle.bts_names.specs.Keys.{key_cmp}
use Rattle.bts_names.proofs.Sameness.{keys_same_where_equal}
use Rattle.bts_names.specs.declared.key.Key.{Key}
use Rattle.bts_container.specs.declared.format.Format.{Format}
use Rattle.bts_container.specs.declared.format.Format.TheVariants as format
use Rattle.bts_tree.specs.Keeping.{Slots, process_of, in_front, processes_of, all_of, process_or_none, kept_of, kept_at, flat, with_slot, slots_of, slot_of, activities_in, keys_in, generation_in, raised_kept, raised_slots}
use Rattle.bts_tree.specs.Processes.{Process, no_process}
use Rattle.bts_tree.specs.Repositories.{same_key, is_defined, found_or, process_at, placed_by_key, without_key, with_process, chosen_of, chosen_at, due_of, due_among, rows_of, row_of, raised_process, raised_all}
use Rattle.bts_tree.specs.Scopes.{HeldProcess}
use Rattle.bts_tree.specs.declared.activity.Activity.{Activity}
use Rattle.bts_tree.specs.declared.kept.Kept.{Kept}

-- ---- keys

pub key_total : IsTotalOrder key_cmp
key_total = then_total (on_total (λ (k : Key). k.ptype) nat_list_cmp_total) (on_total (λ (k : Key). k.pname) nat_list_cmp_total)

pub key_self : (key : Key) → same_key key key ≡ true
key_self key = (eq_by_cmp_equiv key_total).refl key

equal_parts : (o p : Ordering) → is_eq (ordering_then o p) ≡ (is_eq o && is_eq p)
equal_parts Less p = refl
equal_parts Equal p = refl
equal_parts Greater p = refl

pub same_key_exact : (a b : Key) → same_key a b ≡ true → a ≡ b
same_key_exact a b h = (keys_same_where_equal a b).0 (sym (equal_parts (slice_cmp nat_cmp a.ptype b.ptype) (slice_cmp nat_cmp a.pname b.pname)) ∙ h)

-- the keys of a map stand in order
abbrev pub IsRising : Slots → Type 0
IsRising es = IsStrictlySortedBy key_cmp (keys_of es)

-- no slot has the key
abbrev pub HasNone : Key → Slots → Type 0
HasNone key es = NonePasses (same_key key) es

pub past_head : (key : Key) (e : Key × Option Kept) (es : Slots) → IsRising (e ∷ es) → same_key key e.0 ≡ true → HasNone key es
past_head key e es s h = none_past_head (eq_by_cmp_equiv key_total) key e es (IsDistinct-from_sorted key_cmp _ s) h

-- ---- what stands under a key

module _ (f : Format) (key : Key) where
  abbrev found_in : List Process → Process
  found_in ss = found_or (no_process f key) key ss

  none_at : (es : Slots) → HasNone key es → found_in (processes_of es) ≡ no_process f key
  none_at [] n = refl
  none_at (e ∷ es) n = by e.1 (none_at es n.1)
    where
      by : (slot : Option Kept) → found_in (processes_of es) ≡ no_process f key → found_in (in_front e.0 slot (processes_of es)) ≡ no_process f key
      by None i = i
      by (Some k) i = ap (λ b. cond b (process_of e.0 k) (found_in (processes_of es))) n.0 ∙ i

  pub found_at : (es : Slots) → IsRising es → process_at key (all_of f es) ≡ process_or_none f key (kept_at key es)
  found_at [] s = refl
  found_at (e ∷ es) s = by e.1 (same_key key e.0) refl (found_at es (sorted_tail key_cmp e.0 (keys_of es) s))
    where
      by : (slot : Option Kept) (b : Bool) → same_key key e.0 ≡ b → found_in (processes_of es) ≡ process_or_none f key (kept_at key es)
          → found_in (in_front e.0 slot (processes_of es)) ≡ process_or_none f key (flat (cond b (Some slot) (lookup (same_key key) es)))
      by None true h i = none_at es (past_head key e es s h)
      by None false h i = i
      by (Some k) true h i = ap (λ b. cond b (process_of e.0 k) (found_in (processes_of es))) h ∙ ap (λ x. process_of x k) (sym (same_key_exact key e.0 h))
      by (Some k) false h i = ap (λ b. cond b (process_of e.0 k) (found_in (processes_of es))) h ∙ i

  abbrev is_in : List Process → Bool
  is_in ss = list_any (same_key key) (map (λ s. s.key) ss)

  none_defined : (es : Slots) → HasNone key es → is_in (processes_of es) ≡ false
  none_defined [] n = refl
  none_defined (e ∷ es) n = by e.1 (none_defined es n.1)
    where
      by : (slot : Option Kept) → is_in (processes_of es) ≡ false → is_in (in_front e.0 slot (processes_of es)) ≡ false
      by None i = i
      by (Some k) i = ap (λ b. b || is_in (processes_of es)) n.0 ∙ i

  pub defined_at : (es : Slots) → IsRising es → is_defined key (all_of f es) ≡ is_some (kept_at key es)
  defined_at [] s = refl
  defined_at (e ∷ es) s = by e.1 (same_key key e.0) refl (defined_at es (sorted_tail key_cmp e.0 (keys_of es) s))
    where
      by : (slot : Option Kept) (b : Bool) → same_key key e.0 ≡ b → is_in (processes_of es) ≡ is_some (kept_at key es)
          → is_in (in_front e.0 slot (processes_of es)) ≡ is_some (flat (cond b (Some slot) (lookup (same_key key) es)))
      by None true h i = none_defined es (past_head key e es s h)
      by None false h i = i
      by (Some k) true h i = ap (λ b. b || is_in (processes_of es)) h
      by (Some k) false h i = ap (λ b. b || is_in (processes_of es)) h ∙ i

-- ---- a slot that is written

nothing_without : (key : Key) (es : Slots) → HasNone key es → without_key key (processes_of es) ≡ processes_of es
nothing_without key [] n = refl
nothing_without key (e ∷ es) n = by e.1 (nothing_without key es n.1)
  where
    by : (slot : Option Kept) → without_key key (processes_of es) ≡ processes_of es → without_key key (in_front e.0 slot (processes_of es)) ≡ in_front e.0 slot (processes_of es)
    by None i = i
    by (Some k) i =
        ap (λ b. cond (not b) (process_of e.0 k ∷ without_key key (processes_of es)) (without_key key (processes_of es))) n.0 ∙ ap (λ ps. process_of e.0 k ∷ ps) i

-- without a process
emptied_slots : (key : Key) (es : Slots) → IsRising es → processes_of (set_value (same_key key) es None) ≡ without_key key (processes_of es)
emptied_slots key [] s = refl
emptied_slots key (e ∷ es) s = by e.1 (same_key key e.0) refl (emptied_slots key es (sorted_tail key_cmp e.0 (keys_of es) s))
  where
    by : (slot : Option Kept) (b : Bool) → same_key key e.0 ≡ b → processes_of (set_value (same_key key) es None) ≡ without_key key (processes_of es)
        → processes_of (cond b ((e.0, None) ∷ es) ((e.0, slot) ∷ set_value (same_key key) es None)) ≡ without_key key (in_front e.0 slot (processes_of es))
    by None true h i = sym (nothing_without key es (past_head key e es s h))
    by None false h i = i
    by (Some k) true h i =
        sym
        (ap (λ b. cond (not b) (process_of e.0 k ∷ without_key key (processes_of es)) (without_key key (processes_of es))) h
        ∙ nothing_without key es (past_head key e es s h))
    by (Some k) false h i =
        ap (λ ps. process_of e.0 k ∷ ps) i
        ∙ sym (ap (λ b. cond (not b) (process_of e.0 k ∷ without_key key (processes_of es)) (without_key key (processes_of es))) h)

placed_front : (s : Process) (es : Slots) → AllByRecursion (λ y. key_cmp s.key y ≡ Less) (keys_of es) → placed_by_key s (processes_of es) ≡ s ∷ processes_of es
placed_front s [] all = refl
placed_front s (e ∷ es) all = by e.1 (placed_front s es all.1)
  where
    by : (slot : Option Kept) → placed_by_key s (processes_of es) ≡ s ∷ processes_of es → placed_by_key s (in_front e.0 slot (processes_of es)) ≡ s ∷ in_front e.0 slot (processes_of es)
    by None i = i
    by (Some k) i =
        ap (λ o. match_ordering o (s ∷ process_of e.0 k ∷ processes_of es) (s ∷ processes_of es) (process_of e.0 k ∷ placed_by_key s (processes_of es))) all.0

-- the key of a slot that is there stands before none of them
not_below : (key : Key) (e : Key × Option Kept) (es : Slots) → IsRising (e ∷ es) → is_some (lookup (same_key key) (e ∷ es)) ≡ true → key_cmp key e.0 ≡ Less → {A : Type 0} → A
not_below key e es s i h =
    let none = lookup-none (same_key key) (e ∷ es) (none_below_head key_total key e es s h) in
    let lost : false ≡ true = sym (ap is_some none) ∙ i in
    cc

-- with one
filled_slots : (s : Process) (es : Slots) → IsRising es → is_some (lookup (same_key s.key) es) ≡ true
    → processes_of (set_value (same_key s.key) es (Some (kept_of s))) ≡ placed_by_key s (processes_of es)
filled_slots s [] r i = cc
filled_slots s (e ∷ es) r i = by e.1 (key_cmp s.key e.0) refl i (λ j. filled_slots s es (sorted_tail key_cmp e.0 (keys_of es) r) j)
  where
    by : (slot : Option Kept) (o : Ordering) → key_cmp s.key e.0 ≡ o → is_some (cond (is_eq o) (Some slot) (lookup (same_key s.key) es)) ≡ true
        → (is_some (lookup (same_key s.key) es) ≡ true → processes_of (set_value (same_key s.key) es (Some (kept_of s))) ≡ placed_by_key s (processes_of es))
        → processes_of (cond (is_eq o) ((e.0, Some (kept_of s)) ∷ es) ((e.0, slot) ∷ set_value (same_key s.key) es (Some (kept_of s)))) ≡ placed_by_key s (in_front e.0 slot (processes_of es))
    by slot Less h j next = not_below s.key e es r i h
    by None Equal h j next =
        let same : s.key ≡ e.0 = same_key_exact s.key e.0 (ap is_eq h) in
        ap (λ k. process_of k (kept_of s) ∷ processes_of es) (sym same)
        ∙ sym (placed_front s es (subst (λ k. AllByRecursion (λ y. key_cmp k y ≡ Less) (keys_of es)) (sym same) (sorted_head key_cmp e.0 (keys_of es) r)))
    by (Some k) Equal h j next =
        let same : s.key ≡ e.0 = same_key_exact s.key e.0 (ap is_eq h) in
        ap (λ k. process_of k (kept_of s) ∷ processes_of es) (sym same)
        ∙ sym (ap (λ o. match_ordering o (s ∷ process_of e.0 k ∷ processes_of es) (s ∷ processes_of es) (process_of e.0 k ∷ placed_by_key s (processes_of es))) h)
    by None Greater h j next = next j
    by (Some k) Greater h j next =
        ap (λ ps. process_of e.0 k ∷ ps) (next j)
        ∙ sym (ap (λ o. match_ordering o (s ∷ process_of e.0 k ∷ processes_of es) (s ∷ processes_of es) (process_of e.0 k ∷ placed_by_key s (processes_of es))) h)

pub put_slots : (s : Process) (es : Slots) → IsRising es → is_some (lookup (same_key s.key) es) ≡ true → processes_of (set_value (same_key s.key) es (slot_of s)) ≡ with_process s (processes_of es)
put_slots s es r i = by (nat_eq s.generation 0)
  where
    by : (b : Bool) → processes_of (set_value (same_key s.key) es (cond b None (Some (kept_of s)))) ≡ cond b (without_key s.key (processes_of es)) (placed_by_key s (processes_of es))
    by true = emptied_slots s.key es r
    by false = filled_slots s es r i

-- ---- room

slots_new : (key : Key) (es : Slots) → is_some (lookup (same_key key) es) ≡ false → processes_of (insert_entry key_cmp es key None) ≡ processes_of es
slots_new key [] n = refl
slots_new key (e ∷ es) n = by e.1 (key_cmp key e.0) n (slots_new key es)
  where
    by : (slot : Option Kept) (o : Ordering) → is_some (cond (is_eq o) (Some slot) (lookup (same_key key) es)) ≡ false
        → (is_some (lookup (same_key key) es) ≡ false → processes_of (insert_entry key_cmp es key None) ≡ processes_of es)
        → processes_of (match_ordering o ((key, None) ∷ (e.0, slot) ∷ es) ((e.0, None) ∷ es) ((e.0, slot) ∷ insert_entry key_cmp es key None)) ≡ in_front e.0 slot (processes_of es)
    by slot Less j next = refl
    by slot Equal j next = cc
    by None Greater j next = next j
    by (Some k) Greater j next = ap (λ ps. process_of e.0 k ∷ ps) (next j)

-- a slot more holds nothing
pub slots_roomed : (key : Key) (es : Slots) → processes_of (with_slot key es) ≡ processes_of es
slots_roomed key es = by (is_some (lookup (same_key key) es)) refl
  where
    by : (b : Bool) → is_some (lookup (same_key key) es) ≡ b → processes_of (cond b es (insert_entry key_cmp es key None)) ≡ processes_of es
    by true h = refl
    by false h = slots_new key es h

-- ---- a map made of processes

pub processes_of_slots : (ss : List Process) → processes_of (slots_of ss) ≡ ss
processes_of_slots [] = refl
processes_of_slots (s ∷ ss) = ap (λ ps. s ∷ ps) (processes_of_slots ss)

-- ---- the first slot, and the others

pub keys_front : (key : Key) (slot : Option Kept) (ss : List Process) → map (λ s. s.key) (in_front key slot ss) ≡ keys_in key slot ++ map (λ s. s.key) ss
keys_front key None ss = refl
keys_front key (Some k) ss = refl

pub chosen_front : (test : Activity → Bool) (key : Key) (slot : Option Kept) (ss : List Process)
    → flat_map (chosen_of test) (in_front key slot ss) ≡ chosen_at test key (activities_in slot) ++ flat_map (chosen_of test) ss
chosen_front test key None ss = refl
chosen_front test key (Some k) ss = refl

pub due_front : (now : ℕ) (key : Key) (slot : Option Kept) (ss : List Process) → flat_map (due_of now) (in_front key slot ss) ≡ due_among now key (activities_in slot) ++ flat_map (due_of now) ss
due_front now key None ss = refl
due_front now key (Some k) ss = refl

pub rows_front : (key : Key) (slot : Option Kept) (ss : List Process) → flat_map rows_of (in_front key slot ss) ≡ map (row_of key (generation_in slot)) (activities_in slot) ++ flat_map rows_of ss
rows_front key None ss = refl
rows_front key (Some k) ss = refl

-- the keys of the slots that are made of scopes
pub keys_of_held : (hs : List HeldProcess) → keys_of (slots_of (map (λ h. h.process) hs)) ≡ map (λ h. h.process.key) hs
keys_of_held [] = refl
keys_of_held (h ∷ hs) = ap (λ ks. h.process.key ∷ ks) (keys_of_held hs)

-- ---- in the second format

raised_front : (key : Key) (slot : Option Kept) (es : Slots) → processes_of (raised_slots es) ≡ map raised_process (processes_of es)
    → in_front key (option_map raised_kept slot) (processes_of (raised_slots es)) ≡ map raised_process (in_front key slot (processes_of es))
raised_front key None es i = i
raised_front key (Some k) es i = ap (λ ss. raised_process (process_of key k) ∷ ss) i

raised_each : (es : Slots) → processes_of (raised_slots es) ≡ map raised_process (processes_of es)
raised_each [] = refl
raised_each (e ∷ es) = raised_front e.0 e.1 es (raised_each es)

pub all_raised : (f : Format) (es : Slots) → all_of format.Two (raised_slots es) ≡ raised_all (all_of f es)
all_raised f es = λ i. record { format = format.Two; items = raised_each es i }
