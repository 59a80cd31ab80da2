-- An activity at a free path: the path is saved and has a slot, and then it stands there.
use Rattle.std.proofs.Common.{◌≡◌, ◌≤◌, ◌+◌, ℕ, Bool, true, false, cond, List, [], ◌∷◌, drop, length, refl, ap, sym, subst, subst₂, ◌∙◌, ◌⊎◌, ⊎_elim, inl, inr}
use Rattle.std.specs.Prelude.{Option, Some, None, is_some, IsSome, IfSome}
use Rattle.std.specs.BTreeMap.{insert_entry}
use Rattle.std.specs.List.{AllByRecursion}
use Rattle.std.specs.Option.{option_map}
use Rattle.std.specs.Ordering.{nat_cmp, match_ordering, is_eq}
use Rattle.std.specs.Cmp.Lexicographic.{slice_cmp}
use Rattle.std.specs.declared.cmp.Ordering.{Ordering}
use Rattle.std.specs.declared.cmp.Ordering.TheVariants.{Less, Equal, Greater}
use Rattle.std.proofs.lemmas.Cmp.{eq_by_cmp_equiv, nat_list_cmp_total}
use Rattle.bts_names.specs.Names.{ActivityPath, same}
use Rattle.bts_names.specs.Named.{lookup, is_there, in_order}
use Rattle.bts_names.specs.declared.key.Key.{Key}
use Rattle.bts_tree.specs.Activities.{Activities}
use Rattle.bts_tree.specs.Processes.{Process, activity_at, added, planted}
use Rattle.bts_tree.specs.declared.activity.Activity.{Activity}
use Rattle.bts_tree.specs.Olds.{Olds, process_in, back, own_back, undone_to, paths_of, saved_between, last_of, saved_in, shown, IsUndo, FitsSlots, kept_maybe, has_old}
use Rattle.bts_tree.specs.Scopes.{HeldProcess, holding, saving, with_more, AreAmong}
use Rattle.bts_tree.specs.Slots.{Slots, filled, mapped, put_at, roomed}
use Rattle.bts_tree.specs.declared.old.Own.{Own}
use Rattle.bts_tree.proofs.Slotted.{IsRising, filled_more, filled_put}
use Rattle.bts_tree.proofs.Undone.{back_more, none_there, fits_dropped}
use Rattle.bts_tree.proofs.Marked.{marks_alike}
use Rattle.bts_tree.proofs.Saved.{shown_one, undo_kept_one, all_saved_then, last_place_within}
use Rattle.bts_tree.proofs.Changed.{shown_changed, changed_process, there_planted, put_saved, saved_one, undo_changed}

-- the process with these activities, where it has a tree
abbrev tree_of : Key → Own → Activities → Process
tree_of key w tree = record { key = key; generation = w.generation; tree = cond w.planted (Some tree) None; containers = w.containers }

-- ---- a slot more

module _ (p : ActivityPath) where
  here : (b : Bool) (x : Option Activity) (es : Slots) → b ≡ true → is_some (cond b (Some x) (lookup p es)) ≡ true
  here true x es h = refl
  here false x es h = cc

  there : (b : Bool) (x : Option Activity) (es : Slots) → is_there p es ≡ true → is_some (cond b (Some x) (lookup p es)) ≡ true
  there true x es h = refl
  there false x es h = h

room_at : (p : ActivityPath) (es : Slots) → is_there p (insert_entry (slice_cmp nat_cmp) es p None) ≡ true
room_at p [] = here p (same p p) None [] ((eq_by_cmp_equiv nat_list_cmp_total).refl p)
room_at p (e ∷ es) = by (slice_cmp nat_cmp p e.0) refl (room_at p es)
  where
    by : (o : Ordering) → slice_cmp nat_cmp p e.0 ≡ o → is_there p (insert_entry (slice_cmp nat_cmp) es p None) ≡ true
        → is_there p (match_ordering o ((p, None) ∷ e ∷ es) ((e.0, None) ∷ es) (e ∷ insert_entry (slice_cmp nat_cmp) es p None)) ≡ true
    by Less h i = here p (same p p) None (e ∷ es) ((eq_by_cmp_equiv nat_list_cmp_total).refl p)
    by Equal h i = here p (same p e.0) None es (ap is_eq h)
    by Greater h i = there p (same p e.0) e.1 (insert_entry (slice_cmp nat_cmp) es p None) i

still_there : (q p : ActivityPath) (es : Slots) → is_there q es ≡ true → is_there q (insert_entry (slice_cmp nat_cmp) es p None) ≡ true
still_there q p [] h = cc
still_there q p (e ∷ es) h = by (slice_cmp nat_cmp p e.0) h (λ g. still_there q p es g)
  where
    by : (o : Ordering) → is_some (cond (same q e.0) (Some e.1) (lookup q es)) ≡ true → (is_there q es ≡ true → is_there q (insert_entry (slice_cmp nat_cmp) es p None) ≡ true)
        → is_there q (match_ordering o ((p, None) ∷ e ∷ es) ((e.0, None) ∷ es) (e ∷ insert_entry (slice_cmp nat_cmp) es p None)) ≡ true
    by Less g i = there q (same q p) None (e ∷ es) g
    by Equal g i = equal (same q e.0) g
      where
        equal : (b : Bool) → is_some (cond b (Some e.1) (lookup q es)) ≡ true → is_some (cond b (Some None) (lookup q es)) ≡ true
        equal true k = refl
        equal false k = k
    by Greater g i = greater (same q e.0) g i
      where
        greater : (b : Bool) → is_some (cond b (Some e.1) (lookup q es)) ≡ true → (is_there q es ≡ true → is_there q (insert_entry (slice_cmp nat_cmp) es p None) ≡ true)
            → is_some (cond b (Some e.1) (lookup q (insert_entry (slice_cmp nat_cmp) es p None))) ≡ true
        greater true k j = refl
        greater false k j = j k

module _ (p : ActivityPath) (es : Slots) where
  roomed_there : is_there p (roomed p es) ≡ true
  roomed_there = by (is_there p es) refl
    where
      by : (b : Bool) → is_there p es ≡ b → is_there p (cond b es (insert_entry (slice_cmp nat_cmp) es p None)) ≡ true
      by true h = h
      by false h = room_at p es

  roomed_filled : filled (roomed p es) ≡ filled es
  roomed_filled = by (is_there p es) refl
    where
      by : (b : Bool) → is_there p es ≡ b → filled (cond b es (insert_entry (slice_cmp nat_cmp) es p None)) ≡ filled es
      by true h = refl
      by false h = filled_more p es (none_there p es h)

  roomed_back : (os : Olds) → AllByRecursion (FitsSlots es) os → filled (mapped (back os) (roomed p es)) ≡ filled (mapped (back os) es)
  roomed_back os a = by (is_there p es) refl
    where
      by : (b : Bool) → is_there p es ≡ b → filled (mapped (back os) (cond b es (insert_entry (slice_cmp nat_cmp) es p None))) ≡ filled (mapped (back os) es)
      by true h = refl
      by false h = back_more os es p a h

  roomed_lacks : (q : ActivityPath) → is_there q (roomed p es) ≡ false → is_there q es ≡ false
  roomed_lacks q h = by (is_there q es) refl
    where
      by : (b : Bool) → is_there q es ≡ b → b ≡ false
      by true g = let lost : true ≡ false = sym (still (is_there p es)) ∙ h in cc
        where
          still : (c : Bool) → is_there q (cond c es (insert_entry (slice_cmp nat_cmp) es p None)) ≡ true
          still true = g
          still false = still_there q p es g
      by false g = refl

  roomed_fits : (os : Olds) → AllByRecursion (FitsSlots es) os → AllByRecursion (FitsSlots (roomed p es)) os
  roomed_fits [] a = a
  roomed_fits (o ∷ os) a = ((λ n. a.0.0 (roomed_lacks o.path n), a.0.1), roomed_fits os a.1)

  roomed_undo : (os : Olds) (ns : List ℕ) → IsUndo es os ns → IsUndo (roomed p es) os ns
  roomed_undo os ns u = record { order = u.order; fits = roomed_fits os u.fits }

  shown_roomed : (key : Key) (w : Own) (os : Olds) (ns : List ℕ) → IsUndo es os ns → shown key w (roomed p es) os ns ≡ shown key w es os ns
  shown_roomed key w os ns u =
      let marks = marks_alike (undone_to key w (roomed p es) os) (undone_to key w es os) (saved_between os) (saved_between os) (length os)
      (λ m l i. tree_of key (own_back (drop m os) w) (roomed_back (drop m os) (fits_dropped es m os u.fits) i)) (λ o m l. refl) None 0 ns u.order in
      λ i. record { process = tree_of key w (roomed_filled i); top = []; marks = marks i; saved = saved_in os ns }

-- ---- the path is kept

module _ (key : Key) (w : Own) (es : Slots) (os : Olds) (ns : List ℕ) (p : ActivityPath) (rising : IsRising es) (u : IsUndo es os ns) where
  shown_maybe : (o : Option ℕ) → last_of None ns ≡ o → shown key w es (kept_maybe w es o os p) ns ≡ saving (p ∷ []) (shown key w es os ns)
  shown_maybe None e =
      let none : saved_in os ns ≡ None = ap (option_map (λ n. paths_of (drop n os))) e in
      let saved : saved_in os ns ≡ with_more (p ∷ []) (saved_in os ns) = none ∙ sym (ap (with_more (p ∷ [])) none) in
      λ i. record { process = process_in key w es; top = []; marks = (shown key w es os ns).marks; saved = saved i }
  shown_maybe (Some n) e = shown_one key w es n ns rising e os p (last_place_within ns (length os) n u.order e) u

  undo_maybe : (o : Option ℕ) → IsUndo es (kept_maybe w es o os p) ns
  undo_maybe None = u
  undo_maybe (Some n) = undo_kept_one w es n ns os p u

  -- what is put at the path stands there, and the path is saved
  put_step : (v : Own) (a : Activity) (o : Option ℕ) (left : Olds) (ds : Slots) (h : HeldProcess) (s : Process) → shown key w es os ns ≡ h → last_of None ns ≡ o
      → left ≡ kept_maybe w es o os p → ds ≡ mapped (put_at p (Some a)) (roomed p es) → (v ≡ w) ⊎ (p ≡ [])
      → process_in key v (mapped (put_at p (Some a)) (roomed p es)) ≡ s → shown key v ds left ns ≡ saving (p ∷ []) (holding s h)
  put_step v a o left ds h s view e kept put own e2 =
      let k = kept_maybe w es o os p in
      let uk = undo_maybe o in
      let all : AreAmong (p ∷ []) (saved_in k ns) = subst (AreAmong (p ∷ [])) (sym (ap (λ (x : HeldProcess). x.saved) (shown_maybe o e))) (all_saved_then (p ∷ []) (saved_in os ns)) in
      (λ i. shown key v (put i) (kept i) ns)
      ∙ shown_changed key w v (put_at p (Some a)) (roomed p es) k ns (saving (p ∷ []) h) s
      (shown_roomed p es key w k ns uk ∙ shown_maybe o e ∙ ap (saving (p ∷ [])) view) (roomed_undo p es k ns uk)
      (λ n l. record {
        slots = put_saved p (Some a) (drop n k) (roomed p es) (saved_one p k ns n l all);
        own = ⊎_elim inl (λ q. inr (ap (λ r. has_old r (drop n k)) (sym q) ∙ saved_one p k ns n l all)) own;
      })
      e2

  pub put_undo : (a : Activity) (o : Option ℕ) (left : Olds) (ds : Slots) → left ≡ kept_maybe w es o os p → ds ≡ mapped (put_at p (Some a)) (roomed p es) → IsUndo ds left ns
  put_undo a o left ds kept put =
      subst₂ (λ xs ls. IsUndo xs ls ns) (sym put) (sym kept) (undo_changed (put_at p (Some a)) (roomed p es) (kept_maybe w es o os p) ns (roomed_undo p es (kept_maybe w es o os p) ns (undo_maybe o)))

-- ---- the calls

module _ (key : Key) (w : Own) (es : Slots) (os : Olds) (ns : List ℕ) (h : HeldProcess) (view : shown key w es os ns ≡ h) (u : IsUndo es os ns) (rising : IsRising es) (o : Option ℕ) (last : last_of None ns ≡ o) where
  pub add_step : (p : ActivityPath) (a : Activity) (parent : ActivityPath) (left : Olds) (ds : Slots) → IsSome (activity_at parent h.process) → IsRising (roomed p es)
      → left ≡ kept_maybe w es o os p → ds ≡ mapped (put_at p (Some a)) (roomed p es) → shown key w ds left ns ≡ saving (p ∷ []) (holding (added p a h.process) h)
  add_step p a parent left ds there room kept put =
      let t = there_planted key w es parent (subst (λ (x : HeldProcess). IsSome (activity_at parent x.process)) (sym view) there) in
      let e = filled_put p a (roomed p es) room (roomed_there p es) ∙ ap (in_order p a) (roomed_filled p es) in
      put_step key w es os ns p rising u w a o left ds h (added p a h.process) view last kept put (inl refl)
      (changed_process key w es (mapped (put_at p (Some a)) (roomed p es)) (in_order p a) t e ∙ ap (λ (x : HeldProcess). added p a x.process) view)

  pub plant_step : (p : ActivityPath) (a : Activity) (left : Olds) (ds : Slots) → p ≡ [] → filled es ≡ [] → IsRising (roomed p es)
      → left ≡ kept_maybe w es o os p → ds ≡ mapped (put_at p (Some a)) (roomed p es)
      → shown key (record { generation = w.generation + 1; planted = true; containers = w.containers }) ds left ns ≡ saving ([] ∷ []) (holding (planted a h.process) h)
  plant_step p a left ds root bare room kept put =
      let v : Own = record { generation = w.generation + 1; planted = true; containers = w.containers } in
      let e = filled_put p a (roomed p es) room (roomed_there p es) ∙ ap (in_order p a) (roomed_filled p es ∙ bare) ∙ ap (λ q. in_order q a []) root in
      put_step key w es os ns p rising u v a o left ds h (planted a h.process) view last kept put (inr root)
      ((λ i. record { key = key; generation = w.generation + 1; tree = Some (e i); containers = w.containers }) ∙ ap (λ (x : HeldProcess). planted a x.process) view)
      ∙ ap (λ q. saving (q ∷ []) (holding (planted a h.process) h)) root

pub add_place : (es : Slots) (os : Olds) (ns : List ℕ) (o : Option ℕ) → IsUndo es os ns → o ≡ last_of None ns → IfSome o (λ n. n ≤ length os)
add_place es os ns None u e = tt
add_place es os ns (Some n) u e = last_place_within ns (length os) n u.order (sym e)

pub same_step : (key : Key) (w : Own) (es ds : Slots) (os left : Olds) (ns : List ℕ) (h : HeldProcess) → shown key w es os ns ≡ h → left ≡ os → ds ≡ es → shown key w ds left ns ≡ h
same_step key w es ds os left ns h view olds slots = (λ i. shown key w (slots i) (olds i) ns) ∙ view
