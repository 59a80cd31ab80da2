-- Changes of what is saved leave the marks.
use Rattle.std.proofs.Common.{◌≡◌, ◌≤◌, ℕ, Bool, true, false, not, cond, ◌||◌, ◌&&◌, List, [], ◌∷◌, drop, take, length, refl, ap, sym, subst, subst₂, ◌∙◌, le_refl, nat_eq, ◌⊎◌, ⊎_elim, inl, inr}
use Rattle.std.specs.Prelude.{Option, Some, None, is_some, IsSome}
use Rattle.std.specs.List.{AllByRecursion, list_all}
use Rattle.std.specs.Borrow.{MutBor}
use Rattle.std.specs.Option.{option_map, unwrap_or, option_copied_mut}
use Rattle.std.specs.Map.{keys_of, set_value}
use Rattle.bts_names.specs.Names.{Name, ActivityPath, same, same_exact}
use Rattle.bts_names.specs.Named.{lookup}
use Rattle.bts_names.specs.declared.key.Key.{Key}
use Rattle.bts_names.specs.declared.state.Status.{Status}
use Rattle.bts_container.specs.Containers.{Containers, no_containers}
use Rattle.bts_tree.specs.Activities.{Activities, within, completed_one, stays_without, completed, forced, written_at, completed_at, without_below}
use Rattle.bts_tree.specs.Paths.{leads_to}
use Rattle.bts_tree.specs.Processes.{Process, activity_at, on_tree, written, with_containers, complete, removed, purged}
use Rattle.bts_tree.specs.declared.activity.Activity.{Activity}
use Rattle.bts_tree.specs.Olds.{Olds, process_in, own_back, undone_to, paths_of, saved_between, marks_in, last_of, saved_in, shown, AreInOrder, IsUndo, FitsSlots, has_old}
use Rattle.bts_tree.specs.Scopes.{HeldProcess, among, holding, AreAmong, IsSaved}
use Rattle.bts_tree.specs.Slots.{Slots, Change, filled, flat, in_slot, read, mapped, put_at, completed_slot, emptied_slot}
use Rattle.bts_tree.specs.declared.old.Own.{Own}
use Rattle.bts_tree.proofs.Slotted.{IsRising, found, mapped_none, set_is_mapped, filled_written, filled_completed, filled_emptied}
use Rattle.bts_tree.proofs.Undone.{ChangesKept, back_changed, own_changed, fits_mapped, fits_dropped, has_append}
use Rattle.bts_tree.proofs.Marked.{marks_alike, drop_between}
use Rattle.bts_tree.proofs.Saved.{has_among, both_true}
use Rattle.std.proofs.lemmas.Bool.{eq-eqb}

-- ---- what is saved behind the last mark is saved behind each

order_to_last : (m : ℕ) (ns : List ℕ) (end n : ℕ) → AreInOrder m ns end → last_of (Some m) ns ≡ Some n → AreInOrder m ns n
order_to_last m [] end n o e = let s : m ≡ n = cc in subst (λ k. m ≤ k) s (le_refl m)
order_to_last m (p ∷ ns) end n o e = (o.0, order_to_last p ns end n o.1 e)

later_has : (q : ActivityPath) (os : Olds) (m n : ℕ) → m ≤ n → has_old q (drop n os) ≡ true → has_old q (drop m os) ≡ true
later_has q os m n l h = ap (has_old q) (drop_between m n os l) ∙ has_append q (drop m (take n os)) (drop n os) h

later_lacks : (q : ActivityPath) (os : Olds) (m n : ℕ) → m ≤ n → has_old q (drop m os) ≡ false → has_old q (drop n os) ≡ false
later_lacks q os m n l h = by (has_old q (drop n os)) (λ g. later_has q os m n l g)
  where
    by : (b : Bool) → (b ≡ true → has_old q (drop m os) ≡ true) → b ≡ false
    by true i = let lost : true ≡ false = sym (i refl) ∙ h in cc
    by false i = refl

later_changes : (f : Change) (es : Slots) (os : Olds) (m n : ℕ) → m ≤ n → ChangesKept (drop n os) f es → ChangesKept (drop m os) f es
later_changes f [] os m n l k = k
later_changes f (e ∷ es) os m n l k = ((λ h. k.0 (later_lacks e.0 os m n l h)), later_changes f es os m n l k.1)

-- a change of what is saved: of the activities, and of what the process has besides
pub record ChangesSaved (w v : Own) (f : Change) (es : Slots) (late : Olds) : Type 0 where
  pub slots : ChangesKept late f es
  pub own : (v ≡ w) ⊎ (has_old [] late ≡ true)

some_last : (m : ℕ) (ns : List ℕ) → last_of (Some m) ns ≡ None → {A : Type 0} → A
some_last m [] e = cc
some_last m (p ∷ ns) e = some_last p ns e

module _ (key : Key) (w v : Own) (f : Change) (es : Slots) (os : Olds) where
  undone_changed : (n : ℕ) → AllByRecursion (FitsSlots es) os → ChangesSaved w v f es (drop n os) → (m : ℕ) → m ≤ n
      → undone_to key v (mapped f es) os m ≡ undone_to key w es os m
  undone_changed n a c m l =
      let slots = back_changed (drop m os) f es (later_changes f es os m n l c.slots) in
      let own = ⊎_elim (λ e. ap (own_back (drop m os)) e) (λ h. own_changed (drop m os) es v w (fits_dropped es m os a) (later_has [] os m n l h)) c.own in
      λ i. process_in key (own i) (slots i)

  pub marks_stay : (ns : List ℕ) → IsUndo es os ns → ((n : ℕ) → last_of None ns ≡ Some n → ChangesSaved w v f es (drop n os))
      → marks_in key v (mapped f es) os ns ≡ marks_in key w es os ns
  marks_stay [] u c = refl
  marks_stay (p ∷ ns) u c = by (last_of (Some p) ns) refl
    where
      by : (o : Option ℕ) → last_of (Some p) ns ≡ o → marks_in key v (mapped f es) os (p ∷ ns) ≡ marks_in key w es os (p ∷ ns)
      by None e = some_last p ns e
      by (Some n) e =
          marks_alike (undone_to key v (mapped f es) os) (undone_to key w es os) (saved_between os) (saved_between os) n
          (undone_changed n u.fits (c n e)) (λ o m k. refl) None 0 (p ∷ ns) (order_to_last 0 (p ∷ ns) (length os) n u.order e)

pub undo_changed : (f : Change) (es : Slots) (os : Olds) (ns : List ℕ) → IsUndo es os ns → IsUndo (mapped f es) os ns
undo_changed f es os ns u = record { order = u.order; fits = fits_mapped f es os u.fits }

-- what contracts see behind a change: another process
pub shown_changed : (key : Key) (w v : Own) (f : Change) (es : Slots) (os : Olds) (ns : List ℕ) (h : HeldProcess) (s : Process) → shown key w es os ns ≡ h → IsUndo es os ns
    → ((n : ℕ) → last_of None ns ≡ Some n → ChangesSaved w v f es (drop n os)) → process_in key v (mapped f es) ≡ s
    → shown key v (mapped f es) os ns ≡ holding s h
shown_changed key w v f es os ns h s view u c e =
    (λ i. record { process = e i; top = []; marks = marks_stay key w v f es os ns u c i; saved = saved_in os ns }) ∙ ap (holding s) view

-- ---- which paths are saved

pub saved_one : (p : ActivityPath) (os : Olds) (ns : List ℕ) (n : ℕ) → last_of None ns ≡ Some n → AreAmong (p ∷ []) (saved_in os ns) → has_old p (drop n os) ≡ true
saved_one p os ns n e a =
    let b : AreAmong (p ∷ []) (Some (paths_of (drop n os))) = subst (λ o. AreAmong (p ∷ []) (option_map (λ m. paths_of (drop m os)) o)) e a in
    has_among p (drop n os) ∙ left_true (among p (paths_of (drop n os))) b
  where
    left_true : (b : Bool) → (b && true) ≡ true → b ≡ true
    left_true true h = refl
    left_true false h = h

pub put_saved : (p : ActivityPath) (x : Option Activity) (os : Olds) (es : Slots) → has_old p os ≡ true → ChangesKept os (put_at p x) es
put_saved p x os [] h = tt
put_saved p x os (e ∷ es) h = (by (same p e.0) refl, put_saved p x os es h)
  where
    by : (b : Bool) → same p e.0 ≡ b → has_old e.0 os ≡ false → cond b x e.1 ≡ e.1
    by true s g = let lost : true ≡ false = sym h ∙ ap (λ q. has_old q os) (same_exact p e.0 s) ∙ g in cc
    by false s g = refl

left_true : (b c : Bool) → (b && c) ≡ true → b ≡ true
left_true true c h = refl
left_true false c h = h

right_true : (b c : Bool) → (b && c) ≡ true → c ≡ true
right_true true c h = h
right_true false c h = cc

same_kept : (os : Olds) (es : Slots) → ChangesKept os (λ q x. x) es
same_kept os [] = tt
same_kept os (e ∷ es) = ((λ h. refl), same_kept os es)

leads_self : (p : ActivityPath) → leads_to p p ≡ true
leads_self [] = refl
leads_self (n ∷ p) = both_true (nat_eq n n) (leads_to p p) (eq-eqb n n refl) (leads_self p)

leads_same : (p q : ActivityPath) → leads_to p q ≡ false → same p q ≡ false
leads_same p q h = by (same p q) refl
  where
    by : (b : Bool) → same p q ≡ b → b ≡ false
    by true s = let lost : true ≡ false = sym (leads_self p) ∙ ap (leads_to p) (same_exact p q s) ∙ h in cc
    by false s = refl

-- the activities at a path and below it are kept
abbrev AreKept : ActivityPath → Olds → Slots → Type 0
AreKept p os es = AllByRecursion (λ e. is_some e.1 ≡ true → leads_to p e.0 ≡ true → has_old e.0 os ≡ true) es

all_kept : (p : ActivityPath) (os : Olds) (es : Slots) → list_all (λ q. among q (paths_of os)) (keys_of (within p (filled es))) ≡ true → AreKept p os es
all_kept p os [] h = tt
all_kept p os (e ∷ es) h = by e.1 (leads_to p e.0) refl h (λ g. all_kept p os es g)
  where
    by : (x : Option Activity) (b : Bool) → leads_to p e.0 ≡ b → list_all (λ q. among q (paths_of os)) (keys_of (within p (in_slot e.0 x (filled es)))) ≡ true
        → (list_all (λ q. among q (paths_of os)) (keys_of (within p (filled es))) ≡ true → AreKept p os es)
        → (is_some x ≡ true → leads_to p e.0 ≡ true → has_old e.0 os ≡ true) × AreKept p os es
    by None b l g i = ((λ t. cc), i g)
    by (Some a) true l g i =
        let k : (among e.0 (paths_of os) && list_all (λ q. among q (paths_of os)) (keys_of (within p (filled es)))) ≡ true =
        sym (ap (λ b. list_all (λ q. among q (paths_of os)) (keys_of (cond b ((e.0, a) ∷ within p (filled es)) (within p (filled es))))) l) ∙ g in
        ((λ t m. has_among e.0 os ∙ left_true _ _ k), i (right_true (among e.0 (paths_of os)) _ k))
    by (Some a) false l g i =
        let k : list_all (λ q. among q (paths_of os)) (keys_of (within p (filled es))) ≡ true =
        sym (ap (λ b. list_all (λ q. among q (paths_of os)) (keys_of (cond b ((e.0, a) ∷ within p (filled es)) (within p (filled es))))) l) ∙ g in
        ((λ t m. let lost : false ≡ true = sym l ∙ m in cc), i k)

abbrev no_activity : Option Activity
no_activity = None

none_same : (b : Bool) → cond b no_activity no_activity ≡ no_activity
none_same true = refl
none_same false = refl

completed_kept : (p : ActivityPath) (status : Status) (code : Option Name) (os : Olds) (es : Slots) → AreKept p os es → ChangesKept os (completed_slot p status code) es
completed_kept p status code os [] k = tt
completed_kept p status code os (e ∷ es) k = (by e.1 (leads_to p e.0) refl k.0, completed_kept p status code os es k.1)
  where
    by : (x : Option Activity) (b : Bool) → leads_to p e.0 ≡ b → (is_some x ≡ true → leads_to p e.0 ≡ true → has_old e.0 os ≡ true) → has_old e.0 os ≡ false
        → option_map (λ a. completed_one p status code (e.0, a)) x ≡ x
    by None b l g h = refl
    by (Some a) true l g h = let lost : true ≡ false = sym (g refl l) ∙ h in cc
    by (Some a) false l g h =
        λ i. Some (cond (leads_same p e.0 l i) (completed status code (same p []) a) (cond (l i) (forced a) a))

emptied_kept : (p : ActivityPath) (itself : Bool) (os : Olds) (es : Slots) → AreKept p os es → ChangesKept os (emptied_slot p itself) es
emptied_kept p itself os [] k = tt
emptied_kept p itself os (e ∷ es) k = (by e.1 (leads_to p e.0) refl k.0, emptied_kept p itself os es k.1)
  where
    by : (x : Option Activity) (b : Bool) → leads_to p e.0 ≡ b → (is_some x ≡ true → leads_to p e.0 ≡ true → has_old e.0 os ≡ true) → has_old e.0 os ≡ false
        → cond (stays_without p itself e.0) x None ≡ x
    by None b l g h = none_same (stays_without p itself e.0)
    by (Some a) true l g h = let lost : true ≡ false = sym (g refl l) ∙ h in cc
    by (Some a) false l g h = ap (λ b. cond (not b || (not itself && same p e.0)) (Some a) None) l

there_some : (o : Option Activity) → IsSome o → is_some o ≡ true
there_some None t = cc
there_some (Some a) t = refl

-- what stands at a path is in its slot
there_read : (key : Key) (w : Own) (es : Slots) (p : ActivityPath) → IsRising es → IsSome (activity_at p (process_in key w es)) → is_some (read p es) ≡ true
there_read key w es p rising t = by w.planted t
  where
    by : (b : Bool) → IsSome (lookup p (unwrap_or (cond b (Some (filled es)) None) [])) → is_some (read p es) ≡ true
    by true t = there_some (read p es) (subst IsSome (found p es rising) t)
    by false t = cc

pub there_planted : (key : Key) (w : Own) (es : Slots) (p : ActivityPath) → IsSome (activity_at p (process_in key w es)) → w.planted ≡ true
there_planted key w es p t = by w.planted t
  where
    by : (b : Bool) → IsSome (lookup p (unwrap_or (cond b (Some (filled es)) None) [])) → b ≡ true
    by true t = refl
    by false t = cc

-- a change of the activities, where there are some
pub changed_process : (key : Key) (w : Own) (es ds : Slots) (f : Activities → Activities) → w.planted ≡ true → filled ds ≡ f (filled es)
    → process_in key w ds ≡ on_tree f (process_in key w es)
changed_process key w es ds f t e =
    (λ i. record { key = key; generation = w.generation; tree = cond (t i) (Some (e i)) None; containers = w.containers })
    ∙ (λ i. record { key = key; generation = w.generation; tree = option_map f (cond (sym t i) (Some (filled es)) None); containers = w.containers })

module _ (key : Key) (w : Own) (es : Slots) (os : Olds) (ns : List ℕ) (h : HeldProcess) (view : shown key w es os ns ≡ h) (u : IsUndo es os ns) where
  there_here : (p : ActivityPath) → IsSome (activity_at p h.process) → IsSome (activity_at p (process_in key w es))
  there_here p t = subst (λ (x : HeldProcess). IsSome (activity_at p x.process)) (sym view) t

  -- a change of the activities alone
  changed_slots : (f : Change) (g : Activities → Activities) → w.planted ≡ true → ((n : ℕ) → last_of None ns ≡ Some n → ChangesKept (drop n os) f es)
      → filled (mapped f es) ≡ g (filled es) → shown key w (mapped f es) os ns ≡ holding (on_tree g h.process) h
  changed_slots f g t k e =
      shown_changed key w w f es os ns h (on_tree g h.process) view u (λ n l. record { slots = k n l; own = inl refl })
      (changed_process key w es (mapped f es) g t e ∙ ap (λ (x : HeldProcess). on_tree g x.process) view)

  -- an activity is another
  pub edit_step : IsRising es → (p : ActivityPath) (a : Activity) (ds : Slots) → IsSome (activity_at p h.process) → IsSaved p false h → ds ≡ set_value (same p) es (Some a)
      → shown key w ds os ns ≡ holding (written p a h.process) h
  edit_step rising p a ds there saved e =
      let t = there_here p there in
      let s = subst (λ (x : HeldProcess). IsSaved p false x) (sym view) saved in
      ap (λ xs. shown key w xs os ns) (e ∙ set_is_mapped p (Some a) es rising)
      ∙ changed_slots (put_at p (Some a)) (written_at p a) (there_planted key w es p t) (λ n l. put_saved p (Some a) (drop n os) es (saved_one p os ns n l s))
      (filled_written p a es rising (there_read key w es p rising t))

  -- the containers of the process are others
  pub containers_step : (c : Containers) → IsSaved [] false h → shown key (record { generation = w.generation; planted = w.planted; containers = c }) es os ns ≡ holding (with_containers c h.process) h
  containers_step c saved =
      let s = subst (λ (x : HeldProcess). IsSaved [] false x) (sym view) saved in
      let v : Own = record { generation = w.generation; planted = w.planted; containers = c } in
      ap (λ xs. shown key v xs os ns) (sym (mapped_none es))
      ∙ shown_changed key w v (λ q x. x) es os ns h (with_containers c h.process) view u
      (λ n l. record { slots = same_kept (drop n os) es; own = inr (saved_one [] os ns n l s) })
      (ap (process_in key v) (mapped_none es) ∙ ap (λ (x : HeldProcess). with_containers c x.process) view)

  -- the paths from one on that are saved
  saved_below : (p : ActivityPath) → IsSome (activity_at p h.process) → IsSaved p true h → (n : ℕ) → last_of None ns ≡ Some n
      → (has_old p (drop n os) ≡ true) × AreKept p (drop n os) es
  saved_below p there saved n l =
      let t = there_planted key w es p (there_here p there) in
      let s = subst (λ (x : HeldProcess). IsSaved p true x) (sym view) saved in
      let b : AreAmong (p ∷ keys_of (within p (filled es))) (Some (paths_of (drop n os))) =
      subst₂ (λ planted o. AreAmong (p ∷ keys_of (within p (unwrap_or (cond planted (Some (filled es)) None) []))) (option_map (λ m. paths_of (drop m os)) o)) t l s in
      (has_among p (drop n os) ∙ left_true (among p (paths_of (drop n os))) _ b, all_kept p (drop n os) es (right_true (among p (paths_of (drop n os))) _ b))

  pub complete_step : (p : ActivityPath) (status : Status) (code : Option Name) (ds : Slots) → IsSome (activity_at p h.process) → IsSaved p true h → ds ≡ mapped (completed_slot p status code) es
      → shown key w ds os ns ≡ holding (complete p status code h.process) h
  complete_step p status code ds there saved e =
      ap (λ xs. shown key w xs os ns) e
      ∙ changed_slots (completed_slot p status code) (completed_at p status code) (there_planted key w es p (there_here p there))
      (λ n l. completed_kept p status code (drop n os) es (saved_below p there saved n l).1) (filled_completed p status code es)

  pub remove_step : (p : ActivityPath) (itself : Bool) (ds : Slots) → IsSome (activity_at p h.process) → IsSaved p true h → ds ≡ mapped (emptied_slot p itself) es → (itself && same p []) ≡ false
      → shown key w ds os ns ≡ holding (removed p itself h.process) h
  remove_step p itself ds there saved e root =
      ap (λ xs. shown key w xs os ns) e
      ∙ changed_slots (emptied_slot p itself) (without_below p itself) (there_planted key w es p (there_here p there))
      (λ n l. emptied_kept p itself (drop n os) es (saved_below p there saved n l).1) (filled_emptied p itself es)
      ∙ ap (λ b. holding (cond b (purged h.process) (on_tree (without_below p itself) h.process)) h) (sym root)

  pub purge_step : (p : ActivityPath) (itself : Bool) (ds : Slots) (c : Containers) → IsSome (activity_at p h.process) → IsSaved p true h → ds ≡ mapped (emptied_slot p itself) es → c ≡ no_containers w.containers.format → (itself && same p []) ≡ true
      → shown key (record { generation = w.generation; planted = false; containers = c }) ds os ns ≡ holding (removed p itself h.process) h
  purge_step p itself ds c there saved e none root =
      let v : Own = record { generation = w.generation; planted = false; containers = no_containers w.containers.format } in
      let path : p ≡ [] = same_exact p [] (right_true itself (same p []) root) in
      (λ i. shown key (record { generation = w.generation; planted = false; containers = none i }) (e i) os ns)
      ∙ shown_changed key w v (emptied_slot p itself) es os ns h (purged h.process) view u
      (λ n l. record {
        slots = emptied_kept p itself (drop n os) es (saved_below p there saved n l).1;
        own = inr (ap (λ q. has_old q (drop n os)) (sym path) ∙ (saved_below p there saved n l).0);
      })
      (ap (λ (x : HeldProcess). purged x.process) view)
      ∙ ap (λ b. holding (cond b (purged h.process) (on_tree (without_below p itself) h.process)) h) (sym root)

pub read_planted : (key : Key) (w : Own) (es : Slots) (p : ActivityPath) → IsRising es → w.planted ≡ true → read p es ≡ activity_at p (process_in key w es)
read_planted key w es p rising t = sym (found p es rising) ∙ ap (λ b. lookup p (unwrap_or (cond b (Some (filled es)) None) [])) (sym t)

pub set_undo : (es ds : Slots) (os : Olds) (ns : List ℕ) (p : ActivityPath) (x : Option Activity) → IsUndo es os ns → IsRising es → ds ≡ set_value (same p) es x → IsUndo ds os ns
set_undo es ds os ns p x u rising e = subst (λ xs. IsUndo xs os ns) (sym (e ∙ set_is_mapped p x es rising)) (undo_changed (put_at p x) es os ns u)

pub mapped_undo : (f : Change) (es ds : Slots) (os : Olds) (ns : List ℕ) → IsUndo es os ns → ds ≡ mapped f es → IsUndo ds os ns
mapped_undo f es ds os ns u e = subst (λ xs. IsUndo xs os ns) (sym e) (undo_changed f es os ns u)

-- ---- what is found there

pub slot_there : (key : Key) (w : Own) (es : Slots) (os : Olds) (ns : List ℕ) (h : HeldProcess) (p : ActivityPath) → shown key w es os ns ≡ h → IsRising es → IsSome (activity_at p h.process)
    → (a : Activity) × (lookup p es ≡ Some (Some a)) × (activity_at p h.process ≡ Some a)
slot_there key w es os ns h p view rising t =
    let here = subst (λ (x : HeldProcess). IsSome (activity_at p x.process)) (sym view) t in
    let planted = there_planted key w es p here in
    let r = by (lookup p es) refl (there_read key w es p rising here) in
    (r.0, r.1, ap (λ (x : HeldProcess). activity_at p x.process) (sym view) ∙ sym (read_planted key w es p rising planted) ∙ ap flat r.1)
  where
    by : (o : Option (Option Activity)) → lookup p es ≡ o → is_some (flat o) ≡ true → (a : Activity) × (lookup p es ≡ Some (Some a))
    by None e s = cc
    by (Some None) e s = cc
    by (Some (Some a)) e s = (a, e)

pub copied_some : (o : Option (MutBor (Option Activity))) (y : Option Activity) → option_copied_mut o ≡ Some y → IsSome o
copied_some None y e = cc
copied_some (Some r) y e = refl

pub copied_is : (o : Option (MutBor (Option Activity))) (r : MutBor (Option Activity)) (a : Activity) → o ≡ Some r → option_copied_mut o ≡ Some (Some a) → r.now ≡ Some a
copied_is o r a e f = let g : Some r.now ≡ Some (Some a) = sym (ap option_copied_mut e) ∙ f in ap (λ x. unwrap_or x None) g
