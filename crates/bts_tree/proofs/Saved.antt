-- Saving: what is kept, and that it leaves the marks and the process.
use Rattle.std.proofs.Common.{◌≡◌, ◌≤◌, ℕ, Bool, true, false, cond, ◌||◌, ◌&&◌, List, [], ◌∷◌, ◌++◌, drop, take, length, refl, ap, sym, subst, ◌∙◌, arith, le_trans, le_refl, length-append, length-take, min}
use Rattle.std.specs.Prelude.{Option, Some, None, Result, Ok, Err}
use Rattle.std.specs.List.{list_all}
use Rattle.std.specs.Option.{option_map}
use Rattle.std.specs.Result.{OnOk, OnErr}
use Rattle.std.proofs.lemmas.Cmp.{eq_by_cmp_equiv, nat_list_cmp_total}
use Rattle.std.proofs.lemmas.List.{drop-append-le, take-append-le, map-append}
use Rattle.bts_names.specs.Names.{ActivityPath, same}
use Rattle.bts_names.specs.declared.key.Key.{Key}
use Rattle.bts_tree.specs.Processes.{Process}
use Rattle.bts_tree.specs.Olds.{Olds, process_in, undone_to, paths_of, saved_between, marks_from, marks_in, last_of, saved_in, shown, AreInOrder, IsUndo, old_at, has_old, kept_one, kept_all}
use Rattle.bts_tree.specs.Scopes.{HeldProcess, holding, among, joined, with_more, saving, AreAmong, HasMarks, LeavesMarks, is_empty}
use Rattle.bts_tree.specs.Slots.{Slots}
use Rattle.bts_tree.specs.declared.old.Own.{Own}
use Rattle.bts_tree.proofs.Slotted.{IsRising}
use Rattle.bts_tree.proofs.Undone.{undone_kept, fits_more, fits_old}
use Rattle.bts_tree.proofs.Marked.{marks_alike, order_more}

-- ---- paths that are among others

pub both_true : (b c : Bool) → b ≡ true → c ≡ true → (b && c) ≡ true
both_true true true h g = refl
both_true true false h g = g
both_true false c h g = h

among_more : (q : ActivityPath) (saved more : List ActivityPath) → among q saved ≡ true → among q (saved ++ more) ≡ true
among_more q [] more h = cc
among_more q (p ∷ saved) more h = by (same q p) h (λ g. among_more q saved more g)
  where
    by : (b : Bool) → (b || among q saved) ≡ true → (among q saved ≡ true → among q (saved ++ more) ≡ true) → (b || among q (saved ++ more)) ≡ true
    by true g i = refl
    by false g i = i g

among_end : (q : ActivityPath) (saved : List ActivityPath) → among q (saved ++ q ∷ []) ≡ true
among_end q [] = ap (λ b. b || false) ((eq_by_cmp_equiv nat_list_cmp_total).refl q)
among_end q (p ∷ saved) = by (same q p) (among_end q saved)
  where
    by : (b : Bool) → among q (saved ++ q ∷ []) ≡ true → (b || among q (saved ++ q ∷ [])) ≡ true
    by true i = refl
    by false i = i

abbrev with_one : List ActivityPath → ActivityPath → List ActivityPath
with_one saved p = cond (among p saved) saved (saved ++ p ∷ [])

among_one : (q p : ActivityPath) (saved : List ActivityPath) → among q saved ≡ true → among q (with_one saved p) ≡ true
among_one q p saved h = by (among p saved)
  where
    by : (b : Bool) → among q (cond b saved (saved ++ p ∷ [])) ≡ true
    by true = h
    by false = among_more q saved (p ∷ []) h

among_itself : (p : ActivityPath) (saved : List ActivityPath) → among p (with_one saved p) ≡ true
among_itself p saved = by (among p saved) refl
  where
    by : (b : Bool) → among p saved ≡ b → among p (cond b saved (saved ++ p ∷ [])) ≡ true
    by true h = h
    by false h = among_end p saved

among_joined : (q : ActivityPath) (saved ps : List ActivityPath) → among q saved ≡ true → among q (joined saved ps) ≡ true
among_joined q saved [] h = h
among_joined q saved (p ∷ ps) h = among_joined q (with_one saved p) ps (among_one q p saved h)

all_joined : (saved ps : List ActivityPath) → list_all (λ q. among q (joined saved ps)) ps ≡ true
all_joined saved [] = refl
all_joined saved (p ∷ ps) = both_true _ _ (among_joined p (with_one saved p) ps (among_itself p saved)) (all_joined (with_one saved p) ps)

pub all_saved_then : (ps : List ActivityPath) (saved : Option (List ActivityPath)) → AreAmong ps (with_more ps saved)
all_saved_then ps None = tt
all_saved_then ps (Some saved) = all_joined saved ps

-- ---- keeping old fields

pub has_among : (p : ActivityPath) (os : Olds) → has_old p os ≡ among p (paths_of os)
has_among p [] = refl
has_among p (o ∷ os) = ap (λ b. same p o.path || b) (has_among p os)

with_none : (saved : Option (List ActivityPath)) → saved ≡ with_more [] saved
with_none None = refl
with_none (Some saved) = refl

with_twice : (p : ActivityPath) (ps : List ActivityPath) (saved : Option (List ActivityPath)) → with_more ps (with_more (p ∷ []) saved) ≡ with_more (p ∷ ps) saved
with_twice p ps None = refl
with_twice p ps (Some saved) = refl

saving_none : (h : HeldProcess) → h ≡ saving [] h
saving_none h = λ i. record { process = h.process; top = h.top; marks = h.marks; saved = with_none h.saved i }

saving_twice : (p : ActivityPath) (ps : List ActivityPath) (h : HeldProcess) → saving ps (saving (p ∷ []) h) ≡ saving (p ∷ ps) h
saving_twice p ps h = λ i. record { process = h.process; top = h.top; marks = h.marks; saved = with_twice p ps h.saved i }

module _ (w : Own) (es : Slots) where
  abbrev more_of : Olds → ActivityPath → Bool → Olds
  more_of os p b = cond b os (os ++ old_at w es p ∷ [])

  longer : (os : Olds) (p : ActivityPath) (b : Bool) → length os ≤ length (more_of os p b)
  longer os p true = le_refl (length os)
  longer os p false = subst (λ m. length os ≤ m) (sym (length-append os (old_at w es p ∷ []))) (omega arith)

  between_more : (os : Olds) (p : ActivityPath) (o : Option ℕ) (m : ℕ) → m ≤ length os → saved_between (os ++ old_at w es p ∷ []) o m ≡ saved_between os o m
  between_more os p None m k = refl
  between_more os p (Some j) m k = ap (λ ps. Some (paths_of (drop j ps))) (take-append-le m os (old_at w es p ∷ []) k)

  marks_one : (key : Key) (ns : List ℕ) → IsRising es → (os : Olds) (p : ActivityPath) (b : Bool) → AreInOrder 0 ns (length os)
      → marks_in key w es (more_of os p b) ns ≡ marks_in key w es os ns
  marks_one key ns rising os p true order = refl
  marks_one key ns rising os p false order =
      marks_alike (undone_to key w es (os ++ old_at w es p ∷ [])) (undone_to key w es os) (saved_between (os ++ old_at w es p ∷ [])) (saved_between os) (length os)
      (λ m k. undone_kept key w es os p m rising k) (between_more os p) None 0 ns order

  paths_one : (n : ℕ) (os : Olds) (p : ActivityPath) (b : Bool) → n ≤ length os → paths_of (drop n (more_of os p b)) ≡ cond b (paths_of (drop n os)) (paths_of (drop n os) ++ p ∷ [])
  paths_one n os p true l = refl
  paths_one n os p false l = ap paths_of (drop-append-le n os (old_at w es p ∷ []) l) ∙ map-append (λ o. o.path) (drop n os) (old_at w es p ∷ [])

  undo_one : (ns : List ℕ) (os : Olds) (p : ActivityPath) (b : Bool) → IsUndo es os ns → IsUndo es (more_of os p b) ns
  undo_one ns os p true u = u
  undo_one ns os p false u =
      record { order = order_more 0 ns (length os) _ (longer os p false) u.order; fits = fits_more es os (old_at w es p) u.fits (fits_old w es p) }

  front_one : (front os : Olds) (p : ActivityPath) (b : Bool) → take (length front) os ≡ front → take (length front) (more_of os p b) ≡ front
  front_one front os p true e = e
  front_one front os p false e =
      let m : length front ≡ min (length front) (length os) = ap length (sym e) ∙ length-take (length front) os in
      let l : length front ≤ length os = omega (arith, m) in
      take-append-le (length front) os (old_at w es p ∷ []) l ∙ e

module _ (key : Key) (w : Own) (es : Slots) (n : ℕ) (ns : List ℕ) (rising : IsRising es) (last : last_of None ns ≡ Some n) where
  saved_one : (os : Olds) (p : ActivityPath) → n ≤ length os → saved_in (kept_one w es n os p) ns ≡ with_more (p ∷ []) (saved_in os ns)
  saved_one os p l =
      ap (option_map (λ m. paths_of (drop m (kept_one w es n os p)))) last
      ∙ ap Some (paths_one w es n os p (has_old p (drop n os)) l ∙ ap (λ b. cond b (paths_of (drop n os)) (paths_of (drop n os) ++ p ∷ [])) (has_among p (drop n os)))
      ∙ sym (ap (λ o. with_more (p ∷ []) (option_map (λ m. paths_of (drop m os)) o)) last)

  pub shown_one : (os : Olds) (p : ActivityPath) → n ≤ length os → IsUndo es os ns → shown key w es (kept_one w es n os p) ns ≡ saving (p ∷ []) (shown key w es os ns)
  shown_one os p l u =
      let marks = marks_one w es key ns rising os p (has_old p (drop n os)) u.order in
      let saved = saved_one os p l in
      λ i. record { process = process_in key w es; top = []; marks = marks i; saved = saved i }

  pub shown_all : (ps : List ActivityPath) (os : Olds) → n ≤ length os → IsUndo es os ns → shown key w es (kept_all w es n os ps) ns ≡ saving ps (shown key w es os ns)
  shown_all [] os l u = saving_none (shown key w es os ns)
  shown_all (p ∷ ps) os l u =
      let m = le_trans l (longer w es os p (has_old p (drop n os))) in
      let v = undo_one w es ns os p (has_old p (drop n os)) u in
      shown_all ps (kept_one w es n os p) m v ∙ ap (saving ps) (shown_one os p l u) ∙ saving_twice p ps (shown key w es os ns)

  pub undo_all : (ps : List ActivityPath) (os : Olds) → IsUndo es os ns → IsUndo es (kept_all w es n os ps) ns
  undo_all [] os u = u
  undo_all (p ∷ ps) os u = undo_all ps (kept_one w es n os p) (undo_one w es ns os p (has_old p (drop n os)) u)

pub undo_kept_one : (w : Own) (es : Slots) (n : ℕ) (ns : List ℕ) (os : Olds) (p : ActivityPath) → IsUndo es os ns → IsUndo es (kept_one w es n os p) ns
undo_kept_one w es n ns os p u = undo_one w es ns os p (has_old p (drop n os)) u

still_saved : (p : ActivityPath) (ps : List ActivityPath) (saved : Option (List ActivityPath)) → elim saved [ None ↦ true | Some xs ↦ among p xs ] ≡ true → elim (with_more ps saved) [ None ↦ true | Some xs ↦ among p xs ] ≡ true
still_saved p ps None h = refl
still_saved p ps (Some saved) h = among_joined p saved ps h

pub saving_leaves : (ps : List ActivityPath) (h : HeldProcess) → LeavesMarks h (saving ps h)
saving_leaves ps h = record { top = refl; marks = refl; saved = λ p s. still_saved p ps h.saved s }

pub leaves_same : (h after : HeldProcess) → after ≡ h → LeavesMarks h after
leaves_same h after e = subst (LeavesMarks h) (sym e) (record { top = refl; marks = refl; saved = λ p s. s })

pub leaves_saving : (ps : List ActivityPath) (s : Process) (h after : HeldProcess) → after ≡ saving ps (holding s h) → LeavesMarks h after
leaves_saving ps s h after e = subst (LeavesMarks h) (sym e) (record { top = refl; marks = refl; saved = λ p t. still_saved p ps h.saved t })

-- ---- the call

last_within : (m : ℕ) (ns : List ℕ) (end n : ℕ) → AreInOrder m ns end → last_of (Some m) ns ≡ Some n → n ≤ end
last_within m [] end n o e = let s : m ≡ n = cc in subst (λ k. k ≤ end) s o
last_within m (p ∷ ns) end n o e = last_within p ns end n o.1 e

pub last_place_within : (ns : List ℕ) (end n : ℕ) → AreInOrder 0 ns end → last_of None ns ≡ Some n → n ≤ end
last_place_within [] end n o e = cc
last_place_within (p ∷ ns) end n o e = last_within p ns end n o.1 e

marks_there : (u : ℕ → Process) (s : Option ℕ → ℕ → Option (List ActivityPath)) (ns : List ℕ) (n : ℕ) → last_of None ns ≡ Some n → is_empty (marks_from u s None ns) ≡ false
marks_there u s [] n e = cc
marks_there u s (m ∷ ns) n e = refl

module _ {T E : Type 0} (key : Key) (w : Own) (es : Slots) (os left : Olds) (ns : List ℕ) (n : ℕ) (h : HeldProcess) (ps : List ActivityPath) (view : shown key w es os ns ≡ h) (u : IsUndo es os ns) (rising : IsRising es) (last : last_of None ns ≡ Some n) where
  pub saving_undo : (r : Result T E) → OnOk r (left ≡ kept_all w es n os ps) → OnErr r (left ≡ os) → IsUndo es left ns
  saving_undo (Ok x) e f = subst (λ ls. IsUndo es ls ns) (sym e) (undo_all key w es n ns rising last ps os u)
  saving_undo (Err x) e f = subst (λ ls. IsUndo es ls ns) (sym f) u

  pub saving_ok : (r : Result T E) → OnOk r (left ≡ kept_all w es n os ps) → OnOk r (shown key w es left ns ≡ saving ps h)
  saving_ok (Ok x) e =
      ap (λ ls. shown key w es ls ns) e ∙ shown_all key w es n ns rising last ps os (last_place_within ns (length os) n u.order last) u ∙ ap (saving ps) view
  saving_ok (Err x) e = tt

  pub saving_err : (r : Result T E) → OnErr r (left ≡ os) → OnErr r (shown key w es left ns ≡ h)
  saving_err (Ok x) e = tt
  saving_err (Err x) e = ap (λ ls. shown key w es ls ns) e ∙ view

  pub saving_all : (r : Result T E) → OnOk r (left ≡ kept_all w es n os ps) → OnOk r (AreAmong ps (saved_in left ns))
  saving_all (Ok x) e =
      let s = saving_ok (Ok x) e in
      subst (AreAmong ps) (sym (ap (λ (x : HeldProcess). x.saved) s)) (all_saved_then ps h.saved)
  saving_all (Err x) e = tt

  pub saving_marked : (r : Result T E) → OnErr r (HasMarks h)
  saving_marked (Ok x) = tt
  saving_marked (Err x) = ap (λ (x : HeldProcess). is_empty x.marks) (sym view) ∙ marks_there (undone_to key w es os) (saved_between os) ns n last

  pub saving_leaves_all : (r : Result T E) → OnOk r (left ≡ kept_all w es n os ps) → OnErr r (left ≡ os) → LeavesMarks h (shown key w es left ns)
  saving_leaves_all (Ok x) e f = subst (LeavesMarks h) (sym (saving_ok (Ok x) e)) (saving_leaves ps h)
  saving_leaves_all (Err x) e f = subst (LeavesMarks h) (sym (saving_err (Err x) f)) (record { top = refl; marks = refl; saved = λ p s. s })
