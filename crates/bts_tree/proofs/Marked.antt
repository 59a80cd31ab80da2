-- The marks of a scope, as places in its list of old fields.
use Rattle.std.proofs.Common.{◌≡◌, ◌≤◌, ◌<◌, ℕ, zero, suc, List, [], ◌∷◌, ◌++◌, drop, take, length, refl, ap, sym, ◌∙◌, le_trans, take-take, le_refl, subst, subst₂, not-suc-le-zero, le_of_suc-le-suc}
use Rattle.std.specs.Prelude.{Option, Some, None}
use Rattle.std.specs.List.{slice_get, AllByRecursion}
use Rattle.std.specs.Option.{option_map}
use Rattle.std.proofs.lemmas.List.{take_all, drop_all, map-append, take-append-drop, length-take-le}
use Rattle.bts_names.specs.Names.{ActivityPath}
use Rattle.bts_names.specs.declared.key.Key.{Key}
use Rattle.bts_tree.specs.Processes.{Process}
use Rattle.bts_tree.specs.Olds.{Olds, process_in, back, own_back, undone_to, paths_of, saved_between, marks_from, marks_in, last_of, saved_in, shown, AreInOrder, IsUndo, FitsSlots}
use Rattle.bts_tree.specs.Scopes.{HeldProcess, marked, gone_back, kept, both_saved, all_saved}
use Rattle.bts_tree.specs.Slots.{Slots, mapped}
use Rattle.bts_tree.specs.declared.old.Own.{Own}
use Rattle.bts_tree.proofs.Slotted.{mapped_none}
use Rattle.bts_tree.proofs.Undone.{mapped_append, own_append, fits_mapped, fits_taken}

-- ---- lists

pub drop_between : {X : Type 0} (m n : ℕ) (xs : List X) → m ≤ n → drop m xs ≡ drop m (take n xs) ++ drop n xs
drop_between zero n xs l = sym (take-append-drop n xs)
drop_between (suc m) zero xs l = absurd (not-suc-le-zero l)
drop_between (suc m) (suc n) [] l = refl
drop_between (suc m) (suc n) (x ∷ xs) l = drop_between m n xs (le_of_suc-le-suc l)

-- ---- marks at places

order_end : (m : ℕ) (ns : List ℕ) (end : ℕ) → AreInOrder m ns end → m ≤ end
order_end m [] end o = o
order_end m (n ∷ ns) end o = le_trans o.0 (order_end n ns end o.1)

-- the end may move up
pub order_more : (m : ℕ) (ns : List ℕ) (end more : ℕ) → end ≤ more → AreInOrder m ns end → AreInOrder m ns more
order_more m [] end more l o = le_trans o l
order_more m (n ∷ ns) end more l o = (o.0, order_more n ns end more l o.1)

-- a place at the end
pub order_mark : (m : ℕ) (ns : List ℕ) (end : ℕ) → AreInOrder m ns end → AreInOrder m (ns ++ end ∷ []) end
order_mark m [] end o = (o, le_refl end)
order_mark m (n ∷ ns) end o = (o.0, order_mark n ns end o.1)

-- the places in front of one of them
pub order_taken : (m : ℕ) (ns : List ℕ) (end k n : ℕ) → AreInOrder m ns end → slice_get ns k ≡ Some n → AreInOrder m (take k ns) n
order_taken m [] end k n o h = cc
order_taken m (p ∷ ns) end zero n o h = let e : p ≡ n = cc in subst (λ q. m ≤ q) e o.0
order_taken m (p ∷ ns) end (suc k) n o h = (o.0, order_taken p ns end k n o.1 h)

pub order_within : (m : ℕ) (ns : List ℕ) (end k n : ℕ) → AreInOrder m ns end → slice_get ns k ≡ Some n → n ≤ end
order_within m [] end k n o h = cc
order_within m (p ∷ ns) end zero n o h = let e : p ≡ n = cc in subst (λ q. q ≤ end) e (order_end p ns end o.1)
order_within m (p ∷ ns) end (suc k) n o h = order_within p ns end k n o.1 h

pub order_front : (m : ℕ) (ns : List ℕ) (end k : ℕ) → AreInOrder m ns end → AreInOrder m (take k ns) end
order_front m [] end zero o = o
order_front m [] end (suc k) o = o
order_front m (n ∷ ns) end zero o = order_end m (n ∷ ns) end o
order_front m (n ∷ ns) end (suc k) o = (o.0, order_front n ns end k o.1)

module _ (u v : ℕ → Process) (s t : Option ℕ → ℕ → Option (List ActivityPath)) (end : ℕ) (undone : (n : ℕ) → n ≤ end → u n ≡ v n) (saved : (o : Option ℕ) (n : ℕ) → n ≤ end → s o n ≡ t o n) where
  -- marks are as they were where undoing to each place up to the end gives the same
  pub marks_alike : (o : Option ℕ) (m : ℕ) (ns : List ℕ) → AreInOrder m ns end → marks_from u s o ns ≡ marks_from v t o ns
  marks_alike o m [] h = refl
  marks_alike o m (n ∷ ns) h =
      let l = order_end n ns end h.1 in
      λ i. (undone n l i, saved o n l i) ∷ marks_alike (Some n) n ns h.1 i

module _ (u : ℕ → Process) (s : Option ℕ → ℕ → Option (List ActivityPath)) where
  pub marks_more : (o : Option ℕ) (ns : List ℕ) (n : ℕ) → marks_from u s o (ns ++ n ∷ []) ≡ marks_from u s o ns ++ (u n, s (last_of o ns) n) ∷ []
  marks_more o [] n = refl
  marks_more o (m ∷ ns) n = ap (λ ms. (u m, s o m) ∷ ms) (marks_more (Some m) ns n)

  pub marks_taken : (o : Option ℕ) (ns : List ℕ) (k : ℕ) → marks_from u s o (take k ns) ≡ take k (marks_from u s o ns)
  marks_taken o [] zero = refl
  marks_taken o [] (suc k) = refl
  marks_taken o (n ∷ ns) zero = refl
  marks_taken o (n ∷ ns) (suc k) = ap (λ ms. (u n, s o n) ∷ ms) (marks_taken (Some n) ns k)

  pub mark_got : (o : Option ℕ) (ns : List ℕ) (k n : ℕ) → slice_get ns k ≡ Some n → slice_get (marks_from u s o ns) k ≡ Some (u n, s (last_of o (take k ns)) n)
  mark_got o [] k n h = cc
  mark_got o (m ∷ ns) zero n h = let e : m ≡ n = cc in ap (λ q. Some (u q, s o q)) e
  mark_got o (m ∷ ns) (suc k) n h = mark_got (Some m) ns k n h

  pub mark_missing : (o : Option ℕ) (ns : List ℕ) (k : ℕ) → slice_get ns k ≡ None → slice_get (marks_from u s o ns) k ≡ None
  mark_missing o [] k h = refl
  mark_missing o (m ∷ ns) zero h = cc
  mark_missing o (m ∷ ns) (suc k) h = mark_missing (Some m) ns k h

  pub marks_length : (o : Option ℕ) (ns : List ℕ) → length (marks_from u s o ns) ≡ length ns
  marks_length o [] = refl
  marks_length o (n ∷ ns) = ap suc (marks_length (Some n) ns)

last_more : (o : Option ℕ) (ns : List ℕ) (n : ℕ) → last_of o (ns ++ n ∷ []) ≡ Some n
last_more o [] n = refl
last_more o (m ∷ ns) n = last_more (Some m) ns n

-- ---- what a scope shows

between_end : (os : Olds) (o : Option ℕ) → saved_between os o (length os) ≡ option_map (λ n. paths_of (drop n os)) o
between_end os None = refl
between_end os (Some m) = ap (λ ps. Some (paths_of (drop m ps))) (take_all (length os) os (le_refl (length os)))

-- a mark is what stands
pub shown_marked : (key : Key) (w : Own) (es : Slots) (os : Olds) (ns : List ℕ) → shown key w es os (ns ++ length os ∷ []) ≡ marked (shown key w es os ns)
shown_marked key w es os ns =
    let none = drop_all (length os) os (le_refl (length os)) in
    let now : undone_to key w es os (length os) ≡ process_in key w es =
    ap (λ ps. process_in key (own_back ps w) (mapped (back ps) es)) none ∙ ap (process_in key w) (mapped_none es) in
    let marks = marks_more (undone_to key w es os) (saved_between os) None ns (length os)
    ∙ (λ i. marks_in key w es os ns ++ (now i, between_end os (last_of None ns) i) ∷ []) in
    let saved = ap (option_map (λ n. paths_of (drop n os))) (last_more None ns (length os)) ∙ ap (λ ps. Some (paths_of ps)) none in
    λ i. record { process = process_in key w es; top = []; marks = marks i; saved = saved i }

module _ (key : Key) (w : Own) (es : Slots) (os : Olds) (ns : List ℕ) (k n : ℕ) (order : AreInOrder 0 ns (length os)) (got : slice_get ns k ≡ Some n) where
  undone_twice : (m : ℕ) → m ≤ n → undone_to key (own_back (drop n os) w) (mapped (back (drop n os)) es) (take n os) m ≡ undone_to key w es os m
  undone_twice m l =
      let e = drop_between m n os l in
      let own = sym (ap (λ ps. own_back ps w) e ∙ own_append (drop m (take n os)) (drop n os) w) in
      let slots = sym (ap (λ ps. mapped (back ps) es) e ∙ mapped_append (drop m (take n os)) (drop n os) es) in
      λ i. process_in key (own i) (slots i)

  saved_twice : (o : Option ℕ) (m : ℕ) → m ≤ n → saved_between (take n os) o m ≡ saved_between os o m
  saved_twice None m l = refl
  saved_twice (Some p) m l = ap (λ ps. Some (paths_of (drop p ps))) (take-take m n os l)

  -- going back is undoing to the place of a mark
  pub shown_back : shown key (own_back (drop n os) w) (mapped (back (drop n os)) es) (take n os) (take k ns) ≡ gone_back k (shown key w es os ns)
  shown_back =
      let marks = marks_alike _ (undone_to key w es os) _ (saved_between os) n undone_twice saved_twice None 0 (take k ns) (order_taken 0 ns (length os) k n order got)
      ∙ marks_taken (undone_to key w es os) (saved_between os) None ns k in
      let saved : saved_in (take n os) (take k ns) ≡ saved_between os (last_of None (take k ns)) n = by (last_of None (take k ns)) in
      let mark = mark_got (undone_to key w es os) (saved_between os) None ns k n got in
      let h = shown key w es os ns in
      (λ i. record { process = undone_to key w es os n; top = []; marks = marks i; saved = saved i })
      ∙ sym (ap (λ o. elim o [ None ↦ h | Some m ↦ record { process = m.0; top = h.top; marks = take k h.marks; saved = m.1 } ]) mark)
    where
      by : (o : Option ℕ) → option_map (λ m. paths_of (drop m (take n os))) o ≡ saved_between os o n
      by None = refl
      by (Some m) = refl

-- ---- keeping

-- what marks saved one after the other is what is kept from the first of them on
saved_from : (u : ℕ → Process) (os : Olds) (m : ℕ) (ns : List ℕ) → AreInOrder m ns (length os)
    → all_saved (marks_from u (saved_between os) (Some m) ns) (option_map (λ n. paths_of (drop n os)) (last_of (Some m) ns)) ≡ Some (paths_of (drop m os))
saved_from u os m [] o = refl
saved_from u os m (n ∷ ns) o =
    ap (both_saved (Some (paths_of (drop m (take n os))))) (saved_from u os n ns o.1)
    ∙ ap Some (sym (map-append (λ o. o.path) (drop m (take n os)) (drop n os)) ∙ ap paths_of (sym (drop_between m n os o.0)))

saved_behind : (u : ℕ → Process) (os : Olds) (m : ℕ) (ns : List ℕ) (k : ℕ) → AreInOrder m ns (length os)
    → all_saved (drop k (marks_from u (saved_between os) (Some m) ns)) (option_map (λ n. paths_of (drop n os)) (last_of (Some m) ns))
    ≡ option_map (λ n. paths_of (drop n os)) (last_of (Some m) (take k ns))
saved_behind u os m ns zero o = saved_from u os m ns o
saved_behind u os m [] (suc k) o = refl
saved_behind u os m (n ∷ ns) (suc k) o = saved_behind u os n ns k o.1

-- keeping a mark behind the first is letting go of its place
pub shown_kept : (key : Key) (w : Own) (es : Slots) (os : Olds) (ns : List ℕ) (k : ℕ) → AreInOrder 0 ns (length os)
    → shown key w es os (take (suc k) ns) ≡ kept (suc k) (shown key w es os ns)
shown_kept key w es os ns k o =
    let marks = marks_taken (undone_to key w es os) (saved_between os) None ns (suc k) in
    λ i. record { process = process_in key w es; top = []; marks = marks i; saved = sym (by ns o) i }
  where
    by : (ns : List ℕ) → AreInOrder 0 ns (length os) → all_saved (drop (suc k) (marks_in key w es os ns)) (saved_in os ns) ≡ saved_in os (take (suc k) ns)
    by [] h = refl
    by (n ∷ ns) h = saved_behind (undone_to key w es os) os n ns k h.1

-- and keeping the first one leaves nothing
pub shown_whole : (key : Key) (w : Own) (es : Slots) (os : Olds) (ns : List ℕ) → shown key w es [] [] ≡ kept 0 (shown key w es os ns)
shown_whole key w es os [] = refl
shown_whole key w es os (n ∷ ns) = refl

-- ---- calls on marks

module _ (key : Key) (w : Own) (es : Slots) (os : Olds) (ns : List ℕ) (h : HeldProcess) (view : shown key w es os ns ≡ h) where
  pub count_marks : length ns ≡ length h.marks
  count_marks = sym (marks_length (undone_to key w es os) (saved_between os) None ns) ∙ ap (λ (x : HeldProcess). length x.marks) view

  pub mark_step : (more : List ℕ) (n : ℕ) → more ≡ ns ++ n ∷ [] → n ≡ length os → shown key w es os more ≡ marked h
  mark_step more n e l = ap (shown key w es os) (e ∙ ap (λ m. ns ++ m ∷ []) l) ∙ shown_marked key w es os ns ∙ ap marked view

  pub back_step : (v : Own) (ds : Slots) (left : Olds) (front : List ℕ) (k n : ℕ) → IsUndo es os ns → slice_get ns k ≡ Some n
      → v ≡ own_back (drop n os) w → ds ≡ mapped (back (drop n os)) es → left ≡ take n os → front ≡ take k ns
      → shown key v ds left front ≡ gone_back k h
  back_step v ds left front k n u got own slots olds marks =
      (λ i. shown key (own i) (slots i) (olds i) (marks i)) ∙ shown_back key w es os ns k n u.order got ∙ ap (gone_back k) view

  pub no_mark : (k : ℕ) → slice_get ns k ≡ None → shown key w es os ns ≡ gone_back k h
  no_mark k none =
      let g = mark_missing (undone_to key w es os) (saved_between os) None ns k none in
      let x = shown key w es os ns in
      sym (ap (λ o. elim o [ None ↦ x | Some m ↦ record { process = m.0; top = x.top; marks = take k x.marks; saved = m.1 } ]) g) ∙ ap (gone_back k) view

  pub keep_first : (left : Olds) (front : List ℕ) (k : ℕ) → k ≡ 0 → left ≡ [] → front ≡ [] → shown key w es left front ≡ kept k h
  keep_first left front k e olds marks =
      (λ i. shown key w es (olds i) (marks i)) ∙ shown_whole key w es os ns ∙ ap (kept 0) view ∙ ap (λ j. kept j h) (sym e)

  pub keep_later : (front : List ℕ) (k : ℕ) → IsUndo es os ns → 0 < k → front ≡ take k ns → shown key w es os front ≡ kept k h
  keep_later front zero u l e = absurd (not-suc-le-zero l)
  keep_later front (suc k) u l e = ap (shown key w es os) e ∙ shown_kept key w es os ns k u.order ∙ ap (kept (suc k)) view

pub undo_marked : (es : Slots) (os : Olds) (ns more : List ℕ) (n : ℕ) → IsUndo es os ns → more ≡ ns ++ n ∷ [] → n ≡ length os → IsUndo es os more
undo_marked es os ns more n u e l =
    record { order = subst (λ ms. AreInOrder 0 ms (length os)) (sym (e ∙ ap (λ m. ns ++ m ∷ []) l)) (order_mark 0 ns (length os) u.order); fits = u.fits }

pub undo_back : (w : Own) (es ds : Slots) (os left : Olds) (ns front : List ℕ) (k n : ℕ) → IsUndo es os ns → slice_get ns k ≡ Some n
    → ds ≡ mapped (back (drop n os)) es → left ≡ take n os → front ≡ take k ns → IsUndo ds left front
undo_back w es ds os left ns front k n u got slots olds marks =
    let l : length left ≡ n = ap length olds ∙ length-take-le n os (order_within 0 ns (length os) k n u.order got) in
    record {
      order = subst₂ (AreInOrder 0) (sym marks) (sym l) (order_taken 0 ns (length os) k n u.order got);
      fits = subst₂ (λ xs ps. AllByRecursion (FitsSlots xs) ps) (sym slots) (sym olds) (fits_mapped (back (drop n os)) es (take n os) (fits_taken es n os u.fits));
    }

pub undo_kept : (es : Slots) (os : Olds) (ns front : List ℕ) (k : ℕ) → IsUndo es os ns → front ≡ take k ns → IsUndo es os front
undo_kept es os ns front k u e = record { order = subst (λ ms. AreInOrder 0 ms (length os)) (sym e) (order_front 0 ns (length os) k u.order); fits = u.fits }

-- ---- what no mark takes back

all_saved_in : (key : Key) (w : Own) (es : Slots) (os : Olds) (ns : List ℕ) → all_saved (marks_in key w es os ns) (saved_in os ns) ≡ None
all_saved_in key w es os [] = refl
all_saved_in key w es os (n ∷ ns) = refl

-- at the first mark, or now where none stands, all is saved
pub all_are_saved : (key : Key) (w : Own) (es : Slots) (os : Olds) (ns : List ℕ) (h : HeldProcess) → shown key w es os ns ≡ h → all_saved h.marks h.saved ≡ None
all_are_saved key w es os ns h view = ap (λ (x : HeldProcess). all_saved x.marks x.saved) (sym view) ∙ all_saved_in key w es os ns
