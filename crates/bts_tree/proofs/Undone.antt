-- What undoing gives, and which changes it undoes.
use Rattle.std.proofs.Common.{◌≡◌, ◌≤◌, ℕ, zero, suc, Bool, true, false, cond, ◌||◌, [], ◌∷◌, ◌++◌, drop, take, length, refl, ap, sym, ◌∙◌}
use Rattle.std.specs.Prelude.{Option, Some, None, is_some}
use Rattle.std.specs.BTreeMap.{insert_entry}
use Rattle.std.specs.List.{AllByRecursion}
use Rattle.std.specs.Option.{unwrap_or}
use Rattle.std.specs.Ordering.{nat_cmp}
use Rattle.std.specs.Cmp.Lexicographic.{slice_cmp}
use Rattle.std.proofs.lemmas.Cmp.{eq_by_cmp_equiv, nat_list_cmp_total}
use Rattle.std.proofs.lemmas.List.{drop-append-le, take-append-le, drop_all}
use Rattle.bts_names.specs.Names.{ActivityPath, same, same_exact}
use Rattle.bts_names.specs.Named.{lookup, is_there}
use Rattle.bts_names.specs.declared.key.Key.{Key}
use Rattle.bts_tree.specs.declared.activity.Activity.{Activity}
use Rattle.bts_tree.specs.Olds.{Olds, process_in, back, own_back, undone_to, FitsSlots, old_at, has_old}
use Rattle.bts_tree.specs.Slots.{Slots, Change, filled, flat, mapped, put_at}
use Rattle.bts_tree.specs.declared.old.Old.{Old}
use Rattle.bts_tree.specs.declared.old.Own.{Own}
use Rattle.bts_tree.proofs.Slotted.{IsRising, mapped_twice, mapped_alike, mapped_none, put_again, mapped_more, filled_more}

same_back : (p q : ActivityPath) → same p q ≡ same q p
same_back p q = (eq_by_cmp_equiv nat_list_cmp_total).symm p q

-- ---- one part of the old fields after the other

pub back_append : (os ps : Olds) (q : ActivityPath) (x : Option Activity) → back (os ++ ps) q x ≡ back os q (back ps q x)
back_append [] ps q x = refl
back_append (o ∷ os) ps q x = ap (cond (same o.path q) o.activity) (back_append os ps q x)

pub own_append : (os ps : Olds) (w : Own) → own_back (os ++ ps) w ≡ own_back os (own_back ps w)
own_append [] ps w = refl
own_append (o ∷ os) ps w = ap (unwrap_or o.own) (own_append os ps w)

pub mapped_append : (os ps : Olds) (es : Slots) → mapped (back (os ++ ps)) es ≡ mapped (back os) (mapped (back ps) es)
mapped_append os ps es = mapped_alike (back (os ++ ps)) (λ q x. back os q (back ps q x)) (back_append os ps) es ∙ sym (mapped_twice (back os) (back ps) es)

-- ---- an old field more

-- what stands is what is kept of it
own_again : (p : ActivityPath) (b : Bool) (w : Own) → unwrap_or (cond b (Some w) None) w ≡ w
own_again p true w = refl
own_again p false w = refl

pub undone_kept : (key : Key) (w : Own) (es : Slots) (os : Olds) (p : ActivityPath) (n : ℕ) → IsRising es → n ≤ length os
    → undone_to key w es (os ++ old_at w es p ∷ []) n ≡ undone_to key w es os n
undone_kept key w es os p n s l =
    let own = ap (λ ps. own_back ps w) (drop-append-le n os (old_at w es p ∷ []) l) ∙ own_append (drop n os) (old_at w es p ∷ []) w
    ∙ ap (own_back (drop n os)) (own_again p (same p []) w) in
    let slots = ap (λ ps. mapped (back ps) es) (drop-append-le n os (old_at w es p ∷ []) l) ∙ mapped_append (drop n os) (old_at w es p ∷ []) es
    ∙ ap (mapped (back (drop n os))) (put_again p es s) in
    λ i. process_in key (own i) (slots i)

-- ---- changes that are undone

-- what comes back doesn't depend on what stands where something is kept, and is what stands where nothing is
pub back_at : (os : Olds) (q : ActivityPath) (x y : Option Activity) → has_old q os ≡ true → back os q x ≡ back os q y
back_at [] q x y h = cc
back_at (o ∷ os) q x y h = by (same o.path q) (same_back o.path q) h (λ g. back_at os q x y g)
  where
    by : (b : Bool) → b ≡ same q o.path → (same q o.path || has_old q os) ≡ true → (has_old q os ≡ true → back os q x ≡ back os q y)
        → cond b o.activity (back os q x) ≡ cond b o.activity (back os q y)
    by true e g i = refl
    by false e g i = i (ap (λ c. c || has_old q os) e ∙ g)

-- a change of what stands at paths that are kept
abbrev pub ChangesKept : Olds → Change → Slots → Type 0
ChangesKept os f es = AllByRecursion (λ e. has_old e.0 os ≡ false → f e.0 e.1 ≡ e.1) es

pub back_changed : (os : Olds) (f : Change) (es : Slots) → ChangesKept os f es → mapped (back os) (mapped f es) ≡ mapped (back os) es
back_changed os f [] k = refl
back_changed os f (e ∷ es) k = λ i. (e.0, by (has_old e.0 os) refl i) ∷ back_changed os f es k.1 i
  where
    by : (b : Bool) → has_old e.0 os ≡ b → back os e.0 (f e.0 e.1) ≡ back os e.0 e.1
    by true h = back_at os e.0 (f e.0 e.1) e.1 h
    by false h = ap (back os e.0) (k.0 h)

pub own_changed : (os : Olds) (es : Slots) (w v : Own) → AllByRecursion (FitsSlots es) os → has_old [] os ≡ true → own_back os w ≡ own_back os v
own_changed [] es w v a h = cc
own_changed (o ∷ os) es w v a h = by o.own (same [] o.path) (a.0.1 ∙ same_back o.path []) h (λ g. own_changed os es w v a.1 g)
  where
    by : (x : Option Own) (b : Bool) → is_some x ≡ b → (b || has_old [] os) ≡ true → (has_old [] os ≡ true → own_back os w ≡ own_back os v)
        → unwrap_or x (own_back os w) ≡ unwrap_or x (own_back os v)
    by None true e g i = cc
    by None false e g i = i g
    by (Some u) b e g i = refl

-- ---- a slot more

lookup_mapped : (f : Change) (p : ActivityPath) (es : Slots) → lookup p es ≡ None → lookup p (mapped f es) ≡ None
lookup_mapped f p [] n = refl
lookup_mapped f p (e ∷ es) n = by (same p e.0) n (λ m. lookup_mapped f p es m)
  where
    by : (b : Bool) → cond b (Some e.1) (lookup p es) ≡ None → (lookup p es ≡ None → lookup p (mapped f es) ≡ None) → cond b (Some (f e.0 e.1)) (lookup p (mapped f es)) ≡ None
    by true h i = cc
    by false h i = i h

none_comes : (os : Olds) (es : Slots) (p : ActivityPath) → AllByRecursion (FitsSlots es) os → is_there p es ≡ false → back os p None ≡ None
none_comes [] es p a n = refl
none_comes (o ∷ os) es p a n = by (same o.path p) refl (none_comes os es p a.1 n)
  where
    by : (b : Bool) → same o.path p ≡ b → back os p None ≡ None → cond b o.activity (back os p None) ≡ None
    by true h i = a.0.0 (ap (λ q. is_there q es) (same_exact o.path p h) ∙ n)
    by false h i = i

pub none_there : (p : ActivityPath) (es : Slots) → is_there p es ≡ false → lookup p es ≡ None
none_there p es = by (lookup p es)
  where
    by : (o : Option (Option Activity)) → is_some o ≡ false → o ≡ None
    by None h = refl
    by (Some x) h = cc

pub back_more : (os : Olds) (es : Slots) (p : ActivityPath) → AllByRecursion (FitsSlots es) os → is_there p es ≡ false
    → filled (mapped (back os) (insert_entry (slice_cmp nat_cmp) es p None)) ≡ filled (mapped (back os) es)
back_more os es p a n =
    let none = none_there p es n in
    ap filled (mapped_more (back os) p es none ∙ ap (insert_entry (slice_cmp nat_cmp) (mapped (back os) es) p) (none_comes os es p a n))
    ∙ filled_more p (mapped (back os) es) (lookup_mapped (back os) p es none)

-- ---- undoing one by one

pub undo_step : (n : ℕ) (os left : Olds) (o : Old) (w v : Own) (es ds : Slots) → os ≡ left ++ o ∷ [] → n ≤ length left → v ≡ unwrap_or o.own w → ds ≡ mapped (put_at o.path o.activity) es
    → (own_back (drop n left) v ≡ own_back (drop n os) w) × (mapped (back (drop n left)) ds ≡ mapped (back (drop n os)) es) × (take n left ≡ take n os)
undo_step n os left o w v es ds e l own slots =
    let late = ap (drop n) e ∙ drop-append-le n left (o ∷ []) l in (
      ap (own_back (drop n left)) own ∙ sym (own_append (drop n left) (o ∷ []) w) ∙ ap (λ ps. own_back ps w) (sym late),
      ap (mapped (back (drop n left))) slots ∙ sym (mapped_append (drop n left) (o ∷ []) es) ∙ ap (λ ps. mapped (back ps) es) (sym late),
      sym (ap (take n) e ∙ take-append-le n left (o ∷ []) l),
    )

pub nothing_left : (n : ℕ) (os : Olds) (es ds : Slots) → length os ≤ n → mapped (back (drop n os)) es ≡ ds → es ≡ ds
nothing_left n os es ds l e = sym (mapped_none es) ∙ ap (λ ps. mapped (back ps) es) (sym (drop_all n os l)) ∙ e

-- ---- what every scope keeps

there_mapped : (f : Change) (p : ActivityPath) (es : Slots) → is_there p (mapped f es) ≡ is_there p es
there_mapped f p [] = refl
there_mapped f p (e ∷ es) = by (same p e.0) (there_mapped f p es)
  where
    by : (b : Bool) → is_there p (mapped f es) ≡ is_there p es → is_some (cond b (Some (f e.0 e.1)) (lookup p (mapped f es))) ≡ is_some (cond b (Some e.1) (lookup p es))
    by true i = refl
    by false i = i

pub fits_mapped : (f : Change) (es : Slots) (os : Olds) → AllByRecursion (FitsSlots es) os → AllByRecursion (FitsSlots (mapped f es)) os
fits_mapped f es [] a = a
fits_mapped f es (o ∷ os) a = ((λ n. a.0.0 (sym (there_mapped f o.path es) ∙ n), a.0.1), fits_mapped f es os a.1)

pub fits_taken : (es : Slots) (n : ℕ) (os : Olds) → AllByRecursion (FitsSlots es) os → AllByRecursion (FitsSlots es) (take n os)
fits_taken es zero os a = tt
fits_taken es (suc n) [] a = a
fits_taken es (suc n) (o ∷ os) a = (a.0, fits_taken es n os a.1)

pub fits_more : (es : Slots) (os : Olds) (o : Old) → AllByRecursion (FitsSlots es) os → FitsSlots es o → AllByRecursion (FitsSlots es) (os ++ o ∷ [])
fits_more es [] o a f = (f, a)
fits_more es (p ∷ os) o a f = (a.0, fits_more es os o a.1 f)

pub fits_dropped : (es : Slots) (n : ℕ) (os : Olds) → AllByRecursion (FitsSlots es) os → AllByRecursion (FitsSlots es) (drop n os)
fits_dropped es zero os a = a
fits_dropped es (suc n) [] a = a
fits_dropped es (suc n) (o ∷ os) a = fits_dropped es n os a.1

-- what is kept fits
pub fits_old : (w : Own) (es : Slots) (p : ActivityPath) → FitsSlots es (old_at w es p)
fits_old w es p = (λ n. ap flat (none_there p es n), by (same p []))
  where
    by : (b : Bool) → is_some (cond b (Some w) None) ≡ b
    by true = refl
    by false = refl

pub has_append : (q : ActivityPath) (os ps : Olds) → has_old q ps ≡ true → has_old q (os ++ ps) ≡ true
has_append q [] ps h = h
has_append q (o ∷ os) ps h = by (same q o.path) (has_append q os ps h)
  where
    by : (b : Bool) → has_old q (os ++ ps) ≡ true → (b || has_old q (os ++ ps)) ≡ true
    by true i = refl
    by false i = i
