-- The activities in a scope's slots, and changes of what is in them.
use Rattle.std.proofs.Common.{◌≡◌, ◌↔◌, ◌≤◌, ℕ, suc, length, arith, le_refl, IsTrue, Bool, true, false, cond, [], ◌∷◌, ◌++◌, refl, ap, sym, subst, ◌∙◌}
use Rattle.std.proofs.lemmas.List.{append-nil}
use Rattle.std.specs.Prelude.{Option, Some, None, is_some, IfSome}
use Rattle.std.specs.BTreeMap.{insert_entry}
use Rattle.std.specs.List.{AllByRecursion, filter}
use Rattle.std.specs.List.Sorted.{IsStrictlySortedBy}
use Rattle.std.specs.Map.{keys_of, set_value}
use Rattle.std.specs.Option.{option_map}
use Rattle.std.specs.Ordering.{nat_cmp, match_ordering, is_eq}
use Rattle.std.specs.Cmp.Lexicographic.{slice_cmp}
use Rattle.std.specs.declared.cmp.Ordering.{Ordering}
use Rattle.std.specs.declared.cmp.Ordering.TheVariants.{Less, Equal, Greater}
use Rattle.std.proofs.lemmas.Cmp.{eq_by_cmp_equiv, nat_list_cmp_total}
use Rattle.std.proofs.lemmas.Map.{NonePasses, lookup-none}
use Rattle.std.proofs.lemmas.Map.Entries.{none_past_head, none_below_head}
use Rattle.std.proofs.lemmas.Map.Keys.{sorted_head, sorted_tail, IsDistinct-from_sorted}
use Rattle.bts_names.specs.Names.{Name, ActivityPath, same, same_exact}
use Rattle.bts_names.specs.Named.{lookup, in_order}
use Rattle.bts_names.specs.declared.key.Key.{Key}
use Rattle.bts_names.specs.declared.state.Status.{Status}
use Rattle.bts_tree.specs.Activities.{Activities, written_at, completed_at, completed_one, without_below, stays_without}
use Rattle.bts_tree.specs.declared.activity.Activity.{Activity}
use Rattle.bts_tree.specs.Repositories.{due_at, due_among, raised_activity, raised_tree}
use Rattle.bts_tree.specs.Slots.{Slots, AreFilled, in_slots, Change, filled, in_slot, flat, read, mapped, put_at, completed_slot, emptied_slot, raised_slot}

abbrev pub IsRising : Slots → Type 0
IsRising es = IsStrictlySortedBy (slice_cmp nat_cmp) (keys_of es)

abbrev HasNone : ActivityPath → Slots → Type 0
HasNone p es = NonePasses (same p) es

rising_tail : (e : ActivityPath × Option Activity) (es : Slots) → IsRising (e ∷ es) → IsRising es
rising_tail e es s = sorted_tail (slice_cmp nat_cmp) e.0 (keys_of es) s

past_head : (p : ActivityPath) (e : ActivityPath × Option Activity) (es : Slots) → IsRising (e ∷ es) → same p e.0 ≡ true → HasNone p es
past_head p e es s h = none_past_head (eq_by_cmp_equiv nat_list_cmp_total) p e es (IsDistinct-from_sorted (slice_cmp nat_cmp) _ s) h

-- ---- changes

pub mapped_twice : (g f : Change) (es : Slots) → mapped g (mapped f es) ≡ mapped (λ q x. g q (f q x)) es
mapped_twice g f [] = refl
mapped_twice g f (e ∷ es) = ap (λ ds. (e.0, g e.0 (f e.0 e.1)) ∷ ds) (mapped_twice g f es)

pub mapped_alike : (g f : Change) → ((q : ActivityPath) (x : Option Activity) → g q x ≡ f q x) → (es : Slots) → mapped g es ≡ mapped f es
mapped_alike g f same es = λ i. mapped (λ q x. same q x i) es

pub mapped_none : (es : Slots) → mapped (λ q x. x) es ≡ es
mapped_none [] = refl
mapped_none (e ∷ es) = ap (λ ds. e ∷ ds) (mapped_none es)

pub keys_mapped : (f : Change) (es : Slots) → keys_of (mapped f es) ≡ keys_of es
keys_mapped f [] = refl
keys_mapped f (e ∷ es) = ap (λ ks. e.0 ∷ ks) (keys_mapped f es)

put_nowhere : (p : ActivityPath) (x : Option Activity) (es : Slots) → HasNone p es → mapped (put_at p x) es ≡ es
put_nowhere p x [] n = refl
put_nowhere p x (e ∷ es) n = λ i. (e.0, cond (n.0 i) x e.1) ∷ put_nowhere p x es n.1 i

pub set_is_mapped : (p : ActivityPath) (x : Option Activity) (es : Slots) → IsRising es → set_value (same p) es x ≡ mapped (put_at p x) es
set_is_mapped p x [] s = refl
set_is_mapped p x (e ∷ es) s = by (same p e.0) refl (set_is_mapped p x es (rising_tail e es s))
  where
    by : (b : Bool) → same p e.0 ≡ b → set_value (same p) es x ≡ mapped (put_at p x) es → cond b ((e.0, x) ∷ es) (e ∷ set_value (same p) es x) ≡ (e.0, cond b x e.1) ∷ mapped (put_at p x) es
    by true h i = ap (λ ds. (e.0, x) ∷ ds) (sym (put_nowhere p x es (past_head p e es s h)))
    by false h i = ap (λ ds. e ∷ ds) i

pub set_nowhere : (p : ActivityPath) (x : Option Activity) (es : Slots) → lookup p es ≡ None → set_value (same p) es x ≡ es
set_nowhere p x [] n = refl
set_nowhere p x (e ∷ es) n = by (same p e.0) n (λ m. set_nowhere p x es m)
  where
    by : (b : Bool) → cond b (Some e.1) (lookup p es) ≡ None → (lookup p es ≡ None → set_value (same p) es x ≡ es) → cond b ((e.0, x) ∷ es) (e ∷ set_value (same p) es x) ≡ e ∷ es
    by true h i = cc
    by false h i = ap (λ ds. e ∷ ds) (i h)

-- what stands at a path, put there again
pub put_again : (p : ActivityPath) (es : Slots) → IsRising es → mapped (put_at p (read p es)) es ≡ es
put_again p [] s = refl
put_again p (e ∷ es) s = by (same p e.0) refl (put_again p es (rising_tail e es s))
  where
    by : (b : Bool) → same p e.0 ≡ b → mapped (put_at p (read p es)) es ≡ es → (e.0, cond b (flat (cond b (Some e.1) (lookup p es))) e.1) ∷ mapped (put_at p (flat (cond b (Some e.1) (lookup p es)))) es ≡ e ∷ es
    by true h i = ap (λ ds. e ∷ ds) (put_nowhere p e.1 es (past_head p e es s h))
    by false h i = ap (λ ds. e ∷ ds) i

-- ---- the activities

none_filled : (p : ActivityPath) (es : Slots) → HasNone p es → lookup p (filled es) ≡ None
none_filled p [] n = refl
none_filled p (e ∷ es) n = by e.1 (none_filled p es n.1)
  where
    by : (x : Option Activity) → lookup p (filled es) ≡ None → lookup p (in_slot e.0 x (filled es)) ≡ None
    by None i = i
    by (Some a) i = ap (λ b. cond b (Some a) (lookup p (filled es))) n.0 ∙ i

pub found : (p : ActivityPath) (es : Slots) → IsRising es → lookup p (filled es) ≡ read p es
found p [] s = refl
found p (e ∷ es) s = by e.1 (same p e.0) refl (found p es (rising_tail e es s))
  where
    by : (x : Option Activity) (b : Bool) → same p e.0 ≡ b → lookup p (filled es) ≡ read p es
        → lookup p (in_slot e.0 x (filled es)) ≡ flat (cond b (Some x) (lookup p es))
    by None true h i = none_filled p es (past_head p e es s h)
    by None false h i = i
    by (Some a) true h i = ap (λ b. cond b (Some a) (lookup p (filled es))) h
    by (Some a) false h i = ap (λ b. cond b (Some a) (lookup p (filled es))) h ∙ i

-- an activity in place of one
pub filled_written : (p : ActivityPath) (w : Activity) (es : Slots) → IsRising es → is_some (read p es) ≡ true
    → filled (mapped (put_at p (Some w)) es) ≡ written_at p w (filled es)
filled_written p w [] s t = refl
filled_written p w (e ∷ es) s t = by e.1 (same p e.0) refl t (λ u. filled_written p w es (rising_tail e es s) u)
  where
    by : (x : Option Activity) (b : Bool) → same p e.0 ≡ b → is_some (flat (cond b (Some x) (lookup p es))) ≡ true
        → (is_some (read p es) ≡ true → filled (mapped (put_at p (Some w)) es) ≡ written_at p w (filled es))
        → in_slot e.0 (cond b (Some w) x) (filled (mapped (put_at p (Some w)) es)) ≡ written_at p w (in_slot e.0 x (filled es))
    by None true h u i = cc
    by None false h u i = i u
    by (Some a) true h u i =
        ap (λ ds. (e.0, w) ∷ filled ds) (put_nowhere p (Some w) es (past_head p e es s h))
        ∙ sym (ap (λ b. cond b ((e.0, w) ∷ filled es) ((e.0, a) ∷ written_at p w (filled es))) h)
    by (Some a) false h u i =
        ap (λ ds. (e.0, a) ∷ ds) (i u)
        ∙ sym (ap (λ b. cond b ((e.0, w) ∷ filled es) ((e.0, a) ∷ written_at p w (filled es))) h)

pub filled_completed : (p : ActivityPath) (status : Status) (code : Option Name) (es : Slots)
    → filled (mapped (completed_slot p status code) es) ≡ completed_at p status code (filled es)
filled_completed p status code [] = refl
filled_completed p status code (e ∷ es) = by e.1 (filled_completed p status code es)
  where
    by : (x : Option Activity) → filled (mapped (completed_slot p status code) es) ≡ completed_at p status code (filled es)
        → in_slot e.0 (option_map (λ a. completed_one p status code (e.0, a)) x) (filled (mapped (completed_slot p status code) es)) ≡ completed_at p status code (in_slot e.0 x (filled es))
    by None i = i
    by (Some a) i = ap (λ t. (e.0, completed_one p status code (e.0, a)) ∷ t) i

pub filled_emptied : (p : ActivityPath) (itself : Bool) (es : Slots)
    → filled (mapped (emptied_slot p itself) es) ≡ without_below p itself (filled es)
filled_emptied p itself [] = refl
filled_emptied p itself (e ∷ es) = by e.1 (stays_without p itself e.0) refl (filled_emptied p itself es)
  where
    by : (x : Option Activity) (b : Bool) → stays_without p itself e.0 ≡ b → filled (mapped (emptied_slot p itself) es) ≡ without_below p itself (filled es)
        → in_slot e.0 (cond b x None) (filled (mapped (emptied_slot p itself) es)) ≡ without_below p itself (in_slot e.0 x (filled es))
    by None true h i = i
    by None false h i = i
    by (Some a) true h i =
        ap (λ t. (e.0, a) ∷ t) i ∙ sym (ap (λ b. cond b ((e.0, a) ∷ without_below p itself (filled es)) (without_below p itself (filled es))) h)
    by (Some a) false h i =
        i ∙ sym (ap (λ b. cond b ((e.0, a) ∷ without_below p itself (filled es)) (without_below p itself (filled es))) h)

pub filled_raised : (es : Slots) → filled (mapped raised_slot es) ≡ raised_tree (filled es)
filled_raised [] = refl
filled_raised (e ∷ es) = by e.1 (filled_raised es)
  where
    by : (x : Option Activity) → filled (mapped raised_slot es) ≡ raised_tree (filled es) → in_slot e.0 (option_map raised_activity x) (filled (mapped raised_slot es)) ≡ raised_tree (in_slot e.0 x (filled es))
    by None i = i
    by (Some a) i = ap (λ t. (e.0, raised_activity a) ∷ t) i

-- ---- trees, where every slot is filled

pub raised_filled : (es : Slots) → AreFilled es → AreFilled (mapped raised_slot es)
raised_filled [] a = a
raised_filled (e ∷ es) a = (by e.1 a.0, raised_filled es a.1)
  where
    by : (x : Option Activity) → is_some x ≡ true → is_some (option_map raised_activity x) ≡ true
    by None h = h
    by (Some b) h = refl

filled_all : (P : ActivityPath → Type 0) (es : Slots) → AllByRecursion P (keys_of es) → AllByRecursion P (keys_of (filled es))
filled_all P [] a = a
filled_all P (e ∷ es) a = by e.1 (filled_all P es a.1)
  where
    by : (x : Option Activity) → AllByRecursion P (keys_of (filled es)) → AllByRecursion P (keys_of (in_slot e.0 x (filled es)))
    by None i = i
    by (Some b) i = (a.0, i)

pub filled_rising : (es : Slots) → IsRising es → IsStrictlySortedBy (slice_cmp nat_cmp) (keys_of (filled es))
unfolding IsStrictlySortedBy
filled_rising [] s = s
filled_rising (e ∷ es) s = by e.1 (filled_rising es s.1)
  where
    by : (x : Option Activity) → IsStrictlySortedBy (slice_cmp nat_cmp) (keys_of (filled es)) → IsStrictlySortedBy (slice_cmp nat_cmp) (keys_of (in_slot e.0 x (filled es)))
    by None i = i
    by (Some b) i = (filled_all (λ q. slice_cmp nat_cmp e.0 q ≡ Less) es s.0, i)

-- so does a tree that there may be
pub tree_rising : (planted : Bool) (es : Slots) (tree : Option Activities) → cond planted (Some (filled es)) None ≡ tree → IsRising es
    → IfSome tree (λ t. IsStrictlySortedBy (slice_cmp nat_cmp) (keys_of t))
tree_rising true es tree e s = subst (λ (o : Option Activities). IfSome o (λ t. IsStrictlySortedBy (slice_cmp nat_cmp) (keys_of t))) e (filled_rising es s)
tree_rising false es tree e s = subst (λ (o : Option Activities). IfSome o (λ t. IsStrictlySortedBy (slice_cmp nat_cmp) (keys_of t))) e tt

pub filled_in_slots : (tree : Activities) → filled (in_slots tree) ≡ tree
filled_in_slots [] = refl
filled_in_slots (x ∷ tree) = ap (λ t. x ∷ t) (filled_in_slots tree)

pub keys_in_slots : (tree : Activities) → keys_of (in_slots tree) ≡ keys_of tree
keys_in_slots [] = refl
keys_in_slots (x ∷ tree) = ap (λ ks. x.0 ∷ ks) (keys_in_slots tree)

pub in_slots_filled : (tree : Activities) → AreFilled (in_slots tree)
in_slots_filled [] = tt
in_slots_filled (x ∷ tree) = (refl, in_slots_filled tree)

-- where every slot is filled, the activities say all
pub all_in_slots : (es : Slots) → AreFilled es → in_slots (filled es) ≡ es
all_in_slots [] a = refl
all_in_slots (e ∷ es) a = by e.1 a.0 (all_in_slots es a.1)
  where
    by : (x : Option Activity) → is_some x ≡ true → in_slots (filled es) ≡ es → in_slots (in_slot e.0 x (filled es)) ≡ (e.0, x) ∷ es
    by None h i = cc
    by (Some a) h i = ap (λ ds. (e.0, Some a) ∷ ds) i

pub filled_length : (es : Slots) → AreFilled es → length (filled es) ≡ length es
filled_length es a = sym (in_slots_length (filled es)) ∙ ap length (all_in_slots es a)
  where
    in_slots_length : (tree : Activities) → length (in_slots tree) ≡ length tree
    in_slots_length [] = refl
    in_slots_length (x ∷ tree) = ap suc (in_slots_length tree)

none_long : (tree : Activities) → length tree ≡ 0 → tree ≡ []
none_long [] h = refl
none_long (x ∷ tree) h = cc

-- whether a tree has no activity
pub empty_tree : (es : Slots) (tree : Activities) (r : Bool) → AreFilled es → filled es ≡ tree → IsTrue r ↔ (length es ≡ 0) → IsTrue r ↔ (tree ≡ [])
empty_tree es tree r a view i = (
  (λ t. sym view ∙ none_long (filled es) (filled_length es a ∙ i.0 t)),
  λ e. i.1 (sym (filled_length es a) ∙ ap length (view ∙ e)),
)

-- whether a tree is what is filled in other slots
pub same_tree : (es ds : Slots) (tree : Activities) (r : Bool) → AreFilled ds → filled ds ≡ tree → IsTrue r ↔ (in_slots (filled es) ≡ ds) → IsTrue r ↔ (tree ≡ filled es)
same_tree es ds tree r a view i = (
  (λ t. sym view ∙ ap filled (sym (i.0 t)) ∙ filled_in_slots (filled es)),
  λ e. i.1 (ap in_slots (sym e ∙ sym view) ∙ all_in_slots ds a),
)

-- no more is filled than there are slots
pub filled_shorter : (es : Slots) → length (filled es) ≤ length es
filled_shorter [] = le_refl 0
filled_shorter (e ∷ es) = by e.1 (filled_shorter es)
  where
    by : (x : Option Activity) → length (filled es) ≤ length es → length (in_slot e.0 x (filled es)) ≤ suc (length es)
    by None i = omega (arith, i)
    by (Some a) i = omega (arith, i)

pub tidied : (es : Slots) → AreFilled (filter (λ e. is_some e.1) es)
tidied [] = tt
tidied (e ∷ es) = by (is_some e.1) refl (tidied es)
  where
    by : (b : Bool) → is_some e.1 ≡ b → AreFilled (filter (λ e. is_some e.1) es) → AreFilled (cond b (e ∷ filter (λ e. is_some e.1) es) (filter (λ e. is_some e.1) es))
    by true h i = (h, i)
    by false h i = i

pub filled_tidied : (es : Slots) → filled (filter (λ e. is_some e.1) es) ≡ filled es
filled_tidied [] = refl
filled_tidied (e ∷ es) = by e.1 (filled_tidied es)
  where
    by : (x : Option Activity) → filled (filter (λ e. is_some e.1) es) ≡ filled es
        → filled (cond (is_some x) ((e.0, x) ∷ filter (λ e. is_some e.1) es) (filter (λ e. is_some e.1) es)) ≡ in_slot e.0 x (filled es)
    by None i = i
    by (Some a) i = ap (λ t. (e.0, a) ∷ t) i

-- the timers of one slot stand in front of those of the others
pub due_slot : (now : ℕ) (key : Key) (p : ActivityPath) (x : Option Activity) (rest : Activities) → due_among now key (in_slot p x rest) ≡ due_among now key (in_slot p x []) ++ due_among now key rest
due_slot now key p None rest = refl
due_slot now key p (Some a) rest = ap (λ ds. ds ++ due_among now key rest) (sym (append-nil (due_at now key p a.timers)))

-- ---- a new slot

-- where no slot is at a path, a new one changes no other
pub mapped_more : (f : Change) (p : ActivityPath) (es : Slots) → lookup p es ≡ None
    → mapped f (insert_entry (slice_cmp nat_cmp) es p None) ≡ insert_entry (slice_cmp nat_cmp) (mapped f es) p (f p None)
mapped_more f p [] n = refl
mapped_more f p (e ∷ es) n = by (slice_cmp nat_cmp p e.0) n (λ m. mapped_more f p es m)
  where
    by : (o : Ordering) → cond (is_eq o) (Some e.1) (lookup p es) ≡ None
        → (lookup p es ≡ None → mapped f (insert_entry (slice_cmp nat_cmp) es p None) ≡ insert_entry (slice_cmp nat_cmp) (mapped f es) p (f p None))
        → mapped f (match_ordering o ((p, None) ∷ e ∷ es) ((e.0, None) ∷ es) (e ∷ insert_entry (slice_cmp nat_cmp) es p None))
        ≡ match_ordering o ((p, f p None) ∷ (e.0, f e.0 e.1) ∷ mapped f es) ((e.0, f p None) ∷ mapped f es) ((e.0, f e.0 e.1) ∷ insert_entry (slice_cmp nat_cmp) (mapped f es) p (f p None))
    by Less m i = refl
    by Equal m i = cc
    by Greater m i = ap (λ ds. (e.0, f e.0 e.1) ∷ ds) (i m)

-- an empty slot more
pub filled_more : (p : ActivityPath) (es : Slots) → lookup p es ≡ None → filled (insert_entry (slice_cmp nat_cmp) es p None) ≡ filled es
filled_more p [] n = refl
filled_more p (e ∷ es) n = by (slice_cmp nat_cmp p e.0) n (λ m. filled_more p es m)
  where
    by : (o : Ordering) → cond (is_eq o) (Some e.1) (lookup p es) ≡ None
        → (lookup p es ≡ None → filled (insert_entry (slice_cmp nat_cmp) es p None) ≡ filled es)
        → filled (match_ordering o ((p, None) ∷ e ∷ es) ((e.0, None) ∷ es) (e ∷ insert_entry (slice_cmp nat_cmp) es p None)) ≡ in_slot e.0 e.1 (filled es)
    by Less m i = refl
    by Equal m i = cc
    by Greater m i = ap (in_slot e.0 e.1) (i m)

front_of : (p : ActivityPath) (a : Activity) (es : Slots) → AllByRecursion (λ q. slice_cmp nat_cmp p q ≡ Less) (keys_of es) → in_order p a (filled es) ≡ (p, a) ∷ filled es
front_of p a [] all = refl
front_of p a (e ∷ es) all = by e.1 (front_of p a es all.1)
  where
    by : (x : Option Activity) → in_order p a (filled es) ≡ (p, a) ∷ filled es → in_order p a (in_slot e.0 x (filled es)) ≡ (p, a) ∷ in_slot e.0 x (filled es)
    by None i = i
    by (Some b) i =
        ap (λ o. match_ordering o ((p, a) ∷ (e.0, b) ∷ filled es) ((e.0, a) ∷ filled es) ((e.0, b) ∷ in_order p a (filled es))) all.0

-- the path of a slot that is there stands before none of them
not_below : (p : ActivityPath) (e : ActivityPath × Option Activity) (es : Slots) → IsRising (e ∷ es) → is_some (lookup p (e ∷ es)) ≡ true → slice_cmp nat_cmp p e.0 ≡ Less → {A : Type 0} → A
not_below p e es s i h =
    let none = lookup-none (same p) (e ∷ es) (none_below_head nat_list_cmp_total p e es s h) in
    let lost : false ≡ true = sym (ap is_some none) ∙ i in
    cc

-- an activity in a slot that is there
pub filled_put : (p : ActivityPath) (a : Activity) (es : Slots) → IsRising es → is_some (lookup p es) ≡ true
    → filled (mapped (put_at p (Some a)) es) ≡ in_order p a (filled es)
filled_put p a [] s t = cc
filled_put p a (e ∷ es) s t = by e.1 (slice_cmp nat_cmp p e.0) refl t (λ u. filled_put p a es (rising_tail e es s) u)
  where
    by : (x : Option Activity) (o : Ordering) → slice_cmp nat_cmp p e.0 ≡ o → is_some (cond (is_eq o) (Some x) (lookup p es)) ≡ true
        → (is_some (lookup p es) ≡ true → filled (mapped (put_at p (Some a)) es) ≡ in_order p a (filled es))
        → in_slot e.0 (cond (is_eq o) (Some a) x) (filled (mapped (put_at p (Some a)) es)) ≡ in_order p a (in_slot e.0 x (filled es))
    by x Less h u i = not_below p e es s t h
    by None Equal h u i =
        let k : p ≡ e.0 = same_exact p e.0 (ap is_eq h) in
        ap (λ ds. (e.0, a) ∷ filled ds) (put_nowhere p (Some a) es (past_head p e es s (ap is_eq h)))
        ∙ ap (λ q. (q, a) ∷ filled es) (sym k)
        ∙ sym (front_of p a es (subst (λ q. AllByRecursion (λ y. slice_cmp nat_cmp q y ≡ Less) (keys_of es)) (sym k) (sorted_head (slice_cmp nat_cmp) e.0 (keys_of es) s)))
    by (Some b) Equal h u i =
        ap (λ ds. (e.0, a) ∷ filled ds) (put_nowhere p (Some a) es (past_head p e es s (ap is_eq h)))
        ∙ sym (ap (λ o. match_ordering o ((p, a) ∷ (e.0, b) ∷ filled es) ((e.0, a) ∷ filled es) ((e.0, b) ∷ in_order p a (filled es))) h)
    by None Greater h u i = i u
    by (Some b) Greater h u i =
        ap (λ t. (e.0, b) ∷ t) (i u)
        ∙ sym (ap (λ o. match_ordering o ((p, a) ∷ (e.0, b) ∷ filled es) ((e.0, a) ∷ filled es) ((e.0, b) ∷ in_order p a (filled es))) h)
