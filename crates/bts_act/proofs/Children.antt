-- Children by their parents: where they are found, and what goes with them.
use Rattle.std.proofs.Common.{◌≡◌, ℕ, ◌-◌, length, arith, Bool, true, false, cond, not, ◌&&◌, option_map, unwrap_or, [], ◌∷◌, Some, is_some, Ok, Err, Result, Option, None, OnErr, refl, sym, ap, subst, ◌∙◌}
use Rattle.bts_names.specs.Names.{ActivityPath, same}
use Rattle.bts_names.specs.Answer.{done, mapped, reply_of, refuse◌because◌when◌otherwise◌}
use Rattle.bts_names.specs.declared.reply.Resp.TheVariants as resp
use Rattle.bts_names.specs.declared.reply.Reason.TheVariants as reason
use Rattle.bts_names.specs.declared.reply.Value.TheVariants as value
use Rattle.bts_names.specs.declared.reply.Reply.{Reply}
use Rattle.bts_names.specs.declared.memory.NoMemory.{NoMemory}
use Rattle.bts_command.specs.declared.command.Command.TheVariants as command
use Rattle.bts_command.specs.declared.command.Target.{Target}
use Rattle.bts_command.specs.declared.command.Target.TheVariants as of
use Rattle.bts_tree.specs.declared.activity.Activity.{Activity}
use Rattle.bts_tree.specs.Processes.{Process, activities, activity_at, child_of, edited, removed, with_pool}
use Rattle.bts_tree.specs.Activities.{Activities, changed_at, changed_by, is_at_rest}
use Rattle.bts_act.specs.Does.{Does}
use Rattle.bts_rows.specs.declared.places.Here.{Here}
use Rattle.bts_rows.specs.declared.places.Here.TheVariants as here
use Rattle.bts_rows.specs.declared.places.Thing.TheVariants as thing
use Rattle.bts_rows.specs.Places.{about_of, acquired_activity, acquired_root, child_target, find}
use Rattle.bts_rows.specs.OnFamily.{Change, delete_activity}
use Rattle.bts_rows.proofs.Frames.{is_family_at, target_child}
use Rattle.bts_rows.proofs.Lifting.{not_a_family}
use Rattle.bts_rows.proofs.Paths.{child_is, child_path, parent_is}
use Rattle.bts_rows.specs.Completions.{without_child, without_completion}
use Rattle.bts_rows.proofs.Entries as entries
use Rattle.bts_rows.proofs.TimerCalls.{first_at}
use Rattle.bts_rows.proofs.Cutting.{read_edited}
use Rattle.bts_rows.proofs.Undoing.{removed_edited}
use Rattle.bts_event.specs.declared.event.Event.{Event}
use Rattle.bts_event.specs.declared.event.Event.TheVariants.{Atomic as atomic, Composite as composite}
use Rattle.bts_event.specs.Events.{Events, completion_of, is_completion_of, is_composite}
use Rattle.bts_event.proofs.Orders.{IsRising}
use Rattle.bts_names.specs.Names.{Name}
use Rattle.bts_names.specs.Named.{lookup}
use Rattle.bts_tree.specs.Paths.{is_child_of, number_of, parent_of}
use Rattle.std.specs.List.{find as find_first, slice_get}
use Rattle.std.specs.Map.{keys_of}
use Rattle.bts_act.specs.Children.{frame_path, resting}

-- ---- a child goes

-- the row on a child that may go
pub deletes_child : (s : Process) (o : Option (ActivityPath × Activity)) (p : ActivityPath) (r : Reply) (new : Process) → resting o ≡ Ok p → r ≡ reply_of (done value.Nothing s) → new ≡ without_completion p (removed p true s)
    → Does (Ok r) s new (mapped {A = Change} (λ change. change s) (delete_activity o))
deletes_child s None p r new e d n = cc
deletes_child s (Some x) p r new e d n = by (is_at_rest x.1) e
  where
    by : (b : Bool) → cond b (Ok x.0) (Err reason.Mode) ≡ Ok p
        → Does (Ok r) s new (mapped {A = Change} (λ change. change s) (refuse resp.Activityerr because reason.Mode when not b otherwise done value.Nothing (λ z. without_completion x.0 (removed x.0 true z))))
    by true e = let q : x.0 ≡ p = cc in (d, n ∙ ap (λ z. without_completion z (removed z true s)) (sym q))
    by false e = cc

-- what is found is a child
pub resting_is_child : (s : Process) (q : ActivityPath) (name : Name) (p : ActivityPath) → resting (child_of q name s) ≡ Ok p → is_child_of q p ≡ true
resting_is_child s q name p = by (child_of q name s) refl
  where
    at_rest : (b : Bool) (x : ActivityPath × Activity) → is_child_of q x.0 ≡ true → cond b (Ok x.0) (Err reason.Mode) ≡ Ok p → is_child_of q p ≡ true
    at_rest true x c e = let i : x.0 ≡ p = cc in ap (is_child_of q) (sym i) ∙ c
    at_rest false x c e = cc

    by : (o : Option (ActivityPath × Activity)) → child_of q name s ≡ o → resting o ≡ Ok p → is_child_of q p ≡ true
    by None d e = cc
    by (Some x) d e = at_rest (is_at_rest x.1) x (child_is q name s x d) e

find_there : (f : ActivityPath × Activity → Bool) (t : Activities) (x : ActivityPath × Activity) → find_first f t ≡ Some x → is_some (lookup x.0 t) ≡ true
find_there f [] x h = cc
find_there f (y ∷ t) x h = by (f y) h (find_there f t x)
  where
    more : (b : Bool) (o : Option Activity) → is_some o ≡ true → is_some (cond b (Some y.1) o) ≡ true
    more true o i = refl
    more false o i = i

    by : (b : Bool) → cond b (Some y) (find_first f t) ≡ Some x → (find_first f t ≡ Some x → is_some (lookup x.0 t) ≡ true) → is_some (lookup x.0 (y ∷ t)) ≡ true
    by true k i = let q : y ≡ x = cc in ap (λ z. is_some (lookup z.0 (y ∷ t))) (sym q) ∙ ap is_some (entries.here y t)
    by false k i = more (same x.0 y.0) (lookup x.0 t) (i k)

pub resting_is_there : (s : Process) (q : ActivityPath) (name : Name) (p : ActivityPath) → resting (child_of q name s) ≡ Ok p → is_some (activity_at p s) ≡ true
resting_is_there s q name p = by (child_of q name s) refl
  where
    at_rest : (b : Bool) (x : ActivityPath × Activity) → is_some (activity_at x.0 s) ≡ true → cond b (Ok x.0) (Err reason.Mode) ≡ Ok p → is_some (activity_at p s) ≡ true
    at_rest true x c e = let i : x.0 ≡ p = cc in ap (λ z. is_some (activity_at z s)) (sym i) ∙ c
    at_rest false x c e = cc

    by : (o : Option (ActivityPath × Activity)) → child_of q name s ≡ o → resting o ≡ Ok p → is_some (activity_at p s) ≡ true
    by None d e = cc
    by (Some x) d e = at_rest (is_at_rest x.1) x (find_there (λ y. is_child_of q y.0 && same name y.1.name) (activities s) x d) e

-- a change of one activity leaves which are there
pub there_edited : (q r : ActivityPath) (f : Activity → Activity) (s : Process) → is_some (activity_at r s) ≡ true → is_some (activity_at r (edited q f s)) ≡ true
there_edited q r f s h = by (activity_at q s) refl
  where
    more : (b : Bool) (a : Activity) (o : Option Activity) → is_some o ≡ true → is_some (cond b (Some a) o) ≡ true
    more true a o i = refl
    more false a o i = i

    none : (o : Option Activities) → lookup q (unwrap_or o []) ≡ None → is_some (lookup r (unwrap_or o [])) ≡ true → is_some (lookup r (unwrap_or (option_map (changed_at q f) o) [])) ≡ true
    none None e i = i
    none (Some t) e i = ap (λ o. is_some (lookup r (changed_by q f o t))) e ∙ i

    by : (o : Option Activity) → activity_at q s ≡ o → is_some (activity_at r (edited q f s)) ≡ true
    by None e = none s.tree e h
    by (Some a) e = ap is_some (read_edited q f s a e r) ∙ more (same q r) (f a) (activity_at r s) h

pub child_removed : (q p : ActivityPath) (s : Process) → is_child_of q p ≡ true → removed p true (with_pool q (without_child (number_of p)) s) ≡ without_completion p (removed p true s)
child_removed q p s c =
    let f : Activity → Activity = λ a. record a { pool = without_child (number_of p) a.pool } in
    subst (λ z. removed z true (edited q f s) ≡ edited q f (removed z true s)) (sym (child_path q p c)) (removed_edited q (number_of p) f s)
    ∙ ap (λ z. with_pool z (without_child (number_of p)) (removed p true s)) (sym (parent_is q p c))

-- ---- a child and its parent

pub child_event_is_atomic : (n : ℕ) (es : Events) (e : Name) → IsRising (keys_of es) → completion_of n es ≡ Some e → is_composite (lookup e es) ≡ false
child_event_is_atomic n es e s h = let f = first_at (is_completion_of n) es e s h in ap is_composite f.found ∙ by f.value f.passed
  where
    by : (v : Event) → is_completion_of n v ≡ true → is_composite (Some v) ≡ false
    by (atomic a) h = refl
    by (composite c) h = cc

pub on_err : {A : Type 0} (r : Result A NoMemory) (P Q : Type 0) → (P → Q) → OnErr r P → OnErr r Q
on_err (Ok x) P Q f h = h
on_err (Err e) P Q f h = f h

one_less : (m : ℕ) (p : ActivityPath) → length (m ∷ p) - 1 ≡ length p
one_less m p = omega arith

pub last_of : (p : ActivityPath) (n : ℕ) → slice_get p (length p - 1) ≡ Some n → number_of p ≡ n
last_of [] n h = cc
last_of (m ∷ []) n h = cc
last_of (m ∷ k ∷ p) n h = last_of (k ∷ p) n (ap (slice_get (k ∷ p)) (one_less k p) ∙ sym (ap (slice_get (m ∷ k ∷ p)) (one_less m (k ∷ p))) ∙ h)

pub parent_checked : (h : Here) (s : Process) (target : Target) (p : ActivityPath) → find h s (about_of (command.Check target)) ≡ Ok (thing.Family p) → parent_of p ≡ frame_path h
parent_checked (here.Activity q) s (of.Activity m) p f = parent_is q p (target_child q s (of.Activity m) p (is_family_at (child_target q s (of.Activity m)) p f))
parent_checked (here.Activity q) s of.AcqProcess p f = cc
parent_checked (here.Activity q) s of.AcqActivity p f = cc
parent_checked (here.Request k) s (of.Activity m) p f = cc
parent_checked (here.Request k) s of.AcqProcess p f = absurd (not_a_family (acquired_root k) p f)
parent_checked (here.Request k) s of.AcqActivity p f = absurd (not_a_family (acquired_activity k) p f)
