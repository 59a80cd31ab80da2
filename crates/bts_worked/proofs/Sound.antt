-- Soundness: a small process that is sound, and others that aren't, each for one reason.
use Rattle.std.proofs.Common.{◌≡◌, ◌≤◌, ◌+◌, ℕ, Bool, true, false, List, [], ◌∷◌, Option, Some, None, cond, codes, map, refl, ap, ◌∙◌, arith}
use Rattle.std.specs.List.{IsDistinct}
use Rattle.std.specs.List.Sorted.{IsStrictlySortedBy}
use Rattle.bts_names.specs.Names.{Name, same, initial_name}
use Rattle.bts_names.specs.declared.state.Mode.TheVariants as mode
use Rattle.bts_names.specs.declared.state.Status.TheVariants as status
use Rattle.bts_names.specs.declared.state.TimerStatus.TheVariants as timer
use Rattle.bts_container.specs.Containers.{Containers, IsPool, no_containers, raised}
use Rattle.bts_container.specs.declared.format.Format.{Format}
use Rattle.bts_container.specs.declared.format.Format.TheVariants as format
use Rattle.bts_event.specs.Composites.{Composite}
use Rattle.bts_event.specs.declared.event.Event.{Event}
use Rattle.bts_event.specs.declared.event.Event.TheVariants.{Atomic as atomic, Composite as composite}
use Rattle.bts_event.specs.declared.event.Trigger.{Trigger}
use Rattle.bts_event.specs.declared.event.Trigger.TheVariants.{Completion, Timer, Input}
use Rattle.bts_event.specs.declared.queue.Entry.{Entry}
use Rattle.bts_event.specs.Events.{Events}
use Rattle.bts_event.specs.Pool.{Pool, empty_pool}
use Rattle.bts_event.specs.Sound.{IsSoundPool, EntriesFit, one_if}
use Rattle.bts_event.proofs.Same.{same_sym}
use Rattle.bts_tree.specs.Activities.{Activities, new_activity, new_root}
use Rattle.bts_tree.specs.Processes.{Process, format_of, with_containers}
use Rattle.bts_tree.specs.Repositories.{Processes, raised_all}
use Rattle.bts_tree.specs.Soundness.{AreSound, IsSoundActivity, IsSoundInFrames, IsSoundTree}
use Rattle.bts_tree.specs.declared.activity.Activity.{Activity}
use Rattle.bts_worked.proofs.Tables.{new, undefined, with_root, active}

abbrev a : Name
a = codes "A"

abbrev t1 : Name
t1 = codes "T1"

abbrev an_event : Trigger → Bool → Event
an_event trigger fired = atomic (record { trigger = trigger; fired = fired })

abbrev of_events : Events → List Entry → ℕ → Pool
of_events events entries last = record { events = events; entries = entries; last = last }

-- ---- sound: a root that waits for its child and for a timer, beside a container of the process

abbrev both_events : Events
both_events = (a, an_event (Completion 1) false) ∷ (t1, an_event (Timer t1) false) ∷ []

abbrev waiting_root : Activity
waiting_root = record (new_root format.One (codes "ORD1") (codes "ROOT")) {
  mode = mode.Dormant;
  made = 1;
  timers = (t1, record { due = 60; status = timer.Unexpired }) ∷ [];
  pool = of_events both_events [] 1;
}

abbrev new_child : Activity
new_child = new_activity format.One a (codes "T1") (codes "KID") (Some a)

abbrev family : Activities
family = ([], waiting_root) ∷ (1 ∷ [], new_child) ∷ []

abbrev one_container : Containers
one_container = record { format = format.One; items = (codes "C", codes "x") ∷ [] }

abbrev waits : Process
waits = record new { tree = Some family; containers = one_container }

-- what stands under a name, by whether it is the first event's and whether it is the second's
abbrev found : Bool → Bool → Option Event
found first second = cond first (Some (an_event (Completion 1) false)) (cond second (Some (an_event (Timer t1) false)) None)

no_entry : (n : Name) (first second : Bool) → EntriesFit n (found first second) None 0
no_entry n true second = refl
no_entry n false true = refl
no_entry n false false = λ h. refl

no_composite : (k : Composite) (first second : Bool) → found first second ≡ Some (composite k) → ⊥
no_composite k true second h = cc
no_composite k false true h = cc
no_composite k false false h = cc

its_pool : IsSoundPool waiting_root.pool
unfolding IsStrictlySortedBy
its_pool = record {
  events = record { ordered = ((refl, tt), (tt, tt)); few = omega arith; unnamed = refl; composites = λ c k h. absurd (no_composite k (same c a) (same c t1) h) };
  entries = λ n. no_entry n (same n a) (same n t1);
  numbers = omega arith;
}

empty : IsSoundPool empty_pool
unfolding IsStrictlySortedBy
empty = record {
  events = record { ordered = tt; few = omega arith; unnamed = refl; composites = λ c k h. cc };
  entries = λ n h. refl;
  numbers = omega arith;
}

-- an entry may have the number 0, where no higher one was given
first_of_all : IsSoundPool (of_events [] (record { name = initial_name; number = 0 } ∷ []) 0)
unfolding IsStrictlySortedBy
first_of_all = record {
  events = record { ordered = tt; few = omega arith; unnamed = refl; composites = λ c k h. cc };
  entries = λ n other. ap (λ b. one_if b + 0) (same_sym initial_name n ∙ other);
  numbers = (omega arith, omega arith);
}

its_containers : IsPool (no_containers format.One)
unfolding IsDistinct
its_containers = record { few = omega arith; short = tt; distinct = tt }

its_root : IsSoundActivity waiting_root
unfolding IsStrictlySortedBy
its_root = record {
  status = refl;
  code = refl;
  pool = its_pool;
  timers_rise = (tt, tt);
  timer_events = record { one_event_each = refl; timer_of_each = refl; unexpired = refl };
  containers = its_containers;
  few_children = omega arith;
}

its_child : IsSoundActivity new_child
unfolding IsStrictlySortedBy
its_child = record {
  status = refl;
  code = refl;
  pool = empty;
  timers_rise = tt;
  timer_events = record { one_event_each = refl; timer_of_each = refl; unexpired = refl };
  containers = its_containers;
  few_children = omega arith;
}

its_tree : IsSoundTree family
unfolding IsStrictlySortedBy IsDistinct
its_tree = record {
  paths_rise = ((refl, tt), (tt, tt));
  root = refl;
  activities = (its_root, (its_child, tt));
  parents = (
    record { parent = refl; number = refl; name = refl; completion = refl; told = refl; event = refl; depth = omega arith },
    (record { parent = refl; number = refl; name = refl; completion = refl; told = refl; event = refl; depth = omega arith }, tt),
  );
  children = (record { distinct_names = (tt, tt); events = refl }, (record { distinct_names = tt; events = refl }, tt));
}

sound : IsSoundInFrames [] waits
unfolding IsDistinct
sound = record {
  tree = (its_tree, omega arith);
  containers = record { few = omega arith; short = (refl, tt); distinct = (tt, tt) };
  formats = (refl, (refl, tt));
  active = refl;
}

-- ---- not sound

-- the same with another root or another child
abbrev with_family : (Activity → Activity) → (Activity → Activity) → Process
with_family f g = record new { tree = Some (([], f waiting_root) ∷ (1 ∷ [], g new_child) ∷ []) }

abbrev same_as_it_was : Activity → Activity
same_as_it_was x = x

none_is_one : (n : ℕ) → n ≡ 0 → n ≡ 1 → ⊥
none_is_one n none one = omega arith

-- ACTIVE though no frame is open, and not ACTIVE in an open frame
active_without_a_frame : IsSoundInFrames [] (active new) → ⊥
active_without_a_frame s = let e : false ≡ true = s.active in cc

frame_without_an_active : IsSoundInFrames ([] ∷ []) new → ⊥
frame_without_an_active s = let e : false ≡ true = s.active in cc

-- containers though there is no tree, and a tree though the key was never defined
containers_without_a_tree : IsSoundInFrames [] (with_containers one_container undefined) → ⊥
containers_without_a_tree s = let e : one_container.items ≡ [] = s.tree in cc

never_defined : IsSoundInFrames [] (record new { generation = 0 }) → ⊥
never_defined s = let e : 1 ≤ 0 = s.tree.1 in omega arith

-- NORMAL though it isn't COMPLETE
normal_too_early : IsSoundInFrames [] (with_family (λ x. record x { status = status.Normal }) same_as_it_was) → ⊥
normal_too_early s = let e : false ≡ true = s.tree.0.activities.0.status in cc

-- a code though it didn't abend
code_without_abend : IsSoundInFrames [] (with_family same_as_it_was (λ x. record x { code = Some (codes "OOPS") })) → ⊥
code_without_abend s = let e : true ≡ false = s.tree.0.activities.1.0.code in cc

-- a timer without its event, and the event of an UNEXPIRED timer fired
timer_without_event : IsSoundInFrames [] (with_family same_as_it_was (λ x. record x { timers = (t1, record { due = 60; status = timer.Unexpired }) ∷ [] })) → ⊥
timer_without_event s = let e : false ≡ true = s.tree.0.activities.1.0.timer_events.one_event_each in cc

fired_too_early : IsSoundInFrames [] (with_family (λ x. record x { pool = of_events ((a, an_event (Completion 1) false) ∷ (t1, an_event (Timer t1) true) ∷ []) (record { name = t1; number = 1 } ∷ []) 1 }) same_as_it_was) → ⊥
fired_too_early s = let e : false ≡ true = s.tree.0.activities.0.timer_events.unexpired in cc

-- fired though nothing waits for it, and an entry whose number is above the last
fired_without_entry : IsSoundInFrames [] (with_family same_as_it_was (λ x. record x { pool = of_events ((codes "I", an_event Input true) ∷ []) [] 1 })) → ⊥
fired_without_entry s = none_is_one 0 refl (s.tree.0.activities.1.0.pool.entries (codes "I"))

number_above_the_last : IsSoundInFrames [] (with_family same_as_it_was (λ x. record x { pool = of_events [] (record { name = initial_name; number = 2 } ∷ []) 1 })) → ⊥
number_above_the_last s = let e : 3 ≤ 2 = s.tree.0.activities.1.0.pool.numbers.1 in omega arith

-- a child above the number of the last one, a child that calls itself the root, and one without its completion event
never_made : IsSoundInFrames [] (with_family (λ x. record x { made = 0 }) same_as_it_was) → ⊥
never_made s = let e : false ≡ true = s.tree.0.parents.1.0.number in cc

called_root : IsSoundInFrames [] (with_family same_as_it_was (λ x. record x { name = codes "DFHROOT" })) → ⊥
called_root s = let e : true ≡ false = s.tree.0.parents.1.0.name in cc

without_completion : IsSoundInFrames [] (with_family (λ x. record x { pool = of_events ((t1, an_event (Timer t1) false) ∷ []) [] 1 }) same_as_it_was) → ⊥
without_completion s = let e : false ≡ true = s.tree.0.parents.1.0.event in cc

-- a completion event of no child
of_no_child : IsSoundInFrames [] (with_family same_as_it_was (λ x. record x { pool = of_events ((codes "E", an_event (Completion 1) false) ∷ []) [] 0 })) → ⊥
of_no_child s = let e : false ≡ true = s.tree.0.children.1.0.events in cc

-- a root that isn't told, and a tree without a root
root_untold : IsSoundInFrames [] (with_root (λ x. record x { told = false }) new) → ⊥
root_untold s = let e : false ≡ true = s.tree.0.parents.0.told in cc

no_root : IsSoundInFrames [] (record new { tree = Some ((1 ∷ [], new_child) ∷ []) }) → ⊥
no_root s = let e : false ≡ true = s.tree.0.root in cc

-- ---- formats

-- an activity in another format than its process
abbrev raised_activity : Activity → Activity
raised_activity x = record x { containers = raised x.containers }

of_another_format : IsSoundInFrames [] (with_family same_as_it_was raised_activity) → ⊥
of_another_format s = let e : format.Two ≡ format.One = s.formats.1.0 in cc

-- a process in another format than its repository
abbrev in_format : Format → Process → Processes
in_format f s = record { format = f; items = s ∷ [] }

all_in_one_format : AreSound (in_format format.One waits)
unfolding IsStrictlySortedBy
all_in_one_format = record { keys_rise = (tt, tt); defined = refl; formats = (refl, tt); each = (sound, tt) }

process_of_another_format : AreSound (in_format format.Two waits) → ⊥
process_of_another_format s = let e : format.One ≡ format.Two = s.formats.0 in cc

-- raised to the second format it is sound there
raised_is_in_two : (raised_all (in_format format.One waits)).format ≡ format.Two
raised_is_in_two = refl

formats_of_raised : map format_of (raised_all (in_format format.One waits)).items ≡ format.Two ∷ []
formats_of_raised = refl

back_in_one : AreSound (record { format = format.One; items = (raised_all (in_format format.One waits)).items }) → ⊥
back_in_one s = let e : format.Two ≡ format.One = s.formats.0 in cc
