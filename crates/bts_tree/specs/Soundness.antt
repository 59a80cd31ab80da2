-- When processes are sound.
use Rattle.std.specs.Prelude.{◌≡◌, ℕ, Bool, true, false, not, ◌&&◌, ◌||◌, ◌≤◌, ◌*◌, nat_eq, nat_le, nat_lt, List, [], length, map, Option, Some, None, is_some, is_none, IsTrue, count_by}
use Rattle.std.specs.List.{filter, list_any, list_all, AllByRecursion, IsDistinct}
use Rattle.std.specs.List.Sorted.{IsStrictlySortedBy}
use Rattle.std.specs.Map.{keys_of}
use Rattle.std.specs.Option.{option_map, unwrap_or}
use Rattle.std.specs.Ordering.{nat_cmp}
use Rattle.std.specs.Cmp.Lexicographic.{slice_cmp}
use Rattle.bts_names.specs.Keys.{key_cmp}
use Rattle.bts_names.specs.Names.{Name, ActivityPath, same, root_name}
use Rattle.bts_names.specs.Named.{lookup, is_there}
use Rattle.bts_names.specs.declared.state.Status.{Status}
use Rattle.bts_names.specs.declared.state.Status.TheVariants as status
use Rattle.bts_container.specs.Containers.{IsPool}
use Rattle.bts_event.specs.Events.{is_completion, is_completion_of, is_event_of, is_fired_atomic}
use Rattle.bts_event.specs.Sound.{IsSoundPool}
use Rattle.bts_event.specs.declared.event.Event.{Event}
use Rattle.bts_event.specs.declared.event.Event.TheVariants.{Atomic as atomic, Composite as composite}
use Rattle.bts_event.specs.declared.event.Trigger.TheVariants.{Input, Completion, Timer}
use Rattle.bts_timer.specs.Due.{is_unexpired}
use Rattle.bts_tree.specs.Activities.{Activities, path_limit, child_limit, is_complete}
use Rattle.bts_tree.specs.Modes.{is_mode_active}
use Rattle.bts_tree.specs.Paths.{parent_of, number_of, is_child_of}
use Rattle.bts_tree.specs.Processes.{Process, format_of, activities}
use Rattle.bts_tree.specs.Repositories.{Processes, keys_of_processes}
use Rattle.bts_tree.specs.declared.activity.Activity.{Activity}

-- ---- one activity

-- whether an event is that of some timer
abbrev pub is_timer_event : Event → Bool
is_timer_event (atomic a) = elim a.trigger [ Input ↦ false | Completion n ↦ false | Timer t ↦ true ]
is_timer_event (composite c) = false

abbrev pub is_fired : Event → Bool
is_fired e = is_fired_atomic (Some e)

-- each timer has its one event, each timer event its timer, and the event of an UNEXPIRED timer isn't fired
pub record HasTimerEvents (a : Activity) : Type 0 where
  pub one_event_each : IsTrue (list_all (λ t. nat_eq (count_by (λ e. is_event_of t.0 e.1) a.pool.events) 1) a.timers)
  pub timer_of_each : IsTrue (list_all (λ e. not (is_timer_event e.1) || list_any (λ t. is_event_of t.0 e.1) a.timers) a.pool.events)
  pub unexpired : IsTrue (list_all (λ t. not (is_unexpired t.1) || list_all (λ e. not (is_event_of t.0 e.1) || not (is_fired e.1)) a.pool.events) a.timers)

abbrev pub is_incomplete : Status → Bool
is_incomplete status.Incomplete = true
is_incomplete status.Normal = false
is_incomplete status.Abend = false
is_incomplete status.Forced = false

abbrev pub is_abend : Status → Bool
is_abend status.Incomplete = false
is_abend status.Normal = false
is_abend status.Abend = true
is_abend status.Forced = false

-- an activity's own fields fit together
pub record IsSoundActivity (a : Activity) : Type 0 where
  pub status : is_incomplete a.status ≡ not (is_complete a)
  pub code : is_some a.code ≡ is_abend a.status
  pub pool : IsSoundPool a.pool
  pub timers_rise : IsStrictlySortedBy (slice_cmp nat_cmp) (keys_of a.timers)
  pub timer_events : HasTimerEvents a
  pub containers : IsPool a.containers
  pub few_children : a.made ≤ child_limit

-- ---- one tree

abbrev pub children_of : ActivityPath → Activities → Activities
children_of p = filter (λ x. is_child_of p x.0)

abbrev pub is_root : ActivityPath → Bool
is_root p = same p []

-- whether an event of a parent is the completion event of a child: it names the child, and has its event's name
abbrev pub is_event_of_child : Name × Event → ActivityPath × Activity → Bool
is_event_of_child e x = is_completion_of (number_of x.0) e.1 && unwrap_or (option_map (same e.0) x.1.completion) false

-- a child that isn't COMPLETE, or isn't told, has its completion event unfired in its parent's pool
abbrev pub needs_event : Activity → Bool
needs_event a = not (is_complete a) || not a.told

-- whether a parent that is there passes a test
abbrev pub parent_passes : (Activity → Bool) → ActivityPath → Activities → Bool
parent_passes test p tree = unwrap_or (option_map test (lookup (parent_of p) tree)) false

-- an activity and its parent fit together; the root has no parent
pub record FitsParent (tree : Activities) (x : ActivityPath × Activity) : Type 0 where
  pub parent : IsTrue (is_root x.0 || is_there (parent_of x.0) tree)
  pub number : IsTrue (is_root x.0 || parent_passes (λ a. nat_le 1 (number_of x.0) && nat_le (number_of x.0) a.made) x.0 tree)
  pub name : same x.1.name root_name ≡ is_root x.0
  pub completion : is_none x.1.completion ≡ is_root x.0
  pub told : IsTrue (not (is_root x.0) || x.1.told)
  pub event : IsTrue (is_root x.0 || not (needs_event x.1) || parent_passes (λ a. list_any (λ e. is_event_of_child e x && not (is_fired e.1)) a.pool.events) x.0 tree)
  pub depth : length x.0 ≤ path_limit

-- an activity and its children fit together
pub record FitsChildren (tree : Activities) (x : ActivityPath × Activity) : Type 0 where
  pub distinct_names : IsDistinct same (map (λ y. y.1.name) (children_of x.0 tree))
  pub events : IsTrue (list_all (λ e. not (is_completion e.1) || list_any (is_event_of_child e) (children_of x.0 tree)) x.1.pool.events)

pub record IsSoundTree (tree : Activities) : Type 0 where
  pub paths_rise : IsStrictlySortedBy (slice_cmp nat_cmp) (keys_of tree)
  pub root : IsTrue (is_there [] tree)
  pub activities : AllByRecursion (λ x. IsSoundActivity x.1) tree
  pub parents : AllByRecursion (FitsParent tree) tree
  pub children : AllByRecursion (FitsChildren tree) tree

-- ---- processes

-- without a tree there are no containers, and with one the key was defined
abbrev pub IsSoundUnder : Process → Option Activities → Type 0
IsSoundUnder s None = s.containers.items ≡ []
IsSoundUnder s (Some tree) = IsSoundTree tree × (1 ≤ s.generation)

-- the paths of the activities that are ACTIVE
abbrev pub active_in : Process → List ActivityPath
active_in s = keys_of (filter (λ x. is_mode_active x.1.mode) (activities s))

-- a process in one format, of which exactly the activities of the open frames are ACTIVE
pub record IsSoundInFrames (frames : List ActivityPath) (s : Process) : Type 0 where
  pub tree : IsSoundUnder s s.tree
  pub containers : IsPool s.containers
  pub formats : AllByRecursion (λ x. x.1.containers.format ≡ format_of s) (activities s)
  pub active : IsTrue (list_all (λ p. list_any (same p) frames) (active_in s) && list_all (λ p. list_any (same p) (active_in s)) frames)

-- processes by rising key, each defined at least once, in their one format, and none with an ACTIVE activity
pub record AreSound (repo : Processes) : Type 0 where
  pub keys_rise : IsStrictlySortedBy key_cmp (keys_of_processes repo)
  pub defined : IsTrue (list_all (λ s. nat_le 1 s.generation) repo.items)
  pub formats : AllByRecursion (λ s. format_of s ≡ repo.format) repo.items
  pub each : AllByRecursion (IsSoundInFrames []) repo.items

-- ---- bounds

-- the generation is at most g, and each activity's last entry number at most n
abbrev pub is_within : ℕ → ℕ → Process → Bool
is_within g n s = nat_le s.generation g && list_all (λ x. nat_le x.1.pool.last n) (activities s)

-- behind so many committed units no generation is above their number, and no last entry number above 512 times it
abbrev pub bound_of_units : ℕ → Processes → Bool
bound_of_units units repo = list_all (is_within units (512 * units)) repo.items

-- every last entry number is below n
abbrev pub numbers_below : ℕ → Process → Bool
numbers_below n s = list_all (λ x. nat_lt x.1.pool.last n) (activities s)
