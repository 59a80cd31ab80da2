-- One activity, and the activities of a process in the order of their paths.
use Rattle.std.specs.Prelude.{ℕ, Bool, true, false, cond, not, ◌&&◌, ◌||◌, nat_lt, List, [], length, map, Option, Some, None, is_none}
use Rattle.std.specs.List.{filter, find}
use Rattle.std.specs.Map.{set_value}
use Rattle.bts_names.specs.Names.{Name, ActivityPath, same, root_name}
use Rattle.bts_names.specs.Named.{lookup}
use Rattle.bts_names.specs.declared.state.Mode.TheVariants as mode
use Rattle.bts_names.specs.declared.state.Status.{Status}
use Rattle.bts_names.specs.declared.state.Status.TheVariants as status
use Rattle.bts_container.specs.Containers.{no_containers}
use Rattle.bts_container.specs.declared.format.Format.{Format}
use Rattle.bts_event.specs.Pool.{empty_pool, cleared}
use Rattle.bts_tree.specs.Modes.{Cause, change_of, is_mode_initial, is_mode_dormant, is_mode_complete}
use Rattle.bts_tree.specs.Paths.{leads_to, is_child_of}
use Rattle.bts_tree.specs.declared.activity.Activity.{Activity}

-- the activities of a process in the order of their paths
abbrev pub Activities : Type 0
Activities = List (ActivityPath × Activity)

-- the most numbers of a path, and the most children that one activity makes
abbrev pub path_limit : ℕ
path_limit = 32

abbrev pub child_limit : ℕ
child_limit = 1_000_000

-- ---- one activity

abbrev pub new_activity : Format → Name → Name → Name → Option Name → Activity
new_activity f name transid program completion =
    record {
      name = name;
      transid = transid;
      program = program;
      completion = completion;
      mode = mode.Initial;
      status = status.Incomplete;
      code = None;
      suspended = false;
      told = is_none completion;
      pool = empty_pool;
      timers = [];
      containers = no_containers f;
      made = 0;
    }

abbrev pub new_root : Format → Name → Name → Activity
new_root f transid program = new_activity f root_name transid program None

abbrev pub is_initial : Activity → Bool
is_initial a = is_mode_initial a.mode

abbrev pub is_dormant : Activity → Bool
is_dormant a = is_mode_dormant a.mode

abbrev pub is_complete : Activity → Bool
is_complete a = is_mode_complete a.mode

-- INITIAL or COMPLETE: no work of it is under way
abbrev pub is_at_rest : Activity → Bool
is_at_rest a = is_initial a || is_complete a

abbrev pub has_entries : Activity → Bool
has_entries a = nat_lt 0 (length a.pool.entries)

-- an activation is enabled: INITIAL or DORMANT, not suspended, and something waits for it
abbrev pub is_ready : Activity → Bool
is_ready a = (is_initial a || is_dormant a) && not a.suspended && has_entries a

-- a notice is enabled: COMPLETE and not told
abbrev pub is_untold : Activity → Bool
is_untold a = is_complete a && not a.told

-- ---- changes of mode

-- the activity in the mode and with the status to which a cause leads, and with an abend code or none
abbrev pub by_cause : Cause → Option Name → Activity → Activity
by_cause why code a = record a { mode = (change_of why).1; status = (change_of why).2; code = code }

-- the same where it ends the activity: it loses its events, its timers and its entries
abbrev pub ended_by : Cause → Option Name → Bool → Activity → Activity
ended_by why code told a = record a { mode = (change_of why).1; status = (change_of why).2; code = code; told = told; pool = cleared a.pool; timers = [] }

-- ---- completion

-- an activity that becomes COMPLETE loses its events, its timers and its entries; containers and the suspended
-- flag stay
abbrev pub completed : Status → Option Name → Bool → Activity → Activity
completed status code told a =
    record a { mode = mode.Complete; status = status; code = code; told = told; pool = cleared a.pool; timers = [] }

-- so does each activity below it; one that wasn't COMPLETE is FORCED, and all are told
abbrev pub forced : Activity → Activity
forced a = cond (is_complete a) (completed a.status a.code true a) (completed status.Forced None true a)

-- what the completion of the activity at a path makes of the one at another
abbrev pub completed_one : ActivityPath → Status → Option Name → ActivityPath × Activity → Activity
completed_one p status code x =
    cond (same p x.0) (completed status code (same p []) x.1) (cond (leads_to p x.0) (forced x.1) x.1)

-- ---- the activities of a process

-- the activity at a path becomes COMPLETE, and those below it are FORCED
abbrev pub completed_at : ActivityPath → Status → Option Name → Activities → Activities
completed_at p status code = map (λ x. (x.0, completed_one p status code x))

-- the activity at a path is this one
abbrev pub written_at : ActivityPath → Activity → Activities → Activities
written_at p a tree = set_value (same p) tree a

abbrev pub changed_by : ActivityPath → (Activity → Activity) → Option Activity → Activities → Activities
changed_by p f None tree = tree
changed_by p f (Some a) tree = written_at p (f a) tree

-- the activity at a path is changed, where there is one
abbrev pub changed_at : ActivityPath → (Activity → Activity) → Activities → Activities
changed_at p f tree = changed_by p f (lookup p tree) tree

-- the activities at a path and below it
abbrev pub within : ActivityPath → Activities → Activities
within p = filter (λ x. leads_to p x.0)

-- whether an activity stays where those below a path are taken away, and perhaps its own
abbrev pub stays_without : ActivityPath → Bool → ActivityPath → Bool
stays_without p itself q = not (leads_to p q) || (not itself && same p q)

abbrev pub without_below : ActivityPath → Bool → Activities → Activities
without_below p itself = filter (λ x. stays_without p itself x.0)

-- the child of a name
abbrev pub child_in : ActivityPath → Name → Activities → Option (ActivityPath × Activity)
child_in p name = find (λ x. is_child_of p x.0 && same name x.1.name)
