-- Keys of processes that may have an activation to run.
use Rattle.std.specs.Prelude.{◌≡◌, Bool, true, not, ◌&&◌, ◌||◌, cond, List, Option}
use Rattle.std.specs.List.{list_any}
use Rattle.std.specs.Map.{keys_of}
use Rattle.std.specs.Set.{remove_key}
use Rattle.bts_names.specs.declared.key.Key.{Key}
use Rattle.bts_container.specs.declared.format.Format.{Format}
use Rattle.bts_tree.specs.Activities.{is_ready}
use Rattle.bts_tree.specs.Keeping.{Slots, activities_in, all_of}
use Rattle.bts_tree.specs.Processes.{activities}
use Rattle.bts_tree.specs.Repositories.{Place, Processes, Stored, chosen_at, process_at, same_key}
use Rattle.bts_tree.specs.Scopes.{is_empty}
use Rattle.bts_tree.specs.declared.kept.Kept.{Kept}

-- the activities of a process for which an activation is enabled
abbrev pub ready_at : Key → Processes → List Place
ready_at key repo = chosen_at is_ready key (activities (process_at key repo))

abbrev pub is_awake : Key → Processes → Bool
is_awake key repo = not (is_empty (ready_at key repo))

abbrev pub has_key : Key → List Key → Bool
has_key key keys = list_any (same_key key) keys

-- whether what stands in the slot of a key has an activation to run
abbrev pub is_slot_awake : Key → Option Kept → Bool
is_slot_awake key slot = not (is_empty (chosen_at is_ready key (activities_in slot)))

-- whether a slot of the key has one
abbrev pub is_any_awake : Key → Slots → Bool
is_any_awake key es = list_any (λ e. same_key key e.0 && is_slot_awake e.0 e.1) es

-- the key of each process with an activation to run is kept, and each key that is kept has a slot
pub record IsIndex (f : Format) (keys : List Key) (es : Slots) : Type 0 where
  pub awake : (key : Key) → is_awake key (all_of f es) ≡ true → has_key key keys ≡ true
  pub slots : (key : Key) → has_key key keys ≡ true → has_key key (keys_of es) ≡ true

-- whether a key is still kept where one is given up whose process has no activation to run
abbrev pub is_still_kept : Key → Stored → Key → Bool
is_still_kept key r k = has_key k r.room && (not (same_key key k) || is_awake k r.processes)

-- the same without the room for a key whose process has no activation to run
abbrev pub forgotten : Key → Stored → Stored
forgotten key r = record r { room = cond (is_awake key r.processes) r.room (remove_key (same_key key) r.room) }
