-- What a repository's map holds: the slot of a key has a process, or room for one.
use Rattle.std.specs.Prelude.{ℕ, Bool, cond, nat_eq, List, [], ◌∷◌, map, Option, Some, None, is_some}
use Rattle.std.specs.BTreeMap.{insert_entry}
use Rattle.std.specs.Map.{lookup}
use Rattle.std.specs.Option.{option_map, unwrap_or}
use Rattle.std.specs.declared.ops.Bound.{Bound}
use Rattle.std.specs.declared.ops.Bound.TheVariants.{Included, Unbounded}
use Rattle.bts_names.specs.Keys.{key_cmp}
use Rattle.bts_names.specs.declared.key.Key.{Key}
use Rattle.bts_container.specs.Containers.{raised}
use Rattle.bts_container.specs.declared.format.Format.{Format}
use Rattle.bts_tree.specs.Processes.{Process, no_process}
use Rattle.bts_tree.specs.Repositories.{Place, Processes, Stored, chosen_at, raised_tree, same_key}
use Rattle.bts_tree.specs.Activities.{Activities, is_ready, is_untold}
use Rattle.bts_tree.specs.declared.activity.Activity.{Activity}
use Rattle.bts_tree.specs.declared.walk.Wanted.{Wanted}
use Rattle.bts_tree.specs.declared.walk.Wanted.TheVariants as wanted
use Rattle.bts_tree.specs.declared.kept.Kept.{Kept}

abbrev pub Slots : Type 0
Slots = List (Key × Option Kept)

abbrev pub process_of : Key → Kept → Process
process_of key k = record { key = key; generation = k.generation; tree = k.tree; containers = k.containers }

abbrev pub in_front : Key → Option Kept → List Process → List Process
in_front key None ss = ss
in_front key (Some k) ss = process_of key k ∷ ss

abbrev pub processes_of : Slots → List Process
processes_of [] = []
processes_of (e ∷ es) = in_front e.0 e.1 (processes_of es)

-- their keys
abbrev pub keys_of_all : Slots → List Key
keys_of_all es = map (λ s. s.key) (processes_of es)

-- the processes of a map
abbrev pub all_of : Format → Slots → Processes
all_of f es = record { format = f; items = processes_of es }

-- what contracts see of a map, and of the keys of an index over it
abbrev pub stored_in : Format → List Key → Slots → Stored
stored_in f keys es = record { processes = all_of f es; room = keys }

-- what was found under a key
abbrev pub process_or_none : Format → Key → Option Kept → Process
process_or_none f key None = no_process f key
process_or_none f key (Some k) = process_of key k

abbrev pub kept_of : Process → Kept
kept_of s = record { generation = s.generation; tree = s.tree; containers = s.containers }

abbrev pub slots_of : List Process → Slots
slots_of ss = map (λ s. (s.key, Some (kept_of s))) ss

-- what stands in the slot of a key
abbrev pub flat : Option (Option Kept) → Option Kept
flat None = None
flat (Some slot) = slot

abbrev pub kept_at : Key → Slots → Option Kept
kept_at key es = flat (lookup (same_key key) es)

-- with a slot for a key
abbrev pub with_slot : Key → Slots → Slots
with_slot key es = cond (is_some (lookup (same_key key) es)) es (insert_entry key_cmp es key None)

-- what stands under a key behind a put of a process: none where it was never defined
abbrev pub slot_of : Process → Option Kept
slot_of s = cond (nat_eq s.generation 0) None (Some (kept_of s))

abbrev pub activities_in : Option Kept → Activities
activities_in None = []
activities_in (Some k) = unwrap_or k.tree []

-- the activities that pass a test and stand in the slot of a key
abbrev pub chosen_under : (Activity → Bool) → Slots → Key → List Place
chosen_under test es key = chosen_at test key (activities_in (kept_at key es))

abbrev pub keys_in : Key → Option Kept → List Key
keys_in key None = []
keys_in key (Some k) = key ∷ []

abbrev pub generation_in : Option Kept → ℕ
generation_in None = 0
generation_in (Some k) = k.generation

-- what slots hold, in the second format
abbrev pub raised_kept : Kept → Kept
raised_kept k =
    record {
      generation = k.generation;
      tree = option_map raised_tree k.tree;
      containers = raised k.containers;
    }

abbrev pub raised_slots : Slots → Slots
raised_slots es = map (λ e. (e.0, option_map raised_kept e.1)) es

-- where a walk begins over keys in order: what stands behind a place has its key, or a later one
abbrev pub first_key : Option Place → Bound Key
first_key None = Unbounded
first_key (Some place) = Included place.0

-- which activities a walk looks for
abbrev pub wants : Wanted → Activity → Bool
wants wanted.Ready a = is_ready a
wants wanted.Untold a = is_untold a
