-- Processes: paths, completion, what goes with an activity, and parts.
use Rattle.std.proofs.Common.{◌≡◌, Bool, true, false, List, [], ◌∷◌, Some, None, map, codes, refl}
use Rattle.bts_names.specs.Names.{Name, ActivityPath}
use Rattle.bts_names.specs.declared.state.Mode.{Mode}
use Rattle.bts_names.specs.declared.state.Mode.TheVariants as mode
use Rattle.bts_names.specs.declared.state.Status.{Status}
use Rattle.bts_names.specs.declared.state.Status.TheVariants as status
use Rattle.bts_container.specs.Containers.{no_containers}
use Rattle.bts_container.specs.declared.format.Format.TheVariants as format
use Rattle.bts_tree.specs.Activities.{new_activity, new_root, by_cause}
use Rattle.bts_tree.specs.Modes.{Cause, frame_opens, waits, finishes, abends, is_forced, is_reset}
use Rattle.bts_tree.specs.Processes.{Process, no_process, activities, planted, added, removed, complete, part, join, child_of}
use Rattle.bts_tree.specs.declared.activity.Activity.{Activity}

abbrev pub name : Name
name = codes "A"

abbrev pub of_key : Name → Process
of_key n = planted (new_root format.One name name) (no_process format.One (record { ptype = name; pname = n }))

abbrev child : Name → Activity
child n = new_activity format.One n name name (Some (codes "E"))

-- a root with the children /1 and /2, and /1/1 below the first
abbrev pub family : Process
family = added (2 ∷ []) (child (codes "C2")) (added (1 ∷ 1 ∷ []) (child (codes "C11")) (added (1 ∷ []) (child (codes "C1")) (of_key (codes "P"))))

abbrev paths : Process → List ActivityPath
paths s = map (λ x. x.0) (activities s)

abbrev states : Process → List (Mode × Status × Bool)
states s = map (λ x. (x.1.mode, x.1.status, x.1.told)) (activities s)

-- paths stand as lists of numbers
in_order_of_paths : paths family ≡ [] ∷ (1 ∷ []) ∷ (1 ∷ 1 ∷ []) ∷ (2 ∷ []) ∷ []
in_order_of_paths = refl

by_name : child_of [] (codes "C2") family ≡ Some (2 ∷ [], child (codes "C2"))
by_name = refl

not_a_grandchild : child_of [] (codes "C11") family ≡ None
not_a_grandchild = refl

-- ---- modes

-- the modes and the status to which causes lead an activity, one after the other
abbrev life : Activity → List Cause → List (Mode × Status)
life a [] = []
life a (why ∷ rest) = let b : Activity = by_cause why None a in (b.mode, b.status) ∷ life b rest

waits_and_finishes : life (new_root format.One name name) (frame_opens ∷ waits ∷ frame_opens ∷ finishes ∷ is_reset ∷ [])
    ≡ (mode.Active, status.Incomplete) ∷ (mode.Dormant, status.Incomplete) ∷ (mode.Active, status.Incomplete) ∷ (mode.Complete, status.Normal) ∷ (mode.Initial, status.Incomplete) ∷ []
waits_and_finishes = refl

other_ends : life (child (codes "C")) (frame_opens ∷ abends ∷ is_reset ∷ is_forced ∷ [])
    ≡ (mode.Active, status.Incomplete) ∷ (mode.Complete, status.Abend) ∷ (mode.Initial, status.Incomplete) ∷ (mode.Complete, status.Forced) ∷ []
other_ends = refl

-- ---- completion

-- a child that completes isn't told, and what is below it is FORCED and told
child_completes : states (complete (1 ∷ []) status.Normal None family)
    ≡ (mode.Initial, status.Incomplete, true) ∷ (mode.Complete, status.Normal, false) ∷ (mode.Complete, status.Forced, true) ∷ (mode.Initial, status.Incomplete, false) ∷ []
child_completes = refl

-- one that was COMPLETE already keeps its status, also where it abended
abended_below : states (complete [] status.Normal None (complete (1 ∷ 1 ∷ []) status.Abend (Some name) family))
    ≡ (mode.Complete, status.Normal, true) ∷ (mode.Complete, status.Forced, true) ∷ (mode.Complete, status.Abend, true) ∷ (mode.Complete, status.Forced, true) ∷ []
abended_below = refl

-- ---- what goes with an activity

below_goes : paths (removed (1 ∷ []) false family) ≡ [] ∷ (1 ∷ []) ∷ (2 ∷ []) ∷ []
below_goes = refl

all_of_it_goes : paths (removed (1 ∷ []) true family) ≡ [] ∷ (2 ∷ []) ∷ []
all_of_it_goes = refl

with_the_root_all_goes : removed [] true family ≡ record { key = record { ptype = name; pname = codes "P" }; generation = 1; tree = None; containers = no_containers format.One }
with_the_root_all_goes = refl

-- ---- parts

-- a part that is put back leaves the process as it was
part_of_child : paths (part (1 ∷ []) family) ≡ (1 ∷ []) ∷ (1 ∷ 1 ∷ []) ∷ []
part_of_child = refl

joined_back : paths (join (1 ∷ []) family (part (1 ∷ []) family)) ≡ paths family
joined_back = refl

joined_without_below : paths (join (1 ∷ []) family (removed (1 ∷ []) false (part (1 ∷ []) family))) ≡ [] ∷ (1 ∷ []) ∷ (2 ∷ []) ∷ []
joined_without_below = refl
