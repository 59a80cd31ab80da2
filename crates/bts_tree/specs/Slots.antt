-- What a map of slots holds: a path has an activity, or room for one.
use Rattle.std.specs.Prelude.{◌≡◌, Bool, true, cond, List, [], ◌∷◌, map, Option, Some, None, is_some}
use Rattle.std.specs.BTreeMap.{insert_entry}
use Rattle.std.specs.Cmp.Lexicographic.{slice_cmp}
use Rattle.std.specs.List.{AllByRecursion}
use Rattle.std.specs.Option.{option_map}
use Rattle.std.specs.Ordering.{nat_cmp}
use Rattle.bts_names.specs.Names.{Name, ActivityPath, same}
use Rattle.bts_names.specs.Named.{lookup, is_there}
use Rattle.bts_names.specs.declared.state.Status.{Status}
use Rattle.bts_tree.specs.Activities.{Activities, completed_one, stays_without}
use Rattle.bts_tree.specs.Repositories.{raised_activity}
use Rattle.bts_tree.specs.declared.activity.Activity.{Activity}

abbrev pub Slots : Type 0
Slots = List (ActivityPath × Option Activity)

abbrev pub in_slot : ActivityPath → Option Activity → Activities → Activities
in_slot p None tree = tree
in_slot p (Some a) tree = (p, a) ∷ tree

-- the activities, without the empty slots
abbrev pub filled : Slots → Activities
filled [] = []
filled (e ∷ es) = in_slot e.0 e.1 (filled es)

abbrev pub flat : Option (Option Activity) → Option Activity
flat None = None
flat (Some a) = a

-- every slot has an activity
abbrev pub AreFilled : Slots → Type 0
AreFilled es = AllByRecursion (λ e. is_some e.1 ≡ true) es

-- a slot for each activity
abbrev pub in_slots : Activities → Slots
in_slots = map (λ x. (x.0, Some x.1))

-- what stands at a path
abbrev pub read : ActivityPath → Slots → Option Activity
read p es = flat (lookup p es)

-- ---- changes, which leave the slots and change what is in them

abbrev pub Change : Type 0
Change = ActivityPath → Option Activity → Option Activity

abbrev pub mapped : Change → Slots → Slots
mapped f es = map (λ e. (e.0, f e.0 e.1)) es

-- this is at a path
abbrev pub put_at : ActivityPath → Option Activity → Change
put_at p x q y = cond (same p q) x y

abbrev pub completed_slot : ActivityPath → Status → Option Name → Change
completed_slot p status code q y = option_map (λ a. completed_one p status code (q, a)) y

abbrev pub emptied_slot : ActivityPath → Bool → Change
emptied_slot p itself q y = cond (stays_without p itself q) y None

-- what is there is in the second format
abbrev pub raised_slot : Change
raised_slot q y = option_map raised_activity y

-- ---- room

-- with a slot at a path
abbrev pub roomed : ActivityPath → Slots → Slots
roomed p es = cond (is_there p es) es (insert_entry (slice_cmp nat_cmp) es p None)
