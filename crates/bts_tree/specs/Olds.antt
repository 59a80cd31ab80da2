-- The old fields that a scope keeps, and what undoing them gives.
use Rattle.std.specs.Prelude.{◌≡◌, ◌≤◌, ℕ, Bool, false, cond, List, [], ◌∷◌, ◌++◌, map, drop, take, length, Option, Some, None, is_some}
use Rattle.std.specs.List.{list_any, AllByRecursion}
use Rattle.std.specs.Option.{option_map, unwrap_or}
use Rattle.std.specs.Map.{keys_of}
use Rattle.bts_names.specs.Names.{ActivityPath, same}
use Rattle.bts_names.specs.Named.{is_there}
use Rattle.bts_names.specs.declared.key.Key.{Key}
use Rattle.bts_tree.specs.Activities.{Activities, within}
use Rattle.bts_tree.specs.Processes.{Process}
use Rattle.bts_tree.specs.Scopes.{HeldProcess, ScopeMark}
use Rattle.bts_tree.specs.Slots.{Slots, Change, filled, mapped, read}
use Rattle.bts_tree.specs.declared.old.Old.{Old}
use Rattle.bts_tree.specs.declared.old.Own.{Own}

abbrev pub Olds : Type 0
Olds = List Old

abbrev pub process_in : Key → Own → Slots → Process
process_in key w es = record { key = key; generation = w.generation; tree = cond w.planted (Some (filled es)) None; containers = w.containers }

-- the activities that stand
abbrev pub standing : Own → Slots → Activities
standing w es = unwrap_or (cond w.planted (Some (filled es)) None) []

-- ---- undoing

-- what comes back at a path: the oldest that was kept there, or what stands
abbrev pub back : Olds → Change
back [] q x = x
back (o ∷ os) q x = cond (same o.path q) o.activity (back os q x)

abbrev pub own_back : Olds → Own → Own
own_back [] w = w
own_back (o ∷ os) w = unwrap_or o.own (own_back os w)

-- the process behind an undoing of all old fields from a place on
abbrev pub undone_to : Key → Own → Slots → Olds → ℕ → Process
undone_to key w es os n = process_in key (own_back (drop n os) w) (mapped (back (drop n os)) es)

-- ---- marks: each is a place in the list of old fields

abbrev pub paths_of : Olds → List ActivityPath
paths_of os = map (λ o. o.path) os

-- the paths that are kept between the place of a mark and a later place
abbrev pub saved_between : Olds → Option ℕ → ℕ → Option (List ActivityPath)
saved_between os None n = None
saved_between os (Some m) n = Some (paths_of (drop m (take n os)))

abbrev pub marks_from : (ℕ → Process) → (Option ℕ → ℕ → Option (List ActivityPath)) → Option ℕ → List ℕ → List ScopeMark
marks_from undone saved last [] = []
marks_from undone saved last (n ∷ ns) = (undone n, saved last n) ∷ marks_from undone saved (Some n) ns

abbrev pub marks_in : Key → Own → Slots → Olds → List ℕ → List ScopeMark
marks_in key w es os ns = marks_from (undone_to key w es os) (saved_between os) None ns

abbrev pub last_of : Option ℕ → List ℕ → Option ℕ
last_of last [] = last
last_of last (n ∷ ns) = last_of (Some n) ns

-- what is kept behind the last mark
abbrev pub saved_in : Olds → List ℕ → Option (List ActivityPath)
saved_in os ns = option_map (λ n. paths_of (drop n os)) (last_of None ns)

-- what contracts see of a scope
abbrev pub shown : Key → Own → Slots → Olds → List ℕ → HeldProcess
shown key w es os ns = record { process = process_in key w es; top = []; marks = marks_in key w es os ns; saved = saved_in os ns }

-- the places rise to the end of the list
abbrev pub AreInOrder : ℕ → List ℕ → ℕ → Type 0
AreInOrder m [] end = m ≤ end
AreInOrder m (n ∷ ns) end = (m ≤ n) × AreInOrder n ns end

-- whatever comes back has a slot, and what the process has besides comes back with the root
abbrev pub FitsSlots : Slots → Old → Type 0
FitsSlots es o = (is_there o.path es ≡ false → o.activity ≡ None) × (is_some o.own ≡ same o.path [])

-- what every scope keeps
pub record IsUndo (es : Slots) (os : Olds) (ns : List ℕ) : Type 0 where
  pub order : AreInOrder 0 ns (length os)
  pub fits : AllByRecursion (FitsSlots es) os

-- ---- keeping

-- the old fields at a path, which are the process's own besides where it is the root's
abbrev pub old_at : Own → Slots → ActivityPath → Old
old_at w es p = record { path = p; activity = read p es; own = cond (same p []) (Some w) None }

-- whether the fields at a path are kept
abbrev pub has_old : ActivityPath → Olds → Bool
has_old p os = list_any (λ o. same p o.path) os

-- the fields at a path are kept, where they aren't yet from a place on
abbrev pub kept_one : Own → Slots → ℕ → Olds → ActivityPath → Olds
kept_one w es n os p = cond (has_old p (drop n os)) os (os ++ old_at w es p ∷ [])

abbrev pub kept_all : Own → Slots → ℕ → Olds → List ActivityPath → Olds
kept_all w es n os [] = os
kept_all w es n os (p ∷ ps) = kept_all w es n (kept_one w es n os p) ps

-- a path, and perhaps those of the activities below it
abbrev pub paths_in : ActivityPath → Bool → Own → Slots → List ActivityPath
paths_in p below w es = p ∷ cond below (keys_of (within p (standing w es))) []

-- the fields at a path are kept, where a mark stands
abbrev pub kept_maybe : Own → Slots → Option ℕ → Olds → ActivityPath → Olds
kept_maybe w es None os p = os
kept_maybe w es (Some n) os p = kept_one w es n os p
