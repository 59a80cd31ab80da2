-- A process that a unit of work holds, how it may be changed, and the marks to which it goes back.
use Rattle.std.specs.Prelude.{◌≡◌, ◌<◌, ℕ, Bool, true, false, cond, List, [], ◌∷◌, ◌++◌, take, drop, Option, Some, None, IsTrue}
use Rattle.std.specs.List.{list_all, list_any, slice_get}
use Rattle.std.specs.Map.{keys_of}
use Rattle.bts_names.specs.Names.{ActivityPath, same}
use Rattle.bts_tree.specs.Activities.{within}
use Rattle.bts_tree.specs.Processes.{Process, activities}

-- a process at the time of a mark, and the paths that were saved then, or none where all were
abbrev pub ScopeMark : Type 0
ScopeMark = Process × Option (List ActivityPath)

-- a process, or the part of it at the path `top`; the marks to which it can go back; and the paths that are saved
-- now, or none where all are
pub record HeldProcess : Type 0 where
  pub process : Process
  pub top : ActivityPath
  pub marks : List ScopeMark
  pub saved : Option (List ActivityPath)

-- a process held whole, with no marks
abbrev pub held_whole : Process → HeldProcess
held_whole s = record { process = s; top = []; marks = []; saved = None }

-- the process is this one, and all else stays
abbrev pub holding : Process → HeldProcess → HeldProcess
holding s h = record { process = s; top = h.top; marks = h.marks; saved = h.saved }

-- ---- saved paths

abbrev pub among : ActivityPath → List ActivityPath → Bool
among p = list_any (same p)

-- each path once
abbrev pub joined : List ActivityPath → List ActivityPath → List ActivityPath
joined saved [] = saved
joined saved (p ∷ ps) = joined (cond (among p saved) saved (saved ++ p ∷ [])) ps

abbrev pub with_more : List ActivityPath → Option (List ActivityPath) → Option (List ActivityPath)
with_more paths None = None
with_more paths (Some saved) = Some (joined saved paths)

-- these paths are saved besides
abbrev pub saving : List ActivityPath → HeldProcess → HeldProcess
saving paths h = record { process = h.process; top = h.top; marks = h.marks; saved = with_more paths h.saved }

-- a path, and perhaps those of the activities below it
abbrev pub paths_from : ActivityPath → Bool → HeldProcess → List ActivityPath
paths_from p below h = p ∷ cond below (keys_of (within p (activities h.process))) []

abbrev pub AreAmong : List ActivityPath → Option (List ActivityPath) → Type 0
AreAmong paths None = Unit {0}
AreAmong paths (Some saved) = IsTrue (list_all (λ q. among q saved) paths)

-- what a change of the activity at a path, or also of those below it, asks for
abbrev pub IsSaved : ActivityPath → Bool → HeldProcess → Type 0
IsSaved p below h = AreAmong (paths_from p below h) h.saved

-- ---- marks

abbrev pub mark_limit : ℕ
mark_limit = 8

-- a mark more, of what stands; no path is saved then
abbrev pub marked : HeldProcess → HeldProcess
marked h = record { process = h.process; top = h.top; marks = h.marks ++ (h.process, h.saved) ∷ []; saved = Some [] }

-- the process and the saved paths are those of a mark, and this mark and the later ones go
abbrev pub gone_back : ℕ → HeldProcess → HeldProcess
gone_back k h = elim (slice_get h.marks k) [
  | None ↦ h
  | Some m ↦ record { process = m.0; top = h.top; marks = take k h.marks; saved = m.1 }
]

-- the paths that were saved at some marks, one after the other, and then these; all of them where all were saved
abbrev pub both_saved : Option (List ActivityPath) → Option (List ActivityPath) → Option (List ActivityPath)
both_saved None later = None
both_saved (Some saved) None = None
both_saved (Some saved) (Some later) = Some (saved ++ later)

abbrev pub all_saved : List ScopeMark → Option (List ActivityPath) → Option (List ActivityPath)
all_saved [] saved = saved
all_saved (m ∷ ms) saved = both_saved m.1 (all_saved ms saved)

-- the same marks go, and the process stays
abbrev pub kept : ℕ → HeldProcess → HeldProcess
kept k h = record { process = h.process; top = h.top; marks = take k h.marks; saved = all_saved (drop k h.marks) h.saved }

abbrev pub is_empty : {X : Type 0} → List X → Bool
is_empty [] = true
is_empty (x ∷ xs) = false

-- some mark stands
abbrev pub HasMarks : HeldProcess → Type 0
HasMarks h = is_empty h.marks ≡ false

-- ---- what calls do to marks

-- whether a path is saved
abbrev pub is_saved : ActivityPath → HeldProcess → Bool
is_saved p h = elim h.saved [ None ↦ true | Some saved ↦ among p saved ]

-- any change of the process and any saving: the marks stay, and what is saved stays saved
pub record LeavesMarks (before after : HeldProcess) : Type 0 where
  pub top : after.top ≡ before.top
  pub marks : after.marks ≡ before.marks
  pub saved : (p : ActivityPath) → is_saved p before ≡ true → is_saved p after ≡ true

-- one call behind the mark at a place: it leaves the marks, adds one, or goes back to a later mark or keeps it
pub data Step (n : ℕ) (before after : HeldProcess) : Type 0 where
  leaves : LeavesMarks before after → Step n before after
  marks : after ≡ marked before → Step n before after
  goes_back : (k : ℕ) → n < k → after ≡ gone_back k before → Step n before after
  keeps : (k : ℕ) → n < k → after ≡ kept k before → Step n before after

abbrev pub AreSteps : ℕ → HeldProcess → List HeldProcess → Type 0
AreSteps n h [] = Unit {0}
AreSteps n h (next ∷ rest) = Step n h next × AreSteps n next rest

abbrev pub last_held : HeldProcess → List HeldProcess → HeldProcess
last_held h [] = h
last_held h (next ∷ rest) = last_held next rest
