-- What holds of a unit: of its process, and of what its frames kept.
use Rattle.std.specs.Prelude.{◌≡◌, ℕ, Bool, true, false, ◌||◌, List, [], ◌∷◌, Option, Some, None}
use Rattle.std.specs.List.{filter_map}
use Rattle.std.specs.Option.{option_map, unwrap_or}
use Rattle.bts_names.specs.Names.{ActivityPath}
use Rattle.bts_command.specs.declared.command.Command.{Command}
use Rattle.bts_command.specs.declared.ended.UnitKind.{UnitKind}
use Rattle.bts_command.specs.declared.ended.UnitKind.TheVariants as unit
use Rattle.bts_tree.specs.declared.activity.Activity.{Activity}
use Rattle.bts_tree.specs.Activities.{is_dormant, is_initial}
use Rattle.bts_tree.specs.Leading.{leads_from}
use Rattle.bts_tree.specs.Modes.{abends, finishes, waits}
use Rattle.bts_container.specs.declared.format.Format.{Format}
use Rattle.bts_tree.specs.Processes.{Process, activity_at, format_of}
use Rattle.bts_tree.specs.Scopes.{is_empty}
use Rattle.bts_tree.specs.Soundness.{IsSoundInFrames, is_within}
use Rattle.bts_rows.specs.Bounds.{is_lone, makes_more, raised_by}
use Rattle.bts_unit.specs.Frames.{OpenFrame, UnitOfWork, open_paths}
use Rattle.bts_unit.specs.Standings.{Standing}

-- the paths of the activities of some open frames
abbrev pub paths_of : List OpenFrame → List ActivityPath
paths_of frames = filter_map (λ f. f.at) frames

-- where a frame has an activity, it is there, and INITIAL or DORMANT: the frame may open
abbrev pub may_open : Option ActivityPath → Process → Bool
may_open None s = true
may_open (Some p) s = unwrap_or (option_map (λ a. is_initial a || is_dormant a) (activity_at p s)) false

-- what is said of a process in open frames holds of what a frame kept, with those below it open, and there the frame
-- may open; the first frame kept something
abbrev pub IsKept : (List ActivityPath → Process → Type 0) → Option ActivityPath → List OpenFrame → Option Standing → Type 0
IsKept P at below None = is_empty below ≡ false
IsKept P at below (Some before) = P (paths_of below) before.process × (may_open at before.process ≡ true)

abbrev pub AreKept : (List ActivityPath → Process → Type 0) → List OpenFrame → Type 0
AreKept P [] = Unit {0}
AreKept P (f ∷ fs) = IsKept P f.at fs f.kept × AreKept P fs

-- it holds of the unit's process in its open frames, and of what each of them kept
pub record Holds (P : List ActivityPath → Process → Type 0) (u : UnitOfWork) : Type 0 where
  pub process : P (open_paths u) u.now.process
  pub kept : AreKept P u.frames

-- exactly the activities of its open frames are ACTIVE in a unit's process, which is sound, and so was what stands
-- again when one of them abends
abbrev pub IsSoundUnit : UnitOfWork → Type 0
IsSoundUnit u = Holds IsSoundInFrames u

-- besides, the last entry numbers are at most n, and the generation at most g, or one more where something was acquired
abbrev pub IsSoundWithin : ℕ → ℕ → UnitOfWork → Type 0
IsSoundWithin g n u = Holds (λ frames s. IsSoundInFrames frames s × (is_within (raised_by u.held g) n s ≡ true)) u

-- besides, no activity stands there but the root, and it has no timer
abbrev pub IsSoundLone : UnitOfWork → Type 0
IsSoundLone u = Holds (λ frames s. IsSoundInFrames frames s × (is_lone s ≡ true)) u

-- besides, its processes are in this format
abbrev pub IsSoundIn : Format → UnitOfWork → Type 0
IsSoundIn f u = Holds (λ frames s. IsSoundInFrames frames s × (format_of s ≡ f)) u

-- whether a command makes a child or a timer: in a request's first frame none does
abbrev pub makes_more_in : Option ActivityPath → Command → Bool
makes_more_in None c = false
makes_more_in (Some p) c = makes_more c

-- ---- modes

-- where its frame ends, an activity goes on from its mode as the table of the modes has it, whatever ends the frame
pub record LeadsToItsEnds (a : Activity) : Type 0 where
  pub waits : leads_from waits a.mode ≡ true
  pub finishes : leads_from finishes a.mode ≡ true
  pub abends : leads_from abends a.mode ≡ true

-- ---- what a whole unit raises

-- how often a unit defines its key at most: only a request does, and once
abbrev pub definitions_by : UnitKind → ℕ
definitions_by (unit.Request item key) = 1
definitions_by _ = 0
