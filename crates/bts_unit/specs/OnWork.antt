-- How the frame of a unit ends, on the parts of its work.
use Rattle.std.specs.Prelude.{◌≡◌, ℕ, Bool, true, false, ◌&&◌, List, [], ◌∷◌, length, Option, Some, None, is_none, is_some, option_to_list}
use Rattle.std.specs.List.{slice_get}
use Rattle.std.specs.Option.{option_map}
use Rattle.bts_names.specs.Names.{Name, ActivityPath}
use Rattle.bts_names.specs.declared.reply.Leaving.{Leaving}
use Rattle.bts_names.specs.declared.reply.Leaving.TheVariants as leaving
use Rattle.bts_names.specs.declared.reply.Reply.{Reply}
use Rattle.bts_names.specs.declared.reply.Value.TheVariants as value
use Rattle.bts_names.specs.declared.state.Status.TheVariants as status
use Rattle.bts_command.specs.declared.command.Call.{Call}
use Rattle.bts_command.specs.declared.command.Command.{Command}
use Rattle.bts_command.specs.declared.ended.End.{End}
use Rattle.bts_command.specs.declared.ended.UnitKind.{UnitKind}
use Rattle.bts_command.specs.declared.ended.End.TheVariants.{Commit, Rollback, Abend}
use Rattle.bts_tree.specs.declared.activity.Activity.{Activity}
use Rattle.bts_tree.specs.Activities.{by_cause}
use Rattle.bts_tree.specs.Modes.{waits}
use Rattle.bts_tree.specs.Processes.{Process, activity_at, complete, edited}
use Rattle.bts_tree.specs.Scopes.{HeldProcess, gone_back, held_whole, holding, marked, saving}
use Rattle.bts_rows.specs.declared.places.Held.{Held}
use Rattle.bts_rows.specs.declared.places.Held.TheVariants as held
use Rattle.bts_rows.specs.Replies.{is_normal}
use Rattle.bts_act.specs.Replies.{normal}
use Rattle.bts_unit.specs.Calls.{is_retrieval}
use Rattle.bts_unit.specs.Ends.{leaving_of, out_of_place}
use Rattle.bts_unit.specs.Frames.{OpenFrame, UnitOfWork, is_there_at, opened_at, path_of, program_at}
use Rattle.bts_unit.specs.Standings.{Standing, standing}
use Rattle.bts_unit.specs.Standings as standings
use Rattle.bts_unit.specs.declared.work.FirstFrame.{FirstFrame}
use Rattle.bts_unit.specs.declared.work.Work.{Work}

-- ---- what a unit's work shows

-- what the first mark of a scope gives back
abbrev pub kept_in : HeldProcess → Option Standing
kept_in h = option_map (λ m. standing m.0) (slice_get h.marks 0)

abbrev pub frames_of : Option FirstFrame → HeldProcess → List OpenFrame
frames_of None h = []
frames_of (Some f) h = record { at = f.at; program = f.program; opened = 0; retrieved = f.retrieved; kept = kept_in h } ∷ []

abbrev pub unit_of : Work → Standing → List Call → UnitOfWork
unit_of w now calls =
    record { moment = w.moment; base = w.base.process; held = w.held; now = now; frames = frames_of w.frame w.scope; calls = calls; end = w.end }

-- a step of a unit with a reply, behind which this work is what it shows
pub record Leaves (w : Work) (calls : List Call) (reply : Reply) (x : Reply × UnitOfWork) : Type 0 where
  pub answer : x.0 ≡ reply
  pub unit : x.1 ≡ unit_of w x.1.now calls
  pub process : x.1.now.process ≡ w.scope.process

-- whatever the account is
abbrev pub Steps : Work → Work → Reply → (UnitOfWork → Reply × UnitOfWork) → Type 0
Steps old new reply step = (now : Standing) (calls : List Call) → Leaves new calls reply (step (unit_of old (standings.with_process old.scope.process now) calls))

-- ---- commands by their rows

abbrev pub at_of : Option FirstFrame → Option ActivityPath
at_of None = None
at_of (Some f) = f.at

-- an entry was retrieved in the frame
abbrev pub retrieving : Bool → Option FirstFrame → Option FirstFrame
retrieving true (Some f) = Some (record f { retrieved = true })
retrieving true None = None
retrieving false o = o

abbrev pub was_retrieved : Command → Reply → Bool
was_retrieved c reply = is_retrieval c && is_normal reply.resp

-- behind a command that was done or refused with a reply, this scope and this acquired
abbrev pub stepped : Command → Reply → HeldProcess → Held → Work → Work
stepped c reply s h w = record w { scope = s; held = h; frame = retrieving (was_retrieved c reply) w.frame }

abbrev pub with_scope : HeldProcess → Work → Work
with_scope s w = record w { scope = s }

-- behind a command for which there was no memory: paths may be saved besides, and all else is as it was
pub record IsAsBefore (old new : Work) : Type 0 where
  pub work : new ≡ with_scope new.scope old
  pub process : new.scope.process ≡ old.scope.process
  pub marks : new.scope.marks ≡ old.scope.marks

-- the frame is open exactly where the unit hasn't ended
abbrev pub IsOpenOrEnded : Work → Type 0
IsOpenOrEnded w = is_none w.end ≡ is_some w.frame

-- so it is behind a step, and the unit's moment and its process at the start are the same
pub record GoesOn (old new : Work) : Type 0 where
  pub open_or_ended : IsOpenOrEnded new
  pub moment : new.moment ≡ old.moment
  pub base : new.base ≡ old.base

-- ---- marks

-- one mark stands, at which all was saved, and the activity of the frame was there
pub record IsMarkedAt (at : Option ActivityPath) (h : HeldProcess) : Type 0 where
  pub one : length h.marks ≡ 1
  pub whole : gone_back 0 h ≡ held_whole (gone_back 0 h).process
  pub there : is_there_at at (gone_back 0 h).process ≡ true

-- so it is as long as the frame is open, and a unit that has ended has no mark
abbrev pub IsMarked : Option FirstFrame → HeldProcess → Type 0
IsMarked None h = h ≡ held_whole h.process
IsMarked (Some f) h = IsMarkedAt f.at h

-- ---- ends

abbrev pub is_of_request : Option FirstFrame → Bool
is_of_request None = false
is_of_request (Some f) = is_none f.at

abbrev pub closed : End → Work → Work
closed e w = record w { frame = None; end = Some e }

-- it has ended, and leaves this process, without a mark
abbrev pub ended : End → Process → Work → Work
ended e s w = closed e (with_scope (held_whole s) w)

abbrev pub completed_by : Option ActivityPath → Name → Process → Process
completed_by None code s = s
completed_by (Some p) code s = complete p status.Abend (Some code) s

abbrev pub abended_by : Option FirstFrame → Name → Work → Work
abended_by None code w = w
abended_by (Some f) code w = ended (Abend code) (completed_by f.at code (gone_back 0 w.scope).process) w

abbrev pub abended : Name → Work → Work
abended code w = abended_by w.frame code w

abbrev pub left : ActivityPath → Leaving → Work → Work
left p leaving.Dormant w = ended Commit (edited p (by_cause waits None) w.scope.process) w
left p leaving.Complete w = ended Commit (complete p status.Normal None w.scope.process) w
left p (leaving.Abended code) w = abended code w

abbrev pub returned_at : Bool → Bool → ActivityPath → Option Activity → Work → Reply × Work
returned_at end_activity retrieved p None w = (out_of_place, w)
returned_at end_activity retrieved p (Some a) w =
    (normal (value.Left (leaving_of end_activity retrieved a.pool)), left p (leaving_of end_activity retrieved a.pool) w)

abbrev pub returned_in : Bool → Bool → Option ActivityPath → Work → Reply × Work
returned_in true retrieved None w = (out_of_place, w)
returned_in false retrieved None w = (normal value.Nothing, ended Commit w.scope.process w)
returned_in end_activity retrieved (Some p) w = returned_at end_activity retrieved p (activity_at p w.scope.process) w

abbrev pub returned_by : Bool → Option FirstFrame → Work → Reply × Work
returned_by end_activity None w = (out_of_place, w)
returned_by end_activity (Some f) w = returned_in end_activity f.retrieved f.at w

abbrev pub returned : Bool → Work → Reply × Work
returned end_activity w = returned_by end_activity w.frame w

abbrev pub rolled_back_in : FirstFrame → Option ActivityPath → Work → Reply × Work
rolled_back_in f None w = (normal value.Nothing, ended Rollback (gone_back 0 w.scope).process w)
rolled_back_in f (Some p) w = (out_of_place, w)

abbrev pub rolled_back_by : Option FirstFrame → Work → Reply × Work
rolled_back_by None w = (out_of_place, w)
rolled_back_by (Some f) w = rolled_back_in f f.at w

abbrev pub rolled_back : Work → Reply × Work
rolled_back w = rolled_back_by w.frame w

-- ---- the beginning

-- the path of the frame's activity is saved, and the frame opens
abbrev pub opened_in : Option ActivityPath → HeldProcess → HeldProcess
opened_in at h = holding (opened_at at h.process) (saving (option_to_list at) h)

abbrev pub opened : Option ActivityPath → ℕ → Process → Work
opened at moment s =
    record {
      moment = moment;
      base = held_whole s;
      scope = opened_in at (marked (held_whole s));
      held = held.Never;
      frame = Some (record { at = at; program = program_at at s; retrieved = false });
      end = None;
    }

abbrev pub begun : UnitKind → ℕ → Process → Work
begun kind moment s = opened (path_of kind) moment s
