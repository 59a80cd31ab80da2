-- How frames end, and with the first one the unit.
use Rattle.std.specs.Prelude.{Bool, true, false, cond, List, [], ◌∷◌, Option, Some, None, codes}
use Rattle.std.specs.Option.{unwrap_or}
use Rattle.bts_names.specs.Names.{Name, ActivityPath}
use Rattle.bts_names.specs.declared.reply.Leaving.{Leaving}
use Rattle.bts_names.specs.declared.reply.Leaving.TheVariants as leaving
use Rattle.bts_names.specs.declared.reply.Reason.TheVariants as reason
use Rattle.bts_names.specs.declared.reply.Reply.{Reply}
use Rattle.bts_names.specs.declared.reply.Resp.TheVariants as resp
use Rattle.bts_names.specs.declared.reply.Value.TheVariants as value
use Rattle.bts_names.specs.declared.state.Status.TheVariants as status
use Rattle.bts_command.specs.declared.ended.End.{End}
use Rattle.bts_command.specs.declared.ended.End.TheVariants.{Commit, Rollback, Abend}
use Rattle.bts_event.specs.Events.{has_completion}
use Rattle.bts_event.specs.Pool.{Pool}
use Rattle.bts_tree.specs.declared.activity.Activity.{Activity}
use Rattle.bts_tree.specs.Activities.{by_cause}
use Rattle.bts_tree.specs.Modes.{waits}
use Rattle.bts_tree.specs.Processes.{activity_at, complete, edited}
use Rattle.bts_act.specs.Replies.{normal, refusal}
use Rattle.bts_unit.specs.Frames.{OpenFrame, UnitOfWork}
use Rattle.bts_unit.specs.Standings.{Standing, moved, with_process}

-- ---- a frame closes

-- a unit ends with its first frame
abbrev pub ended_with : End → List OpenFrame → Option End
ended_with e [] = Some e
ended_with e (f ∷ fs) = None

-- the top frame closes, with these below it, and this stands
abbrev pub closed : End → List OpenFrame → Standing → UnitOfWork → UnitOfWork
closed e below now u = record u { now = now; frames = below; end = ended_with e below }

-- ---- abends

-- the activity whose frame abends is COMPLETE; a request's first frame has none
abbrev pub completed_by_abend : Option ActivityPath → Name → Standing → Standing
completed_by_abend None code now = now
completed_by_abend (Some p) code now = moved now (complete p status.Abend (Some code) now.process)

-- what the frame kept stands again, and then its activity is COMPLETE
abbrev pub abended : OpenFrame → List OpenFrame → Name → UnitOfWork → UnitOfWork
abended frame below code u = closed (Abend code) below (completed_by_abend frame.at code (unwrap_or frame.kept u.now)) u

abbrev pub first_of : OpenFrame → List OpenFrame → OpenFrame
first_of f [] = f
first_of f (g ∷ gs) = first_of g gs

-- an abend of all frames is that of the first one
abbrev pub abended_whole : Name → UnitOfWork → UnitOfWork
abended_whole code u = elim u.frames [ [] ↦ u | f ∷ fs ↦ abended (first_of f fs) [] code u ]

-- ---- RETURN

-- the codes of the abends that a RETURN can be
abbrev pub no_retrieval : Name
no_retrieval = codes "NORT"

abbrev pub children_left : Name
children_left = codes "CHLD"

abbrev pub leaving_plainly : Pool → Leaving
leaving_plainly pool = elim pool.events [ [] ↦ leaving.Complete | e ∷ es ↦ leaving.Dormant ]

-- how a RETURN leaves the activity of its frame: by whether it says ENDACTIVITY and whether the frame retrieved an
-- entry
abbrev pub leaving_of : Bool → Bool → Pool → Leaving
leaving_of true retrieved pool = cond (has_completion pool.events) (leaving.Abended children_left) leaving.Complete
leaving_of false false pool = leaving.Abended no_retrieval
leaving_of false true pool = leaving_plainly pool

abbrev pub left : ActivityPath → Leaving → OpenFrame → List OpenFrame → UnitOfWork → UnitOfWork
left p leaving.Dormant frame below u = closed Commit below (with_process (edited p (by_cause waits None) u.now.process) u.now) u
left p leaving.Complete frame below u = closed Commit below (moved u.now (complete p status.Normal None u.now.process)) u
left p (leaving.Abended code) frame below u = abended frame below code u

abbrev pub out_of_place : Reply
out_of_place = refusal resp.Invreq reason.Place

abbrev pub returned_as : ActivityPath → Leaving → OpenFrame → List OpenFrame → UnitOfWork → Reply × UnitOfWork
returned_as p how frame below u = (normal (value.Left how), left p how frame below u)

-- in an activity's frame, at that activity
abbrev pub returned_at : Bool → ActivityPath → OpenFrame → List OpenFrame → UnitOfWork → Option Activity → Reply × UnitOfWork
returned_at end_activity p frame below u None = (out_of_place, u)
returned_at end_activity p frame below u (Some a) = returned_as p (leaving_of end_activity frame.retrieved a.pool) frame below u

-- the reply to a RETURN, and the unit behind it
abbrev pub returned : Bool → Option ActivityPath → OpenFrame → List OpenFrame → UnitOfWork → Reply × UnitOfWork
returned true None frame below u = (out_of_place, u)
returned false None frame below u = (normal value.Nothing, closed Commit below u.now u)
returned end_activity (Some p) frame below u = returned_at end_activity p frame below u (activity_at p u.now.process)

-- ---- ROLLBACK

-- a request's first frame gives back the process at its start; a program can't roll back
abbrev pub rolled_back : Option ActivityPath → OpenFrame → UnitOfWork → Reply × UnitOfWork
rolled_back None frame u = (normal value.Nothing, closed Rollback [] (unwrap_or frame.kept u.now) u)
rolled_back (Some p) frame u = (out_of_place, u)
