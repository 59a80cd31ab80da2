-- A sound unit's calls are answered with no more bytes than a container of its process's format may have.
use Rattle.std.proofs.Common.{◌≤◌, Bool, true, false, List, [], ◌∷◌, length, Option, Some, None, arith}
use Rattle.bts_names.specs.Answer.{Answer, refused, done, reply_of}
use Rattle.bts_names.specs.Names.{ActivityPath}
use Rattle.bts_names.specs.declared.reply.Value.{Value}
use Rattle.bts_command.specs.Sizes.{got_bytes}
use Rattle.bts_command.specs.declared.command.Command.{Command}
use Rattle.bts_command.specs.declared.command.Command.TheVariants as command
use Rattle.bts_container.specs.Formats.{size_limit}
use Rattle.bts_tree.specs.declared.activity.Activity.{Activity}
use Rattle.bts_tree.specs.Processes.{Process, activity_at, format_of}
use Rattle.bts_tree.specs.Soundness.{IsSoundInFrames}
use Rattle.bts_rows.specs.declared.places.Held.{Held}
use Rattle.bts_rows.specs.declared.places.Here.{Here}
use Rattle.bts_rows.specs.Rows.{answer}
use Rattle.bts_rows.proofs.Values.{answered_short}
use Rattle.bts_unit.specs.Calls.{answered, call, called_by, called_in, done_in}
use Rattle.bts_unit.specs.Ends.{returned, returned_at, rolled_back}
use Rattle.bts_unit.specs.Frames.{OpenFrame, UnitOfWork, here, open_paths}
use Rattle.bts_unit.specs.Soundness.{IsSoundUnit}

-- the answers that are short for a unit
abbrev IsShortFor : UnitOfWork → Value → Type 0
IsShortFor u v = got_bytes v ≤ size_limit (format_of u.now.process)

none_for : (u : UnitOfWork) → 0 ≤ size_limit (format_of u.now.process)
none_for u = omega arith

by_answer : (h : Here) (c : Command) (f : OpenFrame) (fs : List OpenFrame) (u : UnitOfWork) (x : Answer (Process × Held)) → IsShortFor u (reply_of x).value → IsShortFor u (answered h c f fs u x).0.value
by_answer h c f fs u (refused r why) k = none_for u
by_answer h c f fs u (done v x) k = k

returns_at : (ending : Bool) (p : ActivityPath) (f : OpenFrame) (fs : List OpenFrame) (u : UnitOfWork) (o : Option Activity) → IsShortFor u (returned_at ending p f fs u o).0.value
returns_at ending p f fs u None = none_for u
returns_at ending p f fs u (Some a) = none_for u

returns : (ending : Bool) (at : Option ActivityPath) (f : OpenFrame) (fs : List OpenFrame) (u : UnitOfWork) → IsShortFor u (returned ending at f fs u).0.value
returns true None f fs u = none_for u
returns false None f fs u = none_for u
returns true (Some p) f fs u = returns_at true p f fs u (activity_at p u.now.process)
returns false (Some p) f fs u = returns_at false p f fs u (activity_at p u.now.process)

rolls_back : (at : Option ActivityPath) (f : OpenFrame) (u : UnitOfWork) → IsShortFor u (rolled_back at f u).0.value
rolls_back None f u = none_for u
rolls_back (Some p) f u = none_for u

module _ (f : OpenFrame) (fs : List OpenFrame) (u : UnitOfWork) (frames : List ActivityPath) (sound : IsSoundInFrames frames u.now.process) where
  by_row : (c : Command) → IsShortFor u (done_in f fs u c).0.value
  by_row c =
      by_answer (here u.held f.at) c f fs u (answer (here u.held f.at) u.held (length (f ∷ fs)) u.moment u.now.process c)
      (answered_short frames (here u.held f.at) u.held (length (f ∷ fs)) u.moment u.now.process c sound)

  in_frame : (c : Command) → IsShortFor u (called_in f fs u c).0.value
  unfolding called_in
  in_frame (command.Return ending) = returns ending f.at f fs u
  in_frame (command.Abend code) = none_for u
  in_frame command.Rollback = rolls_back f.at f u
  in_frame c = by_row c

in_frames : (fs : List OpenFrame) (u : UnitOfWork) (c : Command) (frames : List ActivityPath) → IsSoundInFrames frames u.now.process → IsShortFor u (called_by fs u c).0.value
in_frames [] u c frames sound = none_for u
in_frames (f ∷ fs) u c frames sound = in_frame f fs u frames sound c

-- what a sound unit is answered
pub reply_short : (u : UnitOfWork) (c : Command) → IsSoundUnit u → got_bytes (call u c).0.value ≤ size_limit (format_of u.now.process)
unfolding call
reply_short u c sound = in_frames u.frames u c (open_paths u) sound.process
