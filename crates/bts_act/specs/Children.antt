-- Children by their parents.
use Rattle.std.specs.Prelude.{[], cond, Option, Some, None, Result, Ok, Err}
use Rattle.bts_names.specs.Names.{ActivityPath}
use Rattle.bts_names.specs.declared.reply.Reason.{Reason}
use Rattle.bts_names.specs.declared.reply.Reason.TheVariants as reason
use Rattle.bts_tree.specs.declared.activity.Activity.{Activity}
use Rattle.bts_tree.specs.Activities.{is_at_rest}
use Rattle.bts_rows.specs.declared.places.Here.{Here}
use Rattle.bts_rows.specs.declared.places.Here.TheVariants as here

-- the path of the frame's activity
abbrev pub frame_path : Here → ActivityPath
frame_path (here.Activity p) = p
frame_path (here.Request h) = []

-- the path of a child that may go, or why it can't
abbrev pub resting : Option (ActivityPath × Activity) → Result ActivityPath Reason
resting None = Err reason.Missing
resting (Some x) = cond (is_at_rest x.1) (Ok x.0) (Err reason.Mode)
