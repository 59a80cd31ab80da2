-- The rows of the commands by which a request acquires a process.
use Rattle.std.specs.Prelude.{Bool, true, false, not, [], is_some}
use Rattle.bts_names.specs.Names.{Name, ActivityPath}
use Rattle.bts_names.specs.Answer.{Answer, refused, done, at_some, refuse◌because◌when◌otherwise◌}
use Rattle.bts_names.specs.declared.reply.Resp.TheVariants as resp
use Rattle.bts_names.specs.declared.reply.Reason.TheVariants as reason
use Rattle.bts_names.specs.declared.reply.Value.TheVariants as value
use Rattle.bts_command.specs.declared.command.Command.{Command}
use Rattle.bts_command.specs.declared.command.Command.TheVariants as command
use Rattle.bts_tree.specs.Activities.{new_root, is_at_rest}
use Rattle.bts_tree.specs.Processes.{Process, activity_at, format_of, has_tree, planted, purged}
use Rattle.bts_rows.specs.declared.places.Held.{Held}
use Rattle.bts_rows.specs.declared.places.Held.TheVariants as held

-- whether the request acquired anything before
abbrev pub has_acquired : Held → Bool
has_acquired held.Never = false
has_acquired _ = true

abbrev pub holds_process : Held → Bool
holds_process held.Process = true
holds_process _ = false

abbrev pub define_process_row : Held → Process → Name → Name → Answer (Process × Held)
define_process_row h s transid program =
    refuse resp.Invreq because reason.Acquired when has_acquired h otherwise
    refuse resp.Processerr because reason.Taken when has_tree s otherwise
    done value.Nothing (planted (new_root (format_of s) transid program) s, held.Process)

abbrev pub acquire_process_row : Held → Process → Answer (Process × Held)
acquire_process_row h s =
    refuse resp.Invreq because reason.Acquired when has_acquired h otherwise
    refuse resp.Processerr because reason.Missing when not (has_tree s) otherwise
    done value.Nothing (s, held.Process)

abbrev pub acquire_activity_row : Held → Process → ActivityPath → Answer (Process × Held)
acquire_activity_row h s path =
    refuse resp.Invreq because reason.Acquired when has_acquired h otherwise
    refuse resp.Processerr because reason.Missing when not (has_tree s) otherwise
    refuse resp.Activityerr because reason.Missing when not (is_some (activity_at path s)) otherwise
    done value.Nothing (s, held.Activity path)

abbrev pub purge_row : Held → Process → Answer (Process × Held)
purge_row h s =
    refuse resp.Invreq because reason.NotAcquired when not (holds_process h) otherwise
    at_some resp.Processerr reason.Missing (activity_at [] s) λ root.
    refuse resp.Processerr because reason.Mode when not (is_at_rest root) otherwise
    done value.Nothing (purged s, held.Purged)

-- ---- the table

-- commands 1 to 4
unfoldable pub request_row : Held → Process → Command → Answer (Process × Held)
request_row h s (command.DefineProcess transid program) = define_process_row h s transid program
request_row h s command.AcquireProcess = acquire_process_row h s
request_row h s (command.AcquireActivity path) = acquire_activity_row h s path
request_row h s command.PurgeProcess = purge_row h s
request_row h s _ = refused resp.Invreq reason.Place
