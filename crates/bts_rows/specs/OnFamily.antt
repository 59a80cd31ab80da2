-- The rows of the commands on a process, from the activity at a path on: its children, what it tells its parent, its end.
use Rattle.std.specs.Prelude.{ℕ, true, false, cond, not, nat_le, [], ◌∷◌, ◌+◌, ◌++◌, length, Option, None, Some, is_some, is_none, unwrap_or}
use Rattle.bts_names.specs.Names.{Name, ActivityPath}
use Rattle.bts_names.specs.Answer.{Answer, refused, done, at_some, refuse◌because◌when◌otherwise◌, refuse◌for◌otherwise◌}
use Rattle.bts_names.specs.declared.reply.Resp.TheVariants as resp
use Rattle.bts_names.specs.declared.reply.Reason.TheVariants as reason
use Rattle.bts_names.specs.declared.reply.Value.TheVariants as value
use Rattle.bts_names.specs.declared.state.Status.TheVariants as status
use Rattle.bts_command.specs.declared.command.Command.{Command}
use Rattle.bts_command.specs.declared.command.Command.TheVariants as command
use Rattle.bts_container.specs.declared.format.Format.{Format}
use Rattle.bts_event.specs.Refusals.{define_refusal}
use Rattle.bts_tree.specs.declared.activity.Activity.{Activity}
use Rattle.bts_tree.specs.Modes.{is_reset}
use Rattle.bts_tree.specs.Paths.{number_of, parent_of}
use Rattle.bts_tree.specs.Activities.{child_limit, ended_by, is_at_rest, is_complete, new_activity, path_limit}
use Rattle.bts_tree.specs.Processes.{Process, activity_at, added, child_of, complete, edited, format_of, removed}
use Rattle.bts_rows.specs.Completions.{completion_refusal, pool_of, with_child, with_completion, without_completion}

-- a row reads what stands near the activity, and leaves a change of the process: so it may be made on a part of it
abbrev pub Change : Type 0
Change = Process → Process

abbrev pub define_activity : Format → Name → Option Name → Name → Name → ActivityPath → Activity → Option (ActivityPath × Activity) → Answer Change
define_activity f name event transid program p a found =
    let e : Name = unwrap_or event name in
    let n : ℕ = a.made + 1 in
    refuse resp.Activityerr because reason.Taken when is_some found otherwise
    refuse resp.Eventerr for define_refusal e a.pool.events otherwise
    refuse resp.Activityerr because reason.Depth when nat_le path_limit (length p) otherwise
    refuse resp.Activityerr because reason.Limit when nat_le child_limit a.made otherwise
    done (value.Id (p ++ n ∷ [])) (λ s. added (p ++ n ∷ []) (new_activity f name transid program (Some e)) (edited p (with_child e n) s))

abbrev pub delete_activity : Option (ActivityPath × Activity) → Answer Change
delete_activity found =
    at_some resp.Activityerr reason.Missing found λ x.
    refuse resp.Activityerr because reason.Mode when not (is_at_rest x.1) otherwise
    done value.Nothing (λ s. without_completion x.0 (removed x.0 true s))

-- a parent that checks a COMPLETE child is told, and the child's completion event goes
abbrev pub as_told : Activity → Activity
as_told a = record a { told = true }

abbrev pub told : ActivityPath → Change
told p s = edited p as_told (without_completion p s)

abbrev pub check_child : ActivityPath → Activity → Answer Change
check_child p a = done (value.Activity a.mode a.status a.suspended a.code) (λ s. cond (is_complete a) (told p s) s)

abbrev pub cancel : ActivityPath → Activity → Answer Change
cancel p a =
    refuse resp.Activityerr because reason.Mode when is_complete a otherwise
    done value.Nothing (complete p status.Forced None)

-- the activity is as new, but for its containers, its suspension and its numbers; its completion event stands before anything goes
abbrev pub reset : ActivityPath → Activity → Option Activity → Answer Change
reset p a parent =
    refuse resp.Activityerr because reason.Mode when not (is_at_rest a) otherwise
    refuse resp.Eventerr for completion_refusal (number_of p) a.completion (pool_of parent).events otherwise
    done value.Nothing (λ s. edited p (ended_by is_reset None (is_none a.completion)) (removed p false (with_completion p a.completion s)))

-- ---- the commands, by the activity from which on the process is looked at

unfoldable pub on_family : Command → ActivityPath → Activity → Process → Answer Change
on_family (command.DefineActivity name e transid program) p a s = define_activity (format_of s) name e transid program p a (child_of p name s)
on_family (command.DeleteActivity name) p a s = delete_activity (child_of p name s)
on_family (command.Check target) p a s = check_child p a
on_family (command.Cancel target) p a s = cancel p a
on_family (command.Reset target) p a s = reset p a (activity_at (parent_of p) s)
on_family _ p a s = refused resp.Invreq reason.Place
