-- No command but PUT CONTAINER puts bytes, and its form is a statement of its own.
use Rattle.std.proofs.Common.{ℕ, ◌≤◌, true, false, arith}
use Rattle.std.specs.Prelude.{codes}
use Rattle.bts_command.specs.Sizes.{put_bytes}
use Rattle.bts_command.specs.declared.command.Command.{Command}
use Rattle.bts_command.specs.declared.command.Command.TheVariants as command
use Rattle.bts_forms.specs.Arguments.{code, name, path, program_name, transid}
use Rattle.bts_forms.specs.Pieces.{given, maybe, up_to}
use Rattle.bts_forms.specs.Forms.{acquired, connective, due, input, spot, synchrony, target, define_process, acquire_process, acquire_activity, purge_process, define_activity, delete_activity, run, link, check, cancel, reset, suspend, resume, get_container, delete_container, define_input, define_composite, add_subevent, remove_subevent, delete_event, test_event, retrieve_reattach, retrieve_subevent, define_timer, force_timer, check_timer, delete_timer, plain_return, return_ending, abend, rollback}
use Rattle.bts_forms.proofs.Saying.{Always, saying, anything, ◌▸▸◌, ◌▹▹◌}

abbrev pub PutsAtMost : ℕ → Command → Type 0
PutsAtMost m c = put_bytes c ≤ m

no_bytes : (m : ℕ) → 0 ≤ m
no_bytes m = omega arith

pub in_define_process : (m : ℕ) → Always (PutsAtMost m) define_process
unfolding define_process
in_define_process m =
    saying command.DefineProcess (λ a _ b _. no_bytes m) ▸▸ codes "DEFINE" ▸▸ codes "PROCESS" ▹▹ anything (given (codes "TRANSID") transid)
    ▹▹ anything (given (codes "PROGRAM") program_name)

pub in_acquire_process : (m : ℕ) → Always (PutsAtMost m) acquire_process
unfolding acquire_process
in_acquire_process m = saying command.AcquireProcess (no_bytes m) ▸▸ codes "ACQUIRE" ▸▸ codes "PROCESS"

pub in_acquire_activity : (m : ℕ) → Always (PutsAtMost m) acquire_activity
unfolding acquire_activity
in_acquire_activity m = saying command.AcquireActivity (λ a _. no_bytes m) ▸▸ codes "ACQUIRE" ▹▹ anything (given (codes "ACTIVITYID") path)

pub in_purge_process : (m : ℕ) → Always (PutsAtMost m) purge_process
unfolding purge_process
in_purge_process m = saying command.PurgeProcess (no_bytes m) ▸▸ codes "PURGE" ▸▸ codes "ACQPROCESS"

pub in_define_activity : (m : ℕ) → Always (PutsAtMost m) define_activity
unfolding define_activity
in_define_activity m =
    saying command.DefineActivity (λ a _ b _ d _ e _. no_bytes m) ▸▸ codes "DEFINE" ▹▹ anything (given (codes "ACTIVITY") name)
    ▹▹ anything (maybe (given (codes "EVENT") name)) ▹▹ anything (given (codes "TRANSID") transid)
    ▹▹ anything (given (codes "PROGRAM") program_name)

pub in_delete_activity : (m : ℕ) → Always (PutsAtMost m) delete_activity
unfolding delete_activity
in_delete_activity m = saying command.DeleteActivity (λ a _. no_bytes m) ▸▸ codes "DELETE" ▹▹ anything (given (codes "ACTIVITY") name)

pub in_run : (m : ℕ) → Always (PutsAtMost m) run
unfolding run
in_run m = saying command.Run (λ a _ b _ d _. no_bytes m) ▸▸ codes "RUN" ▹▹ anything target ▹▹ anything synchrony ▹▹ anything input

pub in_link : (m : ℕ) → Always (PutsAtMost m) link
unfolding link
in_link m = saying command.Link (λ a _ b _. no_bytes m) ▸▸ codes "LINK" ▹▹ anything target ▹▹ anything input

pub in_check : (m : ℕ) → Always (PutsAtMost m) check
unfolding check
in_check m = saying command.Check (λ a _. no_bytes m) ▸▸ codes "CHECK" ▹▹ anything target

pub in_cancel : (m : ℕ) → Always (PutsAtMost m) cancel
unfolding cancel
in_cancel m = saying command.Cancel (λ a _. no_bytes m) ▸▸ codes "CANCEL" ▹▹ anything target

pub in_reset : (m : ℕ) → Always (PutsAtMost m) reset
unfolding reset
in_reset m = saying command.Reset (λ a _. no_bytes m) ▸▸ codes "RESET" ▹▹ anything target

pub in_suspend : (m : ℕ) → Always (PutsAtMost m) suspend
unfolding suspend
in_suspend m = saying command.Suspend (λ a _. no_bytes m) ▸▸ codes "SUSPEND" ▹▹ anything target

pub in_resume : (m : ℕ) → Always (PutsAtMost m) resume
unfolding resume
in_resume m = saying command.Resume (λ a _. no_bytes m) ▸▸ codes "RESUME" ▹▹ anything target

pub in_get_container : (m : ℕ) → Always (PutsAtMost m) get_container
unfolding get_container
in_get_container m = saying command.GetContainer (λ a _ b _. no_bytes m) ▸▸ codes "GET" ▹▹ anything (given (codes "CONTAINER") name) ▹▹ anything spot

pub in_delete_container : (m : ℕ) → Always (PutsAtMost m) delete_container
unfolding delete_container
in_delete_container m =
    saying command.DeleteContainer (λ a _ b _. no_bytes m) ▸▸ codes "DELETE" ▹▹ anything (given (codes "CONTAINER") name) ▹▹ anything spot

pub in_define_input : (m : ℕ) → Always (PutsAtMost m) define_input
unfolding define_input
in_define_input m = saying command.DefineInput (λ a _. no_bytes m) ▸▸ codes "DEFINE" ▸▸ codes "INPUT" ▹▹ anything (given (codes "EVENT") name)

pub in_define_composite : (m : ℕ) → Always (PutsAtMost m) define_composite
unfolding define_composite
in_define_composite m =
    saying command.DefineComposite (λ a _ b _ d _. no_bytes m) ▸▸ codes "DEFINE" ▸▸ codes "COMPOSITE"
    ▹▹ anything (given (codes "EVENT") name) ▹▹ anything connective ▹▹ anything (up_to 8 (given (codes "SUBEVENT") name))

pub in_add_subevent : (m : ℕ) → Always (PutsAtMost m) add_subevent
unfolding add_subevent
in_add_subevent m =
    saying command.AddSubevent (λ a _ b _. no_bytes m) ▸▸ codes "ADD" ▹▹ anything (given (codes "SUBEVENT") name)
    ▹▹ anything (given (codes "EVENT") name)

pub in_remove_subevent : (m : ℕ) → Always (PutsAtMost m) remove_subevent
unfolding remove_subevent
in_remove_subevent m =
    saying command.RemoveSubevent (λ a _ b _. no_bytes m) ▸▸ codes "REMOVE" ▹▹ anything (given (codes "SUBEVENT") name)
    ▹▹ anything (given (codes "EVENT") name)

pub in_delete_event : (m : ℕ) → Always (PutsAtMost m) delete_event
unfolding delete_event
in_delete_event m = saying command.DeleteEvent (λ a _. no_bytes m) ▸▸ codes "DELETE" ▹▹ anything (given (codes "EVENT") name)

pub in_test_event : (m : ℕ) → Always (PutsAtMost m) test_event
unfolding test_event
in_test_event m = saying command.TestEvent (λ a _. no_bytes m) ▸▸ codes "TEST" ▹▹ anything (given (codes "EVENT") name)

pub in_retrieve_reattach : (m : ℕ) → Always (PutsAtMost m) retrieve_reattach
unfolding retrieve_reattach
in_retrieve_reattach m = saying command.RetrieveReattach (no_bytes m) ▸▸ codes "RETRIEVE" ▸▸ codes "REATTACH" ▸▸ codes "EVENT"

pub in_retrieve_subevent : (m : ℕ) → Always (PutsAtMost m) retrieve_subevent
unfolding retrieve_subevent
in_retrieve_subevent m =
    saying command.RetrieveSubevent (λ a _. no_bytes m) ▸▸ codes "RETRIEVE" ▸▸ codes "SUBEVENT" ▹▹ anything (given (codes "EVENT") name)

pub in_define_timer : (m : ℕ) → Always (PutsAtMost m) define_timer
unfolding define_timer
in_define_timer m =
    saying command.DefineTimer (λ a _ b _ d _. no_bytes m) ▸▸ codes "DEFINE" ▹▹ anything (given (codes "TIMER") name)
    ▹▹ anything (maybe (given (codes "EVENT") name)) ▹▹ anything due

pub in_force_timer : (m : ℕ) → Always (PutsAtMost m) force_timer
unfolding force_timer
in_force_timer m =
    saying command.ForceTimer (λ a _ b _. no_bytes m) ▸▸ codes "FORCE" ▹▹ anything (given (codes "TIMER") name) ▹▹ anything (maybe acquired)

pub in_check_timer : (m : ℕ) → Always (PutsAtMost m) check_timer
unfolding check_timer
in_check_timer m = saying command.CheckTimer (λ a _. no_bytes m) ▸▸ codes "CHECK" ▹▹ anything (given (codes "TIMER") name)

pub in_delete_timer : (m : ℕ) → Always (PutsAtMost m) delete_timer
unfolding delete_timer
in_delete_timer m = saying command.DeleteTimer (λ a _. no_bytes m) ▸▸ codes "DELETE" ▹▹ anything (given (codes "TIMER") name)

pub in_plain_return : (m : ℕ) → Always (PutsAtMost m) plain_return
unfolding plain_return
in_plain_return m = saying (command.Return false) (no_bytes m) ▸▸ codes "RETURN"

pub in_return_ending : (m : ℕ) → Always (PutsAtMost m) return_ending
unfolding return_ending
in_return_ending m = saying (command.Return true) (no_bytes m) ▸▸ codes "RETURN" ▸▸ codes "ENDACTIVITY"

pub in_abend : (m : ℕ) → Always (PutsAtMost m) abend
unfolding abend
in_abend m = saying command.Abend (λ a _. no_bytes m) ▸▸ codes "ABEND" ▹▹ anything (given (codes "ABCODE") code)

pub in_rollback : (m : ℕ) → Always (PutsAtMost m) rollback
unfolding rollback
in_rollback m = saying command.Rollback (no_bytes m) ▸▸ codes "ROLLBACK"
