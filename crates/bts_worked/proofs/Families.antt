-- Activities: how children are made, run, checked, and how they end.
use Rattle.std.proofs.Common.{ℕ, Bool, true, false, List, [], ◌∷◌, Some, None, codes, refl}
use Rattle.bts_names.specs.Names.{Name, initial_name}
use Rattle.bts_names.specs.declared.reply.Reply.{Reply}
use Rattle.bts_names.specs.declared.reply.Resp.TheVariants as resp
use Rattle.bts_names.specs.declared.reply.Reason.TheVariants as reason
use Rattle.bts_names.specs.declared.reply.Value.TheVariants as value
use Rattle.bts_names.specs.declared.state.Mode.{Mode}
use Rattle.bts_names.specs.declared.state.Mode.TheVariants as mode
use Rattle.bts_names.specs.declared.state.Status.{Status}
use Rattle.bts_names.specs.declared.state.Status.TheVariants as status
use Rattle.bts_command.specs.declared.command.Command.TheVariants as command
use Rattle.bts_command.specs.declared.command.Target.{Target}
use Rattle.bts_command.specs.declared.command.Target.TheVariants as of
use Rattle.bts_event.specs.declared.event.Event.TheVariants.{Atomic as atomic}
use Rattle.bts_event.specs.declared.event.Trigger.TheVariants.{Completion, Input}
use Rattle.bts_event.specs.declared.queue.Entry.{Entry}
use Rattle.bts_event.specs.Events.{Events}
use Rattle.bts_event.specs.Pool.{Pool, settled}
use Rattle.bts_container.specs.declared.format.Format.TheVariants as format
use Rattle.bts_tree.specs.Activities.{new_activity}
use Rattle.bts_tree.specs.Processes.{Process, added, purged}
use Rattle.bts_tree.specs.declared.activity.Activity.{Activity}
use Rattle.bts_rows.specs.RequestRows.{request_row}
use Rattle.bts_rows.specs.Rows.{answer, thing_row}
use Rattle.bts_rows.specs.OnActivity.{on_activity}
use Rattle.bts_rows.specs.OnContainers.{on_containers, on_shown}
use Rattle.bts_rows.specs.OnFamily.{on_family}
use Rattle.bts_worked.proofs.Tables.{◌answers◌, Plays, talk, undefined, run, ok, normal, refusal, root, request, new, active, dormant, with_root, define_process}

abbrev a : Name
a = codes "A"

abbrev child : Target
child = of.Activity a

abbrev of_events : Events → List Entry → ℕ → Pool
of_events events entries last = record { events = events; entries = entries; last = last }

-- the completion event of the child /1
abbrev completion : Bool → Events
completion fired = (a, atomic (record { trigger = Completion 1; fired = fired })) ∷ []

abbrev new_child : Activity
new_child = new_activity format.One a (codes "T1") (codes "KID") (Some a)

-- an ACTIVE root that made one child, with these events; and the same with the child
abbrev parent : Events → Process
parent events = active (with_root (λ r. record r { made = 1; pool = of_events events [] 0 }) new)

abbrev family : Bool → Activity → Process
family fired x = added (1 ∷ []) x (parent (completion fired))

abbrev started : Activity → Activity
started x = record x { pool = of_events [] (record { name = initial_name; number = 1 } ∷ []) 1 }

abbrev ended : Status → Activity → Activity
ended s x = record x { mode = mode.Complete; status = s; told = false; pool = of_events [] [] x.pool.last }

abbrev stands : Mode → Status → Bool → Reply
stands m s suspended = normal (value.Activity m s suspended None)

-- ---- made and taken away

made : Plays root 0 (active new) (
    (command.DefineActivity a None (codes "T1") (codes "KID") answers normal (value.Id (1 ∷ [])))
    ∷ (command.DefineActivity a (Some (codes "E")) (codes "T1") (codes "KID") answers refusal resp.Activityerr reason.Taken)
    ∷ (command.DefineActivity (codes "B") (Some a) (codes "T1") (codes "KID") answers refusal resp.Eventerr reason.Taken)
    ∷ (command.Check child answers stands mode.Initial status.Incomplete false)
    ∷ (command.DeleteEvent a answers refusal resp.Eventerr reason.Kind)
    ∷ [])
    (family false new_child)
unfolding talk answer thing_row on_activity on_containers on_shown on_family settled
made = refl

-- its completion event goes with a child, and its number isn't given again
taken_away : Plays root 0 (family false new_child) (
    (command.DeleteActivity a answers ok)
    ∷ (command.DeleteActivity a answers refusal resp.Activityerr reason.Missing)
    ∷ (command.TestEvent a answers refusal resp.Eventerr reason.Missing)
    ∷ [])
    (parent [])
unfolding talk answer thing_row on_activity on_containers on_shown on_family settled
taken_away = refl

-- ---- run

first_run : Plays root 0 (family false new_child) (
    (command.Run child false (Some (codes "I")) answers refusal resp.Invreq reason.InputGiven)
    ∷ (command.Run child false None answers ok)
    ∷ (command.Run child false None answers refusal resp.Activityerr reason.Started)
    ∷ (command.Run (of.Activity (codes "B")) false None answers refusal resp.Activityerr reason.Missing)
    ∷ (command.Run of.AcqProcess false None answers refusal resp.Invreq reason.Place)
    ∷ [])
    (family false (started new_child))
unfolding talk answer thing_row on_activity on_family
first_run = refl

-- a request defines a process and runs its root
root_runs : Plays request 0 undefined (
    (command.Run of.AcqProcess false None answers refusal resp.Invreq reason.NotAcquired)
    ∷ (define_process answers ok)
    ∷ (define_process answers refusal resp.Invreq reason.Acquired)
    ∷ (command.Run of.AcqProcess false None answers ok)
    ∷ (command.DefineActivity a None (codes "T1") (codes "KID") answers refusal resp.Invreq reason.Place)
    ∷ [])
    run
unfolding talk answer thing_row request_row on_activity on_family
root_runs = refl

-- whether a frame opens is the value of a RUN SYNCHRONOUS and of a LINK; none does on what is suspended
frame_opens : Plays root 0 (family false new_child) ((command.Run child true None answers normal (value.Ran true)) ∷ []) (family false (started new_child))
unfolding talk answer thing_row on_activity on_family
frame_opens = refl

no_frame_opens : Plays root 0 (family false new_child) (
    (command.Suspend child answers ok)
    ∷ (command.Check child answers stands mode.Initial status.Incomplete true)
    ∷ (command.Link child None answers normal (value.Ran false))
    ∷ (command.Resume child answers ok)
    ∷ [])
    (family false (started new_child))
unfolding talk answer thing_row on_activity on_family
no_frame_opens = refl

-- what is DORMANT is run with an event that a program fires
abbrev waiting : Bool → List Entry → ℕ → Process
waiting fired entries last = dormant (with_root (λ r. record r { pool = of_events ((codes "I", atomic (record { trigger = Input; fired = fired })) ∷ []) entries last }) new)

run_again : Plays request 0 (waiting false [] 1) (
    (command.AcquireProcess answers ok)
    ∷ (command.Run of.AcqProcess false None answers refusal resp.Invreq reason.InputMissing)
    ∷ (command.Run of.AcqProcess false (Some (codes "J")) answers refusal resp.Eventerr reason.Missing)
    ∷ (command.Run of.AcqProcess false (Some (codes "I")) answers ok)
    ∷ (command.AcquireProcess answers refusal resp.Invreq reason.Acquired)
    ∷ [])
    (waiting true (record { name = codes "I"; number = 2 } ∷ []) 2)
unfolding talk answer thing_row request_row on_activity on_family settled
run_again = refl

-- ---- ended

-- a child that is cancelled is COMPLETE FORCED, and its parent isn't told before it checks
cancelled : Plays root 0 (family false (started new_child)) (
    (command.Cancel child answers ok)
    ∷ (command.Cancel child answers refusal resp.Activityerr reason.Mode)
    ∷ (command.Run child false None answers refusal resp.Activityerr reason.Mode)
    ∷ (command.Suspend child answers refusal resp.Activityerr reason.Mode)
    ∷ [])
    (family false (ended status.Forced (started new_child)))
unfolding talk answer thing_row on_activity on_family
cancelled = refl

-- the parent that checks a child that ended is told, and the child's completion event goes
checked : Plays root 0 (family true (ended status.Normal (started new_child))) (
    (command.Check child answers stands mode.Complete status.Normal false)
    ∷ (command.TestEvent a answers refusal resp.Eventerr reason.Missing)
    ∷ [])
    (added (1 ∷ []) (record (ended status.Normal (started new_child)) { told = true }) (parent []))
unfolding talk answer thing_row on_activity on_containers on_shown on_family settled
checked = refl

-- RESET makes it as new, and its completion event again; the numbers of its entries go on
reset : Plays root 0 (added (1 ∷ []) (record (ended status.Normal (started new_child)) { told = true }) (parent [])) (
    (command.Reset child answers ok)
    ∷ (command.Check child answers stands mode.Initial status.Incomplete false)
    ∷ [])
    (family false (record new_child { pool = of_events [] [] 1 }))
unfolding talk answer thing_row on_activity on_family settled
reset = refl

not_at_rest : Plays root 0 (family false (record new_child { mode = mode.Dormant })) (
    (command.Reset child answers refusal resp.Activityerr reason.Mode)
    ∷ (command.DeleteActivity a answers refusal resp.Activityerr reason.Mode)
    ∷ [])
    (family false (record new_child { mode = mode.Dormant }))
unfolding talk answer thing_row on_activity on_family
not_at_rest = refl

-- ---- a process that is purged is defined again under the next generation

purged_once : Plays request 0 (with_root (λ r. record r { mode = mode.Complete; status = status.Normal }) new) (
    (command.PurgeProcess answers refusal resp.Invreq reason.NotAcquired)
    ∷ (command.AcquireProcess answers ok)
    ∷ (command.PurgeProcess answers ok)
    ∷ (command.PurgeProcess answers refusal resp.Invreq reason.NotAcquired)
    ∷ [])
    (purged new)
unfolding talk answer thing_row request_row
purged_once = refl

defined_again : Plays request 0 (purged new) ((define_process answers ok) ∷ []) (record new { generation = 2 })
unfolding talk answer thing_row request_row
defined_again = refl

not_while_it_waits : Plays request 0 (dormant new) ((command.AcquireProcess answers ok) ∷ (command.PurgeProcess answers refusal resp.Processerr reason.Mode) ∷ []) (dormant new)
unfolding talk answer thing_row request_row
not_while_it_waits = refl
