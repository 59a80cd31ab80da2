-- Timers: an order for a later moment, at that moment.
use Rattle.std.proofs.Common.{ℕ, Bool, true, false, List, [], ◌∷◌, Some, None, codes, refl}
use Rattle.bts_names.specs.Names.{Name, initial_name}
use Rattle.bts_names.specs.declared.reply.Resp.TheVariants as resp
use Rattle.bts_names.specs.declared.reply.Reason.TheVariants as reason
use Rattle.bts_names.specs.declared.reply.Value.TheVariants as value
use Rattle.bts_names.specs.declared.state.EventKind.TheVariants as kind
use Rattle.bts_names.specs.declared.state.TimerStatus.{TimerStatus}
use Rattle.bts_names.specs.declared.state.TimerStatus.TheVariants as status
use Rattle.bts_command.specs.declared.command.Command.TheVariants as command
use Rattle.bts_command.specs.declared.command.Due.TheVariants.{After, At}
use Rattle.bts_event.specs.declared.event.Event.TheVariants.{Atomic as atomic}
use Rattle.bts_event.specs.declared.event.Trigger.TheVariants.{Timer}
use Rattle.bts_event.specs.declared.queue.Entry.{Entry}
use Rattle.bts_event.specs.Pool.{settled}
use Rattle.bts_tree.specs.Processes.{Process}
use Rattle.bts_rows.specs.RequestRows.{request_row}
use Rattle.bts_rows.specs.Rows.{answer, thing_row}
use Rattle.bts_rows.specs.OnActivity.{on_activity}
use Rattle.bts_rows.specs.OnContainers.{on_containers, on_shown}
use Rattle.bts_rows.specs.OnFamily.{on_family}
use Rattle.bts_worked.proofs.Tables.{◌answers◌, Plays, talk, ok, event, normal, refusal, root, new, run, active, with_root}

abbrev t1 : Name
t1 = codes "T1"

abbrev t2 : Name
t2 = codes "T2"

-- a root with one timer for second 60 and one for second 61: the status of the first, whether its event is fired, and
-- the entries
abbrev ticking : TimerStatus → Bool → List Entry → ℕ → Process
ticking first fired entries last =
    active (with_root (λ a. record a {
      timers = (t1, record { due = 60; status = first }) ∷ (t2, record { due = 61; status = status.Unexpired }) ∷ [];
      pool = record {
        events = (t1, atomic (record { trigger = Timer t1; fired = fired })) ∷ (t2, atomic (record { trigger = Timer t2; fired = false })) ∷ [];
        entries = entries;
        last = last;
      };
    }) new)

ordered : Plays root 0 (active run) (
    (command.RetrieveReattach answers event initial_name kind.System)
    ∷ (command.DefineTimer t1 None (After 60) answers ok)
    ∷ (command.DefineTimer t2 None (At 61) answers ok)
    ∷ [])
    (ticking status.Unexpired false [] 1)
unfolding talk answer thing_row request_row on_activity on_containers on_shown on_family settled
ordered = refl

-- a timer that expired goes with its event when it is checked, and one that is UNEXPIRED stays
checked : Plays root 60 (ticking status.Expired true (record { name = t1; number = 2 } ∷ []) 2) (
    (command.RetrieveReattach answers event t1 kind.Timer)
    ∷ (command.CheckTimer t1 answers normal (value.Timer status.Expired))
    ∷ (command.CheckTimer t2 answers normal (value.Timer status.Unexpired))
    ∷ (command.CheckTimer t1 answers refusal resp.Timererr reason.Missing)
    ∷ (command.DeleteTimer t2 answers ok)
    ∷ (command.TestEvent t2 answers refusal resp.Eventerr reason.Missing)
    ∷ [])
    (active (with_root (λ a. record a { pool = record { events = []; entries = []; last = 2 } }) new))
unfolding talk answer thing_row request_row on_activity on_containers on_shown on_family settled
checked = refl

-- one that is forced fires at once, and isn't forced again; neither its name nor that of its event is free
forced : Plays root 0 (ticking status.Unexpired false [] 1) (
    (command.ForceTimer t1 None answers ok)
    ∷ (command.ForceTimer t1 None answers refusal resp.Timererr reason.Ended)
    ∷ (command.DefineTimer t1 None (After 1) answers refusal resp.Timererr reason.Taken)
    ∷ (command.DefineTimer (codes "T3") (Some t1) (After 1) answers refusal resp.Eventerr reason.Taken)
    ∷ (command.DeleteEvent t1 answers refusal resp.Eventerr reason.Kind)
    ∷ [])
    (ticking status.Forced true (record { name = t1; number = 2 } ∷ []) 2)
unfolding talk answer thing_row request_row on_activity on_containers on_shown on_family settled
forced = refl

-- the last moment has no second behind it
past_the_last : Plays root 253402300799 (active new) (
    (command.DefineTimer t1 None (After 1) answers refusal resp.Invreq reason.Range)
    ∷ (command.DefineTimer t1 None (After 0) answers ok)
    ∷ [])
    (active (with_root (λ a. record a {
      timers = (t1, record { due = 253402300799; status = status.Unexpired }) ∷ [];
      pool = record { events = (t1, atomic (record { trigger = Timer t1; fired = false })) ∷ []; entries = []; last = 0 };
    }) new))
unfolding talk answer thing_row request_row on_activity on_containers on_shown on_family settled
past_the_last = refl
