-- Composites: how many entries they make, and in which order their sub-events are retrieved.
use Rattle.std.proofs.Common.{ℕ, Bool, true, false, List, [], ◌∷◌, Some, None, codes, refl}
use Rattle.bts_names.specs.Names.{Name, initial_name}
use Rattle.bts_names.specs.declared.reply.Resp.TheVariants as resp
use Rattle.bts_names.specs.declared.reply.Reason.TheVariants as reason
use Rattle.bts_names.specs.declared.reply.Value.TheVariants as value
use Rattle.bts_names.specs.declared.state.EventKind.TheVariants as kind
use Rattle.bts_names.specs.declared.state.TimerStatus.TheVariants as status
use Rattle.bts_command.specs.declared.command.Command.TheVariants as command
use Rattle.bts_command.specs.declared.command.Due.TheVariants.{After}
use Rattle.bts_command.specs.declared.command.Target.TheVariants as of
use Rattle.bts_event.specs.declared.queue.Entry.{Entry}
use Rattle.bts_event.specs.declared.event.Event.{Event}
use Rattle.bts_event.specs.declared.event.Event.TheVariants.{Atomic as atomic, Composite as composite}
use Rattle.bts_event.specs.declared.event.Trigger.{Trigger}
use Rattle.bts_event.specs.declared.event.Trigger.TheVariants.{Input, Timer}
use Rattle.bts_event.specs.Pool.{settled}
use Rattle.bts_tree.specs.Processes.{Process}
use Rattle.bts_rows.specs.RequestRows.{request_row}
use Rattle.bts_rows.specs.Rows.{answer, thing_row}
use Rattle.bts_rows.specs.OnActivity.{on_activity}
use Rattle.bts_rows.specs.OnContainers.{on_containers, on_shown}
use Rattle.bts_rows.specs.OnFamily.{on_family}
use Rattle.bts_worked.proofs.Tables.{◌answers◌, Plays, talk, ok, event, normal, refusal, root, request, new, run, active, dormant, with_root}

abbrev either : Name
either = codes "EITHER"

abbrev both : Name
both = codes "BOTH"

abbrev an_event : Trigger → Bool → Event
an_event trigger fired = atomic (record { trigger = trigger; fired = fired })

abbrev a_composite : Bool → List Name → List Name → Event
a_composite all subs queued = composite (record { all = all; subs = subs; queued = queued })

-- ---- an OR of two timers, each of which is retrieved before the other is forced

abbrev t1 : Name
t1 = codes "T1"

abbrev t2 : Name
t2 = codes "T2"

-- it turns twice and makes two entries; the second one finds nothing to retrieve any more
two_entries : Plays root 0 (active run) (
    (command.RetrieveReattach answers event initial_name kind.System)
    ∷ (command.DefineTimer t1 None (After 60) answers ok)
    ∷ (command.DefineTimer t2 None (After 60) answers ok)
    ∷ (command.DefineComposite either false (t1 ∷ t2 ∷ []) answers ok)
    ∷ (command.ForceTimer t1 None answers ok)
    ∷ (command.RetrieveSubevent either answers event t1 kind.Timer)
    ∷ (command.ForceTimer t2 None answers ok)
    ∷ (command.RetrieveReattach answers event either kind.Composite)
    ∷ (command.RetrieveSubevent either answers event t2 kind.Timer)
    ∷ (command.RetrieveReattach answers event either kind.Composite)
    ∷ (command.RetrieveSubevent either answers refusal resp.End reason.Empty)
    ∷ [])
    (active (with_root (λ a. record a {
      timers = (t1, record { due = 60; status = status.Forced }) ∷ (t2, record { due = 60; status = status.Forced }) ∷ [];
      pool = record {
        events = (either, a_composite false (t1 ∷ t2 ∷ []) []) ∷ (t1, an_event (Timer t1) false) ∷ (t2, an_event (Timer t2) false) ∷ [];
        entries = [];
        last = 3;
      };
    }) new))
unfolding talk answer thing_row request_row on_activity on_containers on_shown on_family settled
two_entries = refl

-- ---- an OR of two inputs, which are fired before anything is retrieved

abbrev i1 : Name
i1 = codes "I1"

abbrev i2 : Name
i2 = codes "I2"

-- a root that waits for either input: the composite with this queue, which of them are fired, and the entries
abbrev waiting : List Name → Bool → Bool → List Entry → ℕ → Process
waiting queued first second entries last =
    dormant (with_root (λ a. record a {
      pool = record {
        events = (either, a_composite false (i1 ∷ i2 ∷ []) queued) ∷ (i1, an_event Input first) ∷ (i2, an_event Input second) ∷ [];
        entries = entries;
        last = last;
      };
    }) new)

-- how it comes to wait
waits_for_either : Plays root 0 (active run) (
    (command.RetrieveReattach answers event initial_name kind.System)
    ∷ (command.DefineInput i1 answers ok)
    ∷ (command.DefineInput i2 answers ok)
    ∷ (command.DefineComposite either false (i1 ∷ i2 ∷ []) answers ok)
    ∷ [])
    (active (waiting [] false false [] 1))
unfolding talk answer thing_row request_row on_activity on_containers on_shown on_family settled
waits_for_either = refl

-- two firings make one entry
fired_before : Plays request 0 (waiting [] false false [] 1) (
    (command.AcquireProcess answers ok)
    ∷ (command.Run of.AcqProcess false (Some i2) answers ok)
    ∷ (command.Run of.AcqProcess false (Some i1) answers ok)
    ∷ [])
    (waiting (i2 ∷ i1 ∷ []) true true (record { name = either; number = 2 } ∷ []) 2)
unfolding talk answer thing_row request_row on_activity on_containers on_shown on_family settled
fired_before = refl

-- and they are retrieved in the order in which they fired
in_order_of_firing : Plays root 0 (active (waiting (i2 ∷ i1 ∷ []) true true (record { name = either; number = 2 } ∷ []) 2)) (
    (command.RetrieveReattach answers event either kind.Composite)
    ∷ (command.RetrieveSubevent either answers event i2 kind.Input)
    ∷ (command.RetrieveSubevent either answers event i1 kind.Input)
    ∷ (command.RetrieveSubevent either answers refusal resp.End reason.Empty)
    ∷ [])
    (active (waiting [] false false [] 2))
unfolding talk answer thing_row request_row on_activity on_containers on_shown on_family settled
in_order_of_firing = refl

-- ---- one input that is sent twice: what is fired fires no more, and is retrieved once

sent_twice : Plays request 0 (waiting [] false false [] 1) (
    (command.AcquireProcess answers ok)
    ∷ (command.Run of.AcqProcess false (Some i2) answers ok)
    ∷ (command.Run of.AcqProcess false (Some i2) answers refusal resp.Eventerr reason.Fired)
    ∷ [])
    (waiting (i2 ∷ []) false true (record { name = either; number = 2 } ∷ []) 2)
unfolding talk answer thing_row request_row on_activity on_containers on_shown on_family settled
sent_twice = refl

retrieved_once : Plays root 0 (active (waiting (i2 ∷ []) false true (record { name = either; number = 2 } ∷ []) 2)) (
    (command.RetrieveReattach answers event either kind.Composite)
    ∷ (command.RetrieveSubevent either answers event i2 kind.Input)
    ∷ (command.RetrieveSubevent either answers refusal resp.End reason.Empty)
    ∷ (command.RetrieveSubevent either answers refusal resp.End reason.Empty)
    ∷ [])
    (active (waiting [] false false [] 2))
unfolding talk answer thing_row request_row on_activity on_containers on_shown on_family settled
retrieved_once = refl

-- ---- an AND, which turns, and makes its entry, where its last unfired sub-event leaves

turned_by_leaving : Plays root 0 (active run) (
    (command.RetrieveReattach answers event initial_name kind.System)
    ∷ (command.DefineInput i1 answers ok)
    ∷ (command.DefineTimer t2 None (After 2) answers ok)
    ∷ (command.DefineTimer t1 None (After 1) answers ok)
    ∷ (command.DefineComposite both true (t1 ∷ t2 ∷ []) answers ok)
    ∷ (command.ForceTimer t1 None answers ok)
    ∷ (command.TestEvent both answers normal (value.Fired false))
    ∷ (command.RetrieveReattach answers refusal resp.End reason.Empty)
    ∷ (command.DeleteTimer t2 answers ok)
    ∷ (command.TestEvent both answers normal (value.Fired true))
    ∷ (command.RetrieveReattach answers event both kind.Composite)
    ∷ [])
    (active (with_root (λ a. record a {
      timers = (t1, record { due = 1; status = status.Forced }) ∷ [];
      pool = record {
        events = (both, a_composite true (t1 ∷ []) (t1 ∷ [])) ∷ (i1, an_event Input false) ∷ (t1, an_event (Timer t1) true) ∷ [];
        entries = [];
        last = 2;
      };
    }) new))
unfolding talk answer thing_row request_row on_activity on_containers on_shown on_family settled
turned_by_leaving = refl

-- what can't become a sub-event: a composite, a sub-event, what is fired, what isn't there
no_subevents : Plays root 0 (active (waiting (i2 ∷ []) false true [] 2)) (
    (command.AddSubevent either either answers refusal resp.Eventerr reason.NotAtomic)
    ∷ (command.AddSubevent i1 either answers refusal resp.Eventerr reason.IsSubevent)
    ∷ (command.AddSubevent (codes "I3") either answers refusal resp.Eventerr reason.Missing)
    ∷ (command.RemoveSubevent (codes "I3") either answers refusal resp.Eventerr reason.NotSubevent)
    ∷ (command.RetrieveSubevent i1 answers refusal resp.Eventerr reason.NotComposite)
    ∷ (command.DefineInput i1 answers refusal resp.Eventerr reason.Taken)
    ∷ [])
    (active (waiting (i2 ∷ []) false true [] 2))
unfolding talk answer thing_row request_row on_activity on_containers on_shown on_family settled
no_subevents = refl
