-- Units of work: what their calls answer, how they end, what stands behind them, and the account of their entries.
use Rattle.std.proofs.Common.{◌≡◌, ℕ, true, false, List, [], ◌∷◌, Option, Some, None, map, codes, inl, inr, refl, ap, arith}
use Rattle.bts_names.specs.Names.{Name, ActivityPath, initial_name}
use Rattle.bts_names.specs.declared.reply.Leaving.{Leaving}
use Rattle.bts_names.specs.declared.reply.Leaving.TheVariants as leaving
use Rattle.bts_names.specs.declared.reply.Reason.TheVariants as reason
use Rattle.bts_names.specs.declared.reply.Resp.{Resp}
use Rattle.bts_names.specs.declared.reply.Resp.TheVariants as resp
use Rattle.bts_names.specs.declared.reply.Value.TheVariants as value
use Rattle.bts_names.specs.declared.state.EventKind.TheVariants as kind
use Rattle.bts_names.specs.declared.state.Status.{Status}
use Rattle.bts_names.specs.declared.state.Status.TheVariants as status
use Rattle.bts_names.specs.declared.state.TimerStatus.TheVariants as timer
use Rattle.bts_command.specs.declared.command.Call.{Call}
use Rattle.bts_command.specs.declared.command.Command.{Command}
use Rattle.bts_command.specs.declared.command.Command.TheVariants as command
use Rattle.bts_command.specs.declared.command.Target.TheVariants as target
use Rattle.bts_command.specs.declared.ended.End.{End}
use Rattle.bts_command.specs.declared.ended.End.TheVariants.{Commit, Rollback, Abend}
use Rattle.bts_command.specs.declared.ended.Ended.{Ended}
use Rattle.bts_command.specs.declared.ended.UnitKind.{UnitKind}
use Rattle.bts_command.specs.declared.ended.UnitKind.TheVariants as unit
use Rattle.bts_event.specs.declared.event.Event.TheVariants.{Atomic as atomic}
use Rattle.bts_event.specs.declared.event.Trigger.TheVariants.{Input, Timer}
use Rattle.bts_event.specs.Pool.{fired, settled}
use Rattle.bts_tree.specs.declared.activity.Activity.{Activity}
use Rattle.bts_tree.specs.declared.mark.Mark.{Mark}
use Rattle.bts_container.specs.Containers.{no_containers}
use Rattle.bts_container.specs.declared.format.Format.TheVariants as format
use Rattle.bts_tree.specs.Activities.{new_activity}
use Rattle.bts_tree.specs.Processes.{Process, added, complete, edited}
use Rattle.bts_tree.specs.Repositories.{Processes}
use Rattle.bts_rows.specs.RequestRows.{request_row}
use Rattle.bts_rows.specs.Rows.{answer, thing_row}
use Rattle.bts_rows.specs.OnActivity.{on_activity}
use Rattle.bts_rows.specs.OnContainers.{on_containers, on_shown}
use Rattle.bts_rows.specs.OnFamily.{on_family}
use Rattle.bts_rows.specs.Completions.{with_child}
use Rattle.bts_rows.specs.Signals.{with_signal}
use Rattle.bts_rows.specs.Timing.{with_timer}
use Rattle.bts_unit.specs.Calls.{called_in}
use Rattle.bts_unit.specs.Calls as calls
use Rattle.bts_unit.specs.Frames.{UnitOfWork, start}
use Rattle.bts_unit.specs.Playing.{Plays, IsReplay, after, budgeted, may_run}
use Rattle.bts_unit.specs.Refusals.{IsCause}
use Rattle.bts_unit.specs.Standings.{moved, retrieving}
use Rattle.bts_unit.specs.Systems.{system}
use Rattle.bts_unit.specs.declared.apply_error.ApplyError.TheVariants as error
use Rattle.bts_worked.proofs.Tables.{Line, ◌answers◌, ok, event, normal, refusal, undefined, define_process, new, run, dormant, with_root}

-- ---- the form of an example

-- an activity and the number of an entry
abbrev Numbered : Type 0
Numbered = ActivityPath × ℕ

abbrev numbered : List Mark → List Numbered
numbered = map (λ m. (m.path, m.number))

-- what is seen of a unit: its end, the process, and the entries that were made, retrieved and dropped
record Seen : Type 0 where
  end : Option End
  process : Process
  entered : List Numbered
  retrieved : List Numbered
  dropped : List Numbered

abbrev seen : UnitOfWork → Seen
seen u =
    record {
      end = u.end;
      process = u.now.process;
      entered = numbered u.now.entered;
      retrieved = numbered u.now.retrieved;
      dropped = numbered u.now.dropped;
    }

abbrev line_of : Call → Line
line_of c = c.command answers c.reply

abbrev command_of : Line → Command
command_of (c answers r) = c

-- the unit behind the commands of a table
abbrev behind : UnitOfWork → List Line → UnitOfWork
behind u lines = calls.run u (map command_of lines)

-- a unit answers the lines of a table, and this is seen behind them
abbrev Gives : UnitOfWork → List Line → Seen → Type 0
Gives u lines what = ◌≡◌ {A = List Line × Seen} (map line_of (behind u lines).calls, seen (behind u lines)) (lines, what)

abbrev request : Process → UnitOfWork
request s = start (unit.Request 1 s.key) 0 s

-- the activation of the root
abbrev activation : Process → UnitOfWork
activation s = start (unit.Activation s.key []) 0 s

abbrev returns : Line
returns = command.Return false answers ok

-- an activity's frame is left so
abbrev leaves : Leaving → Line
leaves how = command.Return false answers normal (value.Left how)

abbrev ends_as : Leaving → Line
ends_as how = command.Return true answers normal (value.Left how)

abbrev retrieves_initial : Line
retrieves_initial = command.RetrieveReattach answers event initial_name kind.System

-- the root is COMPLETE, and lost its events and entries
abbrev ended : Status → Option Name → Process → Process
ended = complete []

-- ---- requests

committed : Gives (request undefined) (
    (define_process answers ok)
    ∷ (command.Run target.AcqProcess false None answers ok)
    ∷ returns
    ∷ [])
    record { end = Some Commit; process = run; entered = ([], 1) ∷ []; retrieved = []; dropped = [] }
unfolding calls.run called_in moved retrieving answer thing_row request_row on_activity on_containers on_shown on_family settled
committed = refl

-- a request that rolls back, and one that abends, leave the process as it was, and no entry was made
rolled_back : Gives (request undefined) (
    (define_process answers ok)
    ∷ (command.Run target.AcqProcess false None answers ok)
    ∷ (command.Rollback answers ok)
    ∷ [])
    record { end = Some Rollback; process = undefined; entered = []; retrieved = []; dropped = [] }
unfolding calls.run called_in moved retrieving answer thing_row request_row on_activity on_containers on_shown on_family settled
rolled_back = refl

abended : Gives (request undefined) (
    (define_process answers ok)
    ∷ (command.Run target.AcqProcess false None answers ok)
    ∷ (command.Abend (codes "OOPS") answers ok)
    ∷ [])
    record { end = Some (Abend (codes "OOPS")); process = undefined; entered = []; retrieved = []; dropped = [] }
unfolding calls.run called_in moved retrieving answer thing_row request_row on_activity on_containers on_shown on_family settled
abended = refl

-- a request has no activity that RETURN could end
no_activity : Gives (request new) (
    (command.Return true answers refusal resp.Invreq reason.Place)
    ∷ (command.RetrieveReattach answers refusal resp.Invreq reason.Place)
    ∷ returns
    ∷ [])
    record { end = Some Commit; process = new; entered = []; retrieved = []; dropped = [] }
unfolding calls.run called_in moved retrieving answer thing_row request_row on_activity on_containers on_shown on_family settled
no_activity = refl

-- ---- activations of a root that was run

-- without a retrieval a RETURN is an abend: the entry is dropped
nothing_retrieved : Gives (activation run) (leaves (leaving.Abended (codes "NORT")) ∷ [])
    record { end = Some (Abend (codes "NORT")); process = ended status.Abend (Some (codes "NORT")) run; entered = []; retrieved = []; dropped = ([], 1) ∷ [] }
unfolding calls.run called_in moved retrieving answer thing_row request_row on_activity on_containers on_shown on_family settled
nothing_retrieved = refl

-- with no event left the activity is COMPLETE, and with one it waits
no_event_left : Gives (activation run) (retrieves_initial ∷ leaves leaving.Complete ∷ [])
    record { end = Some Commit; process = ended status.Normal None run; entered = []; retrieved = ([], 1) ∷ []; dropped = [] }
unfolding calls.run called_in moved retrieving answer thing_row request_row on_activity on_containers on_shown on_family settled
no_event_left = refl

event_left : Gives (activation run) (
    retrieves_initial
    ∷ (command.DefineInput (codes "GO") answers ok)
    ∷ leaves leaving.Dormant
    ∷ [])
    record {
      end = Some Commit;
      process = dormant (with_root (λ a. record a { pool = record { events = (codes "GO", atomic (record { trigger = Input; fired = false })) ∷ []; entries = []; last = 1 } }) new);
      entered = [];
      retrieved = ([], 1) ∷ [];
      dropped = [];
    }
unfolding calls.run called_in moved retrieving answer thing_row request_row on_activity on_containers on_shown on_family settled
event_left = refl

-- ENDACTIVITY asks for no retrieval, but for no child that may still tell
ended_at_once : Gives (activation run) (ends_as leaving.Complete ∷ [])
    record { end = Some Commit; process = ended status.Normal None run; entered = []; retrieved = []; dropped = ([], 1) ∷ [] }
unfolding calls.run called_in moved retrieving answer thing_row request_row on_activity on_containers on_shown on_family settled
ended_at_once = refl

-- what the activation did is given back, the retrieval too
children_left : Gives (activation run) (
    retrieves_initial
    ∷ (command.DefineActivity (codes "C") None (codes "CHL1") (codes "LEAF") answers normal (value.Id (1 ∷ [])))
    ∷ ends_as (leaving.Abended (codes "CHLD"))
    ∷ [])
    record { end = Some (Abend (codes "CHLD")); process = ended status.Abend (Some (codes "CHLD")) run; entered = []; retrieved = []; dropped = ([], 1) ∷ [] }
unfolding calls.run called_in moved retrieving answer thing_row request_row on_activity on_containers on_shown on_family settled
children_left = refl

-- a program can't roll back, and nothing that stands behind its end is done
program_abends : Gives (activation run) (
    retrieves_initial
    ∷ (command.Rollback answers refusal resp.Invreq reason.Place)
    ∷ (command.AcquireProcess answers refusal resp.Invreq reason.Place)
    ∷ (command.Abend (codes "OOPS") answers ok)
    ∷ [])
    record { end = Some (Abend (codes "OOPS")); process = ended status.Abend (Some (codes "OOPS")) run; entered = []; retrieved = []; dropped = ([], 1) ∷ [] }
unfolding calls.run called_in moved retrieving answer thing_row request_row on_activity on_containers on_shown on_family settled
program_abends = refl

-- ---- limits

-- a limit ends a unit whose first frame is open; another code doesn't
limit_met : seen (budgeted (Abend (codes "STEP")) (behind (activation run) (retrieves_initial ∷ [])))
    ≡ record { end = Some (Abend (codes "STEP")); process = ended status.Abend (Some (codes "STEP")) run; entered = []; retrieved = []; dropped = ([], 1) ∷ [] }
unfolding calls.run called_in moved retrieving answer thing_row request_row on_activity on_containers on_shown on_family settled
limit_met = refl

no_limit : (budgeted (Abend (codes "OOPS")) (behind (activation run) (retrieves_initial ∷ []))).end ≡ None
unfolding calls.run called_in moved retrieving answer thing_row request_row on_activity on_containers on_shown on_family settled
no_limit = refl

-- ---- linked frames

-- a request runs the root in a frame of its own, and goes on behind it
in_its_own_frame : Gives (request undefined) (
    (define_process answers ok)
    ∷ (command.Run target.AcqProcess true None answers normal (value.Ran true))
    ∷ retrieves_initial
    ∷ (command.PurgeProcess answers refusal resp.Invreq reason.Place)
    ∷ leaves leaving.Complete
    ∷ (command.PurgeProcess answers ok)
    ∷ returns
    ∷ [])
    record {
      end = Some Commit;
      process = record { key = undefined.key; generation = 1; tree = None; containers = no_containers format.One };
      entered = ([], 1) ∷ [];
      retrieved = ([], 1) ∷ [];
      dropped = [];
    }
unfolding calls.run called_in moved retrieving answer thing_row request_row on_activity on_containers on_shown on_family settled
in_its_own_frame = refl

abbrev child : Activity
child = new_activity format.One (codes "C") (codes "CHL1") (codes "LEAF") (Some (codes "C"))

abbrev with_a_child : Process → Process
with_a_child s = added (1 ∷ []) child (with_root (with_child (codes "C") 1) s)

-- the abend of a frame that was run gives back what stood when it opened, and that of a linked one gives nothing back
abbrev call_and_abend : Command → List Line
call_and_abend c =
    retrieves_initial
    ∷ (c answers normal (value.Ran true))
    ∷ retrieves_initial
    ∷ (command.DefineActivity (codes "D") None (codes "CHL1") (codes "LEAF") answers normal (value.Id (1 ∷ 1 ∷ [])))
    ∷ (command.Abend (codes "OOPS") answers ok)
    ∷ leaves leaving.Dormant
    ∷ []

-- the root retrieved its entry, and the child was signalled
abbrev signalled : Process
signalled = edited (1 ∷ []) (with_signal None) (with_a_child (with_root (λ a. record a { pool = record { events = []; entries = []; last = 1 } }) new))

run_gives_back : Gives (activation (with_a_child run)) (call_and_abend (command.Run (target.Activity (codes "C")) true None))
    record {
      end = Some Commit;
      process = complete (1 ∷ []) status.Abend (Some (codes "OOPS")) (dormant signalled);
      entered = (1 ∷ [], 1) ∷ [];
      retrieved = ([], 1) ∷ [];
      dropped = (1 ∷ [], 1) ∷ [];
    }
unfolding calls.run called_in moved retrieving answer thing_row request_row on_activity on_containers on_shown on_family settled
run_gives_back = refl

abbrev grandchild : Process → Process
grandchild s =
    added (1 ∷ 1 ∷ []) (new_activity format.One (codes "D") (codes "CHL1") (codes "LEAF") (Some (codes "D"))) (edited (1 ∷ []) (with_child (codes "D") 1) s)

link_gives_nothing_back : Gives (activation (with_a_child run)) (call_and_abend (command.Link (target.Activity (codes "C")) None))
    record {
      end = Some Commit;
      process = complete (1 ∷ []) status.Abend (Some (codes "OOPS")) (dormant (grandchild signalled));
      entered = (1 ∷ [], 1) ∷ [];
      retrieved = ([], 1) ∷ (1 ∷ [], 1) ∷ [];
      dropped = [];
    }
unfolding calls.run called_in moved retrieving answer thing_row request_row on_activity on_containers on_shown on_family settled
link_gives_nothing_back = refl

-- a limit that is met in an inner frame ends all, and the root alone abends
limit_in_an_inner_frame : seen (budgeted (Abend (codes "CMDS")) (behind (activation (with_a_child run)) (
    retrieves_initial
    ∷ (command.Link (target.Activity (codes "C")) None answers normal (value.Ran true))
    ∷ [])))
    ≡ record {
      end = Some (Abend (codes "CMDS"));
      process = ended status.Abend (Some (codes "CMDS")) (with_a_child run);
      entered = [];
      retrieved = [];
      dropped = ([], 1) ∷ [];
    }
unfolding calls.run called_in moved retrieving answer thing_row request_row on_activity on_containers on_shown on_family settled
limit_in_an_inner_frame = refl

-- a suspended child isn't run: its entry waits, and the frame stays the root's
waits : Gives (activation (edited (1 ∷ []) (λ a. record a { suspended = true }) (with_a_child run))) (
    retrieves_initial
    ∷ (command.Run (target.Activity (codes "C")) true None answers normal (value.Ran false))
    ∷ leaves leaving.Dormant
    ∷ [])
    record {
      end = Some Commit;
      process = dormant (edited (1 ∷ []) (λ a. record a { suspended = true }) signalled);
      entered = (1 ∷ [], 1) ∷ [];
      retrieved = ([], 1) ∷ [];
      dropped = [];
    }
unfolding calls.run called_in moved retrieving answer thing_row request_row on_activity on_containers on_shown on_family settled
waits = refl

-- ---- notices and expiries

-- the child is told, and its completion event fires in the root's pool
told : seen (system (unit.Notice undefined.key (1 ∷ [])) 0 (complete (1 ∷ []) status.Normal None (with_a_child run)))
    ≡ record {
      end = Some Commit;
      process = with_root (λ a. record a { pool = fired (codes "C") a.pool }) (edited (1 ∷ []) (λ a. record a { told = true }) (complete (1 ∷ []) status.Normal None (with_a_child run)));
      entered = ([], 2) ∷ [];
      retrieved = [];
      dropped = [];
    }
unfolding moved settled
told = refl

timed_out : seen (system (unit.Expiry undefined.key [] (codes "T")) 60 (with_root (with_timer (codes "T") (codes "T") 60) new))
    ≡ record {
      end = Some Commit;
      process = with_root (λ a. record a {
        timers = (codes "T", record { due = 60; status = timer.Expired }) ∷ [];
        pool = record { events = (codes "T", atomic (record { trigger = Timer (codes "T"); fired = true })) ∷ []; entries = record { name = codes "T"; number = 1 } ∷ []; last = 1 };
      }) new;
      entered = ([], 1) ∷ [];
      retrieved = [];
      dropped = [];
    }
unfolding moved settled
timed_out = refl

-- ---- units that processes give

abbrev these : List Process → Processes
these ss = record { format = format.One; items = ss }

abbrev call_of : Line → Call
call_of (c answers r) = record { command = c; reply = r }

abbrev ended_unit : UnitKind → End → List Line → Ended
ended_unit kind e lines = record { unit = kind; moment = 0; end = e; calls = map call_of lines; rows = []; seq = 0 }

abbrev defining : End → Ended
defining e =
    ended_unit (unit.Request 1 undefined.key) e (
    (define_process answers ok)
    ∷ (command.Run target.AcqProcess false None answers ok)
    ∷ returns
    ∷ [])

abbrev first_activation : Ended
first_activation = ended_unit (unit.Activation undefined.key []) Commit (retrieves_initial ∷ leaves leaving.Complete ∷ [])

a_request_plays : Plays (these []) (defining Commit)
unfolding calls.run called_in moved retrieving answer thing_row request_row on_activity on_containers on_shown on_family settled
a_request_plays = record { enabled = refl; given = record { calls = refl; end = refl } }

its_process_stands : after (these []) (defining Commit) ≡ these (run ∷ [])
unfolding calls.run called_in moved retrieving answer thing_row request_row on_activity on_containers on_shown on_family settled
its_process_stands = refl

its_activation_plays : Plays (these (run ∷ [])) first_activation
unfolding calls.run called_in moved retrieving answer thing_row request_row on_activity on_containers on_shown on_family settled
its_activation_plays = record { enabled = refl; given = record { calls = refl; end = refl } }

nothing_is_put_back : after (these (run ∷ [])) (ended_unit (unit.Request 2 undefined.key) Rollback (
    (command.AcquireProcess answers ok)
    ∷ (command.Cancel target.AcqProcess answers ok)
    ∷ (command.Rollback answers ok)
    ∷ [])) ≡ these (run ∷ [])
unfolding calls.run called_in moved retrieving answer thing_row request_row on_activity on_containers on_shown on_family settled
nothing_is_put_back = refl

-- an activity that has nothing to do isn't activated
not_enabled : may_run (unit.Activation undefined.key []) 0 (these (new ∷ [])) ≡ false
not_enabled = refl

-- a limit ends a unit that has no calls; and an item without a process has none
limit_plays : Plays (these (run ∷ [])) (ended_unit (unit.Activation undefined.key []) (Abend (codes "SIZE")) [])
unfolding calls.run called_in moved retrieving answer thing_row request_row on_activity on_containers on_shown on_family settled
limit_plays = record { enabled = refl; given = record { calls = refl; end = refl } }

settle_plays : Plays (these []) (ended_unit (unit.Settle 2) Commit [])
settle_plays = record { enabled = refl; given = record { calls = refl; end = refl } }

-- the end of a unit is that of its calls, and no call stands behind it
another_end : IsReplay (defining Rollback) undefined → false ≡ true
unfolding calls.run called_in moved retrieving answer thing_row request_row on_activity on_containers on_shown on_family settled
another_end r = let e : Some Commit ≡ Some Rollback = r.end in cc

call_behind_the_end : IsReplay (ended_unit (unit.Request 1 undefined.key) Commit (returns ∷ returns ∷ [])) undefined → false ≡ true
unfolding calls.run called_in moved retrieving answer thing_row request_row on_activity on_containers on_shown on_family settled
call_behind_the_end r = let e : map call_of (returns ∷ []) ≡ map call_of (returns ∷ returns ∷ []) = r.calls in cc

-- ---- why a unit isn't applied

unready_activation : IsCause (these (new ∷ [])) (ended_unit (unit.Activation undefined.key []) Commit []) (error.NotLegal 0)
unready_activation = inl (record { disabled = refl; uncounted = refl })

end_alone_is_other : IsCause (these []) (defining Rollback) (error.NotLegal 0)
unfolding calls.run called_in moved retrieving answer thing_row request_row on_activity on_containers on_shown on_family settled
end_alone_is_other = inr (record { enabled = refl; other = inr (record { calls = refl; end = λ e. cc; uncounted = refl }) })

abbrev first_resp : Option Call → Resp
first_resp None = resp.End
first_resp (Some c) = c.reply.resp

first_reply_is_other : IsCause (these []) (ended_unit (unit.Request 1 undefined.key) Commit ((command.Return false answers refusal resp.Invreq reason.Place) ∷ [])) (error.NotLegal 1)
unfolding calls.run called_in moved retrieving answer thing_row request_row on_activity on_containers on_shown on_family settled
first_reply_is_other = inr (record { enabled = refl; other = inl (record { same_before = refl; is_told = omega arith; other = λ e. let r : resp.Normal ≡ resp.Invreq = ap first_resp e in cc }) })

second_call_is_behind_the_end : IsCause (these []) (ended_unit (unit.Request 1 undefined.key) Commit (returns ∷ returns ∷ [])) (error.NotLegal 2)
unfolding calls.run called_in moved retrieving answer thing_row request_row on_activity on_containers on_shown on_family settled
second_call_is_behind_the_end = inr (record { enabled = refl; other = inl (record { same_before = refl; is_told = omega arith; other = λ e. cc }) })

call_of_a_settle : IsCause (these []) (ended_unit (unit.Settle 2) Commit (returns ∷ [])) (error.NotLegal 1)
call_of_a_settle = inr (record { enabled = refl; other = inl (record { same_before = refl; is_told = omega arith; other = λ e. cc }) })
