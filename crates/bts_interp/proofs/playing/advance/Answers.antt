-- The call of the command that comes next, and what it leaves.
use Rattle.std.proofs.Common.{◌∙◌, ◌+◌, ◌≤◌, arith}
use Rattle.bts_interp.proofs.Calling.{asked, gone_on, left, some_calls}
use Rattle.bts_interp.specs.Running.{point_of}
use Rattle.bts_interp.proofs.playing.advance.Goals as goal

pub call-requires-clause-there : goal.call-requires-clause-there
call-requires-clause-there g c = (asked c.args.script.now c.args.unit.now (point_of c.args.progress c.args.steps.now) c.next_command.new.steps c.requires.can c.requires.open c.requires.used c.in-Some.reach c.next_command.new.unit c.in-Some.ensures.next c.calls.result.now c.calls.ensures c.in_ok-command.command c.in_ok-command.ensures).there

pub call-requires-clause-late : goal.call-requires-clause-late
call-requires-clause-late g c = (asked c.args.script.now c.args.unit.now (point_of c.args.progress c.args.steps.now) c.next_command.new.steps c.requires.can c.requires.open c.requires.used c.in-Some.reach c.next_command.new.unit c.in-Some.ensures.next c.calls.result.now c.calls.ensures c.in_ok-command.command c.in_ok-command.ensures).late

pub call-requires-clause-numbers : goal.call-requires-clause-numbers
call-requires-clause-numbers g c = (asked c.args.script.now c.args.unit.now (point_of c.args.progress c.args.steps.now) c.next_command.new.steps c.requires.can c.requires.open c.requires.used c.in-Some.reach c.next_command.new.unit c.in-Some.ensures.next c.calls.result.now c.calls.ensures c.in_ok-command.command c.in_ok-command.ensures).numbers

pub call-requires-clause-given : goal.call-requires-clause-given
call-requires-clause-given g c = (asked c.args.script.now c.args.unit.now (point_of c.args.progress c.args.steps.now) c.next_command.new.steps c.requires.can c.requires.open c.requires.used c.in-Some.reach c.next_command.new.unit c.in-Some.ensures.next c.calls.result.now c.calls.ensures c.in_ok-command.command c.in_ok-command.ensures).given

pub call-requires-clause-one_frame : goal.call-requires-clause-one_frame
call-requires-clause-one_frame g c = (asked c.args.script.now c.args.unit.now (point_of c.args.progress c.args.steps.now) c.next_command.new.steps c.requires.can c.requires.open c.requires.used c.in-Some.reach c.next_command.new.unit c.in-Some.ensures.next c.calls.result.now c.calls.ensures c.in_ok-command.command c.in_ok-command.ensures).one_frame

pub last_reply-requires : goal.last_reply-requires
last_reply-requires g c = some_calls c.args.script.now c.args.unit.now (point_of c.args.progress c.args.steps.now) c.next_command.new.steps c.requires.can c.requires.open c.requires.used c.in-Some.reach c.next_command.new.unit c.in-Some.ensures.next c.calls.result.now c.calls.ensures c.in_ok-command.command c.in_ok-command.ensures c.call.new.self c.in_ok-call.ensures.ok

pub overflow_add-result : goal.overflow_add-result
overflow_add-result g c =
    let fits : c.args.progress.used + c.in-Some.reach.count ≤ 10_000 = (left c.args.script.now c.args.unit.now (point_of c.args.progress c.args.steps.now) c.next_command.new.steps c.requires.can c.requires.open c.requires.used c.in-Some.reach c.next_command.new.unit c.in-Some.ensures.next c.calls.result.now c.calls.ensures c.in_ok-command.command c.in_ok-command.ensures c.call.new.self c.in_ok-call.ensures.ok c.call.ensures.kept c.call.ensures.within).used_fits in omega (arith, fits)

pub returns-clause-goes_on : goal.returns-clause-goes_on
returns-clause-goes_on g c =
    gone_on c.args.script.now c.args.unit.now (point_of c.args.progress c.args.steps.now) c.next_command.new.steps c.requires.can c.requires.open c.requires.used c.in-Some.reach c.next_command.new.unit c.in-Some.ensures.next c.calls.result.now c.calls.ensures c.in_ok-command.command c.in_ok-command.ensures c.call.new.self c.in_ok-call.ensures.ok
    c.last_reply.result.now c.last_reply.ensures c.from-put.result c.from-got.result c.tick.new.self (c.from-put.ensures ∙ c.data_bytes.ensures) (c.from-got.ensures ∙ c.got_bytes.ensures) c.tick.ensures

pub returns-clause-can : goal.returns-clause-can
returns-clause-can g c =
    let l = left c.args.script.now c.args.unit.now (point_of c.args.progress c.args.steps.now) c.next_command.new.steps c.requires.can c.requires.open c.requires.used c.in-Some.reach c.next_command.new.unit c.in-Some.ensures.next c.calls.result.now c.calls.ensures c.in_ok-command.command c.in_ok-command.ensures c.call.new.self c.in_ok-call.ensures.ok c.call.ensures.kept c.call.ensures.within in (l.used_fits, l.can)

pub returns-clause-turns : goal.returns-clause-turns
returns-clause-turns g c = (left c.args.script.now c.args.unit.now (point_of c.args.progress c.args.steps.now) c.next_command.new.steps c.requires.can c.requires.open c.requires.used c.in-Some.reach c.next_command.new.unit c.in-Some.ensures.next c.calls.result.now c.calls.ensures c.in_ok-command.command c.in_ok-command.ensures c.call.new.self c.in_ok-call.ensures.ok c.call.ensures.kept c.call.ensures.within).turns

pub returns-clause-base : goal.returns-clause-base
returns-clause-base g c = (left c.args.script.now c.args.unit.now (point_of c.args.progress c.args.steps.now) c.next_command.new.steps c.requires.can c.requires.open c.requires.used c.in-Some.reach c.next_command.new.unit c.in-Some.ensures.next c.calls.result.now c.calls.ensures c.in_ok-command.command c.in_ok-command.ensures c.call.new.self c.in_ok-call.ensures.ok c.call.ensures.kept c.call.ensures.within).base
