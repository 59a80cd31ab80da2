use Rattle.std.proofs.Common.{◌+◌, ◌≤◌, length, subst, arith}
use Rattle.bts_interp.specs.Ready.{number_limit}
use Rattle.bts_rows.specs.Bounds.{raised_by}
use Rattle.bts_rows.proofs.Bounds.{within_more}
use Rattle.bts_rows.proofs.Acquiring.{raised_once}
use Rattle.bts_interp.proofs.activation_tests.a_started_process.Goals as goal

pub returns-clause-within : goal.returns-clause-within
returns-clause-within c =
    let ended = c.call-else-not-call-2.new.unit in
    let few : length ended.calls ≤ 500 = subst (λ k. length k ≤ 500) c.calls.ensures c.if-calls-gt500.false in
    let once : raised_by ended.held 0 ≤ 0 + 1 = raised_once ended.held 0 in
    within_more (raised_by ended.held 0) (0 + length ended.calls) number_limit number_limit c.end.result.after.process
    (c.end.ensures.within 0 (0 + length ended.calls) c.call-else-not-call-2.ensures.within) (omega (arith, once)) (omega (arith, few))
