use Rattle.std.proofs.Common.{◌^◌, ◌+◌, ◌≤◌, length, arith, ap}
use Rattle.std.specs.List.{list_all}
use Rattle.bts_tree.specs.Repositories.{Stored}
use Rattle.bts_tree.specs.Soundness.{is_within}
use Rattle.bts_unit.specs.Frames.{path_of}
use Rattle.bts_unit.specs.Soundness.{definitions_by}
use Rattle.bts_unit.proofs.Applied.{within_all}
use Rattle.bts_unit.proofs.Committed.{once_at_most}
use Rattle.bts_unit.proofs.replay_tests.started.Goals as goal

pub apply-requires-clause-given : goal.apply-requires-clause-given
apply-requires-clause-given c = c.in_ok-ended.ensures.given (path_of c.in_ok-ended.ended.unit)

pub returns-in-Ok-clause-within : goal.returns-in-Ok-clause-within
returns-in-Ok-clause-within c =
    let few : length c.in_ok-ended.ended.calls ≤ 3 = c.in_ok-ended.ensures.few in
    let once = once_at_most c.in_ok-ended.ended.unit in
    within_all (0 + definitions_by c.in_ok-ended.ended.unit) (0 + length c.in_ok-ended.ended.calls) (2 ^ 63) (2 ^ 63) (omega (arith, once)) (omega (arith, few)) c.apply.new.repository.processes.items (c.in-Ok.ensures.within 0 0 (ap (λ (r : Stored). list_all (is_within 0 0) r.processes.items) c.empty-repository.ensures))
