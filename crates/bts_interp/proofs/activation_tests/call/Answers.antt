use Rattle.std.proofs.Common.{◌+◌, ◌^◌, ◌-◌, ◌≤◌, length, subst, arith}
use Rattle.bts_unit.proofs.BoundedUnits.{unit_below}
use Rattle.bts_unit.proofs.SoundUnits.{sound_unit_late}
use Rattle.bts_interp.proofs.activation_tests.call.Goals as goal

pub call-requires-clause-late : goal.call-requires-clause-late
call-requires-clause-late c = sound_unit_late c.args.unit.now c.requires.sound

pub call-requires-clause-numbers : goal.call-requires-clause-numbers
call-requires-clause-numbers c =
    let few : length c.args.unit.now.calls ≤ 500 = subst (λ k. length k ≤ 500) c.calls.ensures c.if-calls-gt500.false in
    unit_below 0 (0 + length c.args.unit.now.calls) (2 ^ 64 - 1) c.args.unit.now c.requires.within (omega (arith, few))
