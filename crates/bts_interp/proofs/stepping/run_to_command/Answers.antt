use Rattle.std.proofs.Common.{◌+◌, ◌-◌, arith}
use Rattle.bts_interp.specs.Steps.{next}
use Rattle.bts_interp.proofs.Places.{led_on, reached_nowhere, reached_there}
use Rattle.bts_interp.proofs.stepping.run_to_command.Goals as goal

pub returns-in-Command-clause-reached : goal.returns-in-Command-clause-reached
returns-in-Command-clause-reached g c =
    reached_there c.args.script.now c.args.own.now c.args.most c.loop-passed.passed c.args.from.now c.loop-passed.place.now c.loop-passed-test.true c.loop-passed.invariant.0 _ _
    (c.in-Command.ensures (λ p. next (c.args.most - (c.loop-passed.passed + 1)) c.args.script.now c.args.own.now p))

pub loop-passed-preserved : goal.loop-passed-preserved
loop-passed-preserved g c = (
  led_on c.args.script.now c.args.own.now c.args.most c.loop-passed.passed c.args.from.now c.loop-passed.place.now c.loop-passed-test.true c.loop-passed.invariant.0 c.in-Jump.to.now
      (c.in-Jump.ensures (λ p. next (c.args.most - (c.loop-passed.passed + 1)) c.args.script.now c.args.own.now p)),
  omega arith,
)

pub returns-clause-reached : goal.returns-clause-reached
returns-clause-reached g c = reached_nowhere c.args.script.now c.args.own.now c.args.most c.loop-passed.passed c.args.from.now c.loop-passed.place.now c.loop-passed-test.false c.loop-passed.invariant.0
