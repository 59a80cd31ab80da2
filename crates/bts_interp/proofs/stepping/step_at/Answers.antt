use Rattle.std.proofs.Common.{sym, ◌∙◌}
use Rattle.bts_interp.proofs.Places.{command_behind}
use Rattle.bts_interp.proofs.stepping.step_at.Goals as goal

pub returns-in_default-statement : goal.returns-in_default-statement
returns-in_default-statement c = λ on.
    command_behind on c.args.script.now c.args.own.now c.args.place.now c.in-Some.statement.now c.in-Some.rest.now (sym c.behind_labels-place.ensures ∙ c.in-Some.ensures.cases.0) c.in_default-statement.not-Goto c.in_default-statement.not-When
