use Rattle.std.proofs.Common.{ap, ◌∙◌}
use Rattle.bts_interp.proofs.Finished.{base_stays}
use Rattle.bts_interp.proofs.running.give_up.Goals as goal
use Rattle.bts_interp.proofs.running.give_up.Goals.{then-is_some, else-is_some}

pub returns : goal.returns
returns c =
    c.end-base.ensures.base
    ∙ elim c.if-is_some.branch [ then-is_some w ↦ ap (λ v. v.base) (w.unit-is ∙ w.abend_all.ensures.done) ∙ base_stays w.too_many_statements.result c.args.unit | else-is_some w ↦ ap (λ v. v.base) w.unit-is ]
