use Rattle.std.proofs.Common.{sym, ◌∙◌, subst}
use Rattle.bts_event.specs.contracts.pool.EventPool.{the_view}
use Rattle.bts_event.proofs.pool.EventPool.define.Goals as goal
use Rattle.bts_event.proofs.Settling.{define_sound, define_step}
use Rattle.bts_event.specs.Sound.{IsSoundPool}

pub invariant_of-self : goal.invariant_of-self
invariant_of-self c =
    let p = the_view c.self.inside in
    let r = sym c.refuses_define.ensures ∙ c.in_default.is in
    subst IsSoundPool (sym (define_step p c.args.name c.args.trigger _ c.self.invariant r c.in-Ok.ensures.entries))
    (define_sound p c.args.name c.args.trigger c.self.invariant r c.requires)

pub returns-in-Ok-clause-ok : goal.returns-in-Ok-clause-ok
returns-in-Ok-clause-ok c =
    rw (← c.self.view_is)
    (define_step (the_view c.self.inside) c.args.name c.args.trigger _ c.self.invariant (sym c.refuses_define.ensures ∙ c.in_default.is) c.in-Ok.ensures.entries)
