use Rattle.std.proofs.Common.{sym, ◌∙◌, subst}
use Rattle.bts_event.specs.contracts.pool.EventPool.{the_view}
use Rattle.bts_event.proofs.pool.EventPool.define_composite.Goals as goal
use Rattle.bts_event.proofs.Settling.{composite_define_sound, composite_step}
use Rattle.bts_event.specs.Sound.{IsSoundPool}

pub invariant_of-self : goal.invariant_of-self
invariant_of-self c =
    let p = the_view c.self.inside in
    let r = sym c.refuses_composite.ensures ∙ c.in_default.is in
    subst IsSoundPool (sym (composite_step p c.args.name c.args.all c.args.subs.now c.in-Ok.composite _ c.self.invariant r c.in-Ok.ensures c.in-Ok-insert.ensures.entries))
    (composite_define_sound p c.args.name c.args.all c.args.subs.now c.self.invariant r c.requires.named c.requires.few)

pub returns-in-Ok-insert-clause-ok : goal.returns-in-Ok-insert-clause-ok
returns-in-Ok-insert-clause-ok c =
    rw (← c.self.view_is)
    (composite_step (the_view c.self.inside) c.args.name c.args.all c.args.subs.now c.in-Ok.composite _ c.self.invariant (sym c.refuses_composite.ensures ∙ c.in_default.is)
    c.in-Ok.ensures c.in-Ok-insert.ensures.entries)
