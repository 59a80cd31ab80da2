use Rattle.std.proofs.Common.{sym, ◌∙◌, subst}
use Rattle.bts_event.specs.contracts.pool.EventPool.{the_view}
use Rattle.bts_event.proofs.pool.EventPool.fire.Goals as goal
use Rattle.bts_event.proofs.Bits.{fire_allowed, fired_sound}
use Rattle.bts_event.proofs.Settling.{fire_sound, fired_alone, fired_step}
use Rattle.bts_event.specs.Sound.{IsSoundPool}
use Rattle.bts_names.specs.Named.{lookup}

pub returns-in_default-push_queued-clause-ok : goal.returns-in_default-push_queued-clause-ok
returns-in_default-push_queued-clause-ok c =
    rw (← c.self.view_is)
    (fired_step (the_view c.self.inside) _ c.args.name c.in-Some-holder.c c.held_at-before.result _ _ _ c.self.invariant (sym c.holder.ensures ∙ c.in-Some-holder.is)
    c.held_at-before.ensures c.in_default-push_queued.ensures.ok c.set_bit-in-Some-holder.ensures c.reserve.ensures.items c.settle.ensures)

pub invariant_of-self-in-None : goal.invariant_of-self-in-None
invariant_of-self-in-None c =
    let a = fire_allowed (lookup c.args.name c.self.inside.events.entries) (sym c.refuses_fire.ensures ∙ c.in_default.is) in
    rw (c.set_bit.ensures, c.enter.ensures.queue, c.enter.ensures.last, c.reserve.ensures.items)
    (fired_sound (the_view c.self.inside) c.args.name c.self.invariant a.0 a.1 (sym c.holder.ensures ∙ c.in-None.is))

pub invariant_of-self-in-Some-holder : goal.invariant_of-self-in-Some-holder
invariant_of-self-in-Some-holder c =
    subst IsSoundPool
    (sym (fired_step (the_view c.self.inside) _ c.args.name c.in-Some-holder.c c.held_at-before.result _ _ _ c.self.invariant (sym c.holder.ensures ∙ c.in-Some-holder.is)
    c.held_at-before.ensures c.in_default-push_queued.ensures.ok c.set_bit-in-Some-holder.ensures c.reserve.ensures.items c.settle.ensures))
    (fire_sound (the_view c.self.inside) c.args.name c.self.invariant (sym c.refuses_fire.ensures ∙ c.in_default.is))

pub returns-in-None-clause-ok : goal.returns-in-None-clause-ok
returns-in-None-clause-ok c =
    rw (← c.self.view_is)
    (rw (c.set_bit.ensures, c.enter.ensures.queue, c.enter.ensures.last, c.reserve.ensures.items)
    (sym (fired_alone (the_view c.self.inside) c.args.name c.self.invariant (sym c.holder.ensures ∙ c.in-None.is))))
