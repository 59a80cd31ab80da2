use Rattle.std.proofs.Common.{sym, ◌∙◌, subst}
use Rattle.bts_event.specs.contracts.pool.EventPool.{the_view}
use Rattle.bts_event.proofs.pool.EventPool.remove_subevent.Goals as goal
use Rattle.bts_event.proofs.Settling.{leave_sound, left_step}
use Rattle.bts_event.specs.Sound.{IsSoundPool}

pub invariant_of-self-2 : goal.invariant_of-self-2
invariant_of-self-2 c =
    let r = sym c.refuses_leave.ensures ∙ c.in_default.is in
    subst IsSoundPool
    (sym (left_step (the_view c.self.inside) _ c.args.composite c.args.sub c.held_at-before.result _ _ c.self.invariant r c.held_at-before.ensures c.forget_sub.ensures c.reserve.ensures.items c.settle.ensures))
    (leave_sound (the_view c.self.inside) c.args.composite c.args.sub c.self.invariant r)

pub returns-clause-ok : goal.returns-clause-ok
returns-clause-ok c =
    rw (← c.self.view_is)
    (left_step (the_view c.self.inside) _ c.args.composite c.args.sub c.held_at-before.result _ _ c.self.invariant (sym c.refuses_leave.ensures ∙ c.in_default.is)
    c.held_at-before.ensures c.forget_sub.ensures c.reserve.ensures.items c.settle.ensures)
