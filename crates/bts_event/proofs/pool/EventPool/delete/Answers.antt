use Rattle.std.proofs.Common.{sym, ◌∙◌, subst}
use Rattle.bts_event.specs.contracts.pool.EventPool.{the_view}
use Rattle.bts_event.proofs.pool.EventPool.delete.Goals as goal
use Rattle.bts_event.proofs.Settling.{delete_sound, erased_step}
use Rattle.bts_event.specs.Sound.{IsSoundPool}

pub invariant_of-self-2 : goal.invariant_of-self-2
invariant_of-self-2 c =
    let p = the_view c.self.inside in
    subst IsSoundPool (sym (erased_step p _ c.args.name c.reserve.new.self.items c.self.invariant c.reserve.ensures.items c.erase.ensures))
    (delete_sound p c.args.name c.self.invariant (sym c.refuses_delete.ensures ∙ c.in_default.is))

pub returns-clause-ok : goal.returns-clause-ok
returns-clause-ok c =
    rw (← c.self.view_is) (erased_step (the_view c.self.inside) _ c.args.name c.reserve.new.self.items c.self.invariant c.reserve.ensures.items c.erase.ensures)
