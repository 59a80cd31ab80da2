use Rattle.std.proofs.Common.{sym, ◌∙◌, subst}
use Rattle.bts_event.specs.contracts.pool.EventPool.{the_view}
use Rattle.bts_event.proofs.pool.EventPool.add_subevent.Goals as goal
use Rattle.bts_event.proofs.Settling.{added_sound_at, added_step}
use Rattle.bts_event.specs.Sound.{IsSoundPool}

pub invariant_of-self-2 : goal.invariant_of-self-2
invariant_of-self-2 c =
    let p = the_view c.self.inside in
    let r = sym c.refuses_add.ensures ∙ c.in_default.is in
    subst IsSoundPool (sym (added_step p c.args.composite c.args.sub _ r c.in_default-push_sub.ensures.ok)) (added_sound_at p c.args.composite c.args.sub c.self.invariant r)

pub returns-clause-ok : goal.returns-clause-ok
returns-clause-ok c =
    rw (← c.self.view_is) (added_step (the_view c.self.inside) c.args.composite c.args.sub _ (sym c.refuses_add.ensures ∙ c.in_default.is) c.in_default-push_sub.ensures.ok)
