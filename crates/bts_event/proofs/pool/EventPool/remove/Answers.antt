use Rattle.std.proofs.Common.{sym, ◌∙◌, ◌≡◌, ap, subst, false}
use Rattle.bts_event.specs.contracts.pool.EventPool.{the_view}
use Rattle.bts_event.proofs.pool.EventPool.remove.Goals as goal
use Rattle.bts_event.proofs.Settling.{erased_step, remove_sound, removed_there}
use Rattle.bts_event.specs.Events.{is_composite}
use Rattle.bts_event.specs.Sound.{IsSoundPool}
use Rattle.bts_names.specs.Named.{lookup}

pub invariant_of-self-2 : goal.invariant_of-self-2
invariant_of-self-2 c =
    let p = the_view c.self.inside in
    let a : is_composite (lookup c.args.name p.events) ≡ false = ap (λ q. is_composite (lookup c.args.name q.events)) c.self.view_is ∙ c.requires.atomic in
    subst IsSoundPool (sym (erased_step p _ c.args.name c.reserve.new.self.items c.self.invariant c.reserve.ensures.items c.erase.ensures))
    (remove_sound p c.args.name c.self.invariant a (sym c.contains_key.ensures ∙ c.if-not-contains_key.false))

pub returns-clause-ok : goal.returns-clause-ok
returns-clause-ok c =
    rw (← c.self.view_is)
    (erased_step (the_view c.self.inside) _ c.args.name c.reserve.new.self.items c.self.invariant c.reserve.ensures.items c.erase.ensures
    ∙ removed_there (the_view c.self.inside) c.args.name (sym c.contains_key.ensures ∙ c.if-not-contains_key.false))
