use Rattle.std.proofs.Common.{sym, ◌∙◌, ◌≡◌, ap, true}
use Rattle.bts_event.specs.contracts.pool.EventPool.{the_view}
use Rattle.bts_event.proofs.pool.EventPool.unfire.Goals as goal
use Rattle.bts_event.proofs.Bits.{cleared_sound}
use Rattle.bts_event.proofs.Settling.{unfired_within}
use Rattle.bts_event.proofs.SubCalls.{but_fits, sub_bit_sound}
use Rattle.bts_event.specs.Events.{is_atomic}
use Rattle.bts_names.specs.Named.{lookup}

pub returns-in-Some : goal.returns-in-Some
returns-in-Some c =
    rw (← c.self.view_is) (unfired_within (the_view c.self.inside) c.args.name c.in-Some.c _ _ (sym c.holder.ensures ∙ c.in-Some.is) c.forget_queued.ensures c.set_bit-in-Some.ensures)

pub invariant_of-self : goal.invariant_of-self
invariant_of-self c =
    let a : is_atomic (lookup c.args.name c.self.inside.events.entries) ≡ true = ap (λ p. is_atomic (lookup c.args.name p.events)) c.self.view_is ∙ c.requires in
    rw (c.set_bit.ensures, c.drop_entries.ensures.entries)
    (cleared_sound (the_view c.self.inside) c.args.name c.self.invariant a (sym c.holder.ensures ∙ c.in-None.is))

pub invariant_of-self-in-Some : goal.invariant_of-self-in-Some
invariant_of-self-in-Some c =
    rw (c.set_bit-in-Some.ensures, c.forget_queued.ensures)
    (sub_bit_sound (the_view c.self.inside) c.in-Some.c _ c.args.name _ c.self.invariant (sym c.holder.ensures ∙ c.in-Some.is)
    (but_fits c.self.inside.events.entries c.in-Some.c c.args.name c.self.invariant.events))
