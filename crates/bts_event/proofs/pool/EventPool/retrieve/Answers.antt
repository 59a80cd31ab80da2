use Rattle.bts_event.specs.contracts.pool.EventPool.{the_view}
use Rattle.bts_event.proofs.pool.EventPool.retrieve.Goals as goal
use Rattle.bts_event.proofs.Bits.{retrieved_sound}

pub invariant_of-self-2 : goal.invariant_of-self-2
invariant_of-self-2 c =
    rw c.set_bit.ensures (retrieved_sound (the_view c.self.inside) c.in_ok-entry.entry c.pop_front.new.self.items c.in_ok-entry.ensures.items c.self.invariant)
