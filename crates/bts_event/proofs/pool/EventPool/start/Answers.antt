use Rattle.bts_event.specs.contracts.pool.EventPool.{the_view}
use Rattle.bts_event.proofs.pool.EventPool.start.Goals as goal
use Rattle.bts_event.proofs.SubCalls.{started_sound}

pub invariant_of-self-2 : goal.invariant_of-self-2
invariant_of-self-2 c =
    rw (c.enter.ensures.queue, c.enter.ensures.last, c.reserve.ensures.items, c.initial.ensures) (started_sound (the_view c.self.inside) c.self.invariant)
