use Rattle.std.proofs.Common.{sym}
use Rattle.bts_event.specs.contracts.pool.EventPool.{the_view}
use Rattle.bts_event.proofs.pool.EventPool.retrieve_subevent.Goals as goal
use Rattle.bts_event.proofs.SubCalls.{sub_retrieved_sound}

pub invariant_of-self : goal.invariant_of-self
invariant_of-self c =
    rw (c.set_bit.ensures, c.drop_first.ensures)
    (sub_retrieved_sound (the_view c.self.inside) c.args.composite c.in_ok-name.name c.in_ok-name.kind c.self.invariant (sym c.in_ok-name.ensures))
