use Rattle.bts_region.proofs.EndedAs.{back_in_order}
use Rattle.bts_region.proofs.seat.RegionStationJobDone.give_back.Goals as goal

pub returns-clause-order : goal.returns-clause-order
returns-clause-order g c = back_in_order c.args.self.now c.give_back.new.self c.args.job c.give_back.result c.give_back.ensures
