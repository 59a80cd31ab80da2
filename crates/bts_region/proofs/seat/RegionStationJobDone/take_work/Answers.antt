use Rattle.std.proofs.Common.{refl}
use Rattle.bts_region.proofs.TakenAs.{taken, taken_in_order, taken_within}
use Rattle.bts_region.specs.Answers.{offer_alone}
use Rattle.bts_region.proofs.seat.RegionStationJobDone.take_work.Goals as goal

pub returns-clause-takes : goal.returns-clause-takes
returns-clause-takes g c = taken c.args.self.now c.take_work-work.new.self c.facts.ensures.kept c.facts.ensures.owed (offer_alone c.args.self.now c.args.self.now.out) refl c.take_work-work.result c.take_work-work.ensures

pub returns-clause-order : goal.returns-clause-order
returns-clause-order g c = taken_in_order c.args.self.now c.take_work-work.new.self c.facts.ensures.kept c.facts.ensures.owed c.take_work-work.result c.take_work-work.ensures

pub returns-clause-bound : goal.returns-clause-bound
returns-clause-bound g c = taken_within c.args.self.now c.take_work-work.new.self c.facts.ensures.kept c.facts.ensures.owed c.take_work-work.result c.take_work-work.ensures
