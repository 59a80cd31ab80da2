use Rattle.bts_region.proofs.EndedAs.{finishes, finishes_in_order, finishes_within}
use Rattle.bts_region.proofs.seat.RegionStationJobDone.finish.Goals as goal

pub returns-clause-finishes : goal.returns-clause-finishes
returns-clause-finishes g c =
    finishes c.args.self.now c.finish-ended.new.self c.args.done c.facts_of_out.ensures.kept c.facts_of_out.ensures.out c.facts.ensures.owed c.finish-ended.result c.finish-ended.ensures.ok c.finish-ended.ensures.err

pub returns-clause-order : goal.returns-clause-order
returns-clause-order g c =
    finishes_in_order c.args.self.now c.finish-ended.new.self c.args.done c.facts_of_out.ensures.kept c.facts_of_out.ensures.out c.facts.ensures.owed c.finish-ended.result c.finish-ended.ensures.ok c.finish-ended.ensures.err

pub returns-clause-bound : goal.returns-clause-bound
returns-clause-bound g c =
    finishes_within c.args.self.now c.finish-ended.new.self c.args.done c.facts_of_out.ensures.kept c.facts_of_out.ensures.out c.facts.ensures.owed c.finish-ended.result c.finish-ended.ensures.ok c.finish-ended.ensures.err
