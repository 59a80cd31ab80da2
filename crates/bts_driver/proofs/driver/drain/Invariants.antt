use Rattle.bts_driver.specs.Turns.{IsKept}
use Rattle.bts_driver.proofs.driver.drain.Given as goal

abbrev pub invariant-loop-job : goal.invariant-loop-job
invariant-loop-job g l = IsKept g.S.Station.ended g.S.Station.out g.S.Station.in_order g.S.Station.within l.fn.station l.station

abbrev pub decreases-loop-job : goal.decreases-loop-job
decreases-loop-job g l = g.S.Station.rest l.station
