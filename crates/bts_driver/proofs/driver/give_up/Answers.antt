use Rattle.bts_driver.proofs.OneOut.{back, seen}
use Rattle.bts_driver.proofs.driver.give_up.Goals as goal

pub returns-clause-out : goal.returns-clause-out
returns-clause-out g c =
    back _ _ c.give_back.result (g.S.Station.job c.args.job).ticket (g.S.Station.job c.args.job).unit (g.S.Station.out c.args.station.now) (g.S.Station.out c.give_back.new.self)
    (seen g.S.Station.job c.args.job (g.S.Station.out c.args.station.now) c.requires.jobs c.requires.out) c.give_back.ensures.out
