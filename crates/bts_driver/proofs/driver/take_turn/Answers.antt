use Rattle.bts_driver.proofs.OneOut.{grows_none, refused}
use Rattle.bts_driver.proofs.driver.take_turn.Goals as goal

pub returns-in-Err-finish-clause-grows : goal.returns-in-Err-finish-clause-grows
returns-in-Err-finish-clause-grows g c =
    let r = refused g.S.Station.done _ _ _ _ _ _ _ _ c.in-Err-finish.field-0-0 c.in-Err-finish.ensures.finishes in
    grows_none _ _ _ _ _ _ _ c.give_up-in-Err-finish.ensures.turn r.none c.give_up-in-Err-finish.ensures.grows
