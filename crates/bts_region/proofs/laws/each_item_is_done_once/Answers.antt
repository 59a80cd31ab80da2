use Rattle.bts_region.proofs.EachOnce.{each_once, once_at_most}
use Rattle.bts_region.proofs.laws.each_item_is_done_once.Goals as goal

pub returns-clause-at_most : goal.returns-clause-at_most
returns-clause-at_most c = once_at_most

pub returns-clause-each : goal.returns-clause-each
returns-clause-each c = each_once
