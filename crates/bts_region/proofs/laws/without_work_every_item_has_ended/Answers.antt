use Rattle.bts_region.proofs.AllDone.{all_ended}
use Rattle.bts_region.proofs.laws.without_work_every_item_has_ended.Goals as goal

pub returns : goal.returns
returns c = all_ended
