use Rattle.bts_region.proofs.Offers.{least_on_offer, limit_on_offer, none_on_offer, not_waiting}
use Rattle.bts_region.proofs.laws.the_first_work_is_on_offer.Goals as goal

pub returns-clause-work : goal.returns-clause-work
returns-clause-work c = λ r u alone e. least_on_offer r alone u e

pub returns-clause-limit : goal.returns-clause-limit
returns-clause-limit c = λ r count alone e. limit_on_offer r alone count e

pub returns-clause-none : goal.returns-clause-none
returns-clause-none c = λ r alone e. none_on_offer r alone e

pub returns-clause-wait : goal.returns-clause-wait
returns-clause-wait c = λ r alone e. not_waiting r alone e
