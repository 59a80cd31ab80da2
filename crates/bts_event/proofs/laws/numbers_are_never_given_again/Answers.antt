use Rattle.bts_event.proofs.laws.numbers_are_never_given_again.Goals as goal
use Rattle.bts_event.proofs.Accounts.{numbers_rise}

pub returns : goal.returns
returns c = λ p calls s o. numbers_rise calls p o s
