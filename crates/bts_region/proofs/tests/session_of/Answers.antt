use Rattle.bts_region.proofs.OfToday.{of_today}
use Rattle.bts_region.proofs.tests.session_of.Goals as goal

pub returns-clause-today : goal.returns-clause-today
returns-clause-today c = of_today c.in-Ok.session c.in-Ok.ensures.today
