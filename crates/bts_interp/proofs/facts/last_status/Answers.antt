use Rattle.bts_interp.specs.Facts as facts
use Rattle.bts_interp.proofs.facts.last_status.Goals as goal

pub returns : goal.returns
returns c = c.latest.ensures facts.status_in (λ v r h. h)
