use Rattle.std.proofs.Common.{subst}
use Rattle.bts_interp.specs.Jobs.{IsDone}
use Rattle.bts_interp.proofs.Few.{few_calls}
use Rattle.bts_interp.proofs.job.Done.facts.Goals as goal

pub returns-clause-few : goal.returns-clause-few
returns-clause-few g c = few_calls c.args.self.now (subst IsDone c.self.view_is c.self.invariant)
