use Rattle.std.proofs.Common.{ap, ◌∙◌}
use Rattle.bts_region.proofs.GoesOut.{can_be_run, still_keeps}
use Rattle.bts_region.specs.Regions.{RegionState, offer}
use Rattle.bts_region.proofs.region.Region.give_out.Goals as goal

pub new_job-made-requires-clause-runnable : goal.new_job-made-requires-clause-runnable
new_job-made-requires-clause-runnable g c = can_be_run g.N.Naming.name c.self.inside c.self.invariant (ap (λ (s : RegionState). s.out) c.self.view_is ∙ c.requires.alone) c.args.unit.now (ap offer c.self.view_is ∙ c.requires.offered) c.args.key.now c.requires.process

pub invariant_of-self : goal.invariant_of-self
invariant_of-self g c = still_keeps g.N.Naming.name c.self.inside c.self.invariant (ap (λ (s : RegionState). s.out) c.self.view_is ∙ c.requires.alone) c.args.unit.now (ap offer c.self.view_is ∙ c.requires.offered) c.args.key.now c.requires.process
