use Rattle.std.proofs.Common.{ap, ◌∙◌}
use Rattle.bts_region.proofs.Finds.{finds_none, finds_other, finds_request}
use Rattle.bts_region.specs.Regions.{RegionState}
use Rattle.bts_region.proofs.region.Region.find_work.Goals as goal

pub returns-in_default : goal.returns-in_default
returns-in_default g c =
    rw (← c.self.view_is)
    (c.find_activation.ensures ∙ finds_none g.N.Naming.name c.self.inside c.self.invariant (ap (λ (s : RegionState). s.out) c.self.view_is ∙ c.requires.alone) (cc))

pub returns-in-Request : goal.returns-in-Request
returns-in-Request g c =
    rw (← c.self.view_is)
    (finds_request g.N.Naming.name c.self.inside c.self.invariant (ap (λ (s : RegionState). s.out) c.self.view_is ∙ c.requires.alone) c.in-Some.unit c.in-Request.item c.in-Request.key (cc) c.in-Request.is)

pub returns-in_default-unit : goal.returns-in_default-unit
returns-in_default-unit g c =
    rw (← c.self.view_is)
    (c.find_activation-in_default-unit.ensures
    ∙ finds_other g.N.Naming.name c.self.inside c.self.invariant (ap (λ (s : RegionState). s.out) c.self.view_is ∙ c.requires.alone) c.in-Some.unit (cc) (λ n key e. c.in_default-unit.not-Request n key e))
