use Rattle.std.proofs.Common.{sym, ap, ◌∙◌, subst}
use Rattle.bts_region.specs.AsStation.{IsNothingOwed}
use Rattle.bts_region.specs.Owed.{owed}
use Rattle.bts_region.proofs.Owing.{nothing_owed}
use Rattle.bts_region.proofs.region.Region.facts.Goals as goal

pub returns-clause-owed : goal.returns-clause-owed
returns-clause-owed g c =
    let keeps = c.self.invariant in
    subst IsNothingOwed c.self.view_is (ap owed (sym keeps.processes) ∙ nothing_owed c.self.inside.repository.processes keeps.sound keeps.lone)
