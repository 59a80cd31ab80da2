use Rattle.bts_container.proofs.Kept.{IsPool-delete}
use Rattle.bts_container.proofs.pool.ContainerPool.delete.Goals as goal

pub invariant_of-self : goal.invariant_of-self
invariant_of-self c = IsPool-delete c.self.inside.format c.args.name c.self.inside.map.entries _ c.self.invariant c.shift_remove.ensures.unique c.shift_remove.ensures.entries
