use Rattle.std.proofs.Common.{ap, refl}
use Rattle.bts_tree.specs.Scopes.{HeldProcess}
use Rattle.bts_tree.proofs.Changed.{containers_step}
use Rattle.bts_tree.proofs.scope.Scope.edit_containers.Goals as goal

pub returns : goal.returns
returns c = (
  (
    refl,
    λ w. containers_step c.self.inside.key c.self.inside.own c.self.inside.slots.entries c.self.inside.olds c.self.inside.marks.items _ c.self.view_is c.self.invariant w c.requires,
  ),
  record { writes_back = tt; value = ap (λ (h : HeldProcess). h.process.containers) c.self.view_is },
)
