use Rattle.bts_tree.proofs.Changed.{complete_step, mapped_undo}
use Rattle.bts_tree.specs.Slots.{completed_slot}
use Rattle.bts_tree.proofs.scope.Scope.complete.Goals as goal

pub invariant_of-self : goal.invariant_of-self
invariant_of-self c = mapped_undo (completed_slot c.args.path.now c.args.status c.args.code) _ _ c.self.inside.olds c.self.inside.marks.items c.self.invariant c.complete_all.ensures

pub returns : goal.returns
returns c =
    complete_step c.self.inside.key c.self.inside.own c.self.inside.slots.entries c.self.inside.olds c.self.inside.marks.items _ c.self.view_is c.self.invariant c.args.path.now c.args.status c.args.code _
    c.requires.there c.requires.saved c.complete_all.ensures
