use Rattle.std.proofs.Common.{◌≡◌, ◌&&◌, [], true, false, sym, ◌∙◌}
use Rattle.bts_names.specs.Names.{same}
use Rattle.bts_tree.proofs.Changed.{remove_step, purge_step, mapped_undo}
use Rattle.bts_tree.specs.Slots.{emptied_slot}
use Rattle.bts_tree.proofs.scope.Scope.remove_below.Goals as goal

pub invariant_of-self : goal.invariant_of-self
invariant_of-self c = mapped_undo (emptied_slot c.args.path.now c.args.itself) _ _ c.self.inside.olds c.self.inside.marks.items c.self.invariant c.empty_below.ensures

pub invariant_of-self-else-is_whole : goal.invariant_of-self-else-is_whole
invariant_of-self-else-is_whole c = mapped_undo (emptied_slot c.args.path.now c.args.itself) _ _ c.self.inside.olds c.self.inside.marks.items c.self.invariant c.empty_below.ensures

pub returns-then-is_whole : goal.returns-then-is_whole
returns-then-is_whole c =
    let root : (c.args.itself && same c.args.path.now []) ≡ true = sym c.is_whole.ensures ∙ c.if-is_whole.true in
    purge_step c.self.inside.key c.self.inside.own c.self.inside.slots.entries c.self.inside.olds c.self.inside.marks.items _ c.self.view_is c.self.invariant c.args.path.now c.args.itself _ _
    c.requires.there c.requires.saved c.empty_below.ensures c.clear.ensures root

pub returns-else-is_whole : goal.returns-else-is_whole
returns-else-is_whole c =
    let root : (c.args.itself && same c.args.path.now []) ≡ false = sym c.is_whole.ensures ∙ c.if-is_whole.false in
    remove_step c.self.inside.key c.self.inside.own c.self.inside.slots.entries c.self.inside.olds c.self.inside.marks.items _ c.self.view_is c.self.invariant c.args.path.now c.args.itself _
    c.requires.there c.requires.saved c.empty_below.ensures root
