use Rattle.std.proofs.Common.{◌≡◌, sym, ◌∙◌, refl, Some, IsSome, subst}
use Rattle.bts_tree.proofs.Changed.{slot_there, edit_step, set_undo, copied_some, copied_is}
use Rattle.bts_tree.proofs.scope.Scope.edit.Goals as goal

pub unwrap-slot-requires : goal.unwrap-slot-requires
unwrap-slot-requires c =
    let s = slot_there c.self.inside.key c.self.inside.own c.self.inside.slots.entries c.self.inside.olds c.self.inside.marks.items _ c.args.path.now c.self.view_is c.get_mut.ensures.ordered c.requires.there in
    copied_some c.get_mut.result (Some s.0) (c.get_mut.ensures.value ∙ s.1)

pub edit-requires : goal.edit-requires
edit-requires c =
    let s = slot_there c.self.inside.key c.self.inside.own c.self.inside.slots.entries c.self.inside.olds c.self.inside.marks.items _ c.args.path.now c.self.view_is c.get_mut.ensures.ordered c.requires.there in
    subst IsSome (sym (copied_is c.get_mut.result c.unwrap-slot.result s.0 c.unwrap-slot.ensures (c.get_mut.ensures.value ∙ s.1))) refl

pub invariant_of-self-lent : goal.invariant_of-self-lent
invariant_of-self-lent c = λ w.
    set_undo c.self.inside.slots.entries _ c.self.inside.olds c.self.inside.marks.items c.args.path.now (Some w) c.self.invariant c.get_mut.ensures.ordered (c.get_mut.follows.holds (Some w)).0

pub returns : goal.returns
returns c =
    let s = slot_there c.self.inside.key c.self.inside.own c.self.inside.slots.entries c.self.inside.olds c.self.inside.marks.items _ c.args.path.now c.self.view_is c.get_mut.ensures.ordered c.requires.there in
    let found : Some s.0 ≡ Some c.edit.result.now = sym (copied_is c.get_mut.result c.unwrap-slot.result s.0 c.unwrap-slot.ensures (c.get_mut.ensures.value ∙ s.1)) ∙ c.edit.ensures.value in (
      (
        refl,
        λ w. edit_step c.self.inside.key c.self.inside.own c.self.inside.slots.entries c.self.inside.olds c.self.inside.marks.items _ c.self.view_is c.self.invariant c.get_mut.ensures.ordered c.args.path.now w _ c.requires.there c.requires.saved (c.get_mut.follows.holds (Some w)).0,
      ),
      record { writes_back = tt; value = s.2 ∙ found },
    )
