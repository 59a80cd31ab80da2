use Rattle.std.proofs.Common.{◌≡◌, sym, ◌∙◌}
use Rattle.std.specs.Prelude.{slice_get, Some, None}
use Rattle.bts_tree.proofs.Marked.{back_step, no_mark, undo_back}
use Rattle.bts_tree.proofs.scope.Scope.back_to.Goals as goal

pub invariant_of-self : goal.invariant_of-self
invariant_of-self c =
    let got : slice_get c.self.inside.marks.items c.args.mark ≡ Some c.in-Some.place = sym c.place_of.ensures ∙ c.in-Some.is in
    undo_back c.self.inside.own _ _ c.self.inside.olds _ c.self.inside.marks.items _ c.args.mark c.in-Some.place c.self.invariant got c.undo_to.ensures.entries c.undo_to.ensures.left
    c.truncate.ensures.items

pub returns-in-Some : goal.returns-in-Some
returns-in-Some c =
    let got : slice_get c.self.inside.marks.items c.args.mark ≡ Some c.in-Some.place = sym c.place_of.ensures ∙ c.in-Some.is in
    back_step c.self.inside.key _ _ c.self.inside.olds c.self.inside.marks.items _ c.self.view_is _ _ _ _ c.args.mark c.in-Some.place c.self.invariant got c.undo_to.ensures.own
    c.undo_to.ensures.entries c.undo_to.ensures.left c.truncate.ensures.items

pub returns-in_default : goal.returns-in_default
returns-in_default c =
    let none : slice_get c.self.inside.marks.items c.args.mark ≡ None = sym c.place_of.ensures ∙ c.in_default.is in
    sym c.self.view_is ∙ no_mark c.self.inside.key _ _ c.self.inside.olds c.self.inside.marks.items _ c.self.view_is c.args.mark none
