use Rattle.std.proofs.Common.{rules, ◌≡◌, ◌<◌, length, sym, ◌∙◌, subst}
use Rattle.bts_tree.proofs.Marked.{count_marks, mark_step, undo_marked}
use Rattle.bts_tree.proofs.scope.Scope.mark.Goals as goal

pub push-requires : goal.push-requires
push-requires c =
    let h : length c.self.inside.marks.items < 8 = subst (λ n. n < 8) (sym (count_marks _ _ _ _ c.self.inside.marks.items _ c.self.view_is)) c.requires in
    (search rules, h)

pub invariant_of-self : goal.invariant_of-self
invariant_of-self c =
    let l : c.len.result ≡ length c.self.inside.olds = search rules in
    undo_marked _ _ c.self.inside.marks.items _ c.len.result c.self.invariant c.push.ensures.items l

pub returns-clause-place : goal.returns-clause-place
returns-clause-place c =
    let l : c.len-place.result ≡ length c.self.inside.marks.items = search rules in
    l ∙ count_marks _ _ _ _ c.self.inside.marks.items _ c.self.view_is

pub returns-clause-value : goal.returns-clause-value
returns-clause-value c =
    let l : c.len.result ≡ length c.self.inside.olds = search rules in
    mark_step c.self.inside.key _ _ _ c.self.inside.marks.items _ c.self.view_is _ c.len.result c.push.ensures.items l
