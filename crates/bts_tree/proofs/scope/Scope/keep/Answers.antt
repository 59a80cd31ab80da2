use Rattle.std.proofs.Common.{rules, ◌≡◌, ◌<◌}
use Rattle.bts_tree.proofs.Marked.{keep_first, keep_later, undo_kept}
use Rattle.bts_tree.proofs.scope.Scope.keep.Goals as goal

pub invariant_of-self-else-mark-eq0 : goal.invariant_of-self-else-mark-eq0
invariant_of-self-else-mark-eq0 c = undo_kept _ _ c.self.inside.marks.items _ c.args.mark c.self.invariant c.truncate.ensures.items

pub returns-then-mark-eq0 : goal.returns-then-mark-eq0
returns-then-mark-eq0 c =
    let e : c.args.mark ≡ 0 = search rules in
    keep_first c.self.inside.key _ _ c.self.inside.olds c.self.inside.marks.items _ c.self.view_is _ _ c.args.mark e c.clear.ensures c.clear-then-mark-eq0.ensures

pub returns-else-mark-eq0 : goal.returns-else-mark-eq0
returns-else-mark-eq0 c =
    let l : 0 < c.args.mark = search rules in
    keep_later c.self.inside.key _ _ c.self.inside.olds c.self.inside.marks.items _ c.self.view_is _ c.args.mark c.self.invariant l c.truncate.ensures.items
