use Rattle.std.proofs.Common.{rules, ◌≡◌, ◌∙◌, length}
use Rattle.bts_tree.proofs.Marked.{count_marks}
use Rattle.bts_tree.proofs.scope.Scope.mark_count.Goals as goal

pub returns : goal.returns
returns c =
    let l : c.len.result ≡ length c.self.inside.marks.items = search rules in
    l ∙ count_marks _ _ _ _ c.self.inside.marks.items _ c.self.view_is
