use Rattle.std.proofs.Common.{ap}
use Rattle.bts_tree.proofs.Marked.{all_are_saved}
use Rattle.bts_tree.proofs.Slotted.{tree_rising}
use Rattle.bts_tree.proofs.scope.Scope.facts.Goals as goal
use Rattle.bts_tree.specs.Scopes.{HeldProcess}

pub returns-clause-rising : goal.returns-clause-rising
returns-clause-rising c = tree_rising c.self.inside.own.planted c.self.inside.slots.entries c.args.self.now.process.tree (ap (λ (h : HeldProcess). h.process.tree) c.self.view_is) c.len.ensures.ordered

pub returns-clause-saved : goal.returns-clause-saved
returns-clause-saved c = all_are_saved c.self.inside.key _ _ c.self.inside.olds c.self.inside.marks.items _ c.self.view_is
