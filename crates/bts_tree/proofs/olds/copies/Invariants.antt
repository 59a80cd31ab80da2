use Rattle.std.proofs.Common.{◌≡◌, ◌++◌, drop}
use Rattle.bts_tree.proofs.olds.copies.Given as goal

-- what is left still comes
abbrev pub invariant-loop-entry : goal.invariant-loop-entry
invariant-loop-entry l = l.copies.items ++ drop l.entry-index l.entries.items ≡ l.entries.items
