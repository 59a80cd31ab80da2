use Rattle.std.proofs.Common.{◌≡◌, ◌++◌, take}
use Rattle.std.specs.Vec.Iter.{into_iter_items, into_iter_len}
use Rattle.bts_tool.specs.Words.{behind_first}
use Rattle.bts_tool.proofs.process.behind_first.Given as goal

abbrev pub invariant-loop-word : goal.invariant-loop-word
invariant-loop-word l = l.words.items ++ take (into_iter_len l.rest) (into_iter_items l.rest) ≡ behind_first l.fn.arguments

abbrev pub decreases-loop-word : goal.decreases-loop-word
decreases-loop-word l = into_iter_len l.rest
