use Rattle.std.proofs.Common.{◌++◌, length}
use Rattle.bts_script.specs.Blocks.{labels_of, numbered, by_table}
use Rattle.bts_script.specs.Lines.{lines_of}
use Rattle.bts_script.specs.Begun.{HaveSame}
use Rattle.bts_script.proofs.blocks.labels_of.Given as goal

abbrev pub invariant-loop-next : goal.invariant-loop-next
invariant-loop-next l =
    HaveSame (l.labels.keys ++ labels_of by_table l.fn.place (numbered 0 (lines_of l.rest))) (labels_of by_table l.fn.place (numbered 0 (lines_of l.fn.text)))

abbrev pub decreases-loop-next : goal.decreases-loop-next
decreases-loop-next l = length l.rest
