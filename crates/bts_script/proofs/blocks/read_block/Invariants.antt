use Rattle.std.proofs.Common.{◌≡◌, ◌≤◌, ◌+◌, length}
use Rattle.bts_script.specs.Blocks.{block_of, numbered}
use Rattle.bts_script.specs.Lines.{lines_of}
use Rattle.bts_script.specs.Begun.{said_with}
use Rattle.bts_script.proofs.blocks.read_block.Given as goal

abbrev pub invariant-loop-next : goal.invariant-loop-next
invariant-loop-next l =
    (said_with l.block (numbered l.number (lines_of l.rest)) ≡ block_of l.fn.place l.fn.first (lines_of l.fn.text))
    × (l.number + length (lines_of l.rest) ≤ 4294967295)

abbrev pub decreases-loop-next : goal.decreases-loop-next
decreases-loop-next l = length l.rest
