use Rattle.std.proofs.Common.{length}
use Rattle.bts_script.specs.Blocks.{by_table}
use Rattle.bts_session.proofs.Among.{IsAmong}
use Rattle.bts_session.proofs.block.find_end.Given as goal

abbrev pub invariant-loop-line : goal.invariant-loop-line
invariant-loop-line l = IsAmong by_table l.first l.text l.rest l.number

abbrev pub decreases-loop-line : goal.decreases-loop-line
decreases-loop-line l = length l.rest
