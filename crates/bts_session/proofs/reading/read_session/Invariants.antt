use Rattle.std.proofs.Common.{◌≡◌, ◌+◌, ◌≤◌, length}
use Rattle.bts_script.specs.Blocks.{by_table}
use Rattle.bts_script.specs.Lines.{lines_of}
use Rattle.bts_session.specs.Sessions.{session_from, session_of}
use Rattle.bts_session.proofs.reading.read_session.Given as goal

abbrev pub invariant-loop-line : goal.invariant-loop-line
invariant-loop-line l = record {
  read : session_from by_table l.session l.left.number (lines_of l.left.text.now) ≡ session_of l.bytes;
  number : l.left.number + length (lines_of l.left.text.now) ≤ 16_777_217;
}

abbrev pub decreases-loop-line : goal.decreases-loop-line
decreases-loop-line l = length (lines_of l.left.text.now)
