use Rattle.std.proofs.Common.{◌≡◌, ◌-◌, ◌≤◌, length}
use Rattle.std.specs.Io.KnownBytes.{Consumes}
use Rattle.bts_io.proofs.reading.read_all.Given as goal

-- the bytes are those that the source lost
abbrev pub invariant-loop-buffer : goal.invariant-loop-buffer
invariant-loop-buffer g l =
    record {
      fits : length l.bytes ≤ l.most;
      read : Consumes (g.S.Source.left l.fn.source) (g.S.Source.left l.source) l.bytes;
      later : g.S.Source.faults l.fn.source ≤ g.S.Source.faults l.source;
      buffer : length l.buffer ≡ 4096;
    }

abbrev pub decreases-loop-buffer : goal.decreases-loop-buffer
decreases-loop-buffer g l = l.most - length l.bytes
