use Rattle.std.proofs.Common.{◌≡◌, ◌≤◌, ◌+◌, ◌++◌, drop}
use Rattle.std.specs.List.{flat_map, enumerate_from}
use Rattle.bts_report.specs.Reports.{report, unit_text}
use Rattle.bts_report.specs.Writing.{IsHeldBack}
use Rattle.bts_report.proofs.writing.write_report.Given as goal

abbrev pub invariant-loop-ended : goal.invariant-loop-ended
invariant-loop-ended g l =
    record {
      place : l.n ≡ l.ended-index + 1;
      given : IsHeldBack (g.K.Sink.held l.fn.sink) (g.K.Sink.held l.sink)
          (l.writer ++ flat_map unit_text (enumerate_from l.n (drop l.ended-index l.history))) (report l.history);
      later : g.K.Sink.faults l.fn.sink ≤ g.K.Sink.faults l.sink;
    }
