use Rattle.std.proofs.Common.{◌≤◌, ◌++◌, drop}
use Rattle.std.specs.List.{flat_map}
use Rattle.bts_report.specs.Reports.{row_line}
use Rattle.bts_report.specs.Writing.{IsHeldBack}
use Rattle.bts_report.proofs.writing.Writer.write_rows.Given as goal

abbrev pub invariant-loop-row : goal.invariant-loop-row
invariant-loop-row g l =
    record {
      given : IsHeldBack (g.K.Sink.held l.fn.sink) (g.K.Sink.held l.sink)
          (l.self ++ flat_map row_line (drop l.row-index l.rows)) (l.fn.self ++ flat_map row_line l.rows);
      later : g.K.Sink.faults l.fn.sink ≤ g.K.Sink.faults l.sink;
    }
