use Rattle.std.proofs.Common.{◌≤◌, ◌++◌, drop}
use Rattle.std.specs.List.{flat_map}
use Rattle.bts_report.specs.Reports.{call_line}
use Rattle.bts_report.specs.Writing.{IsHeldBack}
use Rattle.bts_report.proofs.writing.Writer.write_calls.Given as goal

abbrev pub invariant-loop-call : goal.invariant-loop-call
invariant-loop-call g l =
    record {
      given : IsHeldBack (g.K.Sink.held l.fn.sink) (g.K.Sink.held l.sink)
          (l.self ++ flat_map call_line (drop l.call-index l.calls)) (l.fn.self ++ flat_map call_line l.calls);
      later : g.K.Sink.faults l.fn.sink ≤ g.K.Sink.faults l.sink;
    }
