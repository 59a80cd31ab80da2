use Rattle.std.proofs.Common.{◌≡◌, ◌++◌, drop}
use Rattle.std.specs.List.{flat_map}
use Rattle.bts_report.specs.Reports.{call_line}
use Rattle.bts_report.proofs.lines.add_calls.Given as goal

abbrev pub invariant-loop-call : goal.invariant-loop-call
invariant-loop-call l = l.out ++ flat_map call_line (drop l.call-index l.calls) ≡ l.fn.out ++ flat_map call_line l.calls
