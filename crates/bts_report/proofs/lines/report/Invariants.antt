use Rattle.std.proofs.Common.{◌≡◌, ◌++◌, ◌+◌, drop}
use Rattle.std.specs.List.{flat_map, enumerate_from}
use Rattle.bts_report.specs.Reports.{unit_text, report}
use Rattle.bts_report.proofs.lines.report.Given as goal

abbrev pub invariant-loop-ended : goal.invariant-loop-ended
invariant-loop-ended l = record {
  place : l.n ≡ l.ended-index + 1;
  written : l.out ++ flat_map unit_text (enumerate_from l.n (drop l.ended-index l.history)) ≡ report l.history;
}
