use Rattle.std.proofs.Common.{◌≡◌, ◌++◌, drop}
use Rattle.std.specs.List.{flat_map}
use Rattle.bts_report.specs.Reports.{row_line}
use Rattle.bts_report.proofs.lines.add_rows.Given as goal

abbrev pub invariant-loop-row : goal.invariant-loop-row
invariant-loop-row l = l.out ++ flat_map row_line (drop l.row-index l.rows) ≡ l.fn.out ++ flat_map row_line l.rows
