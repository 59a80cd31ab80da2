use Rattle.std.proofs.Common.{◌≡◌, ◌++◌, drop}
use Rattle.std.specs.List.{flat_map}
use Rattle.bts_report.specs.Reports.{list_line}
use Rattle.bts_report.proofs.lines.list_text.Given as goal

abbrev pub invariant-loop-row : goal.invariant-loop-row
invariant-loop-row l = l.out ++ flat_map list_line (drop l.row-index l.rows) ≡ flat_map list_line l.rows
