use Rattle.bts_report.proofs.Held.{nothing_goes}
use Rattle.bts_report.proofs.writing.Writer.write_row.Goals as goal

pub returns-then-is_err-clause-front : goal.returns-then-is_err-clause-front
returns-then-is_err-clause-front g c = nothing_goes _ _
