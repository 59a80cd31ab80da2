use Rattle.bts_rows.proofs.FormatKept.{act_format, along_format, request_format, row_format}
use Rattle.bts_rows.proofs.laws.commands_keep_the_format.Goals as goal

pub returns-clause-frame : goal.returns-clause-frame
returns-clause-frame c = act_format

pub returns-clause-beside : goal.returns-clause-beside
returns-clause-beside c = row_format

pub returns-clause-request : goal.returns-clause-request
returns-clause-request c = request_format

pub returns-clause-along : goal.returns-clause-along
returns-clause-along c = along_format
