use Rattle.bts_rows.proofs.laws.commands_keep_names_usual.Goals as goal
use Rattle.bts_rows.proofs.Tables.{act_at_usual, request_in_usual}

pub returns-clause-frame : goal.returns-clause-frame
returns-clause-frame c = λ frames path depth now s command g sound usual. act_at_usual frames s sound path depth now command g usual

pub returns-clause-request : goal.returns-clause-request
returns-clause-request c = λ frames held depth now s command g sound usual. request_in_usual frames s sound held depth now command g usual
