use Rattle.std.proofs.Common.{refl}
use Rattle.bts_rows.proofs.laws.only_definitions_make_more.Goals as goal
use Rattle.bts_rows.proofs.Tables.{act_at_grows, request_in_grows}

pub returns-clause-frame : goal.returns-clause-frame
returns-clause-frame c = λ frames path depth now s command none sound. (act_at_grows frames s sound path depth now command).lone none

pub returns-clause-request : goal.returns-clause-request
returns-clause-request c =
    λ frames held depth now s command sound. (request_in_grows frames s sound held depth now command).process.lone refl
