use Rattle.bts_rows.proofs.laws.numbers_rise_by_one.Goals as goal
use Rattle.bts_rows.proofs.Bounds.{within_act, within_request}

pub returns-clause-frame : goal.returns-clause-frame
returns-clause-frame c = λ frames path depth now g n s command sound. within_act frames s sound path depth now g n command

pub returns-clause-request : goal.returns-clause-request
returns-clause-request c = λ frames held depth now g n s command sound. within_request frames s sound held depth now g n command
