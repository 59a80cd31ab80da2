use Rattle.std.proofs.Common.{sym, ◌∙◌}
use Rattle.bts_script.specs.Blocks.{by_table}
use Rattle.bts_session.proofs.Steps.{from_said, line_refused}
use Rattle.bts_session.proofs.reading.read_next.Goals as goal

pub returns-in-Ok-clause-read : goal.returns-in-Ok-clause-read
returns-in-Ok-clause-read c =
    rw (from_said by_table c.args.session.now c.args.number c.args.line.now c.args.behind.now c.in-Ok.said (sym c.is_skipped.ensures ∙ c.if-is_skipped.false) (sym c.ends_block.ensures ∙ c.if-ends_block.false) c.in-Ok.ensures) c.read_said.ensures.read

pub returns-in-Err-clause-read : goal.returns-in-Err-clause-read
returns-in-Err-clause-read c =
    line_refused by_table c.in-Err.error c.args.session.now c.args.number c.args.line.now c.args.behind.now (sym c.is_skipped.ensures ∙ c.if-is_skipped.false) (sym c.ends_block.ensures ∙ c.if-ends_block.false) c.in-Err.ensures
