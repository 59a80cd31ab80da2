use Rattle.std.proofs.Common.{◌≡◌, ◌∙◌, sym, false, Ok, Err}
use Rattle.bts_script.specs.Blocks.{is_skipped, with_labels, statement_in, by_table}
use Rattle.bts_script.proofs.Statements.{added, refused_first}
use Rattle.bts_script.proofs.blocks.Block.read.Goals as goal

pub returns-in_ok-add-in-Ok-clause-ok : goal.returns-in_ok-add-in-Ok-clause-ok
returns-in_ok-add-in-Ok-clause-ok c =
    let block = c.args.self.now in
    let skipped : is_skipped c.args.text.now ≡ false = sym c.is_skipped.ensures ∙ c.if-is_skipped.false in
    let said : with_labels block.before.keys block.labels.keys (statement_in by_table block.place c.args.text.now) ≡ Ok c.in-Ok.statement = rw (← c.in_ok-said.ensures) (sym c.in-Ok.ensures) in
    λ others. added block c.add.new.self c.args.number c.args.text.now others c.in-Ok.statement skipped said c.in_ok-add-in-Ok.ensures

pub returns-in-Err-clause-err : goal.returns-in-Err-clause-err
returns-in-Err-clause-err c =
    let block = c.args.self.now in
    let skipped : is_skipped c.args.text.now ≡ false = sym c.is_skipped.ensures ∙ c.if-is_skipped.false in
    let said : with_labels block.before.keys block.labels.keys (statement_in by_table block.place c.args.text.now) ≡ Err c.in-Err.reason = rw (← c.in_ok-said.ensures) (sym c.in-Err.ensures) in
    λ others. refused_first block c.args.number c.args.text.now others c.in-Err.reason skipped said
