use Rattle.std.proofs.Common.{sym, ◌∙◌}
use Rattle.bts_script.specs.Blocks.{by_table}
use Rattle.bts_session.proofs.Among.{among_first, among_more, no_end}
use Rattle.bts_session.proofs.block.find_end.Goals as goal

pub loop-line-init : goal.loop-line-init
loop-line-init c = among_first by_table c.args.first c.args.text.now

pub loop-line-preserved : goal.loop-line-preserved
loop-line-preserved c =
    among_more by_table c.args.first c.args.text.now c.loop-line.rest.now c.in-Some.line.now c.in-Some.behind.now c.loop-line.number c.loop-line.invariant c.in-Some.ensures.lines c.in-Some.ensures.rest (sym c.closes_block.ensures ∙ c.if-closes_block.false)

pub returns-clause-found : goal.returns-clause-found
returns-clause-found c = no_end by_table c.args.first c.args.text.now c.loop-line.rest.now c.loop-line.number c.loop-line.invariant c.in_default.ensures.lines
