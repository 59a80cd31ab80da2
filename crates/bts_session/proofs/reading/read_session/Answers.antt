use Rattle.std.proofs.Common.{sym, ◌∙◌, arith, Ok}
use Rattle.bts_script.specs.Blocks.{by_table}
use Rattle.bts_script.proofs.FirstLines.{few_lines}
use Rattle.bts_script.proofs.Kept.{given_holds}
use Rattle.bts_session.specs.Sessions.{session_of}
use Rattle.bts_session.specs.Today.{IsSessionOfToday}
use Rattle.bts_session.proofs.Today.{session_today}
use Rattle.bts_session.proofs.Steps.{from_first, from_nothing}
use Rattle.bts_session.proofs.reading.read_session.Goals as goal

pub loop-line-init : goal.loop-line-init
loop-line-init c =
    let lines = few_lines c.args.bytes.now in
    record {
      read = rw (c.new.ensures, c.new-2.ensures) (from_first by_table c.args.bytes.now c.if-bytes-gt-TEXT_LIMIT.false);
      number = omega arith;
    }

pub returns-clause-said : goal.returns-clause-said
returns-clause-said c = sym c.loop-line.invariant.read ∙ rw c.in_default.ensures.lines (from_nothing by_table c.loop-line.session c.loop-line.left.number)

pub returns-clause-today : goal.returns-clause-today
returns-clause-today c = given_holds IsSessionOfToday (Ok c.loop-line.session) (session_of c.args.bytes.now) (returns-clause-said c) (session_today c.args.bytes.now)
