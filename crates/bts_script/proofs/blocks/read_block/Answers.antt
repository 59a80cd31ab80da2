use Rattle.std.proofs.Common.{Ok}
use Rattle.std.specs.List.{AllByRecursion}
use Rattle.bts_forms.specs.Today.{IsOfToday}
use Rattle.bts_script.specs.Blocks.{block_of, numbered}
use Rattle.bts_script.specs.Lines.{lines_of}
use Rattle.bts_script.proofs.Statements.{begun, refused, told, ended}
use Rattle.bts_script.proofs.Kept.{given_holds}
use Rattle.bts_script.proofs.Today.{script_today}
use Rattle.bts_script.proofs.blocks.read_block.Goals as goal

pub loop-next-init : goal.loop-next-init
loop-next-init c = (
  begun c.args.place c.new.result.keys c.in_ok-labels_of.field-0.keys c.new-2.result c.args.first (lines_of c.args.text.now) c.new.ensures.empty c.new-2.ensures c.in_ok-labels_of.ensures,
  c.requires,
)

pub returns-in_err-read-clause-said : goal.returns-in_err-read-clause-said
returns-in_err-read-clause-said c =
    let next = c.in-Some.next in
    let said = block_of c.args.place c.args.first (lines_of c.args.text.now) in
    let why = refused c.in_err-read.field-0.0 c.loop-next.block c.loop-next.number c.loop-next.rest.now next.0.now next.1.now said c.in-Some.ensures.lines c.loop-next.invariant.0 c.in_err-read.ensures.err in
    told c.from_residual-in_err-read.result c.in_err-read.field-0.0 said c.from_residual-in_err-read.ensures.1 why

pub returns-clause-said : goal.returns-clause-said
returns-clause-said c = ended c.loop-next.block c.loop-next.number c.loop-next.rest.now (block_of c.args.place c.args.first (lines_of c.args.text.now)) c.in_default.ensures.lines c.loop-next.invariant.0

pub returns-clause-today : goal.returns-clause-today
returns-clause-today c =
    given_holds (AllByRecursion IsOfToday) (Ok c.loop-next.block.script) (block_of c.args.place c.args.first (lines_of c.args.text.now)) (returns-clause-said c)
    (script_today c.args.place (numbered c.args.first (lines_of c.args.text.now)))
