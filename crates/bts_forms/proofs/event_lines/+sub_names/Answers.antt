use Rattle.std.proofs.Common.{◌≤◌, sym, arith, codes}
use Rattle.bts_forms.specs.Arguments.{name}
use Rattle.bts_forms.specs.Pieces.{given}
use Rattle.bts_forms.proofs.Lists.{one_more}
use Rattle.bts_forms.proofs.event_lines.+sub_names.Goals as goal

pub returns : goal.returns
returns n c =
    let none = c.if-most-eq0.false in
    let some : 1 ≤ c.args.most = omega (arith, none) in
    let step = one_more c.args.most (given (codes "SUBEVENT") name) c.args.line.now c.in-Some.rest.now c.in-Some.name c.args.said some (sym c.in-Some.ensures) in
    rw (← step, ← c.in_ok-said.ensures) c.sub_names.ensures
