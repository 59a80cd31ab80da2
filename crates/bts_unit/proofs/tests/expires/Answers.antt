use Rattle.std.proofs.Common.{IsTrue, sym, subst}
use Rattle.bts_command.specs.declared.ended.UnitKind.TheVariants as unit
use Rattle.bts_unit.specs.Systems.{may_expire}
use Rattle.bts_unit.proofs.tests.expires.Goals as goal

pub system-requires-clause-due : goal.system-requires-clause-due
system-requires-clause-due c =
    subst (λ p. IsTrue (may_expire (unit.Expiry c.args.key p c.args.timer) c.args.moment c.args.scope.process)) (sym c.root-path.ensures)
    (c.is_due.ensures c.if-not-is_due.false c.args.key)
