use Rattle.std.proofs.Common.{◌≢◌, List, [], ◌∷◌, inl, refl, sym, ◌∙◌, arith}
use Rattle.bts_command.specs.declared.command.Call.{Call}
use Rattle.bts_unit.specs.Refusals.{IsFirstOther}
use Rattle.bts_unit.proofs.applying.check_plain.Goals as goal

-- the first of some calls isn't given where none is
first_other : (calls : List Call) → calls ≢ [] → IsFirstOther [] calls 0
first_other [] some = absurd (some refl)
first_other (c ∷ cs) some = record { same_before = refl; is_told = omega arith; other = λ e. cc }

pub returns-then-not-is_empty-clause-cause : goal.returns-then-not-is_empty-clause-cause
returns-then-not-is_empty-clause-cause c = inl (first_other c.args.ended.now.calls (λ e. cc (sym c.if-not-is_empty.true ∙ c.is_empty.ensures.1 e)))
