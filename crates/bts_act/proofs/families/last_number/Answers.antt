use Rattle.std.proofs.Common.{◌≡◌, ◌-◌, length, Some, sym, ap, subst, ◌∙◌}
use Rattle.std.specs.List.{slice_get}
use Rattle.std.specs.Option.{option_copied}
use Rattle.bts_act.proofs.Children.{last_of}
use Rattle.bts_act.proofs.families.last_number.Goals as goal

pub returns-in-Some : goal.returns-in-Some
returns-in-Some c =
    sym (last_of c.args.path.now c.in-Some.number.now
    (subst (λ p. slice_get p (length p - 1) ≡ Some c.in-Some.number.now) c.as_slice.ensures.numbers (sym c.last.ensures.value ∙ ap option_copied c.in-Some.is)))
