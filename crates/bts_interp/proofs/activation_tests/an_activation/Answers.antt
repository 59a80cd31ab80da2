use Rattle.std.proofs.Common.{rules, ◌≡◌, true, sym, subst}
use Rattle.std.specs.List.{AllByRecursion}
use Rattle.bts_interp.specs.Ready.{IsExecutable}
use Rattle.bts_session.specs.declared.session.Session.{Session}
use Rattle.bts_unit.specs.OneFrame.{is_ready_in}
use Rattle.bts_interp.proofs.activation_tests.an_activation.Goals as goal

pub new-requires-2-clause-runnable : goal.new-requires-2-clause-runnable
new-requires-2-clause-runnable g c =
    let is : c.in_ok-session.session.value ≡ c.args.session = search rules in
    record {
      sound = c.in_ok-base.ensures.sound;
      begins = subst (λ p. is_ready_in p c.in_ok-base.base.process ≡ true) (sym c.root-path.ensures) (c.is_ready.ensures c.if-not-is_ready.false);
      bounded = c.in_ok-base.ensures.within;
      texts = record { programs = subst (λ (s : Session). AllByRecursion (λ p. IsExecutable p.1) s.programs) (sym is) c.requires.executable; block = tt };
    }
