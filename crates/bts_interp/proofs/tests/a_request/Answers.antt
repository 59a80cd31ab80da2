-- A request on a process that was never defined can be run.
use Rattle.std.proofs.Common.{◌≡◌, refl, sym, ap, subst}
use Rattle.bts_names.specs.declared.key.Key.{Key}
use Rattle.bts_command.specs.declared.ended.UnitKind.TheVariants as unit
use Rattle.bts_session.specs.declared.session.Session.{Session}
use Rattle.bts_tree.specs.Processes.{Process, no_process}
use Rattle.bts_container.specs.declared.format.Format.TheVariants as format
use Rattle.bts_rows.proofs.Bounds.{within_none}
use Rattle.bts_rows.proofs.Repositories.{none_sound}
use Rattle.bts_interp.specs.Items.{texts_of}
use Rattle.bts_interp.specs.Ready.{AreExecutable, IsRunnable, number_limit}
use Rattle.bts_interp.specs.Texts.{Texts}
use Rattle.bts_interp.proofs.tests.a_request.Goals as goal

runs : (key : Key) (texts : Texts) → AreExecutable texts → IsRunnable (unit.Request 1 key) (no_process format.One key) texts
runs key texts h = record {
  sound = none_sound format.One key;
  begins = refl;
  bounded = within_none number_limit number_limit format.One key;
  texts = h;
}

runs_there : (key : Key) (base : Process) (session there : Session) → base ≡ no_process format.One key → there ≡ session → AreExecutable (texts_of session (unit.Request 1 key))
    → IsRunnable (unit.Request 1 key) base (texts_of there (unit.Request 1 key))
runs_there key base session there b s h =
    subst (λ p. IsRunnable (unit.Request 1 key) p (texts_of there (unit.Request 1 key))) (sym b)
    (subst (λ x. IsRunnable (unit.Request 1 key) (no_process format.One key) (texts_of x (unit.Request 1 key))) (sym s) (runs key (texts_of session (unit.Request 1 key)) h))

pub new-requires-clause-runnable : goal.new-requires-clause-runnable
new-requires-clause-runnable g c =
    runs_there c.args.key.now c.undefined-base.result.process c.args.session c.in_ok-session.session.value (ap (λ x. x.process) c.undefined-base.ensures) c.in_ok-session.ensures c.requires.executable
