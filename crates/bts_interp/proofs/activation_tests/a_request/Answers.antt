-- A process that was never defined is sound, and its numbers are within each bound.
use Rattle.std.proofs.Common.{◌≡◌, ◌+◌, ℕ, true, [], length, sym, ap, subst}
use Rattle.bts_names.specs.declared.key.Key.{Key}
use Rattle.bts_container.specs.declared.format.Format.TheVariants as format
use Rattle.bts_rows.proofs.Bounds.{within_none}
use Rattle.bts_rows.proofs.Repositories.{none_sound}
use Rattle.bts_tree.specs.Processes.{Process, no_process}
use Rattle.bts_tree.specs.Soundness.{IsSoundInFrames, is_within}
use Rattle.bts_interp.proofs.activation_tests.a_request.Goals as goal

sound_there : (key : Key) (base : Process) → base ≡ no_process format.One key → IsSoundInFrames [] base
sound_there key base b = subst (IsSoundInFrames []) (sym b) (none_sound format.One key)

within_there : (n : ℕ) (key : Key) (base : Process) → base ≡ no_process format.One key → is_within 0 n base ≡ true
within_there n key base b = subst (λ s. is_within 0 n s ≡ true) (sym b) (within_none 0 n format.One key)

pub returns-in-Ok-clause-sound : goal.returns-in-Ok-clause-sound
returns-in-Ok-clause-sound c = c.in-Ok.ensures.sound (sound_there c.args.key.now c.undefined-base.result.process (ap (λ x. x.process) c.undefined-base.ensures))

pub returns-in-Ok-clause-within : goal.returns-in-Ok-clause-within
returns-in-Ok-clause-within c =
    let is : c.undefined-base.result.process ≡ no_process format.One c.args.key.now = ap (λ x. x.process) c.undefined-base.ensures in
    c.in-Ok.ensures.within 0 (0 + length c.in-Ok.unit.calls) (sound_there c.args.key.now c.undefined-base.result.process is) (within_there (0 + length c.in-Ok.unit.calls) c.args.key.now c.undefined-base.result.process is)
