use Rattle.std.proofs.Common.{None, sym, ap, ◌∙◌, subst}
use Rattle.bts_unit.specs.Calls.{commands_of, run}
use Rattle.bts_unit.specs.Frames.{start}
use Rattle.bts_unit.specs.OnWork.{begun}
use Rattle.bts_unit.specs.Replays.{IsWorkOf}
use Rattle.bts_unit.specs.Soundness.{IsSoundLone, IsSoundUnit, IsSoundWithin}
use Rattle.bts_unit.proofs.BoundedUnits.{starts_lone, starts_within}
use Rattle.bts_unit.proofs.Replayed.{begun_is_work, run_none}
use Rattle.bts_unit.proofs.SoundUnits.{starts_sound}
use Rattle.bts_unit.proofs.unit.Unit.start.Goals as goal

pub invariant_of-result : goal.invariant_of-result
invariant_of-result c =
    let kind = c.args.unit in
    subst (λ w. IsWorkOf w c.new.result.items None (run (start kind w.moment w.base.process) (commands_of c.new.result.items))) (sym c.in-Ok.ensures.ok)
    (subst (λ xs. IsWorkOf (begun kind c.args.moment c.args.scope.process) xs None (run (start kind c.args.moment c.args.scope.process) (commands_of xs))) (sym c.new.ensures.items) (begun_is_work kind c.args.moment c.args.scope.process c.requires))

pub returns-in-Ok-clause-ok : goal.returns-in-Ok-clause-ok
returns-in-Ok-clause-ok c =
    ap (λ xs. run (start c.args.unit c.in-Ok.work.moment c.in-Ok.work.base.process) (commands_of xs)) c.new.ensures.items
    ∙ run_none (start c.args.unit c.in-Ok.work.moment c.in-Ok.work.base.process)
    ∙ ap (λ w. start c.args.unit w.moment w.base.process) c.in-Ok.ensures.ok

pub returns-in-Ok-clause-sound : goal.returns-in-Ok-clause-sound
returns-in-Ok-clause-sound c = λ sound. subst IsSoundUnit (sym (returns-in-Ok-clause-ok c)) (starts_sound c.args.unit c.args.moment c.args.scope.process c.requires sound)

pub returns-in-Ok-clause-within : goal.returns-in-Ok-clause-within
returns-in-Ok-clause-within c = λ g n sound within. subst (IsSoundWithin g n) (sym (returns-in-Ok-clause-ok c)) (starts_within g n c.args.unit c.args.moment c.args.scope.process c.requires sound within)

pub returns-in-Ok-clause-lone : goal.returns-in-Ok-clause-lone
returns-in-Ok-clause-lone c = λ sound lone. subst IsSoundLone (sym (returns-in-Ok-clause-ok c)) (starts_lone c.args.unit c.args.moment c.args.scope.process c.requires sound lone)
