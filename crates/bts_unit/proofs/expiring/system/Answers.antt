use Rattle.std.proofs.Common.{◌≡◌, ◌+◌, ◌^◌, ◌-◌, true, [], Some, sym, ap, ◌∙◌, subst}
use Rattle.bts_names.specs.Names.{ActivityPath}
use Rattle.bts_act.proofs.Late.{activity_none_early}
use Rattle.bts_act.proofs.Lifts.{edit_writes, number_below}
use Rattle.bts_tree.specs.Processes.{Process, activity_at, written}
use Rattle.bts_tree.specs.Scopes.{HeldProcess, held_whole}
use Rattle.bts_tree.specs.declared.activity.Activity.{Activity}
use Rattle.bts_tree.specs.Soundness.{IsSoundInFrames, is_within}
use Rattle.bts_unit.specs.Standings.{moved}
use Rattle.bts_unit.specs.Systems.{system_process, with_expired}
use Rattle.bts_unit.proofs.Expired.{system_sound, system_within}
use Rattle.bts_unit.proofs.expiring.system.Goals as goal

there : (h : HeldProcess) (s : Process) (p : ActivityPath) (a : Activity) → h ≡ held_whole s
    → activity_at p h.process ≡ Some a → activity_at p s ≡ Some a
there h s p a e found = ap (λ (x : HeldProcess). activity_at p x.process) (sym e) ∙ found

pub expire-requires-clause-below : goal.expire-requires-clause-below
expire-requires-clause-below c =
    number_below c.in-Expiry.path c.args.scope.process c.edit.result.now
    (there _ _ _ _ c.without_marks-after.ensures c.edit.ensures.value) (2 ^ 64 - 1) c.requires.numbers

pub expire-requires-clause-late : goal.expire-requires-clause-late
expire-requires-clause-late c =
    activity_none_early c.in-Expiry.path c.args.scope.process c.edit.result.now
    (there _ _ _ _ c.without_marks-after.ensures c.edit.ensures.value) c.requires.late

pub returns-in-Ok-expire-clause-after : goal.returns-in-Ok-expire-clause-after
unfolding moved
returns-in-Ok-expire-clause-after c =
    ap (λ (h : HeldProcess). written c.in-Expiry.path c.expire.new.activity h.process) c.without_marks-after.ensures
    ∙ ap (λ a. written c.in-Expiry.path a c.args.scope.process) c.in-Ok-expire.ensures
    ∙ sym (edit_writes c.in-Expiry.path c.args.scope.process c.edit.result.now
    (there _ _ _ _ c.without_marks-after.ensures c.edit.ensures.value) (with_expired c.in-Expiry.timer))
    ∙ ap (λ u. system_process u c.args.scope.process) (sym c.in-Expiry.is)

pub returns-in-Ok-expire-clause-sound : goal.returns-in-Ok-expire-clause-sound
returns-in-Ok-expire-clause-sound c = λ sound.
    subst (IsSoundInFrames []) (sym (returns-in-Ok-expire-clause-after c)) (system_sound c.args.moment c.args.scope.process sound c.args.unit c.requires.due)

pub returns-in-Ok-expire-clause-within : goal.returns-in-Ok-expire-clause-within
returns-in-Ok-expire-clause-within c = λ g n sound w.
    subst (λ s. is_within g (n + 1) s ≡ true) (sym (returns-in-Ok-expire-clause-after c)) (system_within c.args.moment c.args.scope.process sound g n w c.args.unit c.requires.due)
