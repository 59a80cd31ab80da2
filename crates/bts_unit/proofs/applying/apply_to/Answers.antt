use Rattle.std.proofs.Common.{◌≡◌, ◌^◌, true, [], sym, ap, ◌∙◌, subst}
use Rattle.bts_rows.proofs.Repositories.{format_at, put_sound, sound_at, within_at}
use Rattle.bts_tree.specs.Processes.{format_of}
use Rattle.bts_tree.specs.Repositories.{has_room, put}
use Rattle.bts_tree.specs.Soundness.{AreSound, IsSoundInFrames, is_within}
use Rattle.bts_unit.specs.OneFrame.{may_begin}
use Rattle.bts_unit.specs.Playing.{IsReplay, finished}
use Rattle.bts_unit.proofs.Applied.{Risen, after_put, after_rollback, begins_so, key_there, played_within, still_within}
use Rattle.bts_unit.proofs.applying.apply_to.Goals as goal

pub replay-requires-clause-begins : goal.replay-requires-clause-begins
replay-requires-clause-begins c =
    subst (λ h. may_begin c.args.ended.now.unit h.process ≡ true) (sym c.in-Ok.ensures)
    (begins_so c.args.ended.now.unit c.args.key.now c.args.ended.now.moment c.args.repository.now.processes c.requires.process c.requires.played c.requires.enabled)

pub replay-requires-clause-sound : goal.replay-requires-clause-sound
replay-requires-clause-sound c = subst (λ h. IsSoundInFrames [] h.process) (sym c.in-Ok.ensures) (sound_at c.args.key.now c.args.repository.now.processes c.requires.sound)

pub replay-requires-clause-within : goal.replay-requires-clause-within
replay-requires-clause-within c = subst (λ h. is_within (2 ^ 63) (2 ^ 63) h.process ≡ true) (sym c.in-Ok.ensures) (within_at (2 ^ 63) (2 ^ 63) c.args.key.now c.args.repository.now.processes c.requires.within)

pub put_scope-requires : goal.put_scope-requires
put_scope-requires c =
    subst (λ k. has_room k c.reserve_for.new.self ≡ true) (sym (c.in_ok-after.ensures.key ∙ ap (λ h. h.process.key) c.in-Ok.ensures ∙ key_there c.args.key.now c.args.repository.now.processes))
    c.in-Ok-reserve_for.ensures.room

-- the processes behind it
stand_then : (c : goal.After-put_scope) → c.put_scope.new.self.processes ≡ put c.in_ok-after.after.process c.args.repository.now.processes
stand_then c = ap (λ r. r.processes) c.put_scope.ensures ∙ ap (λ r. put c.in_ok-after.after.process r.processes) c.in-Ok-reserve_for.ensures.ok

pub returns-clause-sound : goal.returns-clause-sound
returns-clause-sound c =
    let repo = c.args.repository.now.processes in
    let format = c.in_ok-after.ensures.format ∙ ap (λ h. format_of h.process) c.in-Ok.ensures ∙ format_at c.args.key.now repo c.requires.sound in
    subst AreSound (sym (stand_then c)) (put_sound c.in_ok-after.after.process repo c.requires.sound format c.in_ok-after.ensures.sound)

pub returns-clause-after : goal.returns-clause-after
returns-clause-after c =
    stand_then c
    ∙ after_put c.args.repository.now.processes c.args.ended.now c.args.key.now c.requires.process c.in_ok-after.after.process
    (c.in_ok-after.ensures.after ∙ ap (λ h. (finished c.args.ended.now h.process).now.process) c.in-Ok.ensures) (sym c.if-is_rollback.ensures)

pub returns-then-is_rollback-clause-after : goal.returns-then-is_rollback-clause-after
returns-then-is_rollback-clause-after c = after_rollback c.args.repository.now.processes c.args.ended.now c.args.key.now c.requires.process (sym c.if-is_rollback.ensures)

pub returns-clause-within : goal.returns-clause-within
returns-clause-within c = λ g n h.
    let repo = c.args.repository.now.processes in
    let e = c.args.ended.now in
    subst (Risen g n repo e h) (sym (returns-clause-after c))
    (played_within g n repo e h c.args.key.now c.requires.process c.requires.played c.requires.enabled c.requires.sound c.requires.given
    (subst (λ s. IsReplay e s.process) c.in-Ok.ensures c.in_ok-after.ensures.played))

pub returns-then-is_rollback-clause-within : goal.returns-then-is_rollback-clause-within
returns-then-is_rollback-clause-within c = λ g n h. still_within g n c.args.repository.now.processes c.args.ended.now h
