use Rattle.std.proofs.Common.{◌≡◌, ◌≤◌, ◌+◌, true, length, ◌++◌, [], ◌∷◌, is_none, sym, ap, ◌∙◌, subst}
use Rattle.bts_command.specs.declared.command.Call.{Call}
use Rattle.bts_unit.specs.Calls.{call}
use Rattle.bts_unit.specs.OneFrame.{is_of_one_frame}
use Rattle.bts_unit.specs.Replays.{IsWorkOf, behind_calls, top_path}
use Rattle.bts_unit.specs.Soundness.{IsSoundLone, IsSoundUnit, IsSoundWithin}
use Rattle.bts_unit.proofs.BoundedUnits.{calls_rise, stays_lone}
use Rattle.bts_unit.proofs.Replayed.{few_frames, made, played, same_top}
use Rattle.bts_unit.proofs.SoundUnits.{stays_sound}
use Rattle.bts_unit.proofs.unit.Unit.call.Goals as goal

pub perform-requires-clause-one_frame : goal.perform-requires-clause-one_frame
perform-requires-clause-one_frame c =
    let u = c.self.inside in
    subst (λ at. is_of_one_frame at c.args.command ≡ true) (sym (ap (λ v. top_path v.frames) c.self.view_is) ∙ same_top u.work u.calls.items u.stopped _ c.self.invariant) c.requires.one_frame

pub invariant_of-self-2 : goal.invariant_of-self-2
invariant_of-self-2 c =
    let u = c.self.inside in
    let x : Call = record { command = c.args.command; reply = c.in_ok-reply.reply } in
    let goes_on = ap (λ v. is_none v.end) c.self.view_is ∙ c.requires.open in
    subst (λ xs. IsWorkOf c.perform.new.work xs u.stopped (behind_calls u.kind c.perform.new.work xs u.stopped))
    (sym (c.push_reserved.ensures.items ∙ ap (λ xs. xs ++ x ∷ []) c.in_ok-reserve.ensures.items))
    (made u.kind u.work u.calls.items u.stopped c.self.invariant goes_on c.perform.new.work x c.in_ok-reply.ensures.goes_on c.in_ok-reply.ensures.ok c.in_ok-reply.ensures.marked)

pub returns-clause-ok : goal.returns-clause-ok
returns-clause-ok c =
    let u = c.self.inside in
    let x : Call = record { command = c.args.command; reply = c.in_ok-reply.reply } in
    let goes_on = ap (λ v. is_none v.end) c.self.view_is ∙ c.requires.open in
    ap (λ xs. behind_calls u.kind c.perform.new.work xs u.stopped) (c.push_reserved.ensures.items ∙ ap (λ xs. xs ++ x ∷ []) c.in_ok-reserve.ensures.items)
    ∙ played u.kind u.work u.calls.items u.stopped c.self.invariant goes_on c.perform.new.work x c.in_ok-reply.ensures.goes_on
    ∙ ap (λ v. (call v c.args.command).1) c.self.view_is

pub returns-clause-kept : goal.returns-clause-kept
returns-clause-kept c = λ sound.
    let u = c.self.inside in
    let few = subst (λ v. length v.frames ≤ 1) c.self.view_is (few_frames u.work u.calls.items u.stopped _ c.self.invariant) in
    subst IsSoundUnit (sym (returns-clause-ok c)) (stays_sound c.args.self.now c.args.command few c.requires.given c.requires.one_frame sound)

pub returns-clause-within : goal.returns-clause-within
returns-clause-within c = λ g n within.
    let u = c.self.inside in
    let few = subst (λ v. length v.frames ≤ 1) c.self.view_is (few_frames u.work u.calls.items u.stopped _ c.self.invariant) in
    subst (λ v. IsSoundWithin g (n + length v.calls) v) (sym (returns-clause-ok c)) (calls_rise g n c.args.self.now c.args.command few c.requires.given c.requires.one_frame within)

pub returns-clause-lone : goal.returns-clause-lone
returns-clause-lone c = λ none lone.
    let u = c.self.inside in
    let few = subst (λ v. length v.frames ≤ 1) c.self.view_is (few_frames u.work u.calls.items u.stopped _ c.self.invariant) in
    subst IsSoundLone (sym (returns-clause-ok c)) (stays_lone c.args.self.now c.args.command few c.requires.given c.requires.one_frame none lone)
