use Rattle.std.proofs.Common.{◌≡◌, ◌^◌, ℕ, List, [], Option, Some, None, MatchOption, refl, sym, ap, ◌∙◌, subst}
use Rattle.bts_command.specs.declared.command.Call.{Call}
use Rattle.bts_command.specs.declared.ended.Ended.{Ended}
use Rattle.bts_tree.specs.Processes.{format_of}
use Rattle.bts_tree.specs.Soundness.{IsSoundInFrames}
use Rattle.bts_unit.specs.Calls.{commands_of, made, unit_behind}
use Rattle.bts_unit.specs.Frames.{UnitOfWork}
use Rattle.bts_unit.specs.Playing.{budgeted}
use Rattle.bts_unit.specs.Refusals.{IsOtherCall}
use Rattle.bts_unit.specs.Replays.{CanRepeat}
use Rattle.bts_unit.proofs.Applied.{can_replay, ended_otherwise, leaves, left_format, left_key, other_call, replays, stays_sound, still_open}
use Rattle.bts_unit.proofs.applying.replay.Goals as goal

pub first_other-requires : goal.first_other-requires
first_other-requires c =
    subst (CanRepeat c.in-Ok.unit) (sym c.as_slice.ensures)
    (can_replay c.args.ended.now c.args.scope.process c.in-Ok.unit c.in-Ok.ensures.ok (c.in-Ok.ensures.sound c.requires.sound) (c.in-Ok.ensures.within (2 ^ 63) (2 ^ 63) c.requires.sound c.requires.within) c.requires.few c.requires.given)

-- ---- what first_other told

some_of : (A : Type 0) (B : ℕ → Type 0) (o : Option ℕ) (n : ℕ) → o ≡ Some n → MatchOption o A B → B n
some_of A B None n e h = cc
some_of A B (Some m) n e h = let same : m ≡ n = cc in subst B same h

none_of : (A : Type 0) (B : ℕ → Type 0) (o : Option ℕ) → ((n : ℕ) → o ≡ Some n → ⊥) → MatchOption o A B → A
none_of A B None never h = h
none_of A B (Some n) never h = absurd (never n refl)

made_same : (e : Ended) (u : UnitOfWork) (calls : List Call) → calls ≡ e.calls → made u (commands_of calls) ≡ calls → made u (commands_of e.calls) ≡ e.calls
made_same e u calls same h = subst (λ l. made u (commands_of l) ≡ l) same h

ends_so : (e : Ended) (u x v : UnitOfWork) (calls : List Call) → calls ≡ e.calls → x ≡ unit_behind u calls → v ≡ budgeted e.end x → v ≡ budgeted e.end (unit_behind u e.calls)
ends_so e u x v calls same behind stopped = stopped ∙ ap (budgeted e.end) (behind ∙ ap (unit_behind u) same)

pub returns-in-Some-clause-cause : goal.returns-in-Some-clause-cause
returns-in-Some-clause-cause c =
    other_call c.args.ended.now c.args.scope.process c.requires.begins c.in-Ok.unit c.in-Ok.ensures.ok c.in-Some.call
    (subst (λ calls. IsOtherCall (made c.in-Ok.unit (commands_of calls)) calls c.in-Some.call) c.as_slice.ensures (some_of _ _ c.in-Ok-first_other.other c.in-Some.call c.in-Some.is c.in-Ok-first_other.ensures))

pub returns-then-not-has_ended-clause-cause : goal.returns-then-not-has_ended-clause-cause
returns-then-not-has_ended-clause-cause c =
    let told = none_of _ _ c.in-Ok-first_other.other c.in_default-other.not-Some c.in-Ok-first_other.ensures in
    still_open c.args.ended.now c.args.scope.process c.requires.begins c.in-Ok.unit c.in-Ok.ensures.ok
    (made_same c.args.ended.now c.in-Ok.unit c.as_slice.result.now c.as_slice.ensures told.1)
    c.stop_by_limit.new.unit
    (ends_so c.args.ended.now c.in-Ok.unit c.first_other.new.unit c.stop_by_limit.new.unit c.as_slice.result.now c.as_slice.ensures told.0 c.stop_by_limit.ensures)
    (sym c.has_ended.ensures ∙ c.if-not-has_ended.true)

pub returns-then-not-is_same-clause-cause : goal.returns-then-not-is_same-clause-cause
returns-then-not-is_same-clause-cause c =
    let told = none_of _ _ c.in-Ok-first_other.other c.in_default-other.not-Some c.in-Ok-first_other.ensures in
    ended_otherwise c.args.ended.now c.args.scope.process c.requires.begins c.in-Ok.unit c.in-Ok.ensures.ok
    (made_same c.args.ended.now c.in-Ok.unit c.as_slice.result.now c.as_slice.ensures told.1)
    c.stop_by_limit.new.unit
    (ends_so c.args.ended.now c.in-Ok.unit c.first_other.new.unit c.stop_by_limit.new.unit c.as_slice.result.now c.as_slice.ensures told.0 c.stop_by_limit.ensures)
    c.end-change.result.end c.end-change.ensures.end (λ e. cc (sym c.if-not-is_same.true ∙ c.is_same.ensures.1 e))

pub returns-clause-played : goal.returns-clause-played
returns-clause-played c =
    let told = none_of _ _ c.in-Ok-first_other.other c.in_default-other.not-Some c.in-Ok-first_other.ensures in
    replays c.args.ended.now c.args.scope.process c.requires.begins c.in-Ok.unit c.in-Ok.ensures.ok
    (made_same c.args.ended.now c.in-Ok.unit c.as_slice.result.now c.as_slice.ensures told.1)
    c.stop_by_limit.new.unit
    (ends_so c.args.ended.now c.in-Ok.unit c.first_other.new.unit c.stop_by_limit.new.unit c.as_slice.result.now c.as_slice.ensures told.0 c.stop_by_limit.ensures)
    (sym c.end-change.ensures.end ∙ ap Some (c.is_same.ensures.0 c.if-not-is_same.false))

pub returns-clause-after : goal.returns-clause-after
returns-clause-after c =
    let told = none_of _ _ c.in-Ok-first_other.other c.in_default-other.not-Some c.in-Ok-first_other.ensures in
    c.end-change.ensures.after
    ∙ leaves c.args.ended.now c.args.scope.process c.requires.begins c.in-Ok.unit c.in-Ok.ensures.ok
    (made_same c.args.ended.now c.in-Ok.unit c.as_slice.result.now c.as_slice.ensures told.1)
    c.stop_by_limit.new.unit
    (ends_so c.args.ended.now c.in-Ok.unit c.first_other.new.unit c.stop_by_limit.new.unit c.as_slice.result.now c.as_slice.ensures told.0 c.stop_by_limit.ensures)

pub returns-clause-key : goal.returns-clause-key
returns-clause-key c =
    ap (λ s. s.key) (returns-clause-after c)
    ∙ left_key c.args.ended.now c.args.scope.process c.requires.begins c.requires.sound c.requires.given (returns-clause-played c)

pub returns-clause-format : goal.returns-clause-format
returns-clause-format c =
    ap format_of (returns-clause-after c)
    ∙ left_format c.args.ended.now c.args.scope.process c.requires.begins c.requires.sound c.requires.given (returns-clause-played c)

pub returns-clause-sound : goal.returns-clause-sound
returns-clause-sound c =
    subst (IsSoundInFrames []) (sym (returns-clause-after c))
    (stays_sound c.args.ended.now c.args.scope.process c.requires.begins c.requires.sound c.requires.given (returns-clause-played c))
