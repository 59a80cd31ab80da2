-- The call of the command that comes next: what it needs, and what it leaves.
use Rattle.std.proofs.Common.{◌≡◌, ℕ, ◌+◌, ◌-◌, ◌<◌, ◌≤◌, ◌^◌, true, List, [], ◌∷◌, ◌++◌, length, length-append, Option, None, Some, is_none, option_map, sym, ap, ◌∙◌, subst, arith}
use Rattle.std.specs.List.{slice_get}
use Rattle.std.specs.Option.{option_copied}
use Rattle.bts_names.specs.declared.reply.Reply.{Reply}
use Rattle.bts_command.specs.declared.command.Call.{Call}
use Rattle.bts_command.specs.declared.command.Command.{Command}
use Rattle.bts_command.specs.declared.ended.End.{End}
use Rattle.bts_unit.specs.Calls.{call, run}
use Rattle.bts_unit.specs.Frames.{UnitOfWork}
use Rattle.bts_unit.specs.OneFrame.{is_of_one_frame}
use Rattle.bts_unit.specs.Replays.{top_path}
use Rattle.bts_unit.specs.Soundness.{IsSoundUnit, IsSoundWithin}
use Rattle.bts_command.specs.Sizes.{got_bytes, put_bytes}
use Rattle.bts_interp.specs.Commands.{command_said}
use Rattle.bts_interp.specs.Reaching.{reached_of}
use Rattle.bts_interp.specs.declared.stepping.Reach.{Reach}
use Rattle.bts_interp.specs.Ready.{number_limit}
use Rattle.bts_interp.specs.Running.{CanGoOn, GoesOn, HasFrame, MayCall, Point, turns_by, turns_left}
use Rattle.bts_interp.specs.Steps.{Reached, Script, statement_limit}
use Rattle.bts_interp.proofs.Alone.{call_by, calls_behind, framed_behind, open_end}
use Rattle.bts_unit.proofs.OneByOne.{first_call}
use Rattle.bts_interp.proofs.Executable.{MayFollow, may_in, reached_may}
use Rattle.bts_unit.proofs.Callable.{IsCallable, callable_within, last_reply}
use Rattle.bts_unit.proofs.Opening.{base_behind, none_fits}
use Rattle.bts_interp.proofs.Places.{count_within}
use Rattle.bts_interp.proofs.Turning.{by_call}

-- it leaves a unit that needs no more than what was there
pub record IsLeft (script : Script) (u : UnitOfWork) (used : ℕ) (r : Reached) (x : UnitOfWork) : Type 0 where
  pub can : is_none x.end ≡ true → CanGoOn script r.place x
  pub used_fits : used + r.count ≤ statement_limit
  pub turns : turns_left x < turns_left u
  pub base : x.base ≡ u.base

fewer_by : (o : Option End) (m n : ℕ) → n ≡ m + 1 → m < 500 → turns_by n o < 501 - m
fewer_by None m n e h = omega arith
fewer_by (Some end) m n e h = omega arith

module _ (script : Script) (u : UnitOfWork) (at : Point) (can : CanGoOn script at.place u) (is_open : is_none u.end ≡ true) (r : Reached) (m : MayCall script u at r) (used_most : at.used ≤ statement_limit) where
  open_now : u.end ≡ None
  open_now = open_end u.end is_open

  may : MayFollow r
  may = reached_may script u.calls can.script_may (statement_limit - at.used) at.place r can.place_may m.next_is

  pub in_its_frame : is_of_one_frame (top_path u.frames) r.command ≡ true
  in_its_frame = may_in (top_path u.frames) r.command may.command

  counts : (r.count ≤ statement_limit - at.used) × (1 ≤ r.count)
  counts = count_within script u.calls (statement_limit - at.used) at.place r m.next_is

  near : number_limit + 1 < 2 ^ 64 - 1
  near = omega arith

  far : number_limit + length u.calls < 2 ^ 64 - 1
  far = let few : length u.calls ≤ 500 = can.few_calls in omega arith

  base_then : (call u r.command).1.base ≡ u.base
  unfolding run
  base_then = ap (λ v. v.base) (sym (first_call u r.command [])) ∙ base_behind u (r.command ∷ []) (none_fits u.frames u.end open_now)

  callable : IsCallable u r.command
  callable = callable_within number_limit (number_limit + length u.calls) u r.command can.sound can.within near far is_open may.command.given in_its_frame

  module _ (x : UnitOfWork) (e : x ≡ (call u r.command).1) where
    pub calls_then : x.calls ≡ u.calls ++ call_by u r.command ∷ []
    calls_then = ap (λ v. v.calls) e ∙ calls_behind (λ f. Unit {0}) (λ f b h. tt) u open_now can.frame r.command

    pub many_then : length x.calls ≡ length u.calls + 1
    many_then = ap length calls_then ∙ length-append u.calls (call_by u r.command ∷ [])

    -- the reply to the last call
    pub reply_then : (reply : Reply) → Some reply ≡ option_map (λ c. c.reply) (slice_get x.calls (length x.calls - 1)) → reply ≡ (call u r.command).0
    reply_then reply h = last_reply u x r.command reply calls_then h

    pub left_by : (IsSoundUnit u → IsSoundUnit x) → (IsSoundWithin number_limit (number_limit + length u.calls) u → IsSoundWithin number_limit (number_limit + length x.calls) x) → IsLeft script u at.used r x
    left_by sound within = record {
      can = λ h. record {
        script_may = can.script_may;
        place_may = may.place;
        frame = subst (λ v. HasFrame (λ f. Unit {0}) v.frames v.end) (sym e) (framed_behind (λ f. Unit {0}) (λ f b h. tt) u open_now can.frame r.command in_its_frame);
        few_calls = let left : length u.calls < 500 = m.calls_left in let now : length x.calls ≤ 500 = omega (arith, many_then) in now;
        sound = sound can.sound;
        within = within can.within;
      };
      used_fits = let fits : r.count ≤ statement_limit - at.used = counts.0 in omega arith;
      turns = subst (λ o. turns_left x < turns_by (length u.calls) o) (sym open_now) (fewer_by x.end (length u.calls) (length x.calls) many_then m.calls_left);
      base = ap (λ v. v.base) e ∙ base_then;
    }

-- ---- from what the code has at the call

module _ (script : Script) (u : UnitOfWork) (at : Point) (mid : ℕ) (can : CanGoOn script at.place u) (is_open : is_none u.end ≡ true) (used_most : at.used ≤ statement_limit)
    (r : Reach) (v : UnitOfWork) (next : (v ≡ u) × MayCall script u at (reached_of u.calls r) × (mid + 1 ≡ at.steps + r.count))
    (own : List Call) (own_is : own ≡ v.calls) (k : Command) (k_is : k ≡ command_said own (option_copied r.statement)) where
  command_is : k ≡ (reached_of u.calls r).command
  command_is = k_is ∙ ap (λ l. command_said l (option_copied r.statement)) (own_is ∙ ap (λ w. w.calls) next.0)

  pub asked : IsCallable v k
  asked = subst (λ w. IsCallable w k) (sym next.0) (subst (IsCallable u) (sym command_is) (callable script u at can is_open (reached_of u.calls r) next.1 used_most))

  module _ (x : UnitOfWork) (e : x ≡ (call v k).1) where
    call_is : call v k ≡ call u (reached_of u.calls r).command
    call_is = ap (λ w. call w k) next.0 ∙ ap (call u) command_is

    same_unit : x ≡ (call u (reached_of u.calls r).command).1
    same_unit = e ∙ ap (λ a. a.1) call_is

    pub some_calls : 0 < length x.calls
    some_calls = let n : length x.calls ≡ length u.calls + 1 = many_then script u at can is_open (reached_of u.calls r) next.1 used_most x same_unit in omega arith

    pub left : (IsSoundUnit v → IsSoundUnit x) → ((g n : ℕ) → IsSoundWithin g (n + length v.calls) v → IsSoundWithin g (n + length x.calls) x) → IsLeft script u at.used (reached_of u.calls r) x
    left sound within =
        left_by script u at can is_open (reached_of u.calls r) next.1 used_most x same_unit
        (subst (λ w. IsSoundUnit w → IsSoundUnit x) next.0 sound)
        (subst (λ w. IsSoundWithin number_limit (number_limit + length w.calls) w → IsSoundWithin number_limit (number_limit + length x.calls) x) next.0 (within number_limit number_limit))

    pub gone_on : (reply : Reply) → Some reply ≡ option_map (λ c. c.reply) (slice_get x.calls (length x.calls - 1)) → (put got later : ℕ) → put ≡ put_bytes k → got ≡ got_bytes reply.value → later ≡ mid + 1
        → GoesOn script u at x (record { place = r.place.now; used = at.used + r.count; bytes = at.bytes + (put + got); steps = later })
    gone_on reply h put got later p g l =
        let same : reply ≡ (call u (reached_of u.calls r).command).0 = reply_then script u at can is_open (reached_of u.calls r) next.1 used_most x same_unit reply h in
        by_call script u at (open_end u.end is_open) can.frame x (reached_of u.calls r) next.1 used_most
        (in_its_frame script u at can is_open (reached_of u.calls r) next.1 used_most) same_unit (at.bytes + (put + got)) later
        (ap (λ n. at.bytes + (n + got)) (p ∙ ap put_bytes command_is) ∙ ap (λ n. at.bytes + (put_bytes (reached_of u.calls r).command + n)) (g ∙ ap (λ y. got_bytes y.value) same))
        (l ∙ next.2)
