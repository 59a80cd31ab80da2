-- What a sound unit needs for its next call, and what the call shows.
use Rattle.std.proofs.Common.{◌≡◌, ℕ, ◌+◌, ◌-◌, ◌<◌, ◌^◌, true, List, [], ◌∷◌, ◌++◌, length, length-append, Some, is_none, option_map, unwrap_or, ap, ◌∙◌, refl, arith}
use Rattle.std.specs.List.{slice_get}
use Rattle.bts_names.specs.declared.reply.Reply.{Reply}
use Rattle.bts_command.specs.Given.{IsGiven}
use Rattle.bts_command.specs.declared.command.Call.{Call}
use Rattle.bts_command.specs.declared.command.Command.{Command}
use Rattle.bts_tree.specs.Soundness.{numbers_below}
use Rattle.bts_rows.proofs.Acquiring.{raised_once}
use Rattle.bts_act.specs.Early.{none_early}
use Rattle.bts_unit.specs.Calls.{call}
use Rattle.bts_unit.specs.Frames.{UnitOfWork, is_there_at}
use Rattle.bts_unit.specs.OneFrame.{is_of_one_frame}
use Rattle.bts_unit.specs.Replays.{top_path}
use Rattle.bts_unit.specs.Soundness.{IsSoundUnit, IsSoundWithin}
use Rattle.bts_unit.proofs.BoundedUnits.{unit_below, unit_generation}
use Rattle.bts_unit.proofs.SoundUnits.{sound_unit_late, sound_unit_there}

-- what a call asks
pub record IsCallable (u : UnitOfWork) (c : Command) : Type 0 where
  pub open_still : is_none u.end ≡ true
  pub there : is_there_at (top_path u.frames) u.now.process ≡ true
  pub late : none_early u.now.process ≡ true
  pub numbers : numbers_below (2 ^ 64 - 1) u.now.process ≡ true
  pub generation : u.now.process.generation < 2 ^ 64 - 1
  pub given : IsGiven c
  pub one_frame : is_of_one_frame (top_path u.frames) c ≡ true

-- a sound unit whose numbers end before the last one has all of it
pub callable_within : (g n : ℕ) (u : UnitOfWork) (c : Command) → IsSoundUnit u → IsSoundWithin g n u → g + 1 < 2 ^ 64 - 1 → n < 2 ^ 64 - 1
    → is_none u.end ≡ true → IsGiven c → is_of_one_frame (top_path u.frames) c ≡ true → IsCallable u c
callable_within g n u c sound within near far is_open given one = record {
  open_still = is_open;
  there = sound_unit_there u sound;
  late = sound_unit_late u sound;
  numbers = unit_below g n (2 ^ 64 - 1) u within far;
  generation = let most = unit_generation g n u within in let once = raised_once u.held g in omega (arith, most, once, near);
  given = given;
  one_frame = one;
}

pub last_of : {A : Type 0} (xs : List A) (y : A) → slice_get (xs ++ y ∷ []) (length xs) ≡ Some y
last_of [] y = refl
last_of (x ∷ xs) y = last_of xs y

-- the reply to the last call
pub last_reply : (u x : UnitOfWork) (c : Command) (reply : Reply) → x.calls ≡ u.calls ++ record { command = c; reply = (call u c).0 } ∷ []
    → Some reply ≡ option_map (λ d. d.reply) (slice_get x.calls (length x.calls - 1)) → reply ≡ (call u c).0
last_reply u x c reply then h =
    let made : Call = record { command = c; reply = (call u c).0 } in
    let many : length x.calls ≡ length u.calls + 1 = ap length then ∙ length-append u.calls (made ∷ []) in
    let at : length x.calls - 1 ≡ length u.calls = omega (arith, many) in
    let found : slice_get x.calls (length x.calls - 1) ≡ Some made = ap (slice_get x.calls) at ∙ ap (λ l. slice_get l (length u.calls)) then ∙ last_of u.calls made in
    ap (λ o. unwrap_or o reply) (h ∙ ap (option_map (λ d. d.reply)) found)
