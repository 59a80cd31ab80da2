-- A unit whose calls are made again.
use Rattle.std.proofs.Common.{◌≡◌, ◌≢◌, ℕ, suc, ◌+◌, ◌-◌, ◌<◌, ◌≤◌, ◌^◌, Bool, true, false, List, [], ◌∷◌, ◌++◌, length, length-append, take, Option, Some, is_none, is_some, option_map, refl, sym, ap, ◌∙◌, subst, arith}
use Rattle.std.proofs.lemmas.List.{append-nil, append_assoc}
use Rattle.std.specs.List.{slice_get}
use Rattle.bts_names.specs.Names.{ActivityPath}
use Rattle.bts_names.specs.declared.reply.Reply.{Reply}
use Rattle.bts_command.specs.declared.command.Call.{Call}
use Rattle.bts_command.specs.declared.command.Command.{Command}
use Rattle.bts_unit.specs.Calls.{call, called_by, commands_of, made, made_first, unit_behind}
use Rattle.bts_unit.specs.Frames.{OpenFrame, UnitOfWork, top_frame}
use Rattle.bts_unit.specs.OneFrame.{StandsIn, is_of_one_frame}
use Rattle.bts_unit.specs.Refusals.{IsFirstOther, IsOtherCall}
use Rattle.bts_unit.specs.Replays.{CanRepeat, IsFit, top_path}
use Rattle.bts_unit.proofs.BoundedUnits.{calls_rise}
use Rattle.bts_unit.proofs.Callable.{IsCallable, callable_within, last_reply}
use Rattle.bts_unit.proofs.Carried.{few_by_stand}
use Rattle.bts_unit.proofs.OneByOne.{first_call, unit_behind_more}
use Rattle.bts_unit.proofs.Opening.{fit_behind, made_all}
use Rattle.bts_unit.proofs.Replayed.{run_none}
use Rattle.bts_unit.proofs.SoundUnits.{stays_in_frame, stays_sound}

-- ---- one call

-- a unit whose frame has ended stays as it is
pub ended_call : (u : UnitOfWork) (k : Command) → u.frames ≡ [] → (call u k).1 ≡ u
unfolding call
ended_call u k e = ap (λ fs. (called_by fs u k).1) e

-- behind one call
pub one_behind : (u : UnitOfWork) (c : Call) → unit_behind u (c ∷ []) ≡ (call u c.command).1
unfolding unit_behind
one_behind u c = first_call u c.command [] ∙ run_none (call u c.command).1

-- the call that a command is, as the unit answers it
abbrev pub call_as : UnitOfWork → Command → Call
call_as u k = record { command = k; reply = (call u k).0 }

-- the calls behind one command more
pub calls_by_one : (u : UnitOfWork) (k : Command) → IsFit u → (call u k).1.calls ≡ u.calls ++ made u (k ∷ [])
calls_by_one u k fit = ap (λ v. v.calls) (sym (first_call u k [] ∙ run_none (call u k).1)) ∙ made_all u (k ∷ []) fit

few_made : (fs : List OpenFrame) (x : Call) → length (made_first fs x []) ≤ 1
few_made [] x = omega arith
few_made (f ∷ fs) x = omega arith

one_more_at_most : (u : UnitOfWork) (k : Command) → IsFit u → length (call u k).1.calls ≤ length u.calls + 1
one_more_at_most u k fit =
    let many = ap length (calls_by_one u k fit) ∙ length-append u.calls (made u (k ∷ [])) in
    let few : length (made u (k ∷ [])) ≤ 1 = few_made u.frames (call_as u k) in
    omega (arith, many, few)

open_frames : (fs : List OpenFrame) (at : Option ActivityPath) → StandsIn at fs → is_some (top_frame fs) ≡ true → top_path fs ≡ at
open_frames [] at s h = cc
open_frames (f ∷ []) at s h = s
open_frames (f ∷ g ∷ fs) at s h = absurd s

pub no_frames : (fs : List OpenFrame) → is_some (top_frame fs) ≡ false → fs ≡ []
no_frames [] h = refl
no_frames (f ∷ fs) h = cc

-- ---- what it needs, and what it leaves

module _ (u : UnitOfWork) (c : Call) (cs : List Call) (can : CanRepeat u (c ∷ cs)) where
  far : 2 ^ 63 + length u.calls < 2 ^ 64 - 1
  far = let few : length u.calls + length (c ∷ cs) ≤ 500 = can.few in omega (arith, few)

  in_frame : is_some (top_frame u.frames) ≡ true → is_of_one_frame (top_path u.frames) c.command ≡ true
  in_frame h = subst (λ at. is_of_one_frame at c.command ≡ true) (sym (open_frames u.frames can.at can.stands h)) can.given.0.1

  pub asked : is_some (top_frame u.frames) ≡ true → is_none u.end ≡ true → IsCallable u c.command
  asked h o = callable_within (2 ^ 63) (2 ^ 63 + length u.calls) u c.command can.sound can.within (omega arith) far o can.given.0.0 (in_frame h)

  few_left : length (call u c.command).1.calls + length cs ≤ 500
  few_left = let few : length u.calls + length (c ∷ cs) ≤ 500 = can.few in let one = one_more_at_most u c.command can.fits in omega (arith, few, one)

  behind_open : is_some (top_frame u.frames) ≡ true → CanRepeat (call u c.command).1 cs
  behind_open h =
      let few = few_by_stand can.at u.frames can.stands in
      record {
        at = can.at;
        stands = subst (λ at. StandsIn at (call u c.command).1.frames) (open_frames u.frames can.at can.stands h) (stays_in_frame u c.command few can.given.0.0 (in_frame h) can.sound);
        fits = fit_behind u c.command can.fits;
        sound = stays_sound u c.command few can.given.0.0 (in_frame h) can.sound;
        within = calls_rise (2 ^ 63) (2 ^ 63) u c.command few can.given.0.0 (in_frame h) can.within;
        few = few_left;
        given = can.given.1;
      }

  behind_ended : u.frames ≡ [] → CanRepeat (call u c.command).1 cs
  behind_ended e = subst (λ v. CanRepeat v cs) (sym (ended_call u c.command e)) (record {
    at = can.at;
    stands = can.stands;
    fits = can.fits;
    sound = can.sound;
    within = can.within;
    few = let few : length u.calls + length (c ∷ cs) ≤ 500 = can.few in omega (arith, few);
    given = can.given.1;
  })

  pub can_behind : CanRepeat (call u c.command).1 cs
  can_behind = by (is_some (top_frame u.frames)) refl
    where
      by : (b : Bool) → is_some (top_frame u.frames) ≡ b → CanRepeat (call u c.command).1 cs
      by true h = behind_open h
      by false h = behind_ended (no_frames u.frames h)

-- ---- whether it is answered as it was

-- an ended unit makes no call
pub none_made : (u : UnitOfWork) (c : Call) → u.frames ≡ [] → made u (c.command ∷ []) ≢ c ∷ []
none_made u c e h = let x : [] ≡ c ∷ [] = sym (ap (λ fs. made_first fs (call_as u c.command) []) e) ∙ h in cc

made_open : (fs : List OpenFrame) (x : Call) → is_some (top_frame fs) ≡ true → made_first fs x [] ≡ x ∷ []
made_open [] x h = cc
made_open (f ∷ fs) x h = refl

abbrev first_of : Call → List Call → Call
first_of x [] = x
first_of x (y ∷ ys) = y

-- an open one makes it where it answers so
module _ (u : UnitOfWork) (c : Call) (is_open : is_some (top_frame u.frames) ≡ true) where
  pub one_made : made u (c.command ∷ []) ≡ call_as u c.command ∷ []
  one_made = made_open u.frames (call_as u c.command) is_open

  with_reply : (r : Reply) → r ≡ c.reply → record { command = c.command; reply = r } ≡ c
  with_reply r e = rw e refl

  pub made_where_same : (call u c.command).0 ≡ c.reply → made u (c.command ∷ []) ≡ c ∷ []
  made_where_same e = one_made ∙ ap (λ x. x ∷ []) (with_reply (call u c.command).0 e)

  pub same_where_made : made u (c.command ∷ []) ≡ c ∷ [] → (call u c.command).0 ≡ c.reply
  same_where_made e = ap (λ l. (first_of c l).reply) (sym one_made ∙ e)

  made_then : (x : UnitOfWork) (k : Command) → k ≡ c.command → IsFit u → x ≡ (call u k).1 → x.calls ≡ u.calls ++ call_as u c.command ∷ []
  made_then x k same fit e = ap (λ v. v.calls) e ∙ ap (λ d. (call u d).1.calls) same ∙ calls_by_one u c.command fit ∙ ap (λ l. u.calls ++ l) one_made

  -- behind the call: there is one, and its reply is the last one
  pub some_calls : (x : UnitOfWork) (k : Command) → k ≡ c.command → IsFit u → x ≡ (call u k).1 → 0 < length x.calls
  some_calls x k same fit e = let many = ap length (made_then x k same fit e) ∙ length-append u.calls (call_as u c.command ∷ []) in omega (arith, many)

  pub one_reply : (x : UnitOfWork) (k : Command) → k ≡ c.command → IsFit u → x ≡ (call u k).1 → (reply : Reply)
      → Some reply ≡ option_map (λ d. d.reply) (slice_get x.calls (length x.calls - 1)) → reply ≡ (call u c.command).0
  one_reply x k same fit e reply h = last_reply u x c.command reply (made_then x k same fit e) h

-- ---- call after call

-- a unit that began so, with the calls up to a place made as they were
pub record IsSoFar (begun u : UnitOfWork) (calls rest : List Call) (number : ℕ) : Type 0 where
  pub before : List Call
  pub split : calls ≡ before ++ rest
  pub counted : number ≡ length before
  pub unit : u ≡ unit_behind begun before
  pub given : made begun (commands_of calls) ≡ before ++ made u (commands_of rest)
  pub can : CanRepeat u rest

pub at_first : (u : UnitOfWork) (calls : List Call) → CanRepeat u calls → IsSoFar u u calls calls 0
unfolding unit_behind
at_first u calls can = record { before = []; split = refl; counted = refl; unit = sym (run_none u); given = refl; can = can }

made_first_is : (fs : List OpenFrame) (x c : Call) (rest : List Call) → made_first fs x [] ≡ c ∷ [] → made_first fs x rest ≡ c ∷ rest
made_first_is [] x c rest e = cc
made_first_is (f ∷ fs) x c rest e = ap (λ l. first_of x l ∷ rest) e

module _ (begun u : UnitOfWork) (calls : List Call) (c : Call) (cs : List Call) (number : ℕ) (i : IsSoFar begun u calls (c ∷ cs) number) where
  pub one_further : (v : UnitOfWork) → v ≡ unit_behind u (c ∷ []) → made u (c.command ∷ []) ≡ c ∷ [] → IsSoFar begun v calls cs (number + 1)
  one_further v e same =
      let next : v ≡ (call u c.command).1 = e ∙ one_behind u c in
      record {
        before = i.before ++ c ∷ [];
        split = i.split ∙ sym (append_assoc i.before (c ∷ []) cs);
        counted = ap (λ n. n + 1) i.counted ∙ sym (length-append i.before (c ∷ []));
        unit = e ∙ ap (λ w. unit_behind w (c ∷ [])) i.unit ∙ sym (unit_behind_more begun i.before (c ∷ []));
        given =
            i.given
            ∙ ap (λ l. i.before ++ l) (made_first_is u.frames (call_as u c.command) c (made (call u c.command).1 (commands_of cs)) same)
            ∙ ap (λ w. i.before ++ c ∷ made w (commands_of cs)) (sym next)
            ∙ sym (append_assoc i.before (c ∷ []) (made v (commands_of cs)));
        can = subst (λ w. CanRepeat w cs) (sym next) (can_behind u c cs i.can);
      }

  take_before : {A : Type 0} (xs ys zs : List A) → take (length xs) (xs ++ ys) ≡ take (length xs) (xs ++ zs)
  take_before [] ys zs = refl
  take_before (x ∷ xs) ys zs = ap (λ l. x ∷ l) (take_before xs ys zs)

  at_place : {A : Type 0} (xs ys : List A) → slice_get (xs ++ ys) (length xs) ≡ slice_get ys 0
  at_place [] ys = refl
  at_place (x ∷ xs) ys = at_place xs ys

  first_made : (fs : List OpenFrame) (x : Call) (rest : List Call) → slice_get (made_first fs x rest) 0 ≡ Some c → made_first fs x [] ≡ c ∷ []
  first_made [] x rest e = cc
  first_made (f ∷ fs) x rest e = cc

  pub other_here : made u (c.command ∷ []) ≢ c ∷ [] → IsOtherCall (made begun (commands_of calls)) calls (number + 1)
  other_here other =
      let first : IsFirstOther (made begun (commands_of calls)) calls (length i.before) = record {
        same_before = ap (take (length i.before)) i.given ∙ take_before i.before _ (c ∷ cs) ∙ ap (take (length i.before)) (sym i.split);
        is_told = let many = ap length i.split ∙ length-append i.before (c ∷ cs) in omega (arith, many);
        other = λ e. other (
            first_made u.frames (call_as u c.command) (made (call u c.command).1 (commands_of cs))
            (sym (ap (λ l. slice_get l (length i.before)) i.given ∙ at_place i.before _) ∙ e ∙ ap (λ l. slice_get l (length i.before)) i.split ∙ at_place i.before (c ∷ cs)));
      } in
      subst (λ n. IsOtherCall (made begun (commands_of calls)) calls (n + 1)) (sym i.counted) (shift first)
    where
      shift : {n : ℕ} → IsFirstOther (made begun (commands_of calls)) calls n → IsOtherCall (made begun (commands_of calls)) calls (n + 1)
      shift {n} f = subst (IsOtherCall (made begun (commands_of calls)) calls) (by n) f
        where
          by : (n : ℕ) → suc n ≡ n + 1
          by n = omega arith

-- behind the last of them
module _ (begun u : UnitOfWork) (calls : List Call) (number : ℕ) (i : IsSoFar begun u calls [] number) where
  pub all_made : made begun (commands_of calls) ≡ calls
  all_made = i.given ∙ sym i.split

  pub behind_all : u ≡ unit_behind begun calls
  behind_all = i.unit ∙ ap (unit_behind begun) (sym (i.split ∙ append-nil i.before))
