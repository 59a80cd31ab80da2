-- A unit that has an open frame hasn't ended, and its calls are those that it made.
use Rattle.std.proofs.Common.{◌≡◌, ℕ, length, Bool, true, false, List, [], ◌∷◌, ◌++◌, Option, None, Some, Result, Ok, Err, refl, sym, ap, ◌∙◌, subst}
use Rattle.std.proofs.lemmas.List.{append-nil, append_assoc}
use Rattle.bts_names.specs.Answer.{Answer, refused, done}
use Rattle.bts_names.specs.Names.{ActivityPath}
use Rattle.bts_names.specs.declared.reply.Leaving.{Leaving}
use Rattle.bts_names.specs.declared.reply.Leaving.TheVariants as leaving
use Rattle.bts_names.specs.declared.reply.Reply.{Reply}
use Rattle.bts_command.specs.declared.command.Call.{Call}
use Rattle.bts_command.specs.declared.command.Command.{Command}
use Rattle.bts_command.specs.declared.command.Command.TheVariants as command
use Rattle.bts_command.specs.declared.command.Target.{Target}
use Rattle.bts_command.specs.declared.ended.End.{End}
use Rattle.bts_command.specs.declared.ended.End.TheVariants.{Commit, Rollback, Abend}
use Rattle.bts_tree.specs.declared.activity.Activity.{Activity}
use Rattle.bts_tree.specs.Processes.{Process, activity_at}
use Rattle.bts_rows.specs.declared.places.Held.{Held}
use Rattle.bts_rows.specs.Rows.{answer}
use Rattle.bts_rows.specs.declared.places.Here.{Here}
use Rattle.bts_rows.specs.declared.places.Unfound.{Unfound}
use Rattle.bts_unit.specs.Calls.{answered, call, called_in, commands_of, done_in, made, made_first, opened_by, opens_on, run, says_ran, stepped, unit_behind, with_frame_at}
use Rattle.bts_unit.specs.Ends.{closed, leaving_of, left, returned, returned_at, rolled_back}
use Rattle.bts_unit.specs.Frames.{OpenFrame, UnitOfWork, here}
use Rattle.bts_unit.specs.Replays.{Fits, IsFit}
use Rattle.bts_unit.specs.Standings.{Standing}
use Rattle.bts_unit.proofs.OneByOne.{ended_stays, first_call, with_frames}

pub none_fits : (fs : List OpenFrame) (e : Option End) → e ≡ None → Fits fs e
none_fits [] e h = tt
none_fits (f ∷ fs) e h = h

-- a command leaves the process at the start, the list of calls, and a unit that is open or has ended
pub record Stays (u x : UnitOfWork) : Type 0 where
  pub base : x.base ≡ u.base
  pub calls : x.calls ≡ u.calls
  pub fits : Fits x.frames x.end

module _ (u : UnitOfWork) (is_open : u.end ≡ None) where
  itself : Stays u u
  itself = record { base = refl; calls = refl; fits = none_fits u.frames u.end is_open }

  closes : (e : End) (below : List OpenFrame) (now : Standing) → Stays u (closed e below now u)
  closes e [] now = record { base = refl; calls = refl; fits = tt }
  closes e (f ∷ fs) now = record { base = refl; calls = refl; fits = refl }

  leaves : (p : ActivityPath) (how : Leaving) (frame : OpenFrame) (below : List OpenFrame) → Stays u (left p how frame below u)
  leaves p leaving.Dormant frame below = closes Commit below _
  leaves p leaving.Complete frame below = closes Commit below _
  leaves p (leaving.Abended code) frame below = closes (Abend code) below _

  returns_at : (end_activity : Bool) (p : ActivityPath) (frame : OpenFrame) (below : List OpenFrame) (o : Option Activity) → Stays u (returned_at end_activity p frame below u o).1
  returns_at end_activity p frame below None = itself
  returns_at end_activity p frame below (Some a) = leaves p (leaving_of end_activity frame.retrieved a.pool) frame below

  returns : (end_activity : Bool) (at : Option ActivityPath) (frame : OpenFrame) (below : List OpenFrame) → Stays u (returned end_activity at frame below u).1
  returns true None frame below = itself
  returns false None frame below = closes Commit below _
  returns true (Some p) frame below = returns_at true p frame below (activity_at p u.now.process)
  returns false (Some p) frame below = returns_at false p frame below (activity_at p u.now.process)

  rolls_back : (at : Option ActivityPath) (frame : OpenFrame) → Stays u (rolled_back at frame u).1
  rolls_back None frame = closes Rollback [] _
  rolls_back (Some p) frame = itself

module _ (u : UnitOfWork) (is_open : u.end ≡ None) where
  opens_at : (n : Result ActivityPath Unfound) (keeps : Bool) → Stays u (with_frame_at n keeps u)
  opens_at (Err why) keeps = itself u is_open
  opens_at (Ok p) keeps = record { base = refl; calls = refl; fits = is_open }

  opens : (h : Here) (t : Option (Target × Bool)) (ran : Bool) → Stays u (opened_by h t ran u)
  opens h None ran = itself u is_open
  opens h (Some t) false = itself u is_open
  opens h (Some t) true = opens_at _ t.1

module _ (u : UnitOfWork) (is_open : u.end ≡ None) where
  answers : (h : Here) (c : Command) (frame : OpenFrame) (below : List OpenFrame) (a : Answer (Process × Held)) → Stays u (answered h c frame below u a).1
  answers h c frame below (refused r why) = itself u is_open
  answers h c frame below (done v x) =
      let s : Stays (stepped c frame below u x) (answered h c frame below u (done v x)).1 = opens (stepped c frame below u x) is_open h (opens_on c) (says_ran v) in
      record { base = s.base; calls = s.calls; fits = s.fits }

  done_stays : (frame : OpenFrame) (below : List OpenFrame) (c : Command) → Stays u (done_in frame below u c).1
  done_stays frame below c = answers (here u.held frame.at) c frame below (answer (here u.held frame.at) u.held (length (frame ∷ below)) u.moment u.now.process c)

  -- one command in the top frame
  pub stays : (frame : OpenFrame) (below : List OpenFrame) (c : Command) → Stays u (called_in frame below u c).1
  unfolding called_in
  stays frame below (command.Return end_activity) = returns u is_open end_activity frame.at frame below
  stays frame below (command.Abend code) = closes u is_open (Abend code) below _
  stays frame below command.Rollback = rolls_back u is_open frame.at frame
  stays frame below c = done_stays frame below c

-- ---- calls

-- a unit with these open frames
module _ (moment : ℕ) (base : Process) (held : Held) (now : Standing) (calls : List Call) (end : Option End) where
  abbrev unit : List OpenFrame → UnitOfWork
  unit frames = with_frames moment base held now calls end frames

  fit_with : (frames : List OpenFrame) (k : Command) → Fits frames end → IsFit (call (unit frames) k).1
  unfolding call
  fit_with [] k fit = tt
  fit_with (f ∷ fs) k fit = (stays (unit (f ∷ fs)) fit f fs k).fits

  abbrev call_of : List OpenFrame → Command → Call
  call_of frames k = record { command = k; reply = (call (unit frames) k).0 }

  calls_with : (frames : List OpenFrame) (k : Command) (ks : List Command) → Fits frames end
      → (run (call (unit frames) k).1 ks).calls ≡ (call (unit frames) k).1.calls ++ made (call (unit frames) k).1 ks
      → (run (call (unit frames) k).1 ks).calls ≡ calls ++ made_first frames (call_of frames k) (made (call (unit frames) k).1 ks)
  unfolding call
  calls_with [] k ks fit others = ap (λ u. u.calls) (ended_stays moment base held now calls end ks) ∙ sym (append-nil calls)
  calls_with (f ∷ fs) k ks fit others =
      others
      ∙ ap (λ cs. cs ++ call_of (f ∷ fs) k ∷ [] ++ made (call (unit (f ∷ fs)) k).1 ks) ((stays (unit (f ∷ fs)) fit f fs k).calls)
      ∙ append_assoc calls (call_of (f ∷ fs) k ∷ []) (made (call (unit (f ∷ fs)) k).1 ks)

-- a call leaves a unit that is open or has ended
pub fit_behind : (u : UnitOfWork) (k : Command) → IsFit u → IsFit (call u k).1
fit_behind u k fit = fit_with u.moment u.base u.held u.now u.calls u.end u.frames k fit

pub fit_behind_all : (u : UnitOfWork) (ks : List Command) → IsFit u → IsFit (run u ks)
unfolding run
fit_behind_all u [] fit = fit
fit_behind_all u (k ∷ ks) fit = subst IsFit (sym (first_call u k ks)) (fit_behind_all (call u k).1 ks (fit_behind u k fit))

-- ---- the process at the start

-- a unit with these open frames
module _ (moment : ℕ) (base : Process) (held : Held) (now : Standing) (calls : List Call) (end : Option End) where
  base_with : (frames : List OpenFrame) (k : Command) → Fits frames end → (call (unit moment base held now calls end frames) k).1.base ≡ base
  unfolding call
  base_with [] k fit = refl
  base_with (f ∷ fs) k fit = (stays (unit moment base held now calls end (f ∷ fs)) fit f fs k).base

pub base_behind : (u : UnitOfWork) (ks : List Command) → IsFit u → (run u ks).base ≡ u.base
unfolding run
base_behind u [] fit = refl
base_behind u (k ∷ ks) fit =
    ap (λ v. v.base) (first_call u k ks)
    ∙ base_behind (call u k).1 ks (fit_behind u k fit)
    ∙ base_with u.moment u.base u.held u.now u.calls u.end u.frames k fit

-- ---- the calls that a unit made

pub made_all : (u : UnitOfWork) (ks : List Command) → IsFit u → (run u ks).calls ≡ u.calls ++ made u ks
unfolding run
made_all u [] fit = sym (append-nil u.calls)
made_all u (k ∷ ks) fit =
    ap (λ v. v.calls) (first_call u k ks)
    ∙ calls_with u.moment u.base u.held u.now u.calls u.end u.frames k ks fit (made_all (call u k).1 ks (fit_behind u k fit))

abbrev first_reply : Reply → List Call → Reply
first_reply r [] = r
first_reply r (c ∷ cs) = c.reply

abbrev others_of : List Call → List Call
others_of [] = []
others_of (c ∷ cs) = cs

reply_first : (frames : List OpenFrame) (x : Call) (rest : List Call) (c : Call) (cs : List Call) → made_first frames x rest ≡ c ∷ cs → c.reply ≡ x.reply
reply_first [] x rest c cs e = cc
reply_first (f ∷ fs) x rest c cs e = sym (ap (first_reply x.reply) e)

others_first : (frames : List OpenFrame) (x : Call) (rest : List Call) (c : Call) (cs : List Call) → made_first frames x rest ≡ c ∷ cs → rest ≡ cs
others_first [] x rest c cs e = cc
others_first (f ∷ fs) x rest c cs e = ap others_of e

reply_in : (u : UnitOfWork) (p : List Call) (c : Call) (cs : List Call) → made u (commands_of (p ++ c ∷ cs)) ≡ p ++ c ∷ cs → c.reply ≡ (call (unit_behind u p) c.command).0
unfolding unit_behind run
reply_in u [] c cs e = reply_first u.frames _ _ c cs e
reply_in u (x ∷ xs) c cs e =
    reply_in (call u x.command).1 xs c cs (others_first u.frames _ _ x (xs ++ c ∷ cs) e)
    ∙ ap (λ v. (call v c.command).0) (sym (first_call u x.command (commands_of xs)))

-- where the calls of a list are those that the unit made, each has the reply that the unit gave
pub reply_given : (u : UnitOfWork) (p : List Call) (c : Call) (cs : List Call) → IsFit u → u.calls ≡ [] → (unit_behind u (p ++ c ∷ cs)).calls ≡ p ++ c ∷ cs
    → c.reply ≡ (call (unit_behind u p) c.command).0
unfolding unit_behind
reply_given u p c cs fit fresh e =
    reply_in u p c cs (ap (λ l. l ++ made u (commands_of (p ++ c ∷ cs))) (sym fresh) ∙ sym (made_all u (commands_of (p ++ c ∷ cs)) fit) ∙ e)
