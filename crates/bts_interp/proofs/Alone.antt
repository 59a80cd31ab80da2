-- A unit with one frame keeps it, with the script that it follows, until it ends.
use Rattle.std.proofs.Common.{◌≡◌, ℕ, length, Bool, true, false, List, [], ◌∷◌, ◌++◌, Option, None, Some, is_none, is_some, refl, sym, ap, ◌∙◌}
use Rattle.bts_names.specs.Answer.{Answer, refused, done}
use Rattle.bts_names.specs.Names.{ActivityPath, Name}
use Rattle.bts_names.specs.declared.reply.Leaving.{Leaving}
use Rattle.bts_names.specs.declared.reply.Leaving.TheVariants as leaving
use Rattle.bts_command.specs.declared.command.Call.{Call}
use Rattle.bts_command.specs.declared.command.Command.{Command}
use Rattle.bts_command.specs.declared.command.Command.TheVariants as command
use Rattle.bts_command.specs.declared.command.Target.{Target}
use Rattle.bts_command.specs.declared.ended.End.{End}
use Rattle.bts_command.specs.declared.ended.End.TheVariants.{Commit, Rollback, Abend}
use Rattle.bts_tree.specs.declared.activity.Activity.{Activity}
use Rattle.bts_tree.specs.Processes.{Process, activity_at}
use Rattle.bts_rows.specs.declared.places.Held.{Held}
use Rattle.bts_rows.specs.Rows.{answer}
use Rattle.bts_rows.specs.declared.places.Here.{Here}
use Rattle.bts_unit.specs.Calls.{answered, call, called_in, opened_by, opens_on, says_ran, stepped}
use Rattle.bts_unit.specs.Ends.{abended_whole, leaving_of, left, returned, returned_at, rolled_back}
use Rattle.bts_unit.specs.Frames.{OpenFrame, UnitOfWork, here}
use Rattle.bts_unit.specs.OneFrame.{is_of_one_frame}
use Rattle.bts_unit.specs.Replays.{top_path}
use Rattle.bts_unit.specs.Standings.{Standing}
use Rattle.bts_unit.proofs.Shown.{opens_none}
use Rattle.bts_interp.specs.Running.{HasFrame}
use Rattle.bts_unit.proofs.OneByOne.{with_frames}
use Rattle.bts_unit.proofs.Opening.{stays as command_stays}

-- what holds of the frames and the end
abbrev OfFrames : Type 1
OfFrames = List OpenFrame → Option End → Type 0

abbrev pub retrieving : OpenFrame → Bool → OpenFrame
retrieving f b = record f { retrieved = b }

module _ (P : OfFrames) (u : UnitOfWork) (f : OpenFrame) (itself : P u.frames u.end) (ended : (e : End) → P [] (Some e)) (turned : (b : Bool) → P (retrieving f b ∷ []) u.end) where
  abbrev Keeps : UnitOfWork → Type 0
  Keeps x = P x.frames x.end

  leaves : (p : ActivityPath) (how : Leaving) → Keeps (left p how f [] u)
  leaves p leaving.Dormant = ended Commit
  leaves p leaving.Complete = ended Commit
  leaves p (leaving.Abended code) = ended (Abend code)

  returns_at : (end_activity : Bool) (p : ActivityPath) (o : Option Activity) → Keeps (returned_at end_activity p f [] u o).1
  returns_at end_activity p None = itself
  returns_at end_activity p (Some a) = leaves p (leaving_of end_activity f.retrieved a.pool)

  returns : (end_activity : Bool) (at : Option ActivityPath) → Keeps (returned end_activity at f [] u).1
  returns true None = itself
  returns false None = ended Commit
  returns true (Some p) = returns_at true p (activity_at p u.now.process)
  returns false (Some p) = returns_at false p (activity_at p u.now.process)

  rolls_back : (at : Option ActivityPath) → Keeps (rolled_back at f u).1
  rolls_back None = ended Rollback
  rolls_back (Some p) = itself

  done_by : (h : Here) (c : Command) (o : Option (Target × Bool)) (ran : Bool) (x : Process × Held) → o ≡ None → Keeps (opened_by h o ran (stepped c f [] u x))
  done_by h c None ran x e = turned _
  done_by h c (Some t) ran x e = cc

  answers : (h : Here) (c : Command) (a : Answer (Process × Held)) → opens_on c ≡ None → Keeps (answered h c f [] u a).1
  answers h c (refused r why) e = itself
  answers h c (done v x) e = done_by h c (opens_on c) (says_ran v) x e

  -- one command in the frame
  pub kept_in : (c : Command) → is_of_one_frame f.at c ≡ true → Keeps (called_in f [] u c).1
  unfolding called_in
  kept_in (command.Return end_activity) h = returns end_activity f.at
  kept_in (command.Abend code) h = ended (Abend code)
  kept_in command.Rollback h = rolls_back f.at
  kept_in c h = answers (here u.held f.at) c (answer (here u.held f.at) u.held (length (f ∷ [])) u.moment u.now.process c) (opens_none f.at c h)

-- ---- behind a call, and behind an abend

some_none : (e : Option End) → is_some e ≡ true → e ≡ None → ⊥
some_none e h o = let x : false ≡ true = ap is_some (sym o) ∙ h in cc

pub open_end : (e : Option End) → is_none e ≡ true → e ≡ None
open_end None h = refl
open_end (Some e) h = cc

pub open_where : (e : Option End) → false ≡ is_some e → e ≡ None
open_where None h = refl
open_where (Some e) h = cc

-- the frame of a unit that is open
pub record Framed (P : OpenFrame → Type 0) (u : UnitOfWork) : Type 0 where
  pub frame : OpenFrame
  pub frames_are : u.frames ≡ frame ∷ []
  pub holds : P frame

-- what all frames abending leave
pub record IsStopped (code : Name) (u x : UnitOfWork) : Type 0 where
  pub end_is : x.end ≡ Some (Abend code)
  pub base_is : x.base ≡ u.base
  pub calls_are : x.calls ≡ u.calls

-- the call that a command makes
abbrev pub call_by : UnitOfWork → Command → Call
call_by u c = record { command = c; reply = (call u c).0 }

module _ (P : OpenFrame → Type 0) (stays : (f : OpenFrame) (b : Bool) → P f → P (retrieving f b)) where
  module _ (moment : ℕ) (base : Process) (held : Held) (now : Standing) (calls : List Call) (end : Option End) (is_open : end ≡ None) where
    abbrev unit : List OpenFrame → UnitOfWork
    unit frames = with_frames moment base held now calls end frames

    framed_with : (frames : List OpenFrame) → HasFrame P frames end → Framed P (unit frames)
    framed_with [] h = absurd (some_none end h is_open)
    framed_with (f ∷ []) h = record { frame = f; frames_are = refl; holds = h }
    framed_with (f ∷ g ∷ fs) h = absurd h

    stopped_with : (code : Name) (frames : List OpenFrame) → HasFrame P frames end → IsStopped code (unit frames) (abended_whole code (unit frames))
    stopped_with code [] h = absurd (some_none end h is_open)
    stopped_with code (f ∷ []) h = record { end_is = refl; base_is = refl; calls_are = refl }
    stopped_with code (f ∷ g ∷ fs) h = absurd h

    called_with : (c : Command) (frames : List OpenFrame) → HasFrame P frames end → is_of_one_frame (top_path frames) c ≡ true → HasFrame P (call (unit frames) c).1.frames (call (unit frames) c).1.end
    unfolding call
    called_with c [] h one = h
    called_with c (f ∷ []) h one = kept_in (HasFrame P) (unit (f ∷ [])) f h (λ e. refl) (λ b. stays f b h) c one
    called_with c (f ∷ g ∷ fs) h one = absurd h

    calls_with : (c : Command) (frames : List OpenFrame) → HasFrame P frames end → (call (unit frames) c).1.calls ≡ calls ++ call_by (unit frames) c ∷ []
    unfolding call
    calls_with c [] h = absurd (some_none end h is_open)
    calls_with c (f ∷ []) h = ap (λ l. l ++ call_by (unit (f ∷ [])) c ∷ []) ((command_stays (unit (f ∷ [])) is_open f [] c).calls)
    calls_with c (f ∷ g ∷ fs) h = absurd h

  module _ (u : UnitOfWork) (is_open : u.end ≡ None) (has : HasFrame P u.frames u.end) where
    pub framed : Framed P u
    framed = framed_with u.moment u.base u.held u.now u.calls u.end is_open u.frames has

    pub stopped : (code : Name) → IsStopped code u (abended_whole code u)
    stopped code = stopped_with u.moment u.base u.held u.now u.calls u.end is_open code u.frames has

    pub framed_behind : (c : Command) → is_of_one_frame (top_path u.frames) c ≡ true → HasFrame P (call u c).1.frames (call u c).1.end
    framed_behind c one = called_with u.moment u.base u.held u.now u.calls u.end is_open c u.frames has one

    pub calls_behind : (c : Command) → (call u c).1.calls ≡ u.calls ++ call_by u c ∷ []
    calls_behind c = calls_with u.moment u.base u.held u.now u.calls u.end is_open c u.frames has
