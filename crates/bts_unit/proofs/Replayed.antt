-- A unit is what its beginning, its calls and the code that stopped it give.
use Rattle.std.proofs.Common.{◌≡◌, ◌≤◌, ℕ, true, false, List, [], ◌∷◌, ◌++◌, Option, Some, None, is_some, is_none, length, option_to_list, refl, sym, ap, ◌∙◌, subst, arith}
use Rattle.std.proofs.lemmas.List.{map-append}
use Rattle.std.specs.List.{filter_map}
use Rattle.std.specs.Option.{option_map, unwrap_or}
use Rattle.bts_names.specs.Names.{Name, ActivityPath}
use Rattle.bts_names.specs.declared.reply.Reply.{Reply}
use Rattle.bts_command.specs.declared.command.Call.{Call}
use Rattle.bts_command.specs.declared.command.Command.{Command}
use Rattle.bts_command.specs.declared.ended.UnitKind.{UnitKind}
use Rattle.bts_command.specs.declared.ended.UnitKind.TheVariants as unit
use Rattle.bts_tree.specs.declared.activity.Activity.{Activity}
use Rattle.bts_tree.specs.Activities.{is_ready}
use Rattle.bts_tree.specs.Processes.{Process, activity_at}
use Rattle.bts_tree.specs.Scopes.{HeldProcess, held_whole}
use Rattle.bts_unit.specs.Calls.{call, called_by, called_in_top, called_on_top, commands_of, run, with_call}
use Rattle.bts_unit.specs.Ends.{abended_whole}
use Rattle.bts_unit.specs.Ends as ends
use Rattle.bts_unit.specs.Frames.{OpenFrame, UnitOfWork, is_there_at, open_paths, path_of, start}
use Rattle.bts_unit.specs.OneFrame.{may_begin}
use Rattle.bts_unit.specs.OnWork.{GoesOn, IsAsBefore, IsMarked, IsOpenOrEnded, Leaves, Steps, at_of, frames_of, kept_in, unit_of}
use Rattle.bts_unit.specs.OnWork as on
use Rattle.bts_unit.specs.Replays.{IsWorkOf, behind_calls, top_path}
use Rattle.bts_unit.specs.Standings.{with_process}
use Rattle.bts_unit.specs.declared.work.FirstFrame.{FirstFrame}
use Rattle.bts_unit.specs.declared.work.Work.{Work}
use Rattle.bts_unit.proofs.OneByOne.{first_call, run_append}
use Rattle.bts_unit.proofs.Performed.{abends_go_on, abends_marked}
use Rattle.bts_unit.proofs.Shown as shown

-- ---- the beginning

ready_there : (o : Option Activity) → unwrap_or (option_map is_ready o) false ≡ true → is_some o ≡ true
ready_there None h = cc
ready_there (Some a) h = refl

begins_there : (kind : UnitKind) (s : Process) → may_begin kind s ≡ true → is_there_at (path_of kind) s ≡ true
begins_there (unit.Activation key p) s h = ready_there (activity_at p s) h
begins_there _ s h = refl

pub begun_is_work : (kind : UnitKind) (m : ℕ) (s : Process) → may_begin kind s ≡ true
    → IsWorkOf (on.begun kind m s) [] None (run (start kind m s) (commands_of []))
unfolding run
begun_is_work kind m s h =
    record {
      unit = refl;
      process = refl;
      fits = refl;
      base = refl;
      marked = record { one = refl; whole = refl; there = begins_there kind s h };
      goes_on = λ e. refl;
    }

pub run_none : (u : UnitOfWork) → run u [] ≡ u
unfolding run
run_none u = refl

-- ---- calls

-- one command more is one call more
run_more : (u : UnitOfWork) (cs : List Command) (c : Command) → run u (cs ++ c ∷ []) ≡ (call (run u cs) c).1
run_more u cs c = run_append u cs (c ∷ []) ∙ first_call (run u cs) c [] ∙ run_none (call (run u cs) c).1

-- a unit whose frame is open makes a call on its top frame
call_on_top : (u : UnitOfWork) (fs : List OpenFrame) (f : OpenFrame) (c : Command) → u.frames ≡ f ∷ fs → call u c ≡ with_call c (called_on_top c u)
unfolding call
call_on_top u fs f c e = ap (λ xs. called_by xs u c) e ∙ sym (ap (λ xs. with_call c (called_in_top xs u c)) e)

-- ---- the work of a unit

abbrev pub path_in : Work → Option ActivityPath
path_in w = at_of w.frame

paths_case : (o : Option FirstFrame) (s : HeldProcess) → filter_map {X = OpenFrame} (λ f. f.at) (frames_of o s) ≡ option_to_list (at_of o)
paths_case None s = refl
paths_case (Some f) s = by f.at
  where
    by : (at : Option ActivityPath)
        → filter_map {X = OpenFrame} (λ g. g.at) (record { at = at; program = f.program; opened = 0; retrieved = f.retrieved; kept = kept_in s } ∷ []) ≡ option_to_list at
    by None = refl
    by (Some p) = refl

top_case : (o : Option FirstFrame) (s : HeldProcess) → top_path (frames_of o s) ≡ at_of o
top_case None s = refl
top_case (Some f) s = refl

few_case : (o : Option FirstFrame) (s : HeldProcess) → length (frames_of o s) ≤ 1
few_case None s = omega arith
few_case (Some f) s = omega arith

module _ (w : Work) (calls : List Call) (stopped : Option Name) (u : UnitOfWork) (i : IsWorkOf w calls stopped u) where
  pub same_end : u.end ≡ w.end
  same_end = ap (λ v. v.end) i.unit

  pub same_calls : u.calls ≡ calls
  same_calls = ap (λ v. v.calls) i.unit

  pub same_paths : open_paths u ≡ option_to_list (path_in w)
  same_paths = ap (λ v. open_paths v) i.unit ∙ paths_case w.frame w.scope

  pub same_top : top_path u.frames ≡ path_in w
  same_top = ap (λ v. top_path v.frames) i.unit ∙ top_case w.frame w.scope

  pub few_frames : length u.frames ≤ 1
  few_frames = subst (λ v. length v.frames ≤ 1) (sym i.unit) (few_case w.frame w.scope)

  pub is_open : is_none u.end ≡ true → is_some w.frame ≡ true
  is_open h = sym i.fits ∙ ap is_none (sym same_end) ∙ h

  -- the account that stands with the work's process
  shows : u ≡ unit_of w (with_process w.scope.process u.now) calls
  shows = i.unit ∙ ap (λ s. unit_of w (with_process s u.now) calls) i.process

  abbrev next : Work → Reply → Command → List Call
  next new reply c = calls ++ record { command = c; reply = reply } ∷ []

  stepped : (new : Work) (reply : Reply) (c : Command) → Steps w new reply (called_on_top c) → Leaves new calls reply (called_on_top c u)
  stepped new reply c steps = subst (λ v. Leaves new calls reply (called_on_top c v)) (sym shows) (steps u.now calls)

  abbrev with_last : Reply → Command → UnitOfWork → UnitOfWork
  with_last r c v = record v { calls = v.calls ++ record { command = c; reply = r } ∷ [] }

  call_case : (c : Command) (o : Option FirstFrame) → u.frames ≡ frames_of o w.scope → is_some o ≡ true
      → call u c ≡ with_call c (called_on_top c u)
  call_case c None e h = cc
  call_case c (Some f) e h = call_on_top u [] _ c e

  pub makes_call : (c : Command) → is_none u.end ≡ true → call u c ≡ with_call c (called_on_top c u)
  makes_call c h = call_case c w.frame (ap (λ v. v.frames) i.unit) (is_open h)

  -- what a call answers, and the work behind it
  pub answers : (new : Work) (reply : Reply) (c : Command) → is_none u.end ≡ true → Steps w new reply (called_on_top c) → (call u c).0 ≡ reply
  answers new reply c h steps = ap (λ x. x.0) (makes_call c h) ∙ (stepped new reply c steps).answer

  pub is_work_behind : (new : Work) (reply : Reply) (c : Command) → is_none u.end ≡ true → Steps w new reply (called_on_top c)
      → GoesOn w new → IsMarked new.frame new.scope → IsWorkOf new (next new reply c) stopped (call u c).1
  is_work_behind new reply c h steps goes marked =
      let l = stepped new reply c steps in
      subst (λ x. IsWorkOf new (next new reply c) stopped x.1) (sym (makes_call c h))
      (record {
        unit = ap (with_last (called_on_top c u).0 c) l.unit ∙ ap (λ r. unit_of new (called_on_top c u).1.now (next new r c)) l.answer;
        process = l.process;
        fits = goes.open_or_ended;
        base = subst (λ b. b ≡ held_whole b.process) (sym goes.base) i.base;
        marked = marked;
        goes_on = λ e. i.goes_on (sym (ap is_none same_end) ∙ h);
      })

  -- a command for which there was no memory leaves it so
  pub is_work_still : (new : Work) → IsAsBefore w new → IsMarked new.frame new.scope → IsWorkOf new calls stopped u
  is_work_still new same marked =
      let e = same.work in
      record {
        unit = i.unit
            ∙ ap (λ fs. record (unit_of w u.now calls) { frames = fs }) (shown.same_frames w.frame w.scope new.scope same.marks)
            ∙ sym (ap (λ v. unit_of v u.now calls) e);
        process = i.process ∙ sym same.process;
        fits = ap (λ v. is_none v.end) e ∙ i.fits ∙ sym (ap (λ v. is_some v.frame) e);
        base = ap (λ v. v.base) e ∙ i.base ∙ sym (ap (λ v. held_whole v.base.process) e);
        marked = marked;
        goes_on = λ n. i.goes_on (sym (ap (λ v. is_none v.end) e) ∙ n);
      }

-- a unit that wasn't stopped is played one call further
pub replayed_more : (kind : UnitKind) (w new : Work) (calls : List Call) (stopped : Option Name) (x : Call) → stopped ≡ None → GoesOn w new
    → behind_calls kind new (calls ++ x ∷ []) stopped ≡ (call (behind_calls kind w calls stopped) x.command).1
replayed_more kind w new calls stopped x e goes =
    ap (behind_calls kind new (calls ++ x ∷ [])) e
    ∙ ap (λ m. run (start kind m new.base.process) (commands_of (calls ++ x ∷ []))) goes.moment
    ∙ ap (λ b. run (start kind w.moment b.process) (commands_of (calls ++ x ∷ []))) goes.base
    ∙ ap (run (start kind w.moment w.base.process)) (map-append (λ c. c.command) calls (x ∷ []))
    ∙ run_more (start kind w.moment w.base.process) (commands_of calls) x.command
    ∙ sym (ap (λ o. (call (behind_calls kind w calls o) x.command).1) e)

module _ (kind : UnitKind) (w new : Work) (calls : List Call) (stopped : Option Name) (same : IsAsBefore w new) where
  pub shows_still : behind_calls kind new calls stopped ≡ behind_calls kind w calls stopped
  shows_still = ap (λ v. behind_calls kind v calls stopped) same.work

  pub works_still : IsMarked new.frame new.scope → IsWorkOf w calls stopped (behind_calls kind w calls stopped)
      → IsWorkOf new calls stopped (behind_calls kind new calls stopped)
  works_still marked i =
      subst (IsWorkOf new calls stopped) (sym shows_still)
      (is_work_still w calls stopped (behind_calls kind w calls stopped) i new same marked)

module _ (kind : UnitKind) (w : Work) (calls : List Call) (stopped : Option Name) (i : IsWorkOf w calls stopped (behind_calls kind w calls stopped)) (goes_on : is_none (behind_calls kind w calls stopped).end ≡ true) where
  abbrev before : UnitOfWork
  before = behind_calls kind w calls stopped

  pub unstopped : stopped ≡ None
  unstopped = i.goes_on (sym (ap is_none (same_end w calls stopped before i)) ∙ goes_on)

  module _ (new : Work) (x : Call) (goes : GoesOn w new) where
    pub played : behind_calls kind new (calls ++ x ∷ []) stopped ≡ (call before x.command).1
    played = replayed_more kind w new calls stopped x unstopped goes

    -- the unit behind one call more
    pub made : Steps w new x.reply (called_on_top x.command) → IsMarked new.frame new.scope
        → IsWorkOf new (calls ++ x ∷ []) stopped (behind_calls kind new (calls ++ x ∷ []) stopped)
    made steps marked =
        subst (IsWorkOf new (calls ++ x ∷ []) stopped) (sym played)
        (is_work_behind w calls stopped before i new x.reply x.command goes_on steps goes marked)

  -- ---- a unit that is stopped

  module _ (code : Name) where
    whole_case : (r : Reply) (o : Option FirstFrame) → is_some o ≡ true → Steps (record w { frame = o }) (on.abended code (record w { frame = o })) r (λ v. (r, abended_whole code v))
    whole_case r None h = cc
    whole_case r (Some f) h = shown.abends w.moment w.base w.scope w.held w.end f code r

    ended_case : (o : Option FirstFrame) → is_some o ≡ true → is_none (on.abended code (record w { frame = o })).end ≡ true → Some code ≡ None
    ended_case None h e = cc
    ended_case (Some f) h e = cc

    is_open_here : is_some w.frame ≡ true
    is_open_here = is_open w calls stopped before i goes_on

    pub stopped_whole : (new : Work) → new ≡ on.abended code w → behind_calls kind new calls (Some code) ≡ abended_whole code before
    stopped_whole new e =
        ap (λ v. behind_calls kind v calls (Some code)) e
        ∙ ap (λ m. abended_whole code (run (start kind m (on.abended code w).base.process) (commands_of calls))) (abends_go_on w code i.fits).moment
        ∙ ap (λ b. abended_whole code (run (start kind w.moment b.process) (commands_of calls))) (abends_go_on w code i.fits).base
        ∙ sym (ap (λ o. abended_whole code (behind_calls kind w calls o)) unstopped)

    pub stopped_work : (new : Work) → new ≡ on.abended code w → IsWorkOf new calls (Some code) (behind_calls kind new calls (Some code))
    stopped_work new e =
        let l : Leaves (on.abended code w) calls ends.out_of_place (ends.out_of_place, abended_whole code before) =
        subst (λ v. Leaves (on.abended code w) calls ends.out_of_place (ends.out_of_place, abended_whole code v)) (sym (shows w calls stopped before i)) (whole_case ends.out_of_place w.frame is_open_here before.now calls) in
        subst (λ v. IsWorkOf new calls (Some code) v) (sym (stopped_whole new e))
        (subst (λ n. IsWorkOf n calls (Some code) (abended_whole code before)) (sym e)
        (record {
          unit = l.unit;
          process = l.process;
          fits = (abends_go_on w code i.fits).open_or_ended;
          base = subst (λ b. b ≡ held_whole b.process) (sym (abends_go_on w code i.fits).base) i.base;
          marked = abends_marked w code i.marked;
          goes_on = ended_case w.frame is_open_here;
        }))
