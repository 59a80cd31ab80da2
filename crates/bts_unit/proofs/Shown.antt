-- What is done to the work of a unit is a step of the unit that it shows.
use Rattle.std.proofs.Common.{◌≡◌, ℕ, Bool, true, false, ◌&&◌, ◌||◌, List, [], ◌∷◌, Option, Some, None, is_none, option_map, unwrap_or, Ok, refl, sym, ap, ◌∙◌, subst}
use Rattle.std.specs.List.{slice_get}
use Rattle.bts_names.specs.Names.{Name, ActivityPath}
use Rattle.bts_names.specs.Answer.{Answer, refused, done, reply_of}
use Rattle.bts_names.specs.declared.reply.Leaving.{Leaving}
use Rattle.bts_names.specs.declared.reply.Leaving.TheVariants as leaving
use Rattle.bts_names.specs.declared.reply.Reply.{Reply}
use Rattle.bts_names.specs.declared.reply.Resp.{Resp}
use Rattle.bts_names.specs.declared.reply.Reason.{Reason}
use Rattle.bts_names.specs.declared.reply.Value.{Value}
use Rattle.bts_names.specs.declared.reply.Value.TheVariants as value
use Rattle.bts_names.specs.declared.state.Status.TheVariants as status
use Rattle.bts_command.specs.declared.command.Call.{Call}
use Rattle.bts_command.specs.declared.command.Command.{Command}
use Rattle.bts_command.specs.declared.command.Command.TheVariants as command
use Rattle.bts_command.specs.declared.ended.End.{End}
use Rattle.bts_tree.specs.declared.activity.Activity.{Activity}
use Rattle.bts_tree.specs.Processes.{Process, activity_at, complete}
use Rattle.bts_tree.specs.Scopes.{HeldProcess, ScopeMark, gone_back}
use Rattle.bts_rows.specs.declared.places.Held.{Held}
use Rattle.bts_rows.specs.Replies.{is_normal}
use Rattle.bts_rows.specs.declared.places.Here.{Here}
use Rattle.bts_rows.specs.Rows.{answer}
use Rattle.bts_rows.proofs.Replies.{why_answer}
use Rattle.bts_rows.proofs.Telling.{SaysWhy}
use Rattle.bts_act.specs.Does.{Does}
use Rattle.bts_act.specs.Replies.{normal}
use Rattle.bts_unit.specs.Calls.{answered, called_in, done_in, is_retrieval, opened_by, opens_on, says_ran, stepped}
use Rattle.bts_unit.specs.Ends as ends
use Rattle.bts_unit.specs.Frames.{OpenFrame, UnitOfWork, here}
use Rattle.bts_unit.specs.OneFrame.{ends_frame, is_of_one_frame}
use Rattle.bts_unit.specs.OnWork.{Leaves, Steps, at_of, unit_of}
use Rattle.bts_unit.specs.OnWork as on
use Rattle.bts_unit.specs.Standings.{Standing, behind, moved, retrieving, standing, with_process}
use Rattle.bts_unit.specs.declared.work.FirstFrame.{FirstFrame}
use Rattle.bts_unit.specs.declared.work.Work.{Work}
use Rattle.bts_unit.proofs.InFrames.{none_opens}

-- ---- the frame of a unit with one frame

abbrev pub opened : FirstFrame → HeldProcess → OpenFrame
opened f s = record { at = f.at; program = f.program; opened = 0; retrieved = f.retrieved; kept = on.kept_in s }

pub same_frames : (o : Option FirstFrame) (s t : HeldProcess) → t.marks ≡ s.marks → on.frames_of o s ≡ on.frames_of o t
same_frames None s t m = refl
same_frames (Some f) s t m = ap (λ ms. record (opened f s) { kept = option_map (λ x. standing x.0) (slice_get ms 0) } ∷ []) (sym m)

-- what an abend gives back is what stood at the first mark
given_back : (s : HeldProcess) (now : Standing) (ms : List ScopeMark)
    → (unwrap_or (option_map (λ m. standing m.0) (slice_get ms 0)) (with_process s.process now)).process
    ≡ (gone_back 0 (record s { marks = ms })).process
given_back s now [] = refl
given_back s now (m ∷ ms) = refl

-- ---- one command

none_of : {A : Type 0} (o : Option A) → is_none o ≡ true → o ≡ None
none_of None e = refl
none_of (Some x) e = cc

-- a command of one frame opens none
pub opens_none : (at : Option ActivityPath) (c : Command) → is_of_one_frame at c ≡ true → opens_on c ≡ None
opens_none at c i = none_of (opens_on c) (none_opens at c i)

pub behind_process : (got : Bool) (now : Standing) (x : Process) → (behind got now x).process ≡ x
unfolding moved retrieving
behind_process true now x = refl
behind_process false now x = refl

module _ (m : ℕ) (b s : HeldProcess) (h : Held) (e : Option End) (f : FirstFrame) where
  abbrev work : Work
  work = record { moment = m; base = b; scope = s; held = h; frame = Some f; end = e }

  abbrev shown : Standing → List Call → UnitOfWork
  shown now calls = unit_of work (with_process s.process now) calls

  -- ---- abends

  kept_process : (now : Standing) → (unwrap_or (on.kept_in s) (with_process s.process now)).process ≡ (gone_back 0 s).process
  kept_process now = given_back s now s.marks

  completed : (at : Option ActivityPath) (code : Name) (now : Standing)
      → (ends.completed_by_abend at code (unwrap_or (on.kept_in s) (with_process s.process now))).process
      ≡ on.completed_by at code (gone_back 0 s).process
  unfolding moved
  completed None code now = kept_process now
  completed (Some p) code now = ap (complete p status.Abend (Some code)) (kept_process now)

  pub abends : (code : Name) (r : Reply) → Steps work (on.abended code work) r (λ u. (r, ends.abended (opened f s) [] code u))
  abends code r now calls = record { answer = refl; unit = refl; process = completed f.at code now }

  -- ---- RETURN

  pub leaves : (p : ActivityPath) (how : Leaving) (r : Reply)
      → Steps work (on.left p how work) r (λ u. (r, ends.left p how (opened f s) [] u))
  unfolding moved
  leaves p leaving.Dormant r now calls = record { answer = refl; unit = refl; process = refl }
  leaves p leaving.Complete r now calls = record { answer = refl; unit = refl; process = refl }
  leaves p (leaving.Abended code) r now calls = abends code r now calls

  stays : (r : Reply) → Steps work work r (λ u. (r, u))
  stays r now calls = record { answer = refl; unit = refl; process = refl }

  returns_at : (x : Bool) (p : ActivityPath) (o : Option Activity) (now : Standing) (calls : List Call)
      → Leaves (on.returned_at x f.retrieved p o work).1 calls (on.returned_at x f.retrieved p o work).0
      (ends.returned_at x p (opened f s) [] (shown now calls) o)
  returns_at x p None now calls = stays ends.out_of_place now calls
  returns_at x p (Some a) now calls = leaves p (ends.leaving_of x f.retrieved a.pool) (normal (value.Left (ends.leaving_of x f.retrieved a.pool))) now calls

  returns_in : (x : Bool) (at : Option ActivityPath) (now : Standing) (calls : List Call)
      → Leaves (on.returned_in x f.retrieved at work).1 calls (on.returned_in x f.retrieved at work).0
      (ends.returned x at (opened f s) [] (shown now calls))
  returns_in true None now calls = stays ends.out_of_place now calls
  returns_in false None now calls = record { answer = refl; unit = refl; process = refl }
  returns_in true (Some p) now calls = returns_at true p (activity_at p s.process) now calls
  returns_in false (Some p) now calls = returns_at false p (activity_at p s.process) now calls

  pub returns : (x : Bool) → Steps work (on.returned x work).1 (on.returned x work).0 (λ u. called_in (opened f s) [] u (command.Return x))
  unfolding called_in
  returns x now calls = returns_in x f.at now calls

  pub abends_by_command : (code : Name)
      → Steps work (on.abended code work) (normal value.Nothing) (λ u. called_in (opened f s) [] u (command.Abend code))
  unfolding called_in
  abends_by_command code = abends code (normal value.Nothing)

  -- ---- ROLLBACK

  rolls_in : (at : Option ActivityPath) (now : Standing) (calls : List Call)
      → Leaves (on.rolled_back_in f at work).1 calls (on.rolled_back_in f at work).0 (ends.rolled_back at (opened f s) (shown now calls))
  rolls_in None now calls = record { answer = refl; unit = refl; process = kept_process now }
  rolls_in (Some p) now calls = stays ends.out_of_place now calls

  pub rolls : Steps work (on.rolled_back work).1 (on.rolled_back work).0 (λ u. called_in (opened f s) [] u command.Rollback)
  unfolding called_in
  rolls now calls = rolls_in f.at now calls

  -- ---- commands by their rows

  was_or : (b : Bool) → (b || false) ≡ b
  was_or true = refl
  was_or false = refl

  or_is : (b : Bool) → (b || true) ≡ true
  or_is true = refl
  or_is false = refl

  abbrev with_flag : Bool → OpenFrame
  with_flag b = record (opened f s) { retrieved = b }

  abbrev marked : Bool → List OpenFrame
  marked got = on.frames_of (on.retrieving got (Some f)) s

  marks : (got : Bool) → with_flag (f.retrieved || got) ∷ [] ≡ marked got
  marks true = ap (λ b. with_flag b ∷ []) (or_is f.retrieved)
  marks false = ap (λ b. with_flag b ∷ []) (was_or f.retrieved)

  not_marked : (got : Bool) → marked (got && false) ≡ opened f s ∷ []
  not_marked true = refl
  not_marked false = refl

  marked_so : (got : Bool) → marked (got && true) ≡ marked got
  marked_so true = refl
  marked_so false = refl

  -- with a scope that has the same marks
  marked_behind : (got : Bool) (x : HeldProcess) → x.marks ≡ s.marks → marked got ≡ on.frames_of (on.retrieving got (Some f)) x
  marked_behind got x m = same_frames (on.retrieving got (Some f)) s x m

  -- the unit behind a command, with this process and this acquired
  abbrev shown_behind : Process → Held → List OpenFrame → Standing → List Call → UnitOfWork
  shown_behind x g frames now calls = record { moment = m; base = b.process; held = g; now = now; frames = frames; calls = calls; end = e }

  refused_row : (c : Command) (spot : Here) (r : Resp) (why : Reason) (x : HeldProcess) (g : Held) (now : Standing) (calls : List Call)
      → is_normal r ≡ false → x.marks ≡ s.marks → x.process ≡ s.process → g ≡ h
      → Leaves (on.stepped c (reply_of {S = Process × Held} (refused r why)) x g work) calls (reply_of {S = Process × Held} (refused r why))
      (answered spot c (opened f s) [] (shown now calls) (refused r why))
  refused_row c spot r why x g now calls n m ex eg =
      record {
        answer = refl;
        unit = ap (λ y. shown_behind s.process y (opened f s ∷ []) (with_process s.process now) calls) (sym eg)
            ∙ ap (λ fs. shown_behind s.process g fs (with_process s.process now) calls)
            (sym (ap (λ t. marked (is_retrieval c && t)) n ∙ not_marked (is_retrieval c)) ∙ marked_behind (is_retrieval c && is_normal r) x m);
        process = sym ex;
      }

  done_row : (c : Command) (spot : Here) (v : Value) (y : Process × Held) (x : HeldProcess) (g : Held) (now : Standing) (calls : List Call)
      → opens_on c ≡ None → x.marks ≡ s.marks → x.process ≡ y.0 → g ≡ y.1
      → Leaves (on.stepped c (normal v) x g work) calls (normal v) (answered spot c (opened f s) [] (shown now calls) (done v y))
  done_row c spot v y x g now calls none m ex eg =
      subst (λ o. Leaves (on.stepped c (normal v) x g work) calls (normal v) (normal v, opened_by spot o (says_ran v) (stepped c (opened f s) [] (shown now calls) y))) (sym none)
      (record {
        answer = refl;
        unit = ap (λ z. shown_behind x.process z (with_flag (f.retrieved || is_retrieval c) ∷ []) (behind (is_retrieval c) (with_process s.process now) y.0) calls) (sym eg)
            ∙ ap (λ fs. shown_behind x.process g fs (behind (is_retrieval c) (with_process s.process now) y.0) calls)
            (marks (is_retrieval c) ∙ sym (marked_so (is_retrieval c)) ∙ marked_behind (is_retrieval c && true) x m);
        process = behind_process (is_retrieval c) (with_process s.process now) y.0 ∙ sym ex;
      })

  by_row : (c : Command) (spot : Here) (x : Answer (Process × Held)) (reply : Reply) (t : HeldProcess) (g : Held)
      → opens_on c ≡ None → t.marks ≡ s.marks → SaysWhy x → Does (Ok reply) (s.process, h) (t.process, g) x
      → Steps work (on.stepped c reply t g work) reply (λ u. answered spot c (opened f s) [] u x)
  by_row c spot (refused r why) reply t g none m says d now calls =
      subst (λ z. Leaves (on.stepped c z t g work) calls z (answered spot c (opened f s) [] (shown now calls) (refused r why))) (sym d.0)
      (refused_row c spot r why t g now calls says.0 m (ap (λ q. q.0) d.1) (ap (λ q. q.1) d.1))
  by_row c spot (done v y) reply t g none m says d now calls =
      subst (λ z. Leaves (on.stepped c z t g work) calls z (answered spot c (opened f s) [] (shown now calls) (done v y))) (sym d.0)
      (done_row c spot v y t g now calls none m (ap (λ q. q.0) d.1) (ap (λ q. q.1) d.1))

  goes_on_by_row : (c : Command) → ends_frame c ≡ false → (u : UnitOfWork) → called_in (opened f s) [] u c ≡ done_in (opened f s) [] u c
  unfolding called_in
  goes_on_by_row (command.Return x) n u = cc
  goes_on_by_row (command.Abend code) n u = cc
  goes_on_by_row command.Rollback n u = cc
  goes_on_by_row _ n u = refl

  -- a command that ends no frame
  pub rows : (c : Command) (reply : Reply) (t : HeldProcess) (g : Held)
      → ends_frame c ≡ false → is_of_one_frame f.at c ≡ true → t.marks ≡ s.marks
      → Does (Ok reply) (s.process, h) (t.process, g) (answer (here h f.at) h 1 m s.process c)
      → Steps work (on.stepped c reply t g work) reply (λ u. called_in (opened f s) [] u c)
  rows c reply t g n one k d now calls =
      subst (Leaves (on.stepped c reply t g work) calls reply) (sym (goes_on_by_row c n (shown now calls)))
      (by_row c (here h f.at) (answer (here h f.at) h 1 m s.process c) reply t g (opens_none f.at c one) k
      (why_answer (here h f.at) h 1 m s.process c) d now calls)
