-- What single commands keep, and the openings and the ends of frames, a unit with one frame keeps.
use Rattle.std.proofs.Common.{◌≡◌, ℕ, ◌+◌, ◌≤◌, Bool, true, false, not, ◌&&◌, ◌||◌, List, [], ◌∷◌, ◌++◌, length, Option, Some, None, is_none, option_map, option_to_list, unwrap_or, refl, sym, ap, subst, arith}
use Rattle.std.specs.List.{AllByRecursion}
use Rattle.std.proofs.lemmas.Bool.{and_parts}
use Rattle.std.proofs.lemmas.List.{length_push}
use Rattle.bts_names.specs.Answer.{Answer, refused, done, left_by, mapped}
use Rattle.bts_names.specs.Names.{Name, ActivityPath}
use Rattle.bts_names.specs.declared.reply.Leaving.{Leaving}
use Rattle.bts_names.specs.declared.reply.Leaving.TheVariants as leaving
use Rattle.bts_names.specs.declared.state.Status.TheVariants as status
use Rattle.bts_command.specs.declared.command.Call.{Call}
use Rattle.bts_command.specs.declared.command.Command.{Command}
use Rattle.bts_command.specs.declared.command.Command.TheVariants as command
use Rattle.bts_command.specs.declared.ended.End.{End}
use Rattle.bts_command.specs.declared.ended.End.TheVariants.{Commit, Rollback, Abend}
use Rattle.bts_command.specs.declared.ended.UnitKind.{UnitKind}
use Rattle.bts_command.specs.declared.ended.UnitKind.TheVariants as unit
use Rattle.bts_tree.specs.declared.activity.Activity.{Activity}
use Rattle.bts_tree.specs.Activities.{by_cause, has_entries, is_dormant, is_initial, is_ready}
use Rattle.bts_tree.specs.Modes.{waits}
use Rattle.bts_tree.specs.Processes.{Process, activity_at, complete, edited}
use Rattle.bts_rows.specs.declared.places.Held.{Held}
use Rattle.bts_rows.specs.declared.places.Held.TheVariants as held
use Rattle.bts_rows.specs.Families.{resets}
use Rattle.bts_rows.specs.Rows.{act_at, answer, request_in}
use Rattle.bts_rows.specs.declared.places.Here.{Here}
use Rattle.bts_unit.specs.Calls.{answered, call, called_by, called_in, done_in, is_retrieval, opened_by, opens_on, run, says_ran, stepped, with_call}
use Rattle.bts_unit.specs.Ends.{abended, abended_whole, closed, completed_by_abend, first_of, left, leaving_of, returned, returned_at, rolled_back}
use Rattle.bts_unit.specs.Frames.{OpenFrame, UnitOfWork, activated, first_frame, here, open_paths, opened_at, path_of, start}
use Rattle.bts_unit.specs.OneFrame.{StandsIn, is_of_one_frame, may_begin}
use Rattle.bts_unit.specs.Replays.{top_path}
use Rattle.bts_unit.specs.Soundness.{AreKept, Holds, IsKept, may_open, paths_of}
use Rattle.bts_unit.specs.Standings.{Standing, behind, moved}
use Rattle.bts_unit.proofs.InFrames.{none_resets}
use Rattle.bts_unit.proofs.Shown.{behind_process, opens_none}

-- what is said of processes in open frames, with a number that may be that of the commands so far, and with what is held:
-- it holds behind one command more of those that are asked for, where a frame opens, where its activity waits and where
-- it ends; and what was said before a request acquired something is so with that held
pub record Carries (P : ℕ → Held → List ActivityPath → Process → Type 0) (Asked : Option ActivityPath → Command → Type 0) : Type 0 where
  pub later : (n : ℕ) (h : Held) (frames : List ActivityPath) (s : Process) → P n h frames s → P (n + 1) h frames s
  pub opens : (n : ℕ) (h : Held) (p : ActivityPath) (s : Process) → P n h [] s → may_open (Some p) s ≡ true → P n h (p ∷ []) (activated p s)
  pub rests : (n : ℕ) (h : Held) (p : ActivityPath) (s : Process) → P n h (p ∷ []) s → P n h [] (edited p (by_cause waits None) s)
  pub finishes : (n : ℕ) (h : Held) (p : ActivityPath) (s : Process) → P n h (p ∷ []) s → P n h [] (complete p status.Normal None s)
  pub abends : (n : ℕ) (h : Held) (p : ActivityPath) (code : Name) (s : Process) → P n h [] s → may_open (Some p) s ≡ true → P n h [] (complete p status.Abend (Some code) s)
  pub acts : (n : ℕ) (h : Held) (p : ActivityPath) (now : ℕ) (s : Process) (c : Command) → Asked (Some p) c → is_of_one_frame (Some p) c ≡ true → P n h (p ∷ []) s → P (n + 1) h (p ∷ []) (left_by s (act_at p 1 now s c))
  pub requests : (n : ℕ) (h : Held) (now : ℕ) (s : Process) (c : Command) → Asked None c → resets c ≡ false → P n h [] s
      → let x = left_by (s, h) (request_in h 1 now s c) in P (n + 1) x.1 [] x.0
  pub acquires : (n : ℕ) (h : Held) (now : ℕ) (s : Process) (c : Command) (frames : List ActivityPath) (before : Process) → Asked None c → resets c ≡ false → P n h [] s → P n h frames before
      → P n (left_by (s, h) (request_in h 1 now s c)).1 frames before

-- ---- frames

paths_case : (at : Option ActivityPath) (f : OpenFrame) → f.at ≡ at → paths_of (f ∷ []) ≡ option_to_list at
paths_case None f e = rw e refl
paths_case (Some p) f e = rw e refl

one_path : (f : OpenFrame) → paths_of (f ∷ []) ≡ option_to_list f.at
one_path f = paths_case f.at f refl

few_case : (fs : List OpenFrame) → length fs ≤ 1 → StandsIn (top_path fs) fs
few_case [] h = tt
few_case (f ∷ []) h = refl
few_case (f ∷ g ∷ fs) h = omega arith

pub few_by_stand : (at : Option ActivityPath) (fs : List OpenFrame) → StandsIn at fs → length fs ≤ 1
few_by_stand at [] h = omega arith
few_by_stand at (f ∷ []) h = omega arith
few_by_stand at (f ∷ g ∷ fs) h = absurd h

pub stands_in : (u : UnitOfWork) → length u.frames ≤ 1 → StandsIn (top_path u.frames) u.frames
stands_in u h = few_case u.frames h

ready_opens : (o : Option Activity) → unwrap_or (option_map is_ready o) false ≡ true → unwrap_or (option_map (λ a. is_initial a || is_dormant a) o) false ≡ true
ready_opens None h = cc
ready_opens (Some a) h = (and_parts (is_initial a || is_dormant a) (not a.suspended) (and_parts ((is_initial a || is_dormant a) && not a.suspended) (has_entries a) h).0).0

pub begins_open : (kind : UnitKind) (s : Process) → may_begin kind s ≡ true → may_open (path_of kind) s ≡ true
begins_open (unit.Activation key p) s h = ready_opens (activity_at p s) h
begins_open _ s h = refl

-- ---- commands by their rows

-- the process that an answer leaves, and what is held then
abbrev left_with : Process → Held → Answer (Process × Held) → Process × Held
left_with s h a = left_by (s, h) a

left_of : (h : Held) (s : Process) (a : Answer Process) → left_with s h (mapped (λ x. (x, h)) a) ≡ (left_by s a, h)
left_of h s (refused r why) = refl
left_of h s (done v x) = refl

module _ (P : ℕ → Held → List ActivityPath → Process → Type 0) (Asked : Option ActivityPath → Command → Type 0) (carries : Carries P Asked) where
  -- it holds of a unit
  abbrev pub HoldsAt : ℕ → UnitOfWork → Type 0
  HoldsAt n u = Holds (P n u.held) u

  -- ---- one more

  later_one : (n : ℕ) (h : Held) (at : Option ActivityPath) (below : List OpenFrame) (o : Option Standing) → IsKept (P n h) at below o → IsKept (P (n + 1) h) at below o
  later_one n h at below None k = k
  later_one n h at below (Some before) k = (carries.later n h (paths_of below) before.process k.0, k.1)

  later_kept : (n : ℕ) (h : Held) (fs : List OpenFrame) → AreKept (P n h) fs → AreKept (P (n + 1) h) fs
  later_kept n h [] k = tt
  later_kept n h (f ∷ fs) k = (later_one n h f.at fs f.kept k.0, later_kept n h fs k.1)

  pub later : (n : ℕ) (u : UnitOfWork) → HoldsAt n u → HoldsAt (n + 1) u
  later n u h = record { process = carries.later n u.held (open_paths u) u.now.process h.process; kept = later_kept n u.held u.frames h.kept }

  -- ---- the beginning

  begins_case : (n : ℕ) (h : Held) (at : Option ActivityPath) (s : Process) → may_open at s ≡ true → P n h [] s → P n h (paths_of (first_frame at s ∷ [])) (opened_at at s)
  begins_case n h None s m p = p
  begins_case n h (Some p) s m k = carries.opens n h p s k m

  pub starts : (n : ℕ) (kind : UnitKind) (moment : ℕ) (s : Process) → may_begin kind s ≡ true → P n held.Never [] s → HoldsAt n (start kind moment s)
  starts n kind moment s b h =
      let m = begins_open kind s b in
      record { process = begins_case n held.Never (path_of kind) s m h; kept = ((h, m), tt) }

  -- ---- ends

  abended_case : (n : ℕ) (h : Held) (at : Option ActivityPath) (code : Name) (o : Option Standing) (now : Standing) → IsKept (P n h) at [] o
      → P n h [] (completed_by_abend at code (unwrap_or o now)).process
  unfolding moved
  abended_case n h at code None now k = cc
  abended_case n h None code (Some before) now k = k.0
  abended_case n h (Some p) code (Some before) now k = carries.abends n h p code before.process k.0 k.1

  whole_kept : (n : ℕ) (h : Held) (f : OpenFrame) (fs : List OpenFrame) → AreKept (P n h) (f ∷ fs) → let g = first_of f fs in IsKept (P n h) g.at [] g.kept
  whole_kept n h f [] k = k.0
  whole_kept n h f (g ∷ fs) k = whole_kept n h g fs k.1

  stops_case : (n : ℕ) (code : Name) (u : UnitOfWork) (fs : List OpenFrame) → let v : UnitOfWork = record u { frames = fs } in HoldsAt n v → HoldsAt n (abended_whole code v)
  stops_case n code u [] h = h
  stops_case n code u (f ∷ fs) h = let g = first_of f fs in record { process = abended_case n u.held g.at code g.kept u.now (whole_kept n u.held f fs h.kept); kept = tt }

  pub stops : (n : ℕ) (code : Name) (u : UnitOfWork) → HoldsAt n u → HoldsAt n (abended_whole code u)
  stops n code u h = stops_case n code u u.frames h

  -- the process of a unit that has ended
  pub behind_end : (n : ℕ) (u : UnitOfWork) → u.frames ≡ [] → HoldsAt n u → P n u.held [] u.now.process
  behind_end n u e h = subst (λ fs. P n u.held (paths_of fs) u.now.process) e h.process

  -- ---- one command in the one frame

  -- so it is in the frame of this activity, or in a request's first one, behind these calls
  record In (n : ℕ) (at : Option ActivityPath) (made : List Call) (u : UnitOfWork) : Type 0 where
    holds : HoldsAt n u
    stands : StandsIn at u.frames
    calls : u.calls ≡ made

  module _ (u : UnitOfWork) (f : OpenFrame) where
    abbrev Own : ℕ → UnitOfWork → Type 0
    Own n = In n f.at u.calls

    abbrev one : UnitOfWork
    one = record u { frames = f ∷ [] }

    module _ (n : ℕ) (process : P n u.held (option_to_list f.at) u.now.process) (kept : IsKept (P n u.held) f.at [] f.kept) where
      stays : Own n one
      stays = record { holds = record { process = subst (λ ps. P n u.held ps u.now.process) (sym (one_path f)) process; kept = (kept, tt) }; stands = refl; calls = refl }

      closes : (e : End) (now : Standing) → P n u.held [] now.process → Own n (closed e [] now one)
      closes e now h = record { holds = record { process = h; kept = tt }; stands = tt; calls = refl }

      abends : (code : Name) → Own n (abended f [] code one)
      abends code = closes (Abend code) (completed_by_abend f.at code (unwrap_or f.kept u.now)) (abended_case n u.held f.at code f.kept u.now kept)

      leaves : (p : ActivityPath) (how : Leaving) → P n u.held (p ∷ []) u.now.process → Own n (left p how f [] one)
      unfolding moved
      leaves p leaving.Dormant h = closes Commit _ (carries.rests n u.held p u.now.process h)
      leaves p leaving.Complete h = closes Commit _ (carries.finishes n u.held p u.now.process h)
      leaves p (leaving.Abended code) h = abends code

      returns_at : (x : Bool) (p : ActivityPath) (o : Option Activity) → P n u.held (p ∷ []) u.now.process → Own n (returned_at x p f [] one o).1
      returns_at x p None h = stays
      returns_at x p (Some a) h = leaves p (leaving_of x f.retrieved a.pool) h

      returns : (x : Bool) (at : Option ActivityPath) → P n u.held (option_to_list at) u.now.process → Own n (returned x at f [] one).1
      returns true None h = stays
      returns false None h = closes Commit u.now h
      returns true (Some p) h = returns_at true p (activity_at p u.now.process) h
      returns false (Some p) h = returns_at false p (activity_at p u.now.process) h

      kept_case : (at : Option ActivityPath) (o : Option Standing) → IsKept (P n u.held) at [] o → P n u.held [] (unwrap_or o u.now).process
      kept_case at None h = cc
      kept_case at (Some before) h = h.0

      rolls : (at : Option ActivityPath) → Own n (rolled_back at f one).1
      rolls None = closes Rollback (unwrap_or f.kept u.now) (kept_case f.at f.kept kept)
      rolls (Some p) = stays

    -- ---- by its row

    module _ (n : ℕ) (c : Command) (process : P n u.held (option_to_list f.at) u.now.process) (kept : IsKept (P n u.held) f.at [] f.kept) where
      abbrev answer_at : Option ActivityPath → Answer (Process × Held)
      answer_at at = answer (here u.held at) u.held 1 u.moment u.now.process c

      abbrev marked : OpenFrame
      marked = record f { retrieved = f.retrieved || is_retrieval c }

      -- what is said behind an answer, of the process and of what the frame kept
      record Behind (at : Option ActivityPath) (x : Process × Held) : Type 0 where
        now_so : P (n + 1) x.1 (option_to_list at) x.0
        kept_so : IsKept (P (n + 1) x.1) at [] f.kept

      row_case : (spot : Here) (a : Answer (Process × Held)) → opens_on c ≡ None → Behind f.at (left_with u.now.process u.held a) → Own (n + 1) (answered spot c f [] one a).1
      row_case spot (refused r why) none h = stays (n + 1) h.now_so h.kept_so
      row_case spot (done v x) none h =
          subst (λ o. Own (n + 1) (opened_by spot o (says_ran v) (stepped c f [] one x))) (sym none)
          (record {
            holds = record {
              process = subst (λ ps. P (n + 1) x.1 ps (behind (is_retrieval c) u.now x.0).process) (sym (one_path marked)) (subst (P (n + 1) x.1 (option_to_list f.at)) (sym (behind_process (is_retrieval c) u.now x.0)) h.now_so);
              kept = (h.kept_so, tt);
            };
            stands = refl;
            calls = refl;
          })

      -- in an activity's frame nothing is acquired

      kept_in : (p : ActivityPath) → IsKept (P n u.held) (Some p) [] f.kept → IsKept (P (n + 1) u.held) (Some p) [] f.kept
      kept_in p k = later_one n u.held (Some p) [] f.kept k

      -- in a request's first frame

      acquired_case : (o : Option Standing) → Asked None c → resets c ≡ false → P n u.held [] u.now.process → IsKept (P n u.held) None [] o
          → IsKept (P (n + 1) (left_with u.now.process u.held (request_in u.held 1 u.moment u.now.process c)).1) None [] o
      acquired_case None asked l h k = k
      acquired_case (Some before) asked l h k =
          let now = (left_with u.now.process u.held (request_in u.held 1 u.moment u.now.process c)).1 in
          (carries.later n now [] before.process (carries.acquires n u.held u.moment u.now.process c [] before.process asked l h k.0), k.1)

      answer_case : (at : Option ActivityPath) → Asked at c → is_of_one_frame at c ≡ true → P n u.held (option_to_list at) u.now.process → IsKept (P n u.held) at [] f.kept
          → Behind at (left_with u.now.process u.held (answer_at at))
      unfolding answer
      answer_case None asked i h k =
          let l = none_resets c i in
          record { now_so = carries.requests n u.held u.moment u.now.process c asked l h; kept_so = acquired_case f.kept asked l h k }
      answer_case (Some p) asked i h k =
          subst (Behind (Some p)) (sym (left_of u.held u.now.process (act_at p 1 u.moment u.now.process c)))
          (record { now_so = carries.acts n u.held p u.moment u.now.process c asked i h; kept_so = kept_in p k })

      by_row : Asked f.at c → is_of_one_frame f.at c ≡ true → Own (n + 1) (done_in f [] one c).1
      by_row asked i = row_case (here u.held f.at) (answer_at f.at) (opens_none f.at c i) (answer_case f.at asked i process kept)

    -- ---- each command

    raised : (n : ℕ) (v : UnitOfWork) → Own n v → Own (n + 1) v
    raised n v h = record { holds = later n v h.holds; stands = h.stands; calls = h.calls }

    called : (n : ℕ) (c : Command) → Asked f.at c → is_of_one_frame f.at c ≡ true → P n u.held (option_to_list f.at) u.now.process → IsKept (P n u.held) f.at [] f.kept → Own (n + 1) (called_in f [] one c).1
    unfolding called_in
    called n (command.Return x) asked i h k = raised n _ (returns n h k x f.at h)
    called n (command.Abend code) asked i h k = raised n _ (abends n h k code)
    called n command.Rollback asked i h k = raised n _ (rolls n h k f.at)
    called n c asked i h k = by_row n c h k asked i

  -- ---- calls

  -- behind the calls of a unit
  abbrev pub Counted : ℕ → UnitOfWork → Type 0
  Counted n u = HoldsAt (n + length u.calls) u

  -- so it is where one frame is open at most
  abbrev CountedIn : ℕ → Option ActivityPath → UnitOfWork → Type 0
  CountedIn n at u = Counted n u × StandsIn at u.frames

  one_more : (n : ℕ) (made now : List Call) (x : Call) → now ≡ made → n + length made + 1 ≡ n + length (now ++ x ∷ [])
  one_more n made now x e = let a = ap length e in omega (arith, length_push now x)

  called_case : (n : ℕ) (at : Option ActivityPath) (c : Command) (u : UnitOfWork) (fs : List OpenFrame) → Asked at c → is_of_one_frame at c ≡ true
      → let v : UnitOfWork = record u { frames = fs } in CountedIn n at v → CountedIn n at (called_by fs v c).1
  called_case n at c u [] asked i h = h
  called_case n at c u (f ∷ []) asked i h =
      let may : Asked f.at c × (is_of_one_frame f.at c ≡ true) = subst (λ p. Asked p c × (is_of_one_frame p c ≡ true)) (sym h.1) (asked, i) in
      let x = called_in f [] (one u f) c in
      let behind = called u f (n + length u.calls) c may.0 may.1 (subst (λ ps. P (n + length u.calls) u.held ps u.now.process) (one_path f) h.0.process) h.0.kept.0 in
      let counted = subst (λ m. HoldsAt m x.1) (one_more n u.calls x.1.calls (record { command = c; reply = x.0 }) behind.calls) behind.holds in
      (record { process = counted.process; kept = counted.kept }, subst (λ p. StandsIn p x.1.frames) h.1 behind.stands)
  called_case n at c u (f ∷ g ∷ fs) asked i h = absurd h.1

  pub calls : (n : ℕ) (u : UnitOfWork) (c : Command) → length u.frames ≤ 1 → Asked (top_path u.frames) c → is_of_one_frame (top_path u.frames) c ≡ true → Counted n u → Counted n (call u c).1
  unfolding call
  calls n u c few asked i h = (called_case n (top_path u.frames) c u u.frames asked i (h, stands_in u few)).0

  -- the frame is the same then, or has ended
  pub stays_in : (n : ℕ) (u : UnitOfWork) (c : Command) → length u.frames ≤ 1 → Asked (top_path u.frames) c → is_of_one_frame (top_path u.frames) c ≡ true → Counted n u
      → StandsIn (top_path u.frames) (call u c).1.frames
  unfolding call
  stays_in n u c few asked i h = (called_case n (top_path u.frames) c u u.frames asked i (h, stands_in u few)).1

  -- ---- commands one after the other

  module _ (n : ℕ) (at : Option ActivityPath) where
    runs_in : (cs : List Command) (u : UnitOfWork) → AllByRecursion (λ c. Asked at c × (is_of_one_frame at c ≡ true)) cs → CountedIn n at u → CountedIn n at (run u cs)
    unfolding run
    runs_in [] u a h = h
    runs_in (c ∷ cs) u a h = by u.frames refl (λ v. runs_in cs v a.1)
      where
        by : (fs : List OpenFrame) → u.frames ≡ fs → ((v : UnitOfWork) → CountedIn n at v → CountedIn n at (run v cs))
            → CountedIn n at (elim fs [ [] ↦ u | f ∷ fs' ↦ run (with_call c (called_in f fs' u c)).1 cs ])
        by [] e more = h
        by (f ∷ fs) e more = more (with_call c (called_in f fs u c)).1 (subst (λ xs. CountedIn n at (called_by xs u c).1) e (called_case n at c u u.frames a.0.0 a.0.1 h))

  begun : (n : ℕ) → n ≡ n + 0
  begun n = omega arith

  -- a unit that begins with n is with n and the number of its calls behind commands
  pub runs : (n : ℕ) (kind : UnitKind) (moment : ℕ) (s : Process) (cs : List Command) → may_begin kind s ≡ true → P n held.Never [] s
      → AllByRecursion (λ c. Asked (path_of kind) c × (is_of_one_frame (path_of kind) c ≡ true)) cs → Counted n (run (start kind moment s) cs)
  runs n kind moment s cs b h a =
      (runs_in n (path_of kind) cs (start kind moment s) a (subst (λ m. HoldsAt m (start kind moment s)) (begun n) (starts n kind moment s b h), refl)).0
