-- An ended unit that is played again, and the processes behind it.
use Rattle.std.proofs.Common.{◌≡◌, ◌≢◌, ℕ, ◌+◌, ◌≤◌, ◌^◌, Bool, true, false, cond, List, [], ◌∷◌, length, Option, Some, None, is_some, option_map, inl, inr, refl, sym, ap, ◌∙◌, subst, arith, true≢false}
use Rattle.std.specs.List.{AllByRecursion, list_all}
use Rattle.std.proofs.lemmas.Bool.{and_from, and_parts}
use Rattle.bts_command.specs.Given.{IsGiven}
use Rattle.bts_command.specs.Kinds.{is_rollback, key_of}
use Rattle.bts_command.specs.declared.command.Call.{Call}
use Rattle.bts_command.specs.declared.command.Command.{Command}
use Rattle.bts_command.specs.declared.ended.End.{End}
use Rattle.bts_command.specs.declared.ended.End.TheVariants.{Commit, Rollback, Abend}
use Rattle.bts_command.specs.declared.ended.Ended.{Ended}
use Rattle.bts_command.specs.declared.ended.UnitKind.{UnitKind}
use Rattle.bts_command.specs.declared.ended.UnitKind.TheVariants as unit
use Rattle.bts_names.specs.Names.{ActivityPath}
use Rattle.bts_names.specs.declared.key.Key.{Key}
use Rattle.bts_names.proofs.Sameness.{keys_exact}
use Rattle.bts_rows.specs.declared.places.Held.{Held}
use Rattle.bts_rows.specs.declared.places.Held.TheVariants as held
use Rattle.bts_rows.specs.Bounds.{raised_by}
use Rattle.bts_rows.proofs.Bounds.{within_more}
use Rattle.bts_rows.proofs.Acquiring.{raised_once}
use Rattle.bts_rows.proofs.Repositories.{put_all, sound_at, within_at}
use Rattle.bts_tree.specs.Processes.{Process, format_of, no_process}
use Rattle.bts_tree.specs.Repositories.{Processes, found_or, process_at, put, same_key}
use Rattle.bts_tree.specs.Soundness.{AreSound, IsSoundInFrames, is_within}
use Rattle.bts_unit.specs.Calls.{commands_of, made, run, unit_behind}
use Rattle.bts_unit.specs.Frames.{UnitOfWork, path_of, start}
use Rattle.bts_unit.specs.OneFrame.{is_of_one_frame, may_begin}
use Rattle.bts_unit.specs.Playing.{IsReplay, after, begun, budgeted, finished, may_run, process_of, put_back, replayed}
use Rattle.bts_unit.specs.Refusals.{IsOtherCall, IsToldOtherwise, calls_given, is_played}
use Rattle.bts_unit.specs.Replays.{CanRepeat}
use Rattle.bts_unit.specs.Soundness.{IsSoundUnit, IsSoundWithin, definitions_by}
use Rattle.bts_unit.proofs.AtEnd.{frames_gone, stopping, stops}
use Rattle.bts_unit.proofs.BoundedUnits.{AreAsked, abended_by, any, format_rises, in_frames, key_rises, left_by_abend, nothing, nothing_rises, of_format, of_key, within, within_rises}
use Rattle.bts_unit.proofs.Opening.{fit_behind_all, made_all}
use Rattle.bts_unit.proofs.Rising.{Rises}

-- ---- the unit at its start

abbrev pub AreGiven : Ended → Type 0
AreGiven e = AllByRecursion (λ c. IsGiven c.command × (is_of_one_frame (path_of e.unit) c.command ≡ true)) e.calls

pub can_replay : (e : Ended) (s : Process) (u : UnitOfWork) → u ≡ start e.unit e.moment s → IsSoundUnit u → IsSoundWithin (2 ^ 63) (2 ^ 63) u → length e.calls ≤ 500 → AreGiven e → CanRepeat u e.calls
can_replay e s u is sound within few given = subst (λ v. CanRepeat v e.calls) (sym is) (record {
  at = path_of e.unit;
  stands = refl;
  fits = refl;
  sound = subst IsSoundUnit is sound;
  within = subst (λ n. IsSoundWithin (2 ^ 63) n (start e.unit e.moment s)) (more (2 ^ 63)) (subst (IsSoundWithin (2 ^ 63) (2 ^ 63)) is within);
  few = let m : length e.calls ≤ 500 = few in omega (arith, m);
  given = given;
})
  where
    more : (n : ℕ) → n ≡ n + 0
    more n = omega arith

begun_starts : (kind : UnitKind) (moment : ℕ) (s : Process) → may_begin kind s ≡ true → begun kind moment s ≡ start kind moment s
begun_starts (unit.Request item key) moment s h = refl
begun_starts (unit.Activation key path) moment s h = refl
begun_starts _ moment s h = cc

module _ (e : Ended) (s : Process) (may : may_begin e.unit s ≡ true) (u : UnitOfWork) (is : u ≡ start e.unit e.moment s) where
  abbrev first : UnitOfWork
  first = start e.unit e.moment s

  replayed_is : replayed e s ≡ run u (commands_of e.calls)
  replayed_is = ap (λ v. run v (commands_of e.calls)) (begun_starts e.unit e.moment s may ∙ sym is)

  behind_is : unit_behind u e.calls ≡ replayed e s
  unfolding unit_behind
  behind_is = sym replayed_is

  -- the calls that the process gives it are those that it makes
  made_is : calls_given e (Some s) ≡ made u (commands_of e.calls)
  made_is =
      ap (λ v. v.calls) replayed_is
      ∙ ap (λ v. (run v (commands_of e.calls)).calls) is
      ∙ made_all first (commands_of e.calls) refl
      ∙ ap (λ v. made v (commands_of e.calls)) (sym is)

  pub other_call : (n : ℕ) → IsOtherCall (made u (commands_of e.calls)) e.calls n → IsToldOtherwise e (Some s) n
  other_call n h = inl (subst (λ l. IsOtherCall l e.calls n) (sym made_is) h)

  -- where all of them are made as they are told
  module _ (same : made u (commands_of e.calls) ≡ e.calls) (v : UnitOfWork) (ends : v ≡ budgeted e.end (unit_behind u e.calls)) where
    finished_is : finished e s ≡ v
    finished_is = ap (budgeted e.end) (sym behind_is) ∙ sym ends

    given_so : calls_given e (Some s) ≡ e.calls
    given_so = made_is ∙ same

    pub replays : v.end ≡ Some e.end → IsReplay e s
    replays h = record { calls = given_so; end = ap (λ w. w.end) finished_is ∙ h }

    pub leaves : v.now.process ≡ (finished e s).now.process
    leaves = ap (λ w. w.now.process) (sym finished_is)

    other_end : v.end ≢ Some e.end → IsToldOtherwise e (Some s) 0
    other_end h = inr (record { calls = given_so; end = λ x. h (ap (λ w. w.end) (sym finished_is) ∙ x); uncounted = refl })

    pub still_open : is_some v.end ≡ false → IsToldOtherwise e (Some s) 0
    still_open h = other_end (λ x. let n : is_some (Some e.end) ≡ false = ap is_some (sym x) ∙ h in cc)

    pub ended_otherwise : (f : End) → Some f ≡ v.end → f ≢ e.end → IsToldOtherwise e (Some s) 0
    ended_otherwise f h other = other_end (λ x. other (by f e.end (h ∙ x)))
      where
        by : (a b : End) → Some a ≡ Some b → a ≡ b
        by a b h = ap (λ o. elim o [ Some z ↦ z | None ↦ a ]) h

-- ---- what it leaves

as_asked : (Asked : Option ActivityPath → Command → Type 0) (kind : UnitKind) → ((c : Command) → Asked (path_of kind) c)
    → (calls : List Call) → AllByRecursion (λ c. IsGiven c.command × (is_of_one_frame (path_of kind) c.command ≡ true)) calls → AreAsked Asked kind (commands_of calls)
as_asked Asked kind ask [] h = tt
as_asked Asked kind ask (c ∷ cs) h = (((h.0.0, ask c.command), h.0.1), as_asked Asked kind ask cs h.1)

-- the unit behind its calls
abbrev last_of : Ended → Process → UnitOfWork
last_of e s = run (start e.unit e.moment s) (commands_of e.calls)

-- what rises with commands is so of the process that an ended unit leaves, and the process is sound
module _ (Q : ℕ → Held → Process → Type 0) (Asked : Option ActivityPath → Command → Type 0) (rises : Rises Q Asked) (n : ℕ) (e : Ended) (s : Process) (may : may_begin e.unit s ≡ true) (sound : IsSoundInFrames [] s)
    (given : AreGiven e) (ask : (c : Command) → Asked (path_of e.unit) c) (h : Q n held.Never s) (r : IsReplay e s) where
  abbrev last : UnitOfWork
  last = last_of e s

  last_is : replayed e s ≡ last
  last_is = ap (λ v. run v (commands_of e.calls)) (begun_starts e.unit e.moment s may)

  end_is : finished e s ≡ abended_by (stopping e.end last.end) last
  end_is = ap (budgeted e.end) last_is ∙ stops last e.end

  gone : (abended_by (stopping e.end last.end) last).frames ≡ []
  gone = frames_gone last (stopping e.end last.end) e.end (fit_behind_all (start e.unit e.moment s) (commands_of e.calls) refl) (ap (λ v. v.end) (sym end_is) ∙ r.end)

  pub left_sound : IsSoundInFrames [] (finished e s).now.process × Q (n + length e.calls) last.held (finished e s).now.process
  left_sound =
      let x = left_by_abend Q Asked rises n e.unit e.moment s (commands_of e.calls) may sound h (as_asked Asked e.unit ask e.calls given) (stopping e.end last.end) gone in
      let many : length last.calls ≡ length e.calls = ap (λ v. length v.calls) (sym last_is) ∙ ap length r.calls in (
        subst (λ v. IsSoundInFrames [] v.now.process) (sym end_is) x.0,
        subst (λ v. Q (n + length e.calls) last.held v.now.process) (sym end_is) (subst (λ m. Q (n + m) last.held (abended_by (stopping e.end last.end) last).now.process) many x.1),
      )

module _ (e : Ended) (s : Process) (may : may_begin e.unit s ≡ true) (sound : IsSoundInFrames [] s) (given : AreGiven e) (r : IsReplay e s) where
  of_own_key : IsSoundInFrames [] (finished e s).now.process × ((finished e s).now.process.key ≡ s.key)
  of_own_key = left_sound (of_key s.key) any (key_rises s.key) 0 e s may sound given (λ c. tt) refl r

  -- its process is sound, and its key is the same
  pub stays_sound : IsSoundInFrames [] (finished e s).now.process
  stays_sound = of_own_key.0

  pub left_key : (finished e s).now.process.key ≡ s.key
  left_key = of_own_key.1

  -- and so is its format
  pub left_format : format_of (finished e s).now.process ≡ format_of s
  left_format = (left_sound (of_format (format_of s)) any (format_rises (format_of s)) 0 e s may sound given (λ c. tt) refl r).1

  -- ---- how far its numbers rise

  module _ (g n : ℕ) (w : is_within g n s ≡ true) where
    abbrev IsWithin : ℕ → Type 0
    IsWithin h = is_within h (n + length e.calls) (finished e s).now.process ≡ true

    raised : IsWithin (raised_by (last_of e s).held g)
    raised = (left_sound (within g) any (within_rises g) n e s may sound given (λ c. tt) w r).1

    not_raised : (key : Key) (path : ActivityPath) → e.unit ≡ unit.Activation key path → (last_of e s).held ≡ held.Never
    not_raised key path same = (left_sound nothing in_frames nothing_rises 0 e s may sound given (λ c. subst (λ kind. in_frames (path_of kind) c) (sym same) tt) refl r).1

    by_kind : (kind : UnitKind) → e.unit ≡ kind → IsWithin (g + definitions_by kind)
    by_kind (unit.Request item key) same =
        within_more (raised_by (last_of e s).held g) (n + length e.calls) (g + 1) (n + length e.calls) (finished e s).now.process raised (raised_once (last_of e s).held g) (omega arith)
    by_kind (unit.Activation key path) same =
        within_more g (n + length e.calls) (g + 0) (n + length e.calls) (finished e s).now.process (subst (λ h. IsWithin (raised_by h g)) (not_raised key path same) raised) (omega arith) (omega arith)
    by_kind kind same = absurd (true≢false (sym may ∙ ap (λ k. may_begin k s) same))

    -- the generation by the definitions of such a unit, and the numbers by its calls
    pub left_within : IsWithin (g + definitions_by e.unit)
    left_within = by_kind e.unit refl

-- ---- the process of a unit

found_key : (other : Process) (key : Key) (ss : List Process) → other.key ≡ key → (found_or other key ss).key ≡ key
found_key other key [] h = h
found_key other key (s ∷ ss) h = by (same_key key s.key) refl (found_key other key ss h)
  where
    by : (b : Bool) → same_key key s.key ≡ b → (found_or other key ss).key ≡ key → (cond b s (found_or other key ss)).key ≡ key
    by true e i = sym (keys_exact key s.key e)
    by false e i = i

pub key_there : (key : Key) (repo : Processes) → (process_at key repo).key ≡ key
key_there key repo = found_key (no_process repo.format key) key repo.items refl

pub process_is : (kind : UnitKind) (key : Key) (repo : Processes) → key_of kind ≡ Some key → process_of kind repo ≡ Some (process_at key repo)
process_is (unit.Request item k) key repo e = let same : k ≡ key = cc in ap (λ z. Some (process_at z repo)) same
process_is (unit.Activation k path) key repo e = let same : k ≡ key = cc in ap (λ z. Some (process_at z repo)) same
process_is (unit.Notice k path) key repo e = let same : k ≡ key = cc in ap (λ z. Some (process_at z repo)) same
process_is (unit.Expiry k path timer) key repo e = let same : k ≡ key = cc in ap (λ z. Some (process_at z repo)) same
process_is _ key repo e = cc

-- a unit that is played may begin on its process where the processes let it run
pub begins_so : (kind : UnitKind) (key : Key) (moment : ℕ) (repo : Processes) → key_of kind ≡ Some key → is_played kind ≡ true → may_run kind moment repo ≡ true → may_begin kind (process_at key repo) ≡ true
begins_so (unit.Request item k) key moment repo e p h = refl
begins_so (unit.Activation k path) key moment repo e p h = let same : k ≡ key = cc in subst (λ z. may_begin (unit.Activation k path) (process_at z repo) ≡ true) same h
begins_so _ key moment repo e p h = cc

put_behind : (e : End) (s : Process) (repo : Processes) → is_rollback e ≡ false → put_back e (Some s) repo ≡ put s repo
put_behind Commit s repo h = refl
put_behind Rollback s repo h = cc
put_behind (Abend code) s repo h = refl

put_nothing : (e : End) (s : Process) (repo : Processes) → is_rollback e ≡ true → put_back e (Some s) repo ≡ repo
put_nothing Commit s repo h = cc
put_nothing Rollback s repo h = refl
put_nothing (Abend code) s repo h = cc

-- ---- a bound of the numbers of all processes

pub within_all : (g n h m : ℕ) → g ≤ h → n ≤ m → (ss : List Process) → list_all (is_within g n) ss ≡ true → list_all (is_within h m) ss ≡ true
within_all g n h m j l [] w = refl
within_all g n h m j l (s ∷ ss) w =
    let a = and_parts (is_within g n s) (list_all (is_within g n) ss) w in and_from _ _ (within_more g n h m s a.0 j l) (within_all g n h m j l ss a.1)

-- ---- the processes behind it

module _ (repo : Processes) (e : Ended) (key : Key) (of : key_of e.unit ≡ Some key) where
  pub behind_is_of : after repo e ≡ put_back e.end (Some (finished e (process_at key repo)).now.process) repo
  behind_is_of = ap (λ o. put_back e.end (option_map (λ s. (finished e s).now.process) o) repo) (process_is e.unit key repo of)

  pub after_put : (s : Process) → s ≡ (finished e (process_at key repo)).now.process → is_rollback e.end ≡ false → put s repo ≡ after repo e
  after_put s is h = ap (λ x. put x repo) is ∙ sym (put_behind e.end _ repo h) ∙ sym behind_is_of

  pub after_rollback : is_rollback e.end ≡ true → repo ≡ after repo e
  after_rollback h = sym (behind_is_of ∙ put_nothing e.end _ repo h)

-- ---- how far the numbers of all processes rise

module _ (g n : ℕ) (repo : Processes) (e : Ended) (w : list_all (is_within g n) repo.items ≡ true) where
  -- by the definitions of such a unit, and by its calls
  abbrev pub Risen : Processes → Type 0
  Risen t = list_all (is_within (g + definitions_by e.unit) (n + length e.calls)) t.items ≡ true

  pub still_within : Risen repo
  still_within = within_all g n _ _ (omega arith) (omega arith) repo.items w

  put_within : (end : End) (s : Process) → is_within (g + definitions_by e.unit) (n + length e.calls) s ≡ true → Risen (put_back end (Some s) repo)
  put_within Commit s h = put_all _ s repo still_within h
  put_within Rollback s h = still_within
  put_within (Abend code) s h = put_all _ s repo still_within h

  -- behind a unit that is played on the process of a key
  pub played_within : (key : Key) → key_of e.unit ≡ Some key → is_played e.unit ≡ true → may_run e.unit e.moment repo ≡ true → AreSound repo → AreGiven e → IsReplay e (process_at key repo) → Risen (after repo e)
  played_within key of played enabled sound given r =
      let s = process_at key repo in
      subst Risen (sym (behind_is_of repo e key of))
      (put_within e.end _ (left_within e s (begins_so e.unit key e.moment repo of played enabled) (sound_at key repo sound) given r g n (within_at g n key repo w)))
