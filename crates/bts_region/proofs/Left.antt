-- What a unit leaves of the process that it began with.
use Rattle.std.proofs.Common.{◌≡◌, ◌≤◌, ℕ, ◌+◌, true, false, List, [], ◌∷◌, length, Option, Some, None, refl, sym, ap, ◌∙◌, subst, arith, true≢false}
use Rattle.std.specs.List.{AllByRecursion}
use Rattle.bts_names.specs.Names.{ActivityPath, Name}
use Rattle.bts_command.specs.declared.command.Call.{Call}
use Rattle.bts_command.specs.declared.command.Command.{Command}
use Rattle.bts_command.specs.declared.ended.End.{End}
use Rattle.bts_command.specs.declared.ended.UnitKind.{UnitKind}
use Rattle.bts_command.specs.declared.ended.UnitKind.TheVariants as unit
use Rattle.bts_rows.specs.Bounds.{is_lone, raised_by}
use Rattle.bts_rows.specs.declared.places.Held.{Held}
use Rattle.bts_rows.specs.declared.places.Held.TheVariants as held
use Rattle.bts_rows.proofs.Bounds.{within_more}
use Rattle.bts_rows.proofs.Acquiring.{raised_once}
use Rattle.bts_tree.specs.Processes.{Process, format_of}
use Rattle.bts_tree.specs.Soundness.{IsSoundInFrames, is_within}
use Rattle.bts_unit.specs.Calls.{commands_of, run, unit_behind}
use Rattle.bts_unit.specs.Frames.{UnitOfWork, path_of, start}
use Rattle.bts_unit.specs.OneFrame.{may_begin}
use Rattle.bts_unit.specs.Playing.{begun, budgeted}
use Rattle.bts_unit.proofs.BoundedUnits.{AreAsked, abended_by, any, format_rises, key_rises, left_by_abend, lone, lone_rises, makes_none, of_format, of_key, within, within_rises}
use Rattle.bts_unit.proofs.Rising.{Rises}
use Rattle.bts_interp.specs.Jobs as jobs
use Rattle.bts_interp.specs.Ready.{IsRunnable, MayBeCalled}
use Rattle.bts_interp.specs.Talks.{Follows, IsTalk}
use Rattle.bts_interp.specs.Texts.{Texts}
use Rattle.bts_interp.proofs.Executable.{may_in}
use Rattle.bts_interp.proofs.Followed.{follows_may}
use Rattle.bts_unit.proofs.AtEnd.{calls_kept, frames_gone, stopping, stops}
use Rattle.bts_unit.proofs.Opening.{fit_behind_all}

-- ---- commands of executable texts

as_asked : (Asked : Option ActivityPath → Command → Type 0) → ((at : Option ActivityPath) (c : Command) → MayBeCalled c → Asked at c)
    → (kind : UnitKind) (cs : List Command) → AllByRecursion MayBeCalled cs → AreAsked Asked kind cs
as_asked Asked ask kind [] h = tt
as_asked Asked ask kind (c ∷ cs) h = (((h.0.given, ask (path_of kind) c h.0), may_in (path_of kind) c h.0), as_asked Asked ask kind cs h.1)

makes_none_may : (at : Option ActivityPath) (c : Command) → MayBeCalled c → makes_none at c
makes_none_may None c m = refl
makes_none_may (Some p) c m = m.makes_none

-- ---- a unit that follows its texts to an end

module _ (Q : ℕ → Held → Process → Type 0) (Asked : Option ActivityPath → Command → Type 0) (rises : Rises Q Asked)
    (ask : (at : Option ActivityPath) (c : Command) → MayBeCalled c → Asked at c) (n : ℕ) where
  module _ (kind : UnitKind) (moment : ℕ) (base : Process) (texts : Texts) (calls : List Call) (e : End) (r : IsRunnable kind base texts) (h : Q n held.Never base) where
    -- the unit behind its calls, and at its end
    abbrev u : UnitOfWork
    u = run (start kind moment base) (commands_of calls)

    abbrev stop : Option Name
    stop = stopping e u.end

    abbrev at_end : UnitOfWork
    at_end = abended_by stop u

    module _ (f : Follows texts (start kind moment base) calls) (same : at_end.calls ≡ calls) (ended : at_end.end ≡ Some e) where
      few : n + length u.calls ≤ n + 500
      few = let made : length u.calls ≤ 500 = subst (λ l. length l ≤ 500) (sym same ∙ calls_kept u stop) f.count in omega arith

      left_of : IsSoundInFrames [] at_end.now.process × Q (n + length u.calls) u.held at_end.now.process
      left_of =
          left_by_abend Q Asked rises n kind moment base (commands_of calls) r.begins r.sound h
          (as_asked Asked ask kind (commands_of calls) (follows_may texts (start kind moment base) r.texts calls f)) stop
          (frames_gone u stop e (fit_behind_all (start kind moment base) (commands_of calls) refl) ended)

-- ---- a result that its texts give

-- what a rising bound leaves of a job that was done
module _ (Q : ℕ → Held → Process → Type 0) (Asked : Option ActivityPath → Command → Type 0) (rises : Rises Q Asked)
    (ask : (at : Option ActivityPath) (c : Command) → MayBeCalled c → Asked at c) (n : ℕ) (d : jobs.Done) (r : IsRunnable d.job.unit d.job.base d.job.texts) (i : jobs.IsDone d) (h : Q n held.Never d.job.base) where
  abbrev Left : Type 0
  Left = IsSoundInFrames [] d.after × (m : ℕ) × (m ≤ n + 500) × (h : Held) × Q m h d.after

  module _ (kind : UnitKind) (runnable : IsRunnable kind d.job.base d.job.texts) (talk : IsTalk d.job.texts (start kind d.job.moment d.job.base) d.calls d.end) where
    abbrev last : UnitOfWork
    last = unit_behind (start kind d.job.moment d.job.base) d.calls

    of_kind : (budgeted d.end last).calls ≡ d.calls → (budgeted d.end last).now.process ≡ d.after → (budgeted d.end last).end ≡ Some d.end → Left
    unfolding unit_behind
    of_kind c a e =
        let s : budgeted d.end last ≡ abended_by (stopping d.end last.end) last = stops last d.end in
        let same : (abended_by (stopping d.end last.end) last).calls ≡ d.calls = ap (λ (v : UnitOfWork). v.calls) (sym s) ∙ c in
        let ended : (abended_by (stopping d.end last.end) last).end ≡ Some d.end = ap (λ (v : UnitOfWork). v.end) (sym s) ∙ e in
        let x = left_of Q Asked rises ask n kind d.job.moment d.job.base d.job.texts d.calls d.end runnable h talk.follows same ended in
        let q : (abended_by (stopping d.end last.end) last).now.process ≡ d.after = ap (λ (v : UnitOfWork). v.now.process) (sym s) ∙ a in (
          subst (IsSoundInFrames []) q x.0,
          n + length last.calls,
          few Q Asked rises ask n kind d.job.moment d.job.base d.job.texts d.calls d.end runnable h talk.follows same ended,
          last.held,
          subst (Q (n + length last.calls) last.held) q x.1,
        )

  of_start : (kind : UnitKind) → d.job.unit ≡ kind → jobs.unit_of d.job ≡ start kind d.job.moment d.job.base → IsTalk d.job.texts (jobs.unit_of d.job) d.calls d.end → Left
  of_start kind same b t =
      of_kind kind
      (subst (λ k. IsRunnable k d.job.base d.job.texts) same r)
      (subst (λ v. IsTalk d.job.texts v d.calls d.end) b t)
      (subst (λ v. (budgeted d.end (unit_behind v d.calls)).calls ≡ d.calls) b i.calls)
      (subst (λ v. (budgeted d.end (unit_behind v d.calls)).now.process ≡ d.after) b i.after)
      (subst (λ v. (budgeted d.end (unit_behind v d.calls)).end ≡ Some d.end) b i.end)

  -- only requests and activations begin
  never : (kind : UnitKind) → d.job.unit ≡ kind → may_begin kind d.job.base ≡ false → Left
  never kind same refused = absurd (true≢false (sym r.begins ∙ ap (λ k. may_begin k d.job.base) same ∙ refused))

  by_kind : (kind : UnitKind) → d.job.unit ≡ kind → Left
  by_kind (unit.Request item key) same =
      of_start (unit.Request item key) same (ap (λ k. begun k d.job.moment d.job.base) same) (subst (λ k. jobs.FollowsTexts k d) same i.texts)
  by_kind (unit.Activation key path) same =
      of_start (unit.Activation key path) same (ap (λ k. begun k d.job.moment d.job.base) same) (subst (λ k. jobs.FollowsTexts k d) same i.texts)
  by_kind (unit.Notice key path) same = never (unit.Notice key path) same refl
  by_kind (unit.Expiry key path timer) same = never (unit.Expiry key path timer) same refl
  by_kind (unit.Clock item) same = never (unit.Clock item) same refl
  by_kind (unit.Settle item) same = never (unit.Settle item) same refl
  by_kind (unit.Browse item) same = never (unit.Browse item) same refl

  left : Left
  left = by_kind d.job.unit refl

any_may : (at : Option ActivityPath) (c : Command) → MayBeCalled c → any at c
any_may at c m = tt

module _ (d : jobs.Done) (r : IsRunnable d.job.unit d.job.base d.job.texts) (i : jobs.IsDone d) where
  pub done_sound : IsSoundInFrames [] d.after
  done_sound = (left (of_key d.job.base.key) any (key_rises d.job.base.key) any_may 0 d r i refl).0

  pub done_key : d.after.key ≡ d.job.base.key
  done_key = (left (of_key d.job.base.key) any (key_rises d.job.base.key) any_may 0 d r i refl).4

  pub done_format : format_of d.after ≡ format_of d.job.base
  done_format = (left (of_format (format_of d.job.base)) any (format_rises (format_of d.job.base)) any_may 0 d r i refl).4

  -- the generation rises once at most, and each number by one a call at most
  pub done_within : (g n : ℕ) → is_within g n d.job.base ≡ true → is_within (g + 1) (n + 500) d.after ≡ true
  done_within g n w =
      let x = left (within g) any (within_rises g) any_may n d r i w in
      within_more (raised_by x.3 g) x.1 (g + 1) (n + 500) d.after x.4 (raised_once x.3 g) x.2

  pub done_lone : is_lone d.job.base ≡ true → is_lone d.after ≡ true
  done_lone l = (left lone makes_none lone_rises makes_none_may 0 d r i l).4
