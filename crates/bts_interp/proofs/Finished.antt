-- What became of a job is what its texts give.
use Rattle.std.proofs.Common.{◌≡◌, ℕ, ◌+◌, true, List, [], ◌∷◌, Option, Some, Result, Ok, Err, OnOk, is_some, IfSome, refl, sym, ap, ◌∙◌, subst}
use Rattle.bts_names.specs.Names.{Name}
use Rattle.bts_command.specs.declared.command.Call.{Call}
use Rattle.bts_command.specs.declared.ended.End.{End}
use Rattle.bts_command.specs.declared.ended.UnitKind.{UnitKind}
use Rattle.bts_command.specs.declared.ended.UnitKind.TheVariants as unit
use Rattle.bts_tree.specs.Processes.{Process}
use Rattle.bts_unit.specs.Ends.{abended_whole}
use Rattle.bts_unit.specs.Frames.{UnitOfWork, start, top_frame}
use Rattle.bts_unit.specs.OneFrame.{may_begin}
use Rattle.bts_unit.specs.Playing.{begun, budgeted}
use Rattle.bts_interp.specs.Budgets.{statements_of}
use Rattle.bts_interp.specs.Jobs.{Done, Job, FollowsTexts, IsDone, executed, executed_by, unit_of}
use Rattle.bts_unit.specs.Calls.{unit_behind}
use Rattle.bts_interp.specs.Running.{IsPlayed}
use Rattle.bts_interp.specs.Talks.{IsTalk}
use Rattle.bts_unit.proofs.OneByOne.{with_frames}

-- ---- units that follow texts

begins_so : (kind : UnitKind) (moment : ℕ) (s : Process) → may_begin kind s ≡ true → start kind moment s ≡ begun kind moment s
begins_so (unit.Request item key) moment s h = refl
begins_so (unit.Activation key path) moment s h = refl
begins_so _ moment s h = cc

abbrev pub with_job : Job → List Call → Process → End → Done
with_job j calls after end = record { job = j; calls = calls; after = after; end = end }

module _ (d : Done) where
  follows_so : (kind : UnitKind) (s : Process) → may_begin kind s ≡ true → IsTalk d.job.texts (unit_of d.job) d.calls d.end → FollowsTexts kind d
  follows_so (unit.Request item key) s h t = t
  follows_so (unit.Activation key path) s h t = t
  follows_so _ s h t = cc

  executed_so : (kind : UnitKind) (s : Process) → may_begin kind s ≡ true → statements_of d.job.texts (unit_of d.job) d.calls ≡ executed_by kind d
  executed_so (unit.Request item key) s h = refl
  executed_so (unit.Activation key path) s h = refl
  executed_so _ s h = cc

  module _ (u first : UnitOfWork) (before steps : ℕ) (begins : may_begin d.job.unit d.job.base ≡ true)
      (first_is : first ≡ start d.job.unit d.job.moment d.job.base)
      (ended : IfSome u.end (λ e. IsPlayed d.job.texts first u before steps e)) (calls : d.calls ≡ u.calls) (after : d.after ≡ u.now.process) (end : Some d.end ≡ u.end) where
    played : IsPlayed d.job.texts first u before steps d.end
    played = subst (λ o. IfSome o (λ e. IsPlayed d.job.texts first u before steps e)) (sym end) ended

    same_first : first ≡ unit_of d.job
    same_first = first_is ∙ begins_so d.job.unit d.job.moment d.job.base begins

    talks : IsTalk d.job.texts (unit_of d.job) d.calls d.end
    talks = subst (λ f. IsTalk d.job.texts f d.calls d.end) same_first (subst (λ cs. IsTalk d.job.texts first cs d.end) (sym calls) played.talk)

    same_unit : budgeted d.end (unit_behind (unit_of d.job) d.calls) ≡ u
    same_unit = sym (played.unit ∙ ap (λ f. budgeted d.end (unit_behind f u.calls)) same_first ∙ ap (λ cs. budgeted d.end (unit_behind (unit_of d.job) cs)) (sym calls))

    pub is_done : IsDone d
    is_done = record {
      texts = follows_so d.job.unit d.job.base begins talks;
      calls = ap (λ v. v.calls) same_unit ∙ sym calls;
      after = ap (λ v. v.now.process) same_unit ∙ sym after;
      end = ap (λ v. v.end) same_unit ∙ sym end;
    }

    pub all_executed : steps ≡ before + executed d
    all_executed =
        played.steps_are
        ∙ ap (λ n. before + n) (ap (λ f. statements_of d.job.texts f u.calls) same_first ∙ ap (statements_of d.job.texts (unit_of d.job)) (sym calls) ∙ executed_so d.job.unit d.job.base begins)

-- ---- a unit that is given up

module _ (code : Name) (moment : ℕ) (base : Process) (held : _) (now : _) (calls : _) (end : Option End) where
  base_with : (frames : _) → (abended_whole code (with_frames moment base held now calls end frames)).base ≡ base
  base_with [] = refl
  base_with (f ∷ fs) = refl

  ended_with : (frames : _) → is_some (top_frame frames) ≡ true → is_some (abended_whole code (with_frames moment base held now calls end frames)).end ≡ true
  ended_with [] h = cc
  ended_with (f ∷ fs) h = refl

pub base_stays : (code : Name) (u : UnitOfWork) → (abended_whole code u).base ≡ u.base
base_stays code u = base_with code u.moment u.base u.held u.now u.calls u.end u.frames

pub ends_then : (code : Name) (u : UnitOfWork) → is_some (top_frame u.frames) ≡ true → is_some (abended_whole code u).end ≡ true
ends_then code u h = ended_with code u.moment u.base u.held u.now u.calls u.end u.frames h

-- ---- what holds on Ok

pub on_ok : {A E : Type 0} {P Q : Type 0} (r : Result A E) → (P → Q) → OnOk r P → OnOk r Q
on_ok (Ok x) f h = f h
on_ok (Err e) f h = h
