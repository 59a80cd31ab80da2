-- Processes behind committed units: they stay sound, and within their bound.
use Rattle.std.proofs.Common.{◌≡◌, ℕ, ◌+◌, ◌*◌, ◌≤◌, Bool, true, false, cond, not, ◌&&◌, [], length, Option, Some, None, option_map, refl, sym, ap, ◌∙◌, subst, arith, true≢false}
use Rattle.bts_command.specs.Kinds.{is_committed, is_kept, is_rollback, key_of}
use Rattle.bts_command.specs.declared.ended.End.{End}
use Rattle.bts_command.specs.declared.ended.End.TheVariants.{Commit, Rollback, Abend}
use Rattle.bts_command.specs.declared.ended.Ended.{Ended}
use Rattle.bts_command.specs.declared.ended.UnitKind.{UnitKind}
use Rattle.bts_command.specs.declared.ended.UnitKind.TheVariants as unit
use Rattle.bts_names.specs.declared.key.Key.{Key}
use Rattle.bts_rows.proofs.Repositories.{format_at, put_sound, sound_at}
use Rattle.bts_tree.specs.Processes.{Process, format_of}
use Rattle.bts_tree.specs.Repositories.{Processes, process_at}
use Rattle.bts_tree.specs.Soundness.{AreSound, IsSoundInFrames, bound_of_units}
use Rattle.bts_unit.specs.Playing.{Plays, PlaysOn, after, finished, process_of, put_back}
use Rattle.bts_unit.specs.Refusals.{is_played}
use Rattle.bts_unit.specs.Soundness.{definitions_by}
use Rattle.bts_unit.proofs.Applied.{AreGiven, after_rollback, begins_so, behind_is_of, left_format, played_within, process_is, stays_sound, within_all}

-- ---- the kinds of units

kept_with_key : (kind : UnitKind) (key : Key) → key_of kind ≡ Some key → is_kept kind ≡ true
kept_with_key (unit.Clock item) key e = cc
kept_with_key (unit.Settle item) key e = cc
kept_with_key (unit.Browse item) key e = cc
kept_with_key kind key e = refl

kept_without : (kind : UnitKind) → key_of kind ≡ None → is_kept kind ≡ false
kept_without (unit.Clock item) e = refl
kept_without (unit.Settle item) e = refl
kept_without (unit.Browse item) e = refl
kept_without kind e = cc

process_without : (kind : UnitKind) (repo : Processes) → key_of kind ≡ None → process_of kind repo ≡ None
process_without (unit.Clock item) repo e = refl
process_without (unit.Settle item) repo e = refl
process_without (unit.Browse item) repo e = refl
process_without kind repo e = cc

put_none : (e : End) (repo : Processes) → put_back e None repo ≡ repo
put_none Commit repo = refl
put_none Rollback repo = refl
put_none (Abend code) repo = refl

pub once_at_most : (kind : UnitKind) → definitions_by kind ≤ 1
once_at_most (unit.Request item key) = omega arith
once_at_most kind = omega arith

rolled : (b c : Bool) → b ≡ true → (b && not c) ≡ false → c ≡ true
rolled true true h e = refl
rolled true false h e = cc
rolled false c h e = cc

-- ---- one unit

put_back_format : (e : End) (o : Option Process) (repo : Processes) → (put_back e o repo).format ≡ repo.format
put_back_format e None repo = refl
put_back_format Commit (Some s) repo = refl
put_back_format Rollback (Some s) repo = refl
put_back_format (Abend code) (Some s) repo = refl

pub put_back_sound : (e : End) (s : Process) (repo : Processes) → AreSound repo → format_of s ≡ repo.format → IsSoundInFrames [] s → AreSound (put_back e (Some s) repo)
put_back_sound Commit s repo sound f own = put_sound s repo sound f own
put_back_sound Rollback s repo sound f own = sound
put_back_sound (Abend code) s repo sound f own = put_sound s repo sound f own

module _ (repo : Processes) (e : Ended) where
  uncommitted_with : (key : Key) → key_of e.unit ≡ Some key → is_committed e ≡ false → after repo e ≡ repo
  uncommitted_with key of h = sym (after_rollback repo e key of (rolled (is_kept e.unit) (is_rollback e.end) (kept_with_key e.unit key of) h))

  uncommitted_without : key_of e.unit ≡ None → after repo e ≡ repo
  uncommitted_without of = ap (λ o. put_back e.end (option_map (λ s. (finished e s).now.process) o) repo) (process_without e.unit repo of) ∙ put_none e.end repo

  module _ (sound : AreSound repo) (plays : Plays repo e) (played : is_played e.unit ≡ true) (given : AreGiven e) where
    sound_by_key : (o : Option Key) → key_of e.unit ≡ o → AreSound (after repo e)
    sound_by_key None of = subst AreSound (sym (uncommitted_without of)) sound
    sound_by_key (Some key) of =
        let s = process_at key repo in
        let may = begins_so e.unit key e.moment repo of played plays.enabled in
        let own = sound_at key repo sound in
        let replay = subst (PlaysOn e) (process_is e.unit key repo of) plays.given in
        subst AreSound (sym (behind_is_of repo e key of))
        (put_back_sound e.end _ repo sound (left_format e s may own given replay ∙ format_at key repo sound) (stays_sound e s may own given replay))

    pub stays_all_sound : AreSound (after repo e) × ((after repo e).format ≡ repo.format)
    stays_all_sound = (sound_by_key (key_of e.unit) refl, put_back_format e.end (option_map (λ s. (finished e s).now.process) (process_of e.unit repo)) repo)

  module _ (units : ℕ) (sound : AreSound repo) (plays : Plays repo e) (played : is_played e.unit ≡ true) (few : length e.calls ≤ 500) (given : AreGiven e) (bound : bound_of_units units repo ≡ true) where
    abbrev Bound : ℕ → Processes → Type 0
    Bound n t = bound_of_units n t ≡ true

    one_more : (key : Key) → key_of e.unit ≡ Some key → Bound (units + 1) (after repo e)
    one_more key of =
        let once = once_at_most e.unit in
        within_all (units + definitions_by e.unit) (512 * units + length e.calls) (units + 1) (512 * (units + 1)) (omega (arith, once)) (omega (arith, few)) (after repo e).items
        (played_within units (512 * units) repo e bound key of played plays.enabled sound given (subst (PlaysOn e) (process_is e.unit key repo of) plays.given))

    counted : (b : Bool) → is_committed e ≡ b → (b ≡ true → Bound (units + 1) (after repo e)) → (b ≡ false → after repo e ≡ repo) → Bound (cond b (units + 1) units) (after repo e)
    counted true is f g = f refl
    counted false is f g = subst (Bound units) (sym (g refl)) bound

    by_key : (o : Option Key) → key_of e.unit ≡ o → Bound (cond (is_committed e) (units + 1) units) (after repo e)
    by_key None of =
        counted (is_committed e) refl (λ c. absurd (true≢false (sym c ∙ ap (λ b. b && not (is_rollback e.end)) (kept_without e.unit of)))) (λ c. uncommitted_without of)
    by_key (Some key) of = counted (is_committed e) refl (λ c. one_more key of) (uncommitted_with key of)

    pub keeps_bound : Bound (cond (is_committed e) (units + 1) units) (after repo e)
    keeps_bound = by_key (key_of e.unit) refl
