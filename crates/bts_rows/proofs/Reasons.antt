-- What pools and rows refuse for is a reason.
use Rattle.std.proofs.Common.{◌≡◌, ℕ, Bool, true, false, cond, ◌&&◌, List, [], ◌∷◌, ◌++◌, Option, Some, None, is_none, Result, Ok, Err, if◌then◌else◌, refl}
use Rattle.std.specs.List.{list_any}
use Rattle.bts_names.specs.Names.{Name}
use Rattle.bts_names.specs.Named.{lookup, is_there}
use Rattle.bts_names.specs.declared.reply.Reason.{Reason}
use Rattle.bts_names.specs.declared.reply.Reason.TheVariants as reason
use Rattle.bts_event.specs.declared.event.Event.{Event}
use Rattle.bts_event.specs.declared.event.Event.TheVariants.{Atomic as atomic, Composite as composite}
use Rattle.bts_event.specs.Events.{Events, completion_of, has, holder, is_fired_atomic, is_input}
use Rattle.bts_event.specs.Pool.{first_queued, subevent_of, test_of}
use Rattle.bts_event.specs.Refusals as refusals
use Rattle.bts_timer.specs.declared.timer.Timer.{Timer as OneTimer}
use Rattle.bts_timer.specs.Due.{is_unexpired}
use Rattle.bts_timer.specs.Timers.{missing_or_ended, status_or_missing}
use Rattle.bts_rows.specs.Completions.{completion_refusal, is_other}
use Rattle.bts_rows.specs.Signals.{input_refusal, input_refusal_of}
use Rattle.bts_rows.specs.Replies.{is_no_reason}

-- what a pool or a row refuses for
abbrev pub AreReasons : Option Reason → Type 0
AreReasons None = Unit {0}
AreReasons (Some why) = is_no_reason why ≡ false

abbrev pub AreErrors : {A : Type 0} → Result A Reason → Type 0
AreErrors (Ok x) = Unit {0}
AreErrors (Err why) = is_no_reason why ≡ false

-- ---- the reasons of pools

pub reason_if : (b : Bool) (why : Reason) (o : Option Reason) → is_no_reason why ≡ false → AreReasons o → AreReasons (cond b (Some why) o)
reason_if true why o h g = h
reason_if false why o h g = g

first_reason : (a b : Option Reason) → AreReasons a → AreReasons b → AreReasons (refusals.or_else a b)
first_reason None b h g = g
first_reason (Some why) b h g = h

pub reasons_define : (n : Name) (es : Events) → AreReasons (refusals.define_refusal n es)
reasons_define n es =
    first_reason _ _ (reason_if (is_there n es) reason.Taken None refl tt) (reason_if (refusals.is_full es) reason.Limit None refl tt)

sub_case : (o : Option Event) (stood : Bool) (h : Option Name) → AreReasons (refusals.sub_refusal_of o stood h)
sub_case None stood h = refl
sub_case (Some (composite c)) stood h = refl
sub_case (Some (atomic a)) true h = refl
sub_case (Some (atomic a)) false (Some c) = refl
sub_case (Some (atomic a)) false None = reason_if a.fired reason.Fired None refl tt

reasons_sub : (es : Events) (earlier : List Name) (s : Name) → AreReasons (refusals.sub_refusal es earlier s)
reasons_sub es earlier s = sub_case (lookup s es) (has earlier s) (holder es s)

reasons_subs : (es : Events) (earlier ss : List Name) → AreReasons (refusals.subs_refusal es earlier ss)
reasons_subs es earlier [] = tt
reasons_subs es earlier (s ∷ ss) = first_reason _ _ (reasons_sub es earlier s) (reasons_subs es (earlier ++ s ∷ []) ss)

pub reasons_composite : (n : Name) (subs : List Name) (es : Events) → AreReasons (refusals.composite_refusal n subs es)
reasons_composite n subs es =
    first_reason _ _ (reason_if (is_there n es) reason.Taken None refl tt)
    (first_reason _ _ (reasons_subs es [] subs) (reason_if (refusals.is_full es) reason.Limit None refl tt))

pub reasons_not_composite : (o : Option Event) → AreReasons (refusals.not_composite o)
reasons_not_composite None = refl
reasons_not_composite (Some (atomic a)) = refl
reasons_not_composite (Some (composite c)) = tt

pub reasons_add : (c s : Name) (es : Events) → AreReasons (refusals.add_refusal c s es)
reasons_add c s es =
    first_reason _ _ (reasons_not_composite (lookup c es))
    (first_reason _ _ (reasons_sub es [] s) (reason_if (refusals.is_full_composite (lookup c es)) reason.Limit None refl tt))

pub leave_case : (o : Option Event) (s : Name) (es : Events) → AreReasons (refusals.leave_refusal_of o s es)
leave_case None s es = refl
leave_case (Some (atomic a)) s es = refl
leave_case (Some (composite c)) s es = by (has c.subs s)
  where
    by : (b : Bool) → AreReasons (cond b (refusals.when (is_fired_atomic (lookup s es)) reason.Fired) (Some reason.NotSubevent))
    by true = reason_if (is_fired_atomic (lookup s es)) reason.Fired None refl tt
    by false = refl

pub delete_case : (es : Events) (o : Option Event) → AreReasons (refusals.delete_refusal_of es o)
delete_case es None = refl
delete_case es (Some (composite c)) = reason_if (list_any (λ s. is_fired_atomic (lookup s es)) c.subs) reason.Fired None refl tt
delete_case es (Some (atomic a)) = by (is_input a.trigger)
  where
    by : (b : Bool) → AreReasons (cond b None (Some reason.Kind))
    by true = tt
    by false = refl

pub errors_test : (es : Events) (o : Option Event) → AreErrors (test_of es o)
errors_test es None = refl
errors_test es (Some (atomic a)) = tt
errors_test es (Some (composite c)) = tt

queued_case : (q : List Name) (es : Events) → AreErrors (first_queued q es)
queued_case [] es = refl
queued_case (s ∷ ss) es = tt

pub errors_sub : (o : Option Event) (es : Events) → AreErrors (subevent_of o es)
errors_sub None es = refl
errors_sub (Some (atomic a)) es = refl
errors_sub (Some (composite c)) es = queued_case c.queued es

pub force_case : (o : Option OneTimer) → AreReasons (missing_or_ended o)
force_case None = refl
force_case (Some x) = by (is_unexpired x)
  where
    by : (b : Bool) → AreReasons (if b then None else Some reason.Ended)
    by true = tt
    by false = refl

pub errors_status : (o : Option OneTimer) → AreErrors (status_or_missing o)
errors_status None = refl
errors_status (Some x) = tt

-- ---- the reasons of rows

input_case : (o : Option Event) → AreReasons (input_refusal_of o)
input_case None = refl
input_case (Some (composite c)) = refl
input_case (Some (atomic a)) = by (is_input a.trigger) a.fired
  where
    by : (b f : Bool) → AreReasons (cond b (cond f (Some reason.Fired) None) (Some reason.Kind))
    by true f = reason_if f reason.Fired None refl tt
    by false f = refl

pub reasons_input : (es : Events) (e : Option Name) → AreReasons (input_refusal es e)
reasons_input es None = tt
reasons_input es (Some e) = input_case (lookup e es)

pub reasons_completion : (n : ℕ) (name : Option Name) (es : Events) → AreReasons (completion_refusal n name es)
reasons_completion n None es = tt
reasons_completion n (Some name) es =
    reason_if (is_other n (lookup name es)) reason.Taken _ refl
    (reason_if (is_none (completion_of n es) && refusals.is_full es) reason.Limit None refl tt)
