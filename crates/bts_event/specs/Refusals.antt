-- Why a call of a pool is refused.
use Rattle.std.specs.Prelude.{◌≡◌, Bool, true, false, cond, List, [], ◌∷◌, ◌++◌, length, nat_le, Option, Some, None, Result, Ok, Err}
use Rattle.std.specs.List.{list_any}
use Rattle.bts_names.specs.Names.{Name}
use Rattle.bts_names.specs.Named.{lookup, is_there}
use Rattle.bts_names.specs.declared.reply.Reason.{Reason}
use Rattle.bts_names.specs.declared.reply.Reason.TheVariants as reason
use Rattle.bts_event.specs.declared.error.PoolError.{PoolError}
use Rattle.bts_event.specs.declared.error.PoolError.TheVariants.{Refused, NoMemory}
use Rattle.bts_event.specs.declared.event.Event.{Event}
use Rattle.bts_event.specs.declared.event.Event.TheVariants.{Atomic as atomic, Composite as composite}
use Rattle.bts_event.specs.Events.{Events, has, holder, is_fired_atomic, is_input}

-- refused exactly for this reason, where there is one; want of memory comes where there is none
abbrev pub Answers : {T : Type 0} → Result T PoolError → Option Reason → Type 0
Answers (Ok x) why = why ≡ None
Answers (Err (Refused r)) why = why ≡ Some r
Answers (Err NoMemory) why = why ≡ None

-- the first reason that there is
abbrev pub or_else : Option Reason → Option Reason → Option Reason
or_else (Some r) w = Some r
or_else None w = w

abbrev pub when : Bool → Reason → Option Reason
when b r = cond b (Some r) None

-- ---- limits

abbrev pub is_full : Events → Bool
is_full events = nat_le 256 (length events)

abbrev pub is_full_composite : Option Event → Bool
is_full_composite None = false
is_full_composite (Some (atomic a)) = false
is_full_composite (Some (composite c)) = nat_le 32 (length c.subs)

-- ---- the reasons of each call, in order

abbrev pub define_refusal : Name → Events → Option Reason
define_refusal n events = or_else (when (is_there n events) reason.Taken) (when (is_full events) reason.Limit)

-- why a name can't become a sub-event: `stood` says that it stood earlier in the list, h is the composite that has it
abbrev pub sub_refusal_of : Option Event → Bool → Option Name → Option Reason
sub_refusal_of None stood h = Some reason.Missing
sub_refusal_of (Some (composite c)) stood h = Some reason.NotAtomic
sub_refusal_of (Some (atomic a)) true h = Some reason.IsSubevent
sub_refusal_of (Some (atomic a)) false (Some c) = Some reason.IsSubevent
sub_refusal_of (Some (atomic a)) false None = when a.fired reason.Fired

abbrev pub sub_refusal : Events → List Name → Name → Option Reason
sub_refusal events earlier s = sub_refusal_of (lookup s events) (has earlier s) (holder events s)

-- each name is looked at behind those `earlier`
abbrev pub subs_refusal : Events → List Name → List Name → Option Reason
subs_refusal events earlier [] = None
subs_refusal events earlier (s ∷ ss) = or_else (sub_refusal events earlier s) (subs_refusal events (earlier ++ s ∷ []) ss)

abbrev pub composite_refusal : Name → List Name → Events → Option Reason
composite_refusal n subs events =
    or_else (when (is_there n events) reason.Taken) (or_else (subs_refusal events [] subs) (when (is_full events) reason.Limit))

abbrev pub not_composite : Option Event → Option Reason
not_composite None = Some reason.Missing
not_composite (Some (atomic a)) = Some reason.NotComposite
not_composite (Some (composite c)) = None

abbrev pub add_refusal : Name → Name → Events → Option Reason
add_refusal c s events =
    or_else (not_composite (lookup c events)) (or_else (sub_refusal events [] s) (when (is_full_composite (lookup c events)) reason.Limit))

abbrev pub leave_refusal_of : Option Event → Name → Events → Option Reason
leave_refusal_of None s events = Some reason.Missing
leave_refusal_of (Some (atomic a)) s events = Some reason.NotComposite
leave_refusal_of (Some (composite c)) s events = cond (has c.subs s) (when (is_fired_atomic (lookup s events)) reason.Fired) (Some reason.NotSubevent)

abbrev pub leave_refusal : Name → Name → Events → Option Reason
leave_refusal c s events = leave_refusal_of (lookup c events) s events

abbrev pub delete_refusal_of : Events → Option Event → Option Reason
delete_refusal_of events None = Some reason.Missing
delete_refusal_of events (Some (atomic a)) = cond (is_input a.trigger) None (Some reason.Kind)
delete_refusal_of events (Some (composite c)) = when (list_any (λ s. is_fired_atomic (lookup s events)) c.subs) reason.Fired

abbrev pub delete_refusal : Name → Events → Option Reason
delete_refusal n events = delete_refusal_of events (lookup n events)

abbrev pub fire_refusal_of : Option Event → Option Reason
fire_refusal_of None = Some reason.Missing
fire_refusal_of (Some (composite c)) = Some reason.NotAtomic
fire_refusal_of (Some (atomic a)) = when a.fired reason.Fired

abbrev pub fire_refusal : Name → Events → Option Reason
fire_refusal n events = fire_refusal_of (lookup n events)
