-- The events of one activity: what each is, which are fired, and how one of them changes.
use Rattle.std.specs.Prelude.{ℕ, Bool, true, false, not, cond, ◌&&◌, List, [], ◌∷◌, ◌++◌, length, nat_eq, Option, Some, None}
use Rattle.std.specs.List.{list_all, list_any, filter}
use Rattle.bts_names.specs.Names.{Name, same}
use Rattle.bts_names.specs.Named.{lookup}
use Rattle.bts_names.specs.declared.state.EventKind.{EventKind}
use Rattle.bts_names.specs.declared.state.EventKind.TheVariants as kind
use Rattle.bts_event.specs.Composites.{Composite}
use Rattle.bts_event.specs.declared.event.Event.{Event}
use Rattle.bts_event.specs.declared.event.Event.TheVariants.{Atomic as atomic, Composite as composite}
use Rattle.bts_event.specs.declared.event.Trigger.{Trigger}
use Rattle.bts_event.specs.declared.event.Trigger.TheVariants.{Input, Completion, Timer}

-- events by rising name
abbrev pub Events : Type 0
Events = List (Name × Event)

-- ---- what an event is

abbrev pub is_atomic : Option Event → Bool
is_atomic None = false
is_atomic (Some (atomic a)) = true
is_atomic (Some (composite c)) = false

abbrev pub is_composite : Option Event → Bool
is_composite None = false
is_composite (Some (atomic a)) = false
is_composite (Some (composite c)) = true

abbrev pub kind_of_trigger : Trigger → EventKind
kind_of_trigger Input = kind.Input
kind_of_trigger (Completion child) = kind.Activity
kind_of_trigger (Timer timer) = kind.Timer

abbrev pub is_input : Trigger → Bool
is_input Input = true
is_input (Completion child) = false
is_input (Timer timer) = false

abbrev pub kind_of : Event → EventKind
kind_of (atomic a) = kind_of_trigger a.trigger
kind_of (composite c) = kind.Composite

abbrev pub kind_at : Option Event → Option EventKind
kind_at None = None
kind_at (Some e) = Some (kind_of e)

-- an entry without an event in the pool is the system's
abbrev pub entry_kind : Option Event → EventKind
entry_kind None = kind.System
entry_kind (Some e) = kind_of e

abbrev pub is_completion : Event → Bool
is_completion (atomic a) = elim a.trigger [ Input ↦ false | Completion n ↦ true | Timer t ↦ false ]
is_completion (composite c) = false

abbrev pub is_completion_of : ℕ → Event → Bool
is_completion_of child (atomic a) = elim a.trigger [ Input ↦ false | Completion n ↦ nat_eq n child | Timer t ↦ false ]
is_completion_of child (composite c) = false

abbrev pub is_event_of : Name → Event → Bool
is_event_of timer (atomic a) = elim a.trigger [ Input ↦ false | Completion n ↦ false | Timer t ↦ same t timer ]
is_event_of timer (composite c) = false

-- ---- names in lists

abbrev pub has : List Name → Name → Bool
has names n = list_any (λ m. same m n) names

-- all names but that one
abbrev pub except : List Name → Name → List Name
except names n = filter (λ m. not (same m n)) names

-- whether a name is one of an event's sub-events
abbrev pub lists : Event → Name → Bool
lists (atomic a) n = false
lists (composite c) n = has c.subs n

-- the name of the first event that a test finds
abbrev pub first_where : (Event → Bool) → Events → Option Name
first_where f [] = None
first_where f (e ∷ es) = cond (f e.1) (Some e.0) (first_where f es)

-- the composite of which a name is a sub-event
abbrev pub holder : Events → Name → Option Name
holder events n = first_where (λ e. lists e n) events

-- the completion event of a child, and the event of a timer
abbrev pub completion_of : ℕ → Events → Option Name
completion_of child events = first_where (is_completion_of child) events

abbrev pub event_of : Name → Events → Option Name
event_of timer events = first_where (is_event_of timer) events

abbrev pub has_completion : Events → Bool
has_completion events = list_any (λ e. is_completion e.1) events

-- ---- which events are fired

abbrev pub is_fired_atomic : Option Event → Bool
is_fired_atomic None = false
is_fired_atomic (Some (atomic a)) = a.fired
is_fired_atomic (Some (composite c)) = false

-- of all: there are sub-events and each is fired; of any: one is
abbrev pub holds : Events → Composite → Bool
holds events c =
    cond c.all
    (not (nat_eq (length c.subs) 0) && list_all (λ s. is_fired_atomic (lookup s events)) c.subs)
    (list_any (λ s. is_fired_atomic (lookup s events)) c.subs)

abbrev pub value_of : Events → Option Event → Bool
value_of events None = false
value_of events (Some (atomic a)) = a.fired
value_of events (Some (composite c)) = holds events c

-- whether an event is fired, or a composite holds; no status of a composite is stored
abbrev pub held_at : Events → Name → Bool
held_at events n = value_of events (lookup n events)

-- ---- changes of one event

-- f changes the event of that name
abbrev pub change : Events → Name → (Event → Event) → Events
change [] n f = []
change (e ∷ es) n f = cond (same n e.0) ((e.0, f e.1) ∷ es) (e ∷ change es n f)

-- an atomic event's bit is b; another event stays
abbrev pub with_bit : Bool → Event → Event
with_bit b (atomic a) = atomic (record { trigger = a.trigger; fired = b })
with_bit b (composite c) = composite c

abbrev pub set_bit : Events → Name → Bool → Events
set_bit events n b = change events n (with_bit b)

-- g changes a composite's sub-event queue
abbrev pub requeue : (List Name → List Name) → Event → Event
requeue g (atomic a) = atomic a
requeue g (composite c) = composite (record { all = c.all; subs = c.subs; queued = g c.queued })

abbrev pub with_queued : Name → Event → Event
with_queued s = requeue (λ q. q ++ s ∷ [])

abbrev pub without_queued : Name → Event → Event
without_queued s = requeue (λ q. except q s)

abbrev pub rest_of : List Name → List Name
rest_of [] = []
rest_of (s ∷ ss) = ss

abbrev pub with_rest : Event → Event
with_rest = requeue rest_of

abbrev pub with_sub : Name → Event → Event
with_sub s (atomic a) = atomic a
with_sub s (composite c) = composite (record { all = c.all; subs = c.subs ++ s ∷ []; queued = c.queued })

abbrev pub without_sub : Name → Event → Event
without_sub s (atomic a) = atomic a
without_sub s (composite c) = composite (record { all = c.all; subs = except c.subs s; queued = except c.queued s })

-- ---- new events

abbrev pub new_atomic : Trigger → Event
new_atomic trigger = atomic (record { trigger = trigger; fired = false })

abbrev pub new_composite : Bool → List Name → Event
new_composite all subs = composite (record { all = all; subs = subs; queued = [] })
