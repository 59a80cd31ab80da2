-- An event pool, and what each call leaves of it.
use Rattle.std.specs.Prelude.{ℕ, ◌+◌, Bool, true, false, not, cond, ◌&&◌, List, [], ◌∷◌, ◌++◌, Option, Some, None, Result, Ok, Err, fold}
use Rattle.std.specs.List.{filter}
use Rattle.std.specs.Map.{keys_of}
use Rattle.bts_names.specs.Names.{Name, same}
use Rattle.bts_names.specs.Named.{lookup, without, in_order}
use Rattle.bts_names.specs.declared.reply.Reason.{Reason}
use Rattle.bts_names.specs.declared.reply.Reason.TheVariants as reason
use Rattle.bts_names.specs.declared.state.EventKind.{EventKind}
use Rattle.bts_event.specs.declared.event.Event.{Event}
use Rattle.bts_event.specs.declared.event.Event.TheVariants.{Atomic as atomic, Composite as composite}
use Rattle.bts_event.specs.declared.queue.Entry.{Entry}
use Rattle.bts_event.specs.Events.{Events, is_composite, entry_kind, holder, held_at, holds, change, set_bit, with_queued, without_queued, with_rest, with_sub, without_sub}

-- the events by rising name, the entries by rising number, and the last number that an entry got
pub record Pool : Type 0 where
  pub events : Events
  pub entries : List Entry
  pub last : ℕ

abbrev pub empty_pool : Pool
empty_pool = record { events = []; entries = []; last = 0 }

-- no event and no entry is left, and the numbers go on
abbrev pub cleared : Pool → Pool
cleared pool = record { events = []; entries = []; last = pool.last }

abbrev pub with_events : Events → Pool → Pool
with_events events pool = record { events = events; entries = pool.entries; last = pool.last }

-- ---- the queue

-- one more entry, of the next number
abbrev pub entered : Name → Pool → Pool
entered n pool = record { events = pool.events; entries = pool.entries ++ record { name = n; number = pool.last + 1 } ∷ []; last = pool.last + 1 }

-- exactly the entries of that name go
abbrev pub dropped : List Entry → Name → List Entry
dropped entries n = filter (λ e. not (same e.name n)) entries

-- ---- composites

-- a composite that holds behind a change and did not hold before it
abbrev pub turns : Events → Events → Name → Bool
turns before after c = is_composite (lookup c after) && held_at after c && not (held_at before c)

-- behind a change each composite that turned makes an entry
unfoldable pub settled : Events → Pool → Pool
settled before pool = fold (λ p c. entered c p) pool (filter (turns before pool.events) (keys_of pool.events))

-- ---- new events

abbrev pub defined : Name → Event → Pool → Pool
defined n e pool = settled pool.events (with_events (in_order n e pool.events) pool)

-- ---- firing

-- a firing goes to the end of the queue of the name's composite; where it has none, it makes an entry
abbrev pub placed : Name → Option Name → Pool → Pool
placed n None pool = entered n pool
placed n (Some c) pool = with_events (change pool.events c (with_queued n)) pool

abbrev pub with_fired : Name → Pool → Pool
with_fired n pool = with_events (set_bit pool.events n true) pool

abbrev pub fired : Name → Pool → Pool
fired n pool = settled pool.events (with_fired n (placed n (holder pool.events n) pool))

-- the firing leaves where it stands
abbrev pub withdrawn : Name → Option Name → Pool → Pool
withdrawn n None pool = record { events = pool.events; entries = dropped pool.entries n; last = pool.last }
withdrawn n (Some c) pool = with_events (change pool.events c (without_queued n)) pool

abbrev pub with_unfired : Name → Pool → Pool
with_unfired n pool = with_events (set_bit pool.events n false) pool

abbrev pub unfired : Name → Pool → Pool
unfired n pool = with_unfired n (withdrawn n (holder pool.events n) pool)

-- ---- deleting

-- a sub-event leaves its composite and that one's queue
abbrev pub parted : Name → Option Name → Events → Events
parted n None events = events
parted n (Some c) events = change events c (without_sub n)

abbrev pub deleted : Name → Pool → Pool
deleted n pool = settled pool.events (record {
  events = without n (parted n (holder pool.events n) pool.events);
  entries = dropped pool.entries n;
  last = pool.last;
})

-- the same where there may be no such event
abbrev pub removed_at : Option Event → Name → Pool → Pool
removed_at None n pool = pool
removed_at (Some e) n pool = deleted n pool

abbrev pub removed : Name → Pool → Pool
removed n pool = removed_at (lookup n pool.events) n pool

-- ---- sub-events

abbrev pub subevent_added : Name → Name → Pool → Pool
subevent_added c s pool = settled pool.events (with_events (change pool.events c (with_sub s)) pool)

abbrev pub subevent_removed : Name → Name → Pool → Pool
subevent_removed c s pool = settled pool.events (with_events (change pool.events c (without_sub s)) pool)

-- ---- retrieving

-- the name and kind of the first entry
abbrev pub first_entry : List Entry → Events → Option (Name × EventKind)
first_entry [] events = None
first_entry (e ∷ es) events = Some (e.name, entry_kind (lookup e.name events))

-- the first entry goes, and its event, if it is atomic, is not fired any more
abbrev pub first_taken : List Entry → Pool → Pool
first_taken [] pool = pool
first_taken (e ∷ es) pool = record { events = set_bit pool.events e.name false; entries = es; last = pool.last }

abbrev pub retrieved : Pool → Pool
retrieved pool = first_taken pool.entries pool

-- the first of a composite's sub-event queue
abbrev pub first_queued : List Name → Events → Result (Name × EventKind) Reason
first_queued [] events = Err reason.Empty
first_queued (s ∷ ss) events = Ok (s, entry_kind (lookup s events))

abbrev pub subevent_of : Option Event → Events → Result (Name × EventKind) Reason
subevent_of None events = Err reason.Missing
subevent_of (Some (atomic a)) events = Err reason.NotComposite
subevent_of (Some (composite c)) events = first_queued c.queued events

abbrev pub next_subevent : Name → Pool → Result (Name × EventKind) Reason
next_subevent c pool = subevent_of (lookup c pool.events) pool.events

abbrev pub subevent_taken : Result (Name × EventKind) Reason → Name → Pool → Pool
subevent_taken (Err r) c pool = pool
subevent_taken (Ok (s, k)) c pool = with_events (set_bit (change pool.events c with_rest) s false) pool

abbrev pub subevent_retrieved : Name → Pool → Pool
subevent_retrieved c pool = subevent_taken (next_subevent c pool) c pool

-- ---- testing

abbrev pub test_of : Events → Option Event → Result Bool Reason
test_of events None = Err reason.Missing
test_of events (Some (atomic a)) = Ok a.fired
test_of events (Some (composite c)) = Ok (holds events c)

-- ---- where one composite alone can turn

-- this composite makes an entry where it did not hold before and holds now
abbrev pub settled_at : Bool → Name → Pool → Pool
settled_at before c pool = cond (not before && held_at pool.events c) (entered c pool) pool

-- an event is taken out, and its composite is looked at
abbrev pub deleted_from : Option Name → Name → Pool → Pool
deleted_from None n pool = record { events = without n pool.events; entries = dropped pool.entries n; last = pool.last }
deleted_from (Some c) n pool = settled_at (held_at pool.events c) c (record {
  events = without n (change pool.events c (without_sub n));
  entries = dropped pool.entries n;
  last = pool.last;
})
