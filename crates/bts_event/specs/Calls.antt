-- Lists of calls on a pool, and what becomes of the entries of its queue.
use Rattle.std.specs.Prelude.{◌≡◌, ◌≤◌, Bool, true, false, cond, List, [], ◌∷◌, ◌++◌, length, nat_lt, Option, Some, None}
use Rattle.std.specs.List.{filter}
use Rattle.bts_names.specs.Names.{Name, same, initial_name}
use Rattle.bts_names.specs.Named.{lookup, is_there}
use Rattle.bts_names.specs.declared.reply.Reason.{Reason}
use Rattle.bts_event.specs.declared.event.Trigger.{Trigger}
use Rattle.bts_event.specs.declared.queue.Entry.{Entry}
use Rattle.bts_event.specs.Events.{is_atomic, is_composite, new_atomic, new_composite}
use Rattle.bts_event.specs.Pool.{Pool, cleared, defined, deleted, dropped, entered, fired, removed, retrieved, subevent_added, subevent_removed, subevent_retrieved, unfired}
use Rattle.bts_event.specs.Refusals.{add_refusal, composite_refusal, define_refusal, delete_refusal, fire_refusal, leave_refusal}

-- the calls that may change a pool
pub data Call : Type 0 where
  define : Name → Trigger → Call
  define_composite : Name → Bool → List Name → Call
  add_subevent : Name → Name → Call
  remove_subevent : Name → Name → Call
  delete : Name → Call
  remove : Name → Call
  fire : Name → Call
  unfire : Name → Call
  start : Call
  clear : Call
  retrieve : Call
  retrieve_subevent : Name → Call

-- what the caller owes
abbrev pub CallerOwes : Call → Pool → Type 0
CallerOwes (define n trigger) pool = same n initial_name ≡ false
CallerOwes (define_composite n all subs) pool = (same n initial_name ≡ false) × (length subs ≤ 8)
CallerOwes (add_subevent c s) pool = Unit {0}
CallerOwes (remove_subevent c s) pool = Unit {0}
CallerOwes (delete n) pool = Unit {0}
CallerOwes (remove n) pool = is_composite (lookup n pool.events) ≡ false
CallerOwes (fire n) pool = Unit {0}
CallerOwes (unfire n) pool = is_atomic (lookup n pool.events) ≡ true
CallerOwes start pool = Unit {0}
CallerOwes clear pool = Unit {0}
CallerOwes retrieve pool = Unit {0}
CallerOwes (retrieve_subevent c) pool = Unit {0}

-- the pool as it was where there is a reason against the call
abbrev pub unless : Option Reason → Pool → Pool → Pool
unless None done pool = done
unless (Some r) done pool = pool

-- what a call leaves that found the memory that it asked for
abbrev pub after : Call → Pool → Pool
after (define n trigger) pool = unless (define_refusal n pool.events) (defined n (new_atomic trigger) pool) pool
after (define_composite n all subs) pool = unless (composite_refusal n subs pool.events) (defined n (new_composite all subs) pool) pool
after (add_subevent c s) pool = unless (add_refusal c s pool.events) (subevent_added c s pool) pool
after (remove_subevent c s) pool = unless (leave_refusal c s pool.events) (subevent_removed c s pool) pool
after (delete n) pool = unless (delete_refusal n pool.events) (deleted n pool) pool
after (remove n) pool = removed n pool
after (fire n) pool = unless (fire_refusal n pool.events) (fired n pool) pool
after (unfire n) pool = unfired n pool
after start pool = entered initial_name pool
after clear pool = cleared pool
after retrieve pool = retrieved pool
after (retrieve_subevent c) pool = subevent_retrieved c pool

abbrev pub behind : List Call → Pool → Pool
behind [] pool = pool
behind (c ∷ cs) pool = behind cs (after c pool)

-- each call is made where its caller may make it
abbrev pub AreOwed : List Call → Pool → Type 0
AreOwed [] pool = Unit {0}
AreOwed (c ∷ cs) pool = CallerOwes c pool × AreOwed cs (after c pool)

-- ---- entries

abbrev pub rest_of_queue : List Entry → List Entry
rest_of_queue [] = []
rest_of_queue (e ∷ es) = es

abbrev pub dropped_unless : Option Reason → Name → List Entry → List Entry
dropped_unless None n entries = dropped entries n
dropped_unless (Some r) n entries = entries

-- the entries that a call leaves in the queue
abbrev pub kept : Call → Pool → List Entry
kept (define n trigger) pool = pool.entries
kept (define_composite n all subs) pool = pool.entries
kept (add_subevent c s) pool = pool.entries
kept (remove_subevent c s) pool = pool.entries
kept (delete n) pool = dropped_unless (delete_refusal n pool.events) n pool.entries
kept (remove n) pool = cond (is_there n pool.events) (dropped pool.entries n) pool.entries
kept (fire n) pool = pool.entries
kept (unfire n) pool = dropped pool.entries n
kept start pool = pool.entries
kept clear pool = []
kept retrieve pool = rest_of_queue pool.entries
kept (retrieve_subevent c) pool = pool.entries

-- the entries that a call makes
abbrev pub made : Call → Pool → List Entry
made c pool = filter (λ e. nat_lt pool.last e.number) (after c pool).entries

-- and those that a list of calls makes, in order
abbrev pub made_by : List Call → Pool → List Entry
made_by [] pool = []
made_by (c ∷ cs) pool = made c pool ++ made_by cs (after c pool)
