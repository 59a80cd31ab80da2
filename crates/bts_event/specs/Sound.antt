-- What every pool keeps.
use Rattle.std.specs.Prelude.{◌≡◌, ℕ, ◌≤◌, ◌+◌, Bool, true, false, cond, ◌&&◌, List, [], ◌∷◌, length, Option, Some, None}
use Rattle.std.specs.Map.{keys_of}
use Rattle.std.specs.List.Sorted.{IsStrictlySortedBy}
use Rattle.std.specs.Ordering.{nat_cmp}
use Rattle.std.specs.Cmp.Lexicographic.{slice_cmp}
use Rattle.bts_names.specs.Names.{Name, same, initial_name}
use Rattle.bts_names.specs.Named.{lookup}
use Rattle.bts_event.specs.Composites.{Composite}
use Rattle.bts_event.specs.declared.event.Event.{Event}
use Rattle.bts_event.specs.declared.event.Event.TheVariants.{Atomic as atomic, Composite as composite}
use Rattle.bts_event.specs.declared.queue.Entry.{Entry}
use Rattle.bts_event.specs.Events.{Events, has, holder, is_atomic, is_fired_atomic}
use Rattle.bts_event.specs.Pool.{Pool}

abbrev pub one_if : Bool → ℕ
one_if b = cond b 1 0

-- how often a name stands in a list
abbrev pub times : Name → List Name → ℕ
times n [] = 0
times n (m ∷ ms) = one_if (same m n) + times n ms

-- and in the queue
abbrev pub entries_of : Name → List Entry → ℕ
entries_of n [] = 0
entries_of n (e ∷ es) = one_if (same e.name n) + entries_of n es

-- each sub-event of the composite c is an atomic event of the pool, and stands there once and in no other composite;
-- its queue has exactly its fired sub-events, each once
pub record IsSoundComposite (events : Events) (c : Name) (k : Composite) : Type 0 where
  pub few : length k.subs ≤ 32
  pub once : (n : Name) → times n k.subs ≡ one_if (has k.subs n)
  pub atomics : (n : Name) → has k.subs n ≡ true → is_atomic (lookup n events) ≡ true
  pub alone : (n : Name) → has k.subs n ≡ true → holder events n ≡ Some c
  pub queue : (n : Name) → times n k.queued ≡ one_if (has k.subs n && is_fired_atomic (lookup n events))

-- how many entries a name has, by its event and by its composite
abbrev pub EntriesFit : Name → Option Event → Option Name → ℕ → Type 0
EntriesFit n None h many = same n initial_name ≡ false → many ≡ 0
EntriesFit n (Some (atomic a)) None many = many ≡ one_if a.fired
EntriesFit n (Some (atomic a)) (Some c) many = many ≡ 0
EntriesFit n (Some (composite k)) h many = Unit {0}

-- numbers rise, the first one is at least `least`, and each is at most `last`, which none falls below
abbrev pub Rises : ℕ → List Entry → ℕ → Type 0
Rises least [] last = least ≤ last + 1
Rises least (e ∷ es) last = (least ≤ e.number) × Rises (e.number + 1) es last

pub record AreSoundEvents (events : Events) : Type 0 where
  pub ordered : IsStrictlySortedBy (slice_cmp nat_cmp) (keys_of events)
  pub few : length events ≤ 256
  pub unnamed : lookup initial_name events ≡ None
  pub composites : (c : Name) (k : Composite) → lookup c events ≡ Some (composite k) → IsSoundComposite events c k

pub record IsSoundPool (pool : Pool) : Type 0 where
  pub events : AreSoundEvents pool.events
  pub entries : (n : Name) → EntriesFit n (lookup n pool.events) (holder pool.events n) (entries_of n pool.entries)
  pub numbers : Rises 0 pool.entries pool.last
