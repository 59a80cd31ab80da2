-- A parent whose pool changes at the completion event of one child, and a child that is told, each in its place.
use Rattle.std.proofs.Common.{◌≡◌, ℕ, Bool, true, false, cond, not, ◌||◌, nat_eq, Option, Some, None, option_map, refl, sym, ap, subst, ◌∙◌, true≢false}
use Rattle.std.proofs.lemmas.Bool.{eqb-true, eq-eqb}
use Rattle.bts_names.specs.Names.{Name, ActivityPath, same, same_exact, initial_name}
use Rattle.bts_names.specs.Named.{lookup}
use Rattle.bts_event.specs.declared.event.Event.{Event}
use Rattle.bts_event.specs.declared.event.Event.TheVariants.{Atomic as atomic, Composite as composite}
use Rattle.bts_event.specs.declared.event.Trigger.{Trigger}
use Rattle.bts_event.specs.declared.event.Trigger.TheVariants.{Input, Completion, Timer}
use Rattle.bts_event.specs.Calls as calls
use Rattle.bts_event.specs.Events.{Events, completion_of, holder, is_atomic, is_completion_of, is_fired_atomic, new_atomic, with_bit, without_queued}
use Rattle.bts_event.specs.Pool.{Pool, defined, deleted, fired, removed, removed_at, unfired, withdrawn}
use Rattle.bts_event.specs.Refusals.{define_refusal}
use Rattle.bts_event.specs.Sound.{IsSoundPool}
use Rattle.bts_event.proofs.Accounts.{after_sound}
use Rattle.bts_event.proofs.Readings.{lookup-change}
use Rattle.bts_event.proofs.Same.{same_refl}
use Rattle.bts_tree.specs.declared.activity.Activity.{Activity}
use Rattle.bts_tree.specs.Activities.{Activities, is_complete}
use Rattle.bts_tree.specs.Soundness.{IsSoundActivity, needs_event}
use Rattle.bts_rows.specs.Timing.{fired_if, removed_if}
use Rattle.bts_rows.specs.Completions.{rearmed, rearmed_by}
use Rattle.bts_rows.proofs.Fits.{fit_now, sound_define, sound_fire}
use Rattle.bts_rows.proofs.Completions.{completes}
use Rattle.bts_rows.proofs.Keeps.{Keeps, cleared_bit, is_owned, is_picked, keeps_both, keeps_change, keeps_cleared, keeps_same, picked}
use Rattle.bts_rows.proofs.OwnedEvents.{gone, may_fire, not_composite, read_new, read_own, unpicked_from}
use Rattle.bts_rows.proofs.PoolKeeps.{define_free, keeps_defined, keeps_deleted, keeps_firing, picked-firing}
use Rattle.bts_rows.proofs.TimerCalls.{first_at, first_none, fit_keeps, kept_trigger, kept_unfired, old_trigger, picked_from, trigger_from}
use Rattle.bts_rows.proofs.TimerEvents.{has_timer_events, trigger_at}
use Rattle.bts_rows.proofs.Changes.{Replaces, all, all_stay, old_waits, only, own_as_before}
use Rattle.bts_rows.proofs.Paths.{below}
use Rattle.bts_rows.proofs.Trees.{HasChild, IsFamily, Waits}

-- ---- the event of one child

-- the events of timers, and of all children but one
abbrev pub but : ℕ → Trigger → Bool
but k tr = elim tr [ Input ↦ false | Completion j ↦ not (nat_eq j k) | Timer t ↦ true ]

pub but_timers : (k : ℕ) (t : Name) → but k (Timer t) ≡ true
but_timers k t = refl

but_other : (k j : ℕ) (b : Bool) → nat_eq j k ≡ b → b ≡ false → but k (Completion j) ≡ true
but_other k j b e h = ap not (e ∙ h)

module _ (k : ℕ) where
  pub own_unpicked : (o : Option Event) → trigger_at o ≡ Some (Completion k) → is_picked (but k) o ≡ false
  own_unpicked o h = unpicked_from (but k) o (Completion k) h (ap not (eq-eqb k k refl))

-- an activity whose pool is another, in which timers have their events
pub pool_sound : (test : Trigger → Bool) → ((t : Name) → test (Timer t) ≡ true) → (a : Activity) → IsSoundActivity a → (pool : Pool)
    → IsSoundPool pool → Keeps test a.pool.events pool.events
    → let b : Activity = record a { pool = pool } in IsSoundActivity b
pool_sound test picks a s pool sound k =
    let b : Activity = record a { pool = pool } in
    record {
      status = s.status;
      code = s.code;
      pool = sound;
      timers_rise = s.timers_rise;
      timer_events =
          has_timer_events b s.timers_rise sound.events.ordered (fit_keeps test picks a.timers a.pool.events pool.events k (fit_now a s));
      containers = s.containers;
      few_children = s.few_children;
    }

-- what a change of a parent's pool does at the event of one child
pub record Touches (t : Activities) (keeps : ActivityPath → Bool) (p : ActivityPath) (a : Activity) (k : ℕ) (pool : Pool) : Type 0 where
  pub sound : IsSoundPool pool
  pub others : Keeps (but k) a.pool.events pool.events
  pub own : (n : Name) → trigger_at (lookup n pool.events) ≡ Some (Completion k) → HasChild t p n k
  pub stays : (n : Name) → trigger_at (lookup n pool.events) ≡ Some (Completion k) → keeps (below p k) ≡ true
  pub waits : (c : Activity) → keeps (below p k) ≡ true → lookup (below p k) t ≡ Some c → needs_event c ≡ true
      → let b : Activity = record a { pool = pool } in Waits b k c

module _ (t : Activities) (f : IsFamily t) (p : ActivityPath) (a : Activity) (found : lookup p t ≡ Some a) where
  abbrev events : Events
  events = a.pool.events

  sound_pool : IsSoundPool a.pool
  sound_pool = (f.sound p a found).pool

  -- no two events are of one child
  pub one_event : (k : ℕ) (n m : Name) → trigger_at (lookup n events) ≡ Some (Completion k)
      → trigger_at (lookup m events) ≡ Some (Completion k) → n ≡ m
  one_event k n m h g =
      let x = f.events p a n k found h in
      let y = f.events p a m k found g in
      let e : Some n ≡ Some m = sym x.named ∙ ap (λ (z : Activity). z.completion) (only t (below p k) x.child y.child x.found y.found)
      ∙ y.named in
      cc

  module _ (keeps : ActivityPath → Bool) (k : ℕ) (others_stay : (j : ℕ) → nat_eq j k ≡ false → keeps (below p j) ≡ true) (pool : Pool)
      (touches : Touches t keeps p a k pool) where
    abbrev changed : Activity
    changed = record a { pool = pool }

    events_case : (n : Name) (j : ℕ) (b : Bool) → nat_eq j k ≡ b → trigger_at (lookup n pool.events) ≡ Some (Completion j)
        → HasChild t p n j
    events_case n j true e h =
        let q : j ≡ k = eqb-true j k e in subst (HasChild t p n) (sym q) (touches.own n (h ∙ ap (λ i. Some (Completion i)) q))
    events_case n j false e h =
        f.events p a n j found
        (old_trigger (but k) events pool.events touches.others n (Completion j) (but_other k j (nat_eq j k) refl e) h)

    stays_case : (n : Name) (j : ℕ) (b : Bool) → nat_eq j k ≡ b → trigger_at (lookup n pool.events) ≡ Some (Completion j)
        → keeps (below p j) ≡ true
    stays_case n j true e h =
        let q : j ≡ k = eqb-true j k e in ap (λ i. keeps (below p i)) q ∙ touches.stays n (h ∙ ap (λ i. Some (Completion i)) q)
    stays_case n j false e h = others_stay j e

    waits_case : (j : ℕ) (c : Activity) (b : Bool) → nat_eq j k ≡ b → keeps (below p j) ≡ true → lookup (below p j) t ≡ Some c
        → needs_event c ≡ true → Waits changed j c
    waits_case j c true e l h n =
        let q : j ≡ k = eqb-true j k e in
        subst (λ i. Waits changed i c) (sym q)
        (touches.waits c (ap (λ i. keeps (below p i)) (sym q) ∙ l) (ap (λ i. lookup (below p i) t) (sym q) ∙ h) n)
    waits_case j c false e l h n =
        let w = old_waits t f p j a c found h n in
        let picks = but_other k j (nat_eq j k) refl e in
        record {
          name = w.name;
          named = w.named;
          fires = kept_trigger (but k) events pool.events touches.others w.name (Completion j) picks w.fires;
          unfired = kept_unfired (but k) events pool.events touches.others w.name (Completion j) picks w.fires w.unfired;
        }

    pub touched : Replaces t keeps p a changed
    touched = record {
      sound = pool_sound (but k) (but_timers k) a (f.sound p a found) pool touches.sound touches.others;
      name = refl;
      completion = refl;
      made = refl;
      format = refl;
      told = λ r h. h;
      own = own_as_before t f p a changed found refl (λ n. n);
      waits = λ j c l h n. waits_case j c (nat_eq j k) refl l h n;
      events = λ n j h. events_case n j (nat_eq j k) refl h;
      stay = λ n j h. stays_case n j (nat_eq j k) refl h;
    }

  -- ---- it is found by the child's number

  module _ (k : ℕ) where
    record Own (n : Name) : Type 0 where
      value : Event
      is_there : lookup n events ≡ Some value
      fires : trigger_at (lookup n events) ≡ Some (Completion k)

    own_at : (n : Name) → completion_of k events ≡ Some n → Own n
    own_at n e =
        let x = first_at (is_completion_of k) events n sound_pool.events.ordered e in
        record { value = x.value; is_there = x.found; fires = ap trigger_at x.found ∙ completes x.value k x.passed }

    -- where none is found, there is none
    none_own : (n : Name) → completion_of k events ≡ None → trigger_at (lookup n events) ≡ Some (Completion k) → ⊥
    none_own n e h = by (lookup n events) refl h
      where
        is_its : (v : Event) → trigger_at (Some v) ≡ Some (Completion k) → is_completion_of k v ≡ true
        is_its (atomic x) g =
            let q : x.trigger ≡ Completion k = cc in
            ap (λ tr. elim tr [ Input ↦ false | Completion j ↦ nat_eq j k | Timer t ↦ false ]) q ∙ eq-eqb k k refl
        is_its (composite x) g = cc

        by : (o : Option Event) → lookup n events ≡ o → trigger_at o ≡ Some (Completion k) → ⊥
        by None d g = cc
        by (Some v) d g = true≢false (sym (is_its v g) ∙ first_none (is_completion_of k) events n v e d)

    -- ---- it goes

    module _ (keeps : ActivityPath → Bool)
        (free : (c : Activity) → keeps (below p k) ≡ true → lookup (below p k) t ≡ Some c → needs_event c ≡ false) where
      absent : (c : Activity) → keeps (below p k) ≡ true → lookup (below p k) t ≡ Some c → needs_event c ≡ true → (b : Activity)
          → Waits b k c
      absent c l h n b = absurd (true≢false (sym n ∙ free c l h))

      module _ (n : Name) (own : Own n) where
        away : (m : Name) → trigger_at (lookup m (deleted n a.pool).events) ≡ Some (Completion k) → ⊥
        away = gone n (Completion k) a.pool sound_pool refl (λ m h. one_event k m n h own.fires)

        touches_deleted : Touches t keeps p a k (deleted n a.pool)
        touches_deleted = record {
          sound =
              subst IsSoundPool (ap (λ o. removed_at o n a.pool) own.is_there)
              (after_sound (calls.remove n) a.pool (not_composite (lookup n events) (Completion k) own.fires) sound_pool);
          others = keeps_deleted (but k) n a.pool sound_pool.events.ordered (own_unpicked k (lookup n events) own.fires);
          own = λ m h. absurd (away m h);
          stays = λ m h. absurd (away m h);
          waits = λ c l h i. absent c l h i _;
        }

        touches_removed : Touches t keeps p a k (removed n a.pool)
        touches_removed = subst (λ o. Touches t keeps p a k (removed_at o n a.pool)) (sym own.is_there) touches_deleted

      removed_case : (o : Option Name) → completion_of k events ≡ o → Touches t keeps p a k (removed_if o a.pool)
      removed_case None e = record {
        sound = sound_pool;
        others = keeps_same (but k) events;
        own = λ n h. absurd (none_own n e h);
        stays = λ n h. absurd (none_own n e h);
        waits = λ c l h i. absent c l h i _;
      }
      removed_case (Some n) e = touches_removed n (own_at n e)

      pub without_event : Touches t keeps p a k (removed_if (completion_of k events) a.pool)
      without_event = removed_case (completion_of k events) refl

    -- ---- it fires

    module _ (free : (c : Activity) → all (below p k) ≡ true → lookup (below p k) t ≡ Some c → needs_event c ≡ false) where
      module _ (n : Name) (own : Own n) (unfired : is_fired_atomic (lookup n events) ≡ false) where
        still_its : (m : Name) → trigger_at (lookup m (fired n a.pool).events) ≡ Some (Completion k)
            → trigger_at (lookup m events) ≡ Some (Completion k)
        still_its m h =
            trigger_from is_owned (lookup m events) (Completion k)
            (sym (picked-firing is_owned n a.pool m) ∙ picked_from is_owned (lookup m (fired n a.pool).events) (Completion k) h refl)

        touches_fired : Touches t all p a k (fired n a.pool)
        touches_fired = record {
          sound = sound_fire n a.pool sound_pool (may_fire (lookup n events) (Completion k) own.fires unfired);
          others = keeps_firing (but k) n a.pool (own_unpicked k (lookup n events) own.fires);
          own = λ m h. f.events p a m k found (still_its m h);
          stays = λ m h. all_stay (below p k);
          waits = λ c l h i. absent all free c l h i _;
        }

      -- an event that isn't fired, where there is one
      pub fired_event : ((n : Name) → trigger_at (lookup n events) ≡ Some (Completion k) → is_fired_atomic (lookup n events) ≡ false)
          → Touches t all p a k (fired_if (completion_of k events) a.pool)
      fired_event unfired = by (completion_of k events) refl
        where
          by : (o : Option Name) → completion_of k events ≡ o → Touches t all p a k (fired_if o a.pool)
          by None e = removed_case all free None e
          by (Some n) e = let own = own_at n e in touches_fired n own (unfired n own.fires)

    -- ---- it stands unfired, as it was or made again

    module _ (c : Activity) (child : lookup (below p k) t ≡ Some c) (name : Name) (named : c.completion ≡ Some name) where
      own_child : (n : Name) → n ≡ name → HasChild t p n k
      own_child n e = record { child = c; found = child; named = named ∙ ap Some (sym e) }

      only_child : (pool : Pool) → trigger_at (lookup name pool.events) ≡ Some (Completion k)
          → is_fired_atomic (lookup name pool.events) ≡ false → (b : Activity) → b.pool ≡ pool → (d : Activity)
          → lookup (below p k) t ≡ Some d → Waits b k d
      only_child pool h u b e d there = record {
        name = name;
        named = ap (λ (x : Activity). x.completion) (only t (below p k) d c there child) ∙ named;
        fires = ap (λ (q : Pool). trigger_at (lookup name q.events)) e ∙ h;
        unfired = ap (λ (q : Pool). is_fired_atomic (lookup name q.events)) e ∙ u;
      }

      -- as it was
      module _ (n : Name) (own : Own n) where
        is_name : n ≡ name
        is_name =
            let x = f.events p a n k found own.fires in
            let e : Some n ≡ Some name = sym x.named ∙ ap (λ (z : Activity). z.completion) (only t (below p k) x.child c x.found child)
            ∙ named in
            cc

        atomic_case : (o : Option Event) → trigger_at o ≡ Some (Completion k) → is_atomic o ≡ true
        atomic_case None h = cc
        atomic_case (Some (atomic x)) h = refl
        atomic_case (Some (composite x)) h = cc

        queue_picked : (test : Trigger → Bool) (o : Option Event) → picked test (option_map (without_queued n) o) ≡ picked test o
        queue_picked test None = refl
        queue_picked test (Some (atomic x)) = refl
        queue_picked test (Some (composite x)) = refl

        queue_fired : (o : Option Event) → is_fired_atomic o ≡ false → is_fired_atomic (option_map (without_queued n) o) ≡ false
        queue_fired None u = u
        queue_fired (Some (atomic x)) u = u
        queue_fired (Some (composite x)) u = u

        withdrawn_keeps : (test : Trigger → Bool) (o : Option Name) → Keeps test events (withdrawn n o a.pool).events
        withdrawn_keeps test None = keeps_same test events
        withdrawn_keeps test (Some h) = keeps_change test (without_queued n) events h (queue_picked test) queue_fired

        unfired_keeps : (test : Trigger → Bool) → Keeps test events (unfired n a.pool).events
        unfired_keeps test =
            let w = (withdrawn n (holder events n) a.pool).events in
            keeps_both test events w (unfired n a.pool).events (withdrawn_keeps test (holder events n)) (keeps_cleared test w n)

        now_unfired : is_fired_atomic (lookup n (unfired n a.pool).events) ≡ false
        now_unfired =
            let w = (withdrawn n (holder events n) a.pool).events in
            ap is_fired_atomic
            (lookup-change w n n (with_bit false) ∙ ap (λ b. cond b (option_map (with_bit false) (lookup n w)) (lookup n w)) (same_refl n))
            ∙ cleared_bit (lookup n w)

        touches_unfired : Touches t all p a k (unfired n a.pool)
        touches_unfired = record {
          sound = after_sound (calls.unfire n) a.pool (atomic_case (lookup n events) own.fires) sound_pool;
          others = unfired_keeps (but k);
          own =
              λ m h.
              f.events p a m k found
              (old_trigger is_owned events (unfired n a.pool).events (unfired_keeps is_owned) m (Completion k) refl h);
          stays = λ m h. all_stay (below p k);
          waits = λ d l h i. only_child (unfired n a.pool)
              (ap (λ z. trigger_at (lookup z (unfired n a.pool).events)) (sym is_name)
              ∙ kept_trigger is_owned events (unfired n a.pool).events (unfired_keeps is_owned) n (Completion k) refl own.fires)
              (ap (λ z. is_fired_atomic (lookup z (unfired n a.pool).events)) (sym is_name) ∙ now_unfired) _ refl d h;
        }

        unfired_waits : let b : Activity = record a { pool = unfired n a.pool } in Waits b k c
        unfired_waits = only_child (unfired n a.pool)
            (ap (λ z. trigger_at (lookup z (unfired n a.pool).events)) (sym is_name)
            ∙ kept_trigger is_owned events (unfired n a.pool).events (unfired_keeps is_owned) n (Completion k) refl own.fires)
            (ap (λ z. is_fired_atomic (lookup z (unfired n a.pool).events)) (sym is_name) ∙ now_unfired) _ refl c child

      -- made again
      module _ (free : define_refusal name events ≡ None) (usual : same name initial_name ≡ false)
          (none : (n : Name) → trigger_at (lookup n events) ≡ Some (Completion k) → ⊥) where
        abbrev new : Event
        new = new_atomic (Completion k)

        own_new : (m : Name) (b : Bool) → same name m ≡ b → trigger_at (cond b (Some new) (lookup m events)) ≡ Some (Completion k)
            → HasChild t p m k
        own_new m true e h = own_child m (sym (same_exact name m e))
        own_new m false e h = absurd (none m h)

        touches_defined : Touches t all p a k (defined name new a.pool)
        touches_defined = record {
          sound = sound_define name (Completion k) a.pool sound_pool free usual;
          others = keeps_defined (but k) name new a.pool (define_free name events free) (own_unpicked k (Some new) refl);
          own = λ m h. own_new m (same name m) refl (sym (ap trigger_at (read_new name (Completion k) a.pool m)) ∙ h);
          stays = λ m h. all_stay (below p k);
          waits =
              λ d l h i.
              only_child (defined name new a.pool) (ap trigger_at (read_own name (Completion k) a.pool))
              (ap is_fired_atomic (read_own name (Completion k) a.pool)) _ refl d h;
        }

      -- and waits there
      pub rearmed_waits : (completion_of k events ≡ None → define_refusal name events ≡ None)
          → let b : Activity = record a { pool = rearmed k name a.pool } in Waits b k c
      rearmed_waits free = by (completion_of k events) refl
        where
          by : (o : Option Name) → completion_of k events ≡ o
              → let b : Activity = record a { pool = rearmed_by o k name a.pool } in Waits b k c
          by None e = only_child (defined name (new_atomic (Completion k)) a.pool)
              (ap trigger_at (read_own name (Completion k) a.pool))
              (ap is_fired_atomic (read_own name (Completion k) a.pool)) _ refl c child
          by (Some n) e = let own = own_at n e in unfired_waits n own

      pub rearmed_event : (completion_of k events ≡ None → define_refusal name events ≡ None) → same name initial_name ≡ false
          → Touches t all p a k (rearmed k name a.pool)
      rearmed_event free usual = by (completion_of k events) refl
        where
          by : (o : Option Name) → completion_of k events ≡ o → Touches t all p a k (rearmed_by o k name a.pool)
          by None e = touches_defined (free e) usual (λ n h. none_own n e h)
          by (Some n) e = touches_unfired n (own_at n e)

-- ---- a child is told

told_needs : (c d : Bool) → (not c || not true) ≡ true → (not c || not d) ≡ true
told_needs true d h = cc
told_needs false d h = refl

pub told_sound : (a : Activity) → IsSoundActivity a → let b : Activity = record a { told = true } in IsSoundActivity b
told_sound a s =
    let e = s.timer_events in
    record {
      status = s.status;
      code = s.code;
      pool = s.pool;
      timers_rise = s.timers_rise;
      timer_events = record { one_event_each = e.one_event_each; timer_of_each = e.timer_of_each; unexpired = e.unexpired };
      containers = s.containers;
      few_children = s.few_children;
    }

pub told_replaces : (t : Activities) (f : IsFamily t) (p : ActivityPath) (a : Activity) → lookup p t ≡ Some a
    → let b : Activity = record a { told = true } in Replaces t all p a b
told_replaces t f p a found = record {
  sound = told_sound a (f.sound p a found);
  name = refl;
  completion = refl;
  made = refl;
  format = refl;
  told = λ r h. refl;
  own = let b : Activity = record a { told = true } in own_as_before t f p a b found refl (told_needs (is_complete a) a.told);
  waits =
      λ k c l h n.
      let w = old_waits t f p k a c found h n in record { name = w.name; named = w.named; fires = w.fires; unfired = w.unfired };
  events = λ n k h. f.events p a n k found h;
  stay = λ n k h. all_stay (below p k);
}
