-- An event of a timer or of a child, the only one of its trigger: how its pool is read where it is new, and where it goes.
use Rattle.std.proofs.Common.{◌≡◌, Bool, true, false, cond, Option, Some, None, is_some, refl, sym, ap, ◌∙◌, true≢false}
use Rattle.bts_names.specs.Names.{Name, same}
use Rattle.bts_names.specs.Named.{lookup}
use Rattle.bts_event.specs.declared.event.Event.{Event}
use Rattle.bts_event.specs.declared.event.Event.TheVariants.{Atomic as atomic, Composite as composite}
use Rattle.bts_event.specs.declared.event.Trigger.{Trigger}
use Rattle.bts_event.specs.Events.{Events, holder, is_composite, is_fired_atomic, new_atomic}
use Rattle.bts_event.specs.Pool.{Pool, defined, deleted, parted}
use Rattle.bts_event.specs.Refusals.{fire_refusal_of}
use Rattle.bts_event.specs.Sound.{IsSoundPool}
use Rattle.bts_event.proofs.Orders.{lookup-in_order, lookup-without}
use Rattle.bts_event.proofs.Same.{same_refl}
use Rattle.bts_rows.proofs.Keeps.{is_owned, is_picked, settled-events}
use Rattle.bts_rows.proofs.PoolKeeps.{parted_keeps, parted_rising}
use Rattle.bts_rows.proofs.TimerCalls.{old_trigger}
use Rattle.bts_rows.proofs.TimerEvents.{trigger_at}

pub not_composite : (o : Option Event) (t : Trigger) → trigger_at o ≡ Some t → is_composite o ≡ false
not_composite None t h = refl
not_composite (Some (atomic a)) t h = refl
not_composite (Some (composite c)) t h = cc

pub may_fire : (o : Option Event) (t : Trigger) → trigger_at o ≡ Some t → is_fired_atomic o ≡ false → fire_refusal_of o ≡ None
may_fire None t h u = cc
may_fire (Some (composite c)) t h u = cc
may_fire (Some (atomic a)) t h u = rw u

pub unpicked_from : (test : Trigger → Bool) (o : Option Event) (t : Trigger) → trigger_at o ≡ Some t → test t ≡ false
    → is_picked test o ≡ false
unpicked_from test None t h p = refl
unpicked_from test (Some (composite c)) t h p = refl
unpicked_from test (Some (atomic a)) t h p =
    let e : a.trigger ≡ t = cc in ap (λ x. is_some (cond (test x) (Some x) None)) e ∙ ap (λ b. is_some (cond b (Some t) None)) p

-- ---- it is new

module _ (name : Name) (t : Trigger) (p : Pool) where
  abbrev behind : Events
  behind = (defined name (new_atomic t) p).events

  pub read_new : (n : Name) → lookup n behind ≡ cond (same name n) (Some (new_atomic t)) (lookup n p.events)
  read_new n = ap (lookup n) (settled-events p.events _) ∙ lookup-in_order p.events name (new_atomic t) n

  pub read_own : lookup name behind ≡ Some (new_atomic t)
  read_own = read_new name ∙ ap (λ b. cond b (Some (new_atomic t)) (lookup name p.events)) (same_refl name)

-- ---- it goes

module _ (name : Name) (t : Trigger) (p : Pool) (s : IsSoundPool p) (owned : is_owned t ≡ true)
    (one : (n : Name) → trigger_at (lookup n p.events) ≡ Some t → n ≡ name) where
  abbrev left : Events
  left = parted name (holder p.events name) p.events

  none_left : (b : Bool) (n : Name) → same name n ≡ b → trigger_at (cond b None (lookup n left)) ≡ Some t → ⊥
  none_left true n d h = cc
  none_left false n d h =
      let old = old_trigger is_owned p.events left (parted_keeps is_owned name (holder p.events name) p.events) n t owned h in
      true≢false (sym (ap (same name) (one n old) ∙ same_refl name) ∙ d)

  pub gone : (n : Name) → trigger_at (lookup n (deleted name p).events) ≡ Some t → ⊥
  gone n h =
      let read = ap (lookup n) (settled-events p.events _)
      ∙ lookup-without left name n (parted_rising is_owned name (holder p.events name) p.events s.events.ordered) in
      none_left (same name n) n refl (sym (ap trigger_at read) ∙ h)
