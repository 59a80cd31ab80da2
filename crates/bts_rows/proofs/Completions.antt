-- Completion events, as they are read: the event of one child is that of no other.
use Rattle.std.proofs.Common.{◌≡◌, ℕ, Bool, true, false, nat_eq, Option, Some, None, refl, ap}
use Rattle.std.proofs.lemmas.Bool.{eqb-true}
use Rattle.bts_names.specs.Names.{Name}
use Rattle.bts_names.specs.Named.{lookup}
use Rattle.bts_event.specs.declared.event.Event.{Event}
use Rattle.bts_event.specs.declared.event.Event.TheVariants.{Atomic as atomic, Composite as composite}
use Rattle.bts_event.specs.declared.event.Trigger.{Trigger}
use Rattle.bts_event.specs.declared.event.Trigger.TheVariants.{Input, Completion, Timer}
use Rattle.bts_event.specs.Events.{Events, is_completion, is_completion_of}
use Rattle.bts_rows.proofs.TimerEvents.{trigger_at}

completion_case : (tr : Trigger) (k : ℕ) → elim tr [ Input ↦ false | Completion n ↦ nat_eq n k | Timer t ↦ false ] ≡ true
    → Some tr ≡ Some (Completion k)
completion_case Input k h = cc
completion_case (Completion n) k h = ap (λ x. Some (Completion x)) (eqb-true n k h)
completion_case (Timer t) k h = cc

pub completes : (v : Event) (k : ℕ) → is_completion_of k v ≡ true → trigger_at (Some v) ≡ Some (Completion k)
completes (atomic a) k h = completion_case a.trigger k h
completes (composite c) k h = cc

-- an event of a pool, as it is read, of a child
pub record ChildsEvent (es : Events) (n : Name) (k : ℕ) : Type 0 where
  pub value : Event
  pub found : lookup n es ≡ Some value
  pub is_its : (j : ℕ) → is_completion_of j value ≡ nat_eq k j

-- an event of a child is that of no other
of_no_other : (v : Event) (k : ℕ) → trigger_at (Some v) ≡ Some (Completion k) → (j : ℕ) → is_completion_of j v ≡ nat_eq k j
of_no_other (atomic a) k h j =
    let t : a.trigger ≡ Completion k = cc in ap (λ x. elim x [ Input ↦ false | Completion n ↦ nat_eq n j | Timer t ↦ false ]) t
of_no_other (composite c) k h j = cc

childs_case : (o : Option Event) (es : Events) (n : Name) (k : ℕ) → lookup n es ≡ o → trigger_at o ≡ Some (Completion k)
    → ChildsEvent es n k
childs_case None es n k e h = cc
childs_case (Some v) es n k e h = record { value = v; found = e; is_its = of_no_other v k h }

pub childs_event : (es : Events) (n : Name) (k : ℕ) → trigger_at (lookup n es) ≡ Some (Completion k) → ChildsEvent es n k
childs_event es n k h = childs_case (lookup n es) es n k refl h

pub record OfChild (v : Event) : Type 0 where
  pub child : ℕ
  pub completes : trigger_at (Some v) ≡ Some (Completion child)

of_child_case : (tr : Trigger) (b : Bool) → elim tr [ Input ↦ false | Completion n ↦ true | Timer t ↦ false ] ≡ true
    → OfChild (atomic (record { trigger = tr; fired = b }))
of_child_case Input b h = cc
of_child_case (Completion n) b h = record { child = n; completes = refl }
of_child_case (Timer t) b h = cc

pub of_child : (v : Event) → is_completion v ≡ true → OfChild v
of_child (atomic a) h = of_child_case a.trigger a.fired h
of_child (composite c) h = cc

pub is_completion-from : (v : Event) (k : ℕ) → trigger_at (Some v) ≡ Some (Completion k) → is_completion v ≡ true
is_completion-from (atomic a) k h =
    let t : a.trigger ≡ Completion k = cc in ap (λ x. elim x [ Input ↦ false | Completion n ↦ true | Timer t ↦ false ]) t
is_completion-from (composite c) k h = cc
