-- When events and entries are the same.
use Rattle.std.proofs.Common.{◌≡◌, List, refl, ap}
use Rattle.std.specs.Bool.{Decides}
use Rattle.std.specs.Cmp.Lexicographic.{pointwise}
use Rattle.std.proofs.lemmas.Bool.Decides.{Decides-eqb, Decides-and, Decides-like}
use Rattle.std.specs.Cmp.{booleans_Decides}
use Rattle.std.proofs.lemmas.Slice.Eq.{slice_eq-Decides}
use Rattle.bts_names.specs.Names.{Name, same}
use Rattle.bts_names.proofs.Sameness.{same_where_equal}
use Rattle.bts_event.specs.Composites.{Composite, same_composite}
use Rattle.bts_event.specs.declared.event.Atomic.{Atomic}
use Rattle.bts_event.specs.declared.event.Event.{Event}
use Rattle.bts_event.specs.declared.event.Event.TheVariants as event
use Rattle.bts_event.specs.declared.event.Trigger.{Trigger}
use Rattle.bts_event.specs.declared.event.Trigger.TheVariants as trigger
use Rattle.bts_event.specs.declared.queue.Entry.{Entry}
use Rattle.bts_event.specs.contracts.event.AtomicPartialEq.TheImpl as atomic_eq
use Rattle.bts_event.specs.contracts.event.EventPartialEq.TheImpl as event_eq
use Rattle.bts_event.specs.contracts.event.TriggerPartialEq.TheImpl as trigger_eq
use Rattle.bts_event.specs.contracts.queue.EntryPartialEq.TheImpl as entry_eq

names-Decides : (a b : List Name) → Decides (pointwise same a b) (a ≡ b)
names-Decides a b = slice_eq-Decides same_where_equal a b _ refl

composite-Decides : (a b : Composite) → Decides (same_composite a b) (a ≡ b)
composite-Decides a b =
    Decides-like _ (λ h i. record { all = h.0 i; subs = h.1.0 i; queued = h.1.1 i }) (λ e. (ap (λ c. c.all) e, (ap (λ c. c.subs) e, ap (λ c. c.queued) e)))
    (Decides-and _ _ (booleans_Decides a.all b.all) (Decides-and _ _ (names-Decides a.subs b.subs) (names-Decides a.queued b.queued)))

trigger-Decides : (a b : Trigger) → Decides (trigger_eq.ghosts.eq a b) (a ≡ b)
trigger-Decides trigger.Input trigger.Input = (λ h. refl, λ h. refl)
trigger-Decides trigger.Input (trigger.Completion m) = (λ h. cc, λ h. cc)
trigger-Decides trigger.Input (trigger.Timer m) = (λ h. cc, λ h. cc)
trigger-Decides (trigger.Completion n) trigger.Input = (λ h. cc, λ h. cc)
trigger-Decides (trigger.Completion n) (trigger.Completion m) = Decides-like _ (λ h. ap trigger.Completion h) (λ e. cc) (Decides-eqb n m)
trigger-Decides (trigger.Completion n) (trigger.Timer m) = (λ h. cc, λ h. cc)
trigger-Decides (trigger.Timer n) trigger.Input = (λ h. cc, λ h. cc)
trigger-Decides (trigger.Timer n) (trigger.Completion m) = (λ h. cc, λ h. cc)
trigger-Decides (trigger.Timer n) (trigger.Timer m) = Decides-like _ (λ h. ap trigger.Timer h) (λ e. cc) (same_where_equal n m)

atomic-Decides : (a b : Atomic) → Decides (atomic_eq.ghosts.eq a b) (a ≡ b)
atomic-Decides a b =
    Decides-like _ (λ h i. record { trigger = h.0 i; fired = h.1 i }) (λ e. (ap (λ x. x.trigger) e, ap (λ x. x.fired) e))
    (Decides-and _ _ (trigger-Decides a.trigger b.trigger) (booleans_Decides a.fired b.fired))

pub event-Decides : (a b : Event) → Decides (event_eq.ghosts.eq a b) (a ≡ b)
event-Decides (event.Atomic a) (event.Atomic b) = Decides-like _ (λ h. ap event.Atomic h) (λ e. cc) (atomic-Decides a b)
event-Decides (event.Atomic a) (event.Composite b) = (λ h. cc, λ h. cc)
event-Decides (event.Composite a) (event.Atomic b) = (λ h. cc, λ h. cc)
event-Decides (event.Composite a) (event.Composite b) = Decides-like _ (λ h. ap event.Composite h) (λ e. cc) (composite-Decides a b)

pub entry-Decides : (a b : Entry) → Decides (entry_eq.ghosts.eq a b) (a ≡ b)
entry-Decides a b =
    Decides-like _ (λ h i. record { name = h.0 i; number = h.1 i }) (λ e. (ap (λ x. x.name) e, ap (λ x. x.number) e))
    (Decides-and _ _ (same_where_equal a.name b.name) (Decides-eqb a.number b.number))
