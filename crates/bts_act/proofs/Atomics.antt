-- The event of a timer is atomic.
use Rattle.std.proofs.Common.{◌≡◌, true, false, Some, refl, ap, ◌∙◌}
use Rattle.std.specs.Map.{keys_of}
use Rattle.bts_names.specs.Names.{Name}
use Rattle.bts_names.specs.Named.{lookup}
use Rattle.bts_event.specs.declared.event.Event.{Event}
use Rattle.bts_event.specs.declared.event.Event.TheVariants.{Atomic as atomic, Composite as composite}
use Rattle.bts_event.specs.Events.{Events, event_of, is_composite, is_event_of}
use Rattle.bts_event.proofs.Orders.{IsRising}
use Rattle.bts_rows.proofs.TimerCalls.{first_at}

no_composite : (t : Name) (v : Event) → is_event_of t v ≡ true → is_composite (Some v) ≡ false
no_composite t (atomic a) h = refl
no_composite t (composite c) h = cc

pub timer_event_is_atomic : (t : Name) (es : Events) (n : Name) → IsRising (keys_of es) → event_of t es ≡ Some n → is_composite (lookup n es) ≡ false
timer_event_is_atomic t es n s h = let f = first_at (is_event_of t) es n s h in ap is_composite f.found ∙ no_composite t f.value f.passed
