use Rattle.std.proofs.Common.{◌≡◌, ℕ, List, [], sym, subst}
use Rattle.bts_event.specs.Events.{Events}
use Rattle.bts_event.specs.Sound.{IsSoundPool}
use Rattle.bts_event.specs.declared.queue.Entry.{Entry}
use Rattle.bts_event.proofs.Accounts.{clear_sound}
use Rattle.bts_event.proofs.tests.comes_of_parts.Goals as goal

-- parts of which none is there
no_parts_sound : (events : Events) (entries : List Entry) (last : ℕ) → events ≡ [] → entries ≡ [] → IsSoundPool (record { events = events; entries = entries; last = last })
no_parts_sound events entries last e q =
    subst (λ (v : Events). IsSoundPool (record { events = v; entries = entries; last = last })) (sym e)
    (subst (λ (w : List Entry). IsSoundPool (record { events = []; entries = w; last = last })) (sym q)
    (clear_sound (record { events = []; entries = []; last = last })))

pub from_parts-requires : goal.from_parts-requires
from_parts-requires c = no_parts_sound c.new.result.items c.new-2.result.items 7 c.new.ensures.items c.new-2.ensures.items
