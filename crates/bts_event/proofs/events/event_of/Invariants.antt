use Rattle.std.proofs.Common.{◌≡◌}
use Rattle.bts_event.specs.Events as events
use Rattle.bts_event.proofs.events.event_of.Given as goal
use Rattle.bts_event.specs.Events as events
use Rattle.bts_event.specs.Events as events
use Rattle.bts_event.specs.Events as events
use Rattle.bts_event.specs.Events as events
use Rattle.bts_event.specs.Events as events
use Rattle.bts_event.specs.Events as events
use Rattle.bts_event.specs.Events as events
use Rattle.bts_event.specs.Events as events
use Rattle.bts_event.specs.Events as events
use Rattle.bts_event.specs.Events as events
use Rattle.bts_event.specs.Events as events
use Rattle.bts_event.specs.Events as events
use Rattle.bts_event.specs.Events as events
use Rattle.bts_event.specs.Events as events
use Rattle.bts_event.specs.Events as events

-- what is left has the answer
abbrev pub invariant-loop-name : goal.invariant-loop-name
invariant-loop-name l = events.event_of l.timer l.map.entries ≡ events.event_of l.timer l.name-iterator
