use Rattle.std.proofs.Common.{◌≡◌}
use Rattle.bts_event.proofs.events.holder.Given as goal
use Rattle.bts_event.specs.Events as events
use Rattle.bts_event.specs.Events as events
use Rattle.bts_event.specs.Events as events
use Rattle.bts_event.specs.Events as events
use Rattle.bts_event.specs.Events as events
use Rattle.bts_event.specs.Events as events
use Rattle.bts_event.specs.Events as events
use Rattle.bts_event.specs.Events as events
use Rattle.bts_event.specs.Events as events
use Rattle.bts_event.specs.Events as events
use Rattle.bts_event.specs.Events as events
use Rattle.bts_event.specs.Events as events
use Rattle.bts_event.specs.Events as events
use Rattle.bts_event.specs.Events as events
use Rattle.bts_event.specs.Events as events

-- what is left has the answer
abbrev pub invariant-loop-name : goal.invariant-loop-name
invariant-loop-name l = events.holder l.map.entries l.sub ≡ events.holder l.name-iterator l.sub
