use Rattle.std.proofs.Common.{◌≡◌}
use Rattle.bts_event.specs.Events as events
use Rattle.bts_event.proofs.events.completion_of.Given as goal
use Rattle.bts_event.specs.Events as events
use Rattle.bts_event.specs.Events as events
use Rattle.bts_event.specs.Events as events
use Rattle.bts_event.specs.Events as events
use Rattle.bts_event.specs.Events as events
use Rattle.bts_event.specs.Events as events
use Rattle.bts_event.specs.Events as events
use Rattle.bts_event.specs.Events as events
use Rattle.bts_event.specs.Events as events
use Rattle.bts_event.specs.Events as events
use Rattle.bts_event.specs.Events as events
use Rattle.bts_event.specs.Events as events
use Rattle.bts_event.specs.Events as events
use Rattle.bts_event.specs.Events as events
use Rattle.bts_event.specs.Events as events

-- what is left has the answer
abbrev pub invariant-loop-name : goal.invariant-loop-name
invariant-loop-name l = events.completion_of l.child l.map.entries ≡ events.completion_of l.child l.name-iterator
