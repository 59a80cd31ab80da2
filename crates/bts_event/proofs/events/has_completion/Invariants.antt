use Rattle.std.proofs.Common.{◌≡◌}
use Rattle.bts_event.specs.Events as events
use Rattle.bts_event.proofs.events.has_completion.Given as goal
use Rattle.bts_event.specs.Events as events
use Rattle.bts_event.specs.Events as events
use Rattle.bts_event.specs.Events as events
use Rattle.bts_event.specs.Events as events
use Rattle.bts_event.specs.Events as events
use Rattle.bts_event.specs.Events as events
use Rattle.bts_event.specs.Events as events
use Rattle.bts_event.specs.Events as events
use Rattle.bts_event.specs.Events as events

-- what is left has the answer
abbrev pub invariant-loop-name : goal.invariant-loop-name
invariant-loop-name l = events.has_completion l.map.entries ≡ events.has_completion l.name-iterator
