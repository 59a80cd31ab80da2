use Rattle.std.proofs.Common.{◌≡◌, take, drop, []}
use Rattle.bts_event.proofs.refusals.refuses_subs.Given as goal
use Rattle.bts_event.specs.Refusals as refusals
use Rattle.bts_event.specs.Refusals as refusals
use Rattle.bts_event.specs.Refusals as refusals
use Rattle.bts_event.specs.Refusals as refusals
use Rattle.bts_event.specs.Refusals as refusals
use Rattle.bts_event.specs.Refusals as refusals
use Rattle.bts_event.specs.Refusals as refusals
use Rattle.bts_event.specs.Refusals as refusals
use Rattle.bts_event.specs.Refusals as refusals
use Rattle.bts_event.specs.Refusals as refusals
use Rattle.bts_event.specs.Refusals as refusals
use Rattle.bts_event.specs.Refusals as refusals
use Rattle.bts_event.specs.Refusals as refusals
use Rattle.bts_event.specs.Refusals as refusals
use Rattle.bts_event.specs.Refusals as refusals

abbrev pub invariant-loop-i : goal.invariant-loop-i
invariant-loop-i l = refusals.subs_refusal l.map.entries [] l.subs ≡ refusals.subs_refusal l.map.entries (take l.i l.subs) (drop l.i l.subs)
