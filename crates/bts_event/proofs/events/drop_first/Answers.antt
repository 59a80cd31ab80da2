use Rattle.std.proofs.Common.{sym, ◌∙◌, ◌≡◌, ap, Some, None}
use Rattle.std.specs.Option.{option_copied_mut}
use Rattle.bts_event.proofs.events.drop_first.Goals as goal
use Rattle.bts_event.specs.Events as events
use Rattle.bts_event.specs.Events as events
use Rattle.bts_event.specs.Events as events
use Rattle.bts_event.specs.Events as events
use Rattle.bts_event.specs.Events as events
use Rattle.bts_event.specs.Events as events
use Rattle.bts_event.specs.Events as events
use Rattle.bts_event.specs.Events as events
use Rattle.bts_event.specs.Events as events
use Rattle.bts_event.specs.Events as events
use Rattle.bts_event.specs.Events as events
use Rattle.bts_event.specs.Events as events
use Rattle.bts_event.specs.Events as events
use Rattle.bts_event.specs.Events as events
use Rattle.bts_event.specs.Events as events
use Rattle.bts_event.proofs.Change.{change-found, change-none}
use Rattle.bts_names.specs.Named.{lookup}

pub returns-in-Some : goal.returns-in-Some
returns-in-Some c =
    let h : lookup c.args.c.now c.args.map.now.entries ≡ Some c.in-Some.event.now = sym c.get_mut.ensures.value ∙ ap option_copied_mut c.in-Some.is in
    (c.get_mut.follows.holds c.drop_first.new.self).0 ∙ rw c.drop_first.ensures (change-found c.args.map.now.entries c.args.c.now events.with_rest _ h)

pub returns-in_default : goal.returns-in_default
returns-in_default c =
    let h : lookup c.args.c.now c.args.map.now.entries ≡ None = sym c.get_mut.ensures.value ∙ ap option_copied_mut c.in_default.is in
    ap (λ m. m.entries) c.get_mut.follows.holds-at-none ∙ sym (change-none c.args.map.now.entries c.args.c.now events.with_rest h)
