use Rattle.std.proofs.Common.{sym, ◌∙◌, ◌≡◌, ap, Some, None}
use Rattle.std.specs.Option.{option_copied_mut}
use Rattle.bts_event.proofs.events.push_queued.Goals as goal
use Rattle.bts_event.specs.Events as events
use Rattle.bts_event.specs.Events as events
use Rattle.bts_event.specs.Events as events
use Rattle.bts_event.specs.Events as events
use Rattle.bts_event.specs.Events as events
use Rattle.bts_event.specs.Events as events
use Rattle.bts_event.specs.Events as events
use Rattle.bts_event.specs.Events as events
use Rattle.bts_event.specs.Events as events
use Rattle.bts_event.specs.Events as events
use Rattle.bts_event.specs.Events as events
use Rattle.bts_event.specs.Events as events
use Rattle.bts_event.specs.Events as events
use Rattle.bts_event.specs.Events as events
use Rattle.bts_event.specs.Events as events
use Rattle.bts_event.proofs.Change.{OnErr_both, OnOk_both, change-found, change-none, written_same}
use Rattle.bts_names.specs.Named.{lookup}

pub returns-in-Some-clause-ok : goal.returns-in-Some-clause-ok
returns-in-Some-clause-ok c =
    let h : lookup c.args.c.now c.args.map.now.entries ≡ Some c.in-Some.event.now = sym c.get_mut.ensures.value ∙ ap option_copied_mut c.in-Some.is in
    OnOk_both {P = c.push_queued.new.self ≡ events.with_queued c.args.name c.in-Some.event.now} _ c.push_queued.ensures.ok
    (λ e. (c.get_mut.follows.holds c.push_queued.new.self).0 ∙ rw e (change-found c.args.map.now.entries c.args.c.now (events.with_queued c.args.name) _ h))

pub returns-in-Some-clause-err : goal.returns-in-Some-clause-err
returns-in-Some-clause-err c =
    let h : lookup c.args.c.now c.args.map.now.entries ≡ Some c.in-Some.event.now = sym c.get_mut.ensures.value ∙ ap option_copied_mut c.in-Some.is in
    OnErr_both {P = c.push_queued.new.self ≡ c.in-Some.event.now} _ c.push_queued.ensures.err
    (λ e. (c.get_mut.follows.holds c.push_queued.new.self).0 ∙ rw e (written_same c.args.map.now.entries c.args.c.now _ h))

pub returns-in-None-clause-ok : goal.returns-in-None-clause-ok
returns-in-None-clause-ok c =
    let h : lookup c.args.c.now c.args.map.now.entries ≡ None = sym c.get_mut.ensures.value ∙ ap option_copied_mut c.in-None.is in
    ap (λ m. m.entries) c.get_mut.follows.holds-at-none ∙ sym (change-none c.args.map.now.entries c.args.c.now (events.with_queued c.args.name) h)
