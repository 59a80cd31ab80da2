use Rattle.std.proofs.Common.{ℕ, sym, ap, ◌∙◌, subst}
use Rattle.bts_interp.specs.Names.{Named}
use Rattle.bts_region.proofs.OfToday.{of_today}
use Rattle.bts_region.specs.Positions.{opened_at}
use Rattle.bts_region.specs.Regions.{IsRegionInOrder, RegionState}
use Rattle.bts_session.specs.declared.session.Session.{Session}
use Rattle.bts_tool.specs.Runs.{IsRunOf}
use Rattle.bts_tool.proofs.Stopped.{begins_in_order, run_of}
use Rattle.bts_tool.proofs.session.do_named.Goals as goal

pub begin-requires-clause-today : goal.begin-requires-clause-today
begin-requires-clause-today g c = of_today c.args.session c.requires.today

pub returns : goal.returns
returns g c =
    let r : RegionState = c.drain-stop.new.station in
    let o : IsRegionInOrder r = c.drain-stop.ensures.order (subst IsRegionInOrder (sym c.in_ok-region.ensures) (begins_in_order g.N.Naming.name)) in
    subst (λ (h : _). IsRunOf g.N.Naming.name.session g.N.Naming.name.limit (record { history = h; stop = c.drain-stop.result })) (sym c.close.ensures.history)
    (subst (λ (s : Session). IsRunOf s g.N.Naming.name.limit (record { history = r.history; stop = c.drain-stop.result })) c.facts.ensures.session
    (subst (λ (n : ℕ). IsRunOf r.session n (record { history = r.history; stop = c.drain-stop.result })) c.facts.ensures.limit
    (run_of r (c.facts.ensures.opening ∙ ap (λ (n : Named). opened_at n.opening) c.requires.name ∙ c.requires.empty) c.drain-stop.ensures.out o c.drain-stop.result c.drain-stop.ensures.stop)))
