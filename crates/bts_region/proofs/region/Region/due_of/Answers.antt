use Rattle.std.proofs.Common.{◌≡◌, Some, sym, ap, ◌∙◌, subst}
use Rattle.bts_region.specs.Answers.{unit_out}
use Rattle.bts_region.specs.Keeps.{out_of}
use Rattle.bts_region.specs.Regions.{RegionState}
use Rattle.bts_region.proofs.region.Region.due_of.Goals as goal

pub returns : goal.returns
returns g c = record {
  out = subst (λ (z : RegionState). unit_out c.args.ticket z.out ≡ Some c.in-Some.unit) c.self.view_is (ap (λ n. unit_out n (out_of c.self.inside.out)) c.if-ticket-ne0.false ∙ ap (λ o. unit_out 0 (out_of o)) c.in-Some.is);
  process = sym c.key.ensures ∙ c.in-Some-key.is;
  moment = ap (λ (z : RegionState). z.moment) c.self.view_is;
}
