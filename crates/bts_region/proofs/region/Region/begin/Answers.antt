use Rattle.std.proofs.Common.{[], refl, sym, ap, ◌∙◌, subst}
use Rattle.bts_interp.specs.Names.{Named}
use Rattle.bts_region.specs.Positions.{opened_at}
use Rattle.bts_region.specs.Today.{IsOfToday, IsSmall, MayOpen}
use Rattle.bts_region.proofs.Begins.{keeps_first}
use Rattle.bts_region.proofs.region.Region.begin.Goals as goal

pub invariant_of-result : goal.invariant_of-result
invariant_of-result g c =
    keeps_first g.N.Naming.name _
    (record {
      session = c.in-Ok.ensures.ok ∙ sym (ap (λ (n : Named). n.session) c.requires.name);
      limit = sym (ap (λ (n : Named). n.limit) c.requires.name);
      moment = sym (ap (λ (n : Named). n.opening.moment) c.requires.name);
      history = c.new-2.ensures.items;
      out = refl;
      processes = c.forget_all_idle.ensures.processes ∙ sym (ap (λ (n : Named). n.opening.repo.processes) c.requires.name);
      awake = λ key h. sym (c.forget_all_idle.ensures.keys key) ∙ h;
      units = sym (ap (λ (n : Named). n.opening.units) c.requires.name);
      items = refl;
      activations = refl;
    })
    (subst (λ (n : Named). MayOpen n.opening) (sym c.requires.name) c.requires.opens)
    (subst (λ (n : Named). IsOfToday n.session) (sym c.requires.name) c.requires.today)
    (subst (λ (n : Named). IsSmall n.session n.limit) (sym c.requires.name) c.requires.small)

pub returns : goal.returns
returns g c = λ i. record {
  session = (c.in-Ok.ensures.ok ∙ sym (ap (λ (n : Named). n.session) c.requires.name)) i;
  limit = sym (ap (λ (n : Named). n.limit) c.requires.name) i;
  opening = opened_at g.N.Naming.name.opening;
  moment = sym (ap (λ (n : Named). n.opening.moment) c.requires.name) i;
  history = c.new-2.ensures.items i;
  out = [];
}
