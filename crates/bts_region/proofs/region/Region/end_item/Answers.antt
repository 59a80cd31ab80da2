use Rattle.std.proofs.Common.{◌≡◌, ◌+◌, ◌++◌, ◌∷◌, [], length, rules, refl, ap, ◌∙◌, subst}
use Rattle.bts_command.specs.declared.ended.End.TheVariants.{Commit}
use Rattle.bts_region.specs.Answers.{ended_at_once, with_ended, with_moment}
use Rattle.bts_region.specs.Keeps.{state_of}
use Rattle.bts_region.specs.Regions.{RegionState, offer, work}
use Rattle.bts_region.specs.declared.region.Region.TheInside.{Inside}
use Rattle.bts_region.proofs.Entering.{keeps_on}
use Rattle.bts_region.proofs.Settling.{IsItemPut, ended_item, item_enters, item_told, not_out}
use Rattle.bts_region.proofs.region.Region.end_item.Given.{Over}
use Rattle.bts_region.proofs.region.Region.end_item.Goals as goal

abbrev behind_it : (g : Over) → goal.After-len g → Inside g.row.N.Denot
behind_it g c = record c.self.inside { history = c.push_reserved.new.self; items_ended = c.self.inside.items_ended + 1 }

offered : (g : Over) (c : goal.After-len g) → offer (state_of g.N.Naming.name c.self.inside) ≡ work c.args.unit
offered g c = ap offer c.self.view_is ∙ c.requires.offered

alone : (g : Over) (c : goal.After-len g) → (state_of g.N.Naming.name c.self.inside).out ≡ []
alone g c = ap (λ (z : RegionState). z.out) c.self.view_is ∙ c.requires.alone

is_put : (g : Over) (c : goal.After-len g) → IsItemPut c.self.inside (behind_it g c) (ended_item c.args.unit c.self.inside.moment)
is_put g c = record {
  session = refl;
  limit = refl;
  moment = refl;
  history =
      c.push_reserved.ensures.items
      ∙ (λ i. c.reserve.ensures.items i ++ record { unit = c.args.unit; moment = c.self.inside.moment; end = Commit; calls = c.new.ensures i; rows = c.new-2.ensures i; seq = 0 } ∷ []);
  gone = not_out g.N.Naming.name c.self.inside c.self.invariant c.args.unit (offered g c) (alone g c) c.requires.item;
  repository = refl;
  units = refl;
  items = refl;
  activations = refl;
}

pub invariant_of-self-2 : goal.invariant_of-self-2
invariant_of-self-2 g c =
    keeps_on g.N.Naming.name c.self.inside (behind_it g c) c.self.invariant (ended_item c.args.unit c.self.inside.moment)
    (item_enters g.N.Naming.name c.self.inside c.self.invariant c.args.unit (offered g c) (alone g c) c.requires.item (behind_it g c) (is_put g c))

pub returns : goal.returns
returns g c =
    let place : c.len.result ≡ length c.push_reserved.new.self.items = search rules in (
      subst (λ (z : RegionState). state_of g.N.Naming.name (behind_it g c) ≡ with_moment (ended_at_once c.args.unit z).moment (with_ended (ended_at_once c.args.unit z) z)) c.self.view_is
          (item_told g.N.Naming.name c.self.inside c.self.invariant c.args.unit (offered g c) (alone g c) c.requires.item (behind_it g c) (is_put g c)),
      place,
    )
