-- What a region finds where nothing is out.
use Rattle.std.proofs.Common.{◌≡◌, ℕ, [], None, Some, sym, ap, ◌∙◌}
use Rattle.bts_command.specs.declared.ended.UnitKind.{UnitKind}
use Rattle.bts_command.specs.declared.ended.UnitKind.TheVariants as unit
use Rattle.bts_names.specs.declared.key.Key.{Key}
use Rattle.bts_interp.specs.Names.{Named}
use Rattle.bts_region.proofs.NextWork.{IsNextWork, IsQuiet, next_none, next_other, next_request, on_offer, work_is_next}
use Rattle.bts_region.proofs.Offers.{offer_alone_is, offer_in}
use Rattle.bts_region.specs.Enabled.{works}
use Rattle.bts_region.specs.Keeps.{Keeps, state_of}
use Rattle.bts_region.specs.Offered.{activation_or, unit_behind}
use Rattle.bts_region.specs.Positions.{Position}
use Rattle.bts_region.specs.Regions.{all_done, offer, position_of, work}
use Rattle.bts_region.specs.declared.region.Region.TheInside.{Inside}
use Rattle.bts_rows.proofs.Repositories.{lone_due, lone_untold}
use Rattle.bts_tree.specs.Repositories.{due_in, ready_in, untold_in}

module _ {N : Type 0} (name : Named) (r : Inside N) (keeps : Keeps name r) where
  abbrev pub place : Position
  place = position_of (state_of name r)

  pub is_quiet : IsQuiet r.session.value place r.items_ended
  is_quiet = record {
    are_first = keeps.items;
    untold = ap untold_in (sym keeps.processes) ∙ lone_untold r.repository.processes keeps.sound.each keeps.lone;
    due = ap (due_in r.moment) (sym keeps.processes) ∙ lone_due r.moment r.repository.processes keeps.lone;
    today = keeps.today.items;
  }

  module _ (alone : (state_of name r).out ≡ []) where
    pub offers : offer (state_of name r) ≡ on_offer r.session.value place r.items_ended is_quiet r.activations r.limit
    offers = offer_alone_is (state_of name r) alone ∙ ap (λ n. offer_in n r.limit (works r.session.value place)) (sym keeps.activations)

    pub finds_none : unit_behind r.session.value.items r.items_ended ≡ None → activation_or r.activations r.limit (ready_in r.repository.processes) all_done ≡ offer (state_of name r)
    finds_none e =
        ap (λ repo. activation_or r.activations r.limit (ready_in repo) all_done) keeps.processes
        ∙ sym (offers ∙ next_none r.session.value place r.items_ended is_quiet r.activations r.limit e)

    pub finds_request : (u : UnitKind) (n : ℕ) (key : Key) → unit_behind r.session.value.items r.items_ended ≡ Some u → u ≡ unit.Request n key → work u ≡ offer (state_of name r)
    finds_request u n key e q = sym (offers ∙ next_request r.session.value place r.items_ended is_quiet r.activations r.limit u n key e q)

    pub finds_other : (u : UnitKind) → unit_behind r.session.value.items r.items_ended ≡ Some u → ((n : ℕ) (key : Key) → u ≡ unit.Request n key → ⊥)
        → activation_or r.activations r.limit (ready_in r.repository.processes) (work u) ≡ offer (state_of name r)
    finds_other u e other =
        ap (λ repo. activation_or r.activations r.limit (ready_in repo) (work u)) keeps.processes
        ∙ sym (offers ∙ next_other r.session.value place r.items_ended is_quiet r.activations r.limit u e other)

    pub offers_next : (u : UnitKind) → offer (state_of name r) ≡ work u → IsNextWork r.session.value place r.items_ended is_quiet r.activations r.limit u
    offers_next u e = work_is_next r.session.value place r.items_ended is_quiet r.activations r.limit u (sym offers ∙ e)
