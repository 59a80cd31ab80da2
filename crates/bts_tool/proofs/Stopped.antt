-- Why a session that was done goes no further.
use Rattle.std.proofs.Common.{◌≡◌, ℕ, [], Some, IfSome, IsTrue, eq-eqb, refl, sym, ap, ◌∙◌, subst, arith}
use Rattle.std.specs.List.{slice_get}
use Rattle.bts_command.specs.declared.ended.UnitKind.TheVariants as unit
use Rattle.bts_driver.specs.Turns.{stop_answer}
use Rattle.bts_driver.specs.declared.driver.Stop.{Stop}
use Rattle.bts_driver.specs.declared.driver.Stop.TheVariants as stop
use Rattle.bts_interp.specs.Names.{Named}
use Rattle.bts_region.specs.Answers.{begun, offer_alone}
use Rattle.bts_region.specs.AsStation.{IsDue}
use Rattle.bts_region.specs.Enabled.{least, works}
use Rattle.bts_region.specs.Positions.{behind_all, origin}
use Rattle.bts_region.specs.Regions.{IsRegionInOrder, RegionState, all_done, limit_met, offer, position_of}
use Rattle.bts_region.specs.Serial.{IsInOrder, activations_in, is_over}
use Rattle.bts_region.proofs.EachOnce.{each_once}
use Rattle.bts_region.proofs.Offers.{limit_on_offer, none_on_offer}
use Rattle.bts_tree.specs.Repositories.{Place}
use Rattle.bts_tool.specs.Runs.{IsAllDone, IsAtLimit, IsRunOf, IsStopped}

pub begins_in_order : (name : Named) → IsRegionInOrder (begun name)
begins_in_order name = record { history = record { legal = tt; clocked = tt; least = tt; limited = omega arith }; moment = refl; out = tt }

module _ (r : RegionState) (opening : r.opening ≡ origin) (nothing_out : r.out ≡ []) (o : IsRegionInOrder r) where
  in_order : IsInOrder r.session origin r.limit r.history
  in_order = subst (λ at. IsInOrder r.session at r.limit r.history) opening o.history

  here : position_of r ≡ behind_all origin r.history
  here = ap (λ m. record (behind_all r.opening r.history) { moment = m }) o.moment ∙ ap (λ at. behind_all at r.history) opening

  done : offer r ≡ all_done → IsAllDone r.session r.limit r.history
  done e =
      let none : works r.session (behind_all origin r.history) ≡ [] = subst (λ at. works r.session at ≡ []) here (none_on_offer r nothing_out e) in
      record {
        serial = record { in_order = in_order; over = subst (λ ws. IsTrue (is_over r.limit (activations_in r.history) (slice_get ws 0))) (sym none) refl };
        nothing_enabled = none;
        each_item_once = each_once r.session origin r.history refl in_order.legal none;
      }

  limited : (count : ℕ) → offer r ≡ limit_met count → IsAtLimit r.session r.limit r.history count
  limited count e =
      let x = limit_on_offer r nothing_out count e in
      let p : Place = x.2 in
      let next : least r.session (behind_all origin r.history) ≡ Some (unit.Activation p.0 p.1) = subst (λ at. least r.session at ≡ Some (unit.Activation p.0 p.1)) here x.3 in
      let met : activations_in r.history ≡ r.limit = omega (arith, x.0, x.1, in_order.limited) in
      record {
        serial = record { in_order = in_order; over = subst (λ u. IsTrue (is_over r.limit (activations_in r.history) u)) (sym next) (eq-eqb (activations_in r.history) r.limit met) };
        next = unit.Activation p.0 p.1;
        enabled = next;
        activation = refl;
        count_is = x.0 ∙ met;
        ended = met;
      }

  stopped : (why : Stop) → IfSome (stop_answer why) (λ a. IsDue r a) → IsStopped r.session r.limit r.history why
  stopped stop.Done due = done (subst (λ out. offer_alone r out ≡ all_done) nothing_out due)
  stopped (stop.Limit count) due = limited count (subst (λ out. offer_alone r out ≡ limit_met count) nothing_out due)
  stopped stop.NoMemory due = tt

  pub run_of : (why : Stop) → IfSome (stop_answer why) (λ a. IsDue r a) → IsRunOf r.session r.limit (record { history = r.history; stop = why })
  run_of why due = record { in_order = in_order; stopped = stopped why due }
