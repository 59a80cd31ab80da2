-- What is on offer where the first items have ended, and no notice or expiry is enabled.
use Rattle.std.proofs.Common.{◌≡◌, ◌<◌, ℕ, zero, suc, ◌+◌, Bool, true, false, cond, not, nat_lt, List, [], ◌∷◌, ◌++◌, map, Option, None, Some, refl, sym, ap, ◌∙◌, subst}
use Rattle.std.specs.List.{AllByRecursion, find, slice_get}
use Rattle.std.specs.Option.{option_map}
use Rattle.std.proofs.lemmas.Bool.{ltb-true}
use Rattle.bts_command.specs.declared.ended.UnitKind.{UnitKind}
use Rattle.bts_command.specs.declared.ended.UnitKind.TheVariants as unit
use Rattle.bts_names.specs.declared.key.Key.{Key}
use Rattle.bts_interp.specs.Steps.{Script}
use Rattle.bts_region.proofs.Numbered.{same_some}
use Rattle.bts_region.proofs.Offers.{activation, may_go, none_goes, offer_found, offer_in, same_work}
use Rattle.bts_region.proofs.Works.{no_requests, no_settles, none_left, requests_first, settle_alone, settled_where, unsettled_by, works_are}
use Rattle.bts_region.specs.Enabled.{items_enabled, works}
use Rattle.bts_region.specs.Items.{is_settle, unit_of}
use Rattle.bts_region.specs.Keeps.{AreFirst}
use Rattle.bts_region.specs.Offered.{activation_or, unit_behind}
use Rattle.bts_region.specs.Positions.{Position}
use Rattle.bts_region.specs.Regions.{Offer, all_done, limit_met, work}
use Rattle.bts_region.specs.Today.{MayBeDone}
use Rattle.bts_session.specs.declared.session.Item.{Item}
use Rattle.bts_session.specs.declared.session.Item.TheVariants as item
use Rattle.bts_session.specs.declared.session.Session.{Session}
use Rattle.bts_tree.specs.Repositories.{Place, due_in, ready_in, untold_in}

-- a place of a list passes what all pass
pub each_place : {X : Type 0} (P : X → Type 0) (xs : List X) (i : ℕ) (x : X) → AllByRecursion P xs → slice_get xs i ≡ Some x → P x
each_place P [] i x h g = cc
each_place P (y ∷ xs) zero x h g = subst P (same_some y x g) h.0
each_place P (y ∷ xs) (suc i) x h g = each_place P xs i x h.1 g

-- the first items have ended, only activations may be enabled besides items, and items are requests and SETTLE
pub record IsQuiet (session : Session) (at : Position) (k : ℕ) : Type 0 where
  pub are_first : AreFirst k at.ended
  pub untold : untold_in at.processes ≡ []
  pub due : due_in at.moment at.processes ≡ []
  pub today : AllByRecursion MayBeDone session.items

module _ (session : Session) (at : Position) (k : ℕ) (quiet : IsQuiet session at k) (made limit : ℕ) where
  abbrev pub on_offer : Offer
  on_offer = offer_in made limit (works session at)

  abbrev ready : List Place
  ready = ready_in at.processes

  abbrev parts : List UnitKind → List Place → List UnitKind → List UnitKind
  parts front places back = front ++ map activation places ++ back

  all_parts : works session at ≡ parts (items_enabled (λ x. not (is_settle x.1)) session at) ready (items_enabled (λ x. is_settle x.1) session at)
  all_parts = works_are session at quiet.untold quiet.due

  -- ---- an item, an activation, or nothing

  request_offered : (key : Key) (script : Script) → slice_get session.items k ≡ Some (item.Request key script) → on_offer ≡ work (unit.Request (k + 1) key)
  request_offered key script g =
      ap (offer_in made limit) (all_parts ∙ ap (λ us. parts us ready (items_enabled (λ x. is_settle x.1) session at)) (requests_first session at k quiet.are_first key script g).1)

  activations_offered : (below : Bool) (p : Place) (ps : List Place)
      → offer_found made (parts [] (p ∷ ps) []) (find (may_go below) (parts [] (p ∷ ps) [])) ≡ cond below (work (unit.Activation p.0 p.1)) (limit_met made)
  activations_offered true p ps = refl
  activations_offered false p ps = ap (offer_found made (parts [] (p ∷ ps) [])) (none_goes ps)

  module _ (no_request : items_enabled (λ x. not (is_settle x.1)) session at ≡ []) (behind : Offer) (h : ready ≡ [] → on_offer ≡ behind) where
    behind_requests : (places : List Place) → ready ≡ places → on_offer ≡ activation_or made limit places behind
    behind_requests [] q = h q
    behind_requests (p ∷ ps) q =
        ap (offer_in made limit)
        (all_parts
        ∙ ap (λ us. parts us ready (items_enabled (λ x. is_settle x.1) session at)) no_request
        ∙ ap (λ places. parts [] places (items_enabled (λ x. is_settle x.1) session at)) q
        ∙ ap (parts [] (p ∷ ps)) (no_settles session at (unsettled_by at p ps q)))
        ∙ activations_offered (nat_lt made limit) p ps

  settle_offered : slice_get session.items k ≡ Some item.Settle → on_offer ≡ activation_or made limit ready (work (unit.Settle (k + 1)))
  settle_offered g =
      let none = no_requests session at k quiet.are_first g in
      behind_requests none (work (unit.Settle (k + 1)))
      (λ q.
      ap (offer_in made limit)
      (all_parts
      ∙ ap (λ us. parts us ready (items_enabled (λ x. is_settle x.1) session at)) none
      ∙ ap (λ places. parts [] places (items_enabled (λ x. is_settle x.1) session at)) q
      ∙ ap (parts [] []) (settle_alone session at k quiet.are_first g (settled_where at quiet.untold quiet.due q))))
      ready refl

  nothing_offered : slice_get session.items k ≡ None → on_offer ≡ activation_or made limit ready all_done
  nothing_offered g =
      let none = none_left session at k quiet.are_first (λ x. not (is_settle x.1)) g in
      behind_requests none all_done
      (λ q.
      ap (offer_in made limit)
      (all_parts
      ∙ ap (λ us. parts us ready (items_enabled (λ x. is_settle x.1) session at)) none
      ∙ ap (λ places. parts [] places (items_enabled (λ x. is_settle x.1) session at)) q
      ∙ ap (parts [] []) (none_left session at k quiet.are_first (λ x. is_settle x.1) g)))
      ready refl

  -- ---- as it is found

  may_be : (i : Item) → slice_get session.items k ≡ Some i → MayBeDone i
  may_be i g = each_place MayBeDone session.items k i quiet.today g

  pub next_none : unit_behind session.items k ≡ None → on_offer ≡ activation_or made limit ready all_done
  next_none e = nothing_offered (by (slice_get session.items k) e)
    where
      by : (o : Option Item) → option_map (unit_of (k + 1)) o ≡ None → o ≡ None
      by None q = refl
      by (Some i) q = cc

  pub next_request : (u : UnitKind) (n : ℕ) (key : Key) → unit_behind session.items k ≡ Some u → u ≡ unit.Request n key → on_offer ≡ work u
  next_request u n key e r = by (slice_get session.items k) refl e
    where
      of_item : (i : Item) → slice_get session.items k ≡ Some i → MayBeDone i → unit_of (k + 1) i ≡ u → on_offer ≡ work u
      of_item (item.Request x script) g m q = request_offered x script g ∙ ap (λ v. work v) q
      of_item item.Settle g m q = let w : unit.Settle (k + 1) ≡ unit.Request n key = q ∙ r in cc
      of_item (item.Clock moment) g m q = absurd m
      of_item (item.Browse criteria) g m q = absurd m

      by : (o : Option Item) → slice_get session.items k ≡ o → option_map (unit_of (k + 1)) o ≡ Some u → on_offer ≡ work u
      by None g q = cc
      by (Some i) g q = of_item i g (may_be i g) (same_some (unit_of (k + 1) i) u q)

  pub next_other : (u : UnitKind) → unit_behind session.items k ≡ Some u → ((n : ℕ) (key : Key) → u ≡ unit.Request n key → ⊥) → on_offer ≡ activation_or made limit ready (work u)
  next_other u e other = by (slice_get session.items k) refl e
    where
      of_item : (i : Item) → slice_get session.items k ≡ Some i → MayBeDone i → unit_of (k + 1) i ≡ u → on_offer ≡ activation_or made limit ready (work u)
      of_item (item.Request x script) g m q = absurd (other (k + 1) x (sym q))
      of_item item.Settle g m q = settle_offered g ∙ ap (λ v. activation_or made limit ready (work v)) q
      of_item (item.Clock moment) g m q = absurd m
      of_item (item.Browse criteria) g m q = absurd m

      by : (o : Option Item) → slice_get session.items k ≡ o → option_map (unit_of (k + 1)) o ≡ Some u → on_offer ≡ activation_or made limit ready (work u)
      by None g q = cc
      by (Some i) g q = of_item i g (may_be i g) (same_some (unit_of (k + 1) i) u q)

  -- ---- what is known of work on offer

  abbrev pub IsNextWork : UnitKind → Type 0
  IsNextWork (unit.Request n key) = (n ≡ k + 1) × (script : Script) × (slice_get session.items k ≡ Some (item.Request key script))
  IsNextWork (unit.Activation key path) = (made < limit) × (ps : List Place) × (ready ≡ (key, path) ∷ ps)
  IsNextWork (unit.Settle n) = (n ≡ k + 1) × (slice_get session.items k ≡ Some item.Settle) × (ready ≡ [])
  IsNextWork _ = ⊥

  activation_is_next : (below : Bool) → nat_lt made limit ≡ below → (p : Place) (ps : List Place) (u : UnitKind) → ready ≡ p ∷ ps
      → cond below (work (unit.Activation p.0 p.1)) (limit_met made) ≡ work u → IsNextWork u
  activation_is_next true b p ps u q e = subst IsNextWork (same_work (unit.Activation p.0 p.1) u e) (ltb-true made limit b, ps, q)
  activation_is_next false b p ps u q e = cc

  behind_is_next : (places : List Place) → ready ≡ places → (behind : Offer) (u : UnitKind) → (ready ≡ [] → behind ≡ work u → IsNextWork u)
      → activation_or made limit places behind ≡ work u → IsNextWork u
  behind_is_next [] q behind u h e = h q e
  behind_is_next (p ∷ ps) q behind u h e = activation_is_next (nat_lt made limit) refl p ps u q e

  pub work_is_next : (u : UnitKind) → on_offer ≡ work u → IsNextWork u
  work_is_next u e = by (slice_get session.items k) refl
    where
      of_item : (i : Item) → slice_get session.items k ≡ Some i → MayBeDone i → IsNextWork u
      of_item (item.Request key script) g m = subst IsNextWork (same_work (unit.Request (k + 1) key) u (sym (request_offered key script g) ∙ e)) (refl, script, g)
      of_item item.Settle g m =
          behind_is_next ready refl (work (unit.Settle (k + 1))) u (λ q w. subst IsNextWork (same_work (unit.Settle (k + 1)) u w) (refl, g, q)) (sym (settle_offered g) ∙ e)
      of_item (item.Clock moment) g m = absurd m
      of_item (item.Browse criteria) g m = absurd m

      none_is_work : all_done ≡ work u → ⊥
      none_is_work w = cc

      by : (o : Option Item) → slice_get session.items k ≡ o → IsNextWork u
      by None g = behind_is_next ready refl all_done u (λ q w. absurd (none_is_work w)) (sym (nothing_offered g) ∙ e)
      by (Some i) g = of_item i g (may_be i g)
