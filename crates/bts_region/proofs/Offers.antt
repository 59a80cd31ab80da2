-- What is on offer where nothing is out.
use Rattle.std.proofs.Common.{◌≡◌, ◌⊎◌, inl, inr, ◌≤◌, ℕ, ◌+◌, Bool, true, false, cond, not, ◌&&◌, ◌||◌, nat_lt, List, [], ◌∷◌, ◌++◌, map, Option, None, Some, refl, sym, ap, ◌∙◌, arith}
use Rattle.std.specs.List.{AllByRecursion, filter, find, slice_get}
use Rattle.std.proofs.Math.Nat.{add-zero}
use Rattle.std.proofs.lemmas.Bool.{ltb-false}
use Rattle.bts_command.specs.declared.ended.UnitKind.{UnitKind}
use Rattle.bts_command.specs.declared.ended.UnitKind.TheVariants as unit
use Rattle.bts_interp.specs.Items.{Numbered, numbered}
use Rattle.bts_interp.specs.Stations.{Out}
use Rattle.bts_region.proofs.Works.{no_settles, unsettled_by}
use Rattle.bts_region.specs.Enabled.{is_item_enabled, items_enabled, least, works}
use Rattle.bts_region.specs.Items.{is_settle, unit_of}
use Rattle.bts_command.specs.Kinds.{is_activation}
use Rattle.bts_region.specs.Positions.{Position}
use Rattle.bts_region.specs.Regions.{Offer, RegionState, all_done, idle, limit_met, offer, offered, position_of, wait, work}
use Rattle.bts_region.specs.Serial.{activations_in}
use Rattle.bts_session.specs.declared.session.Item.{Item}
use Rattle.bts_session.specs.declared.session.Item.TheVariants as item
use Rattle.bts_session.specs.declared.session.Session.{Session}
use Rattle.bts_tree.specs.Repositories.{Place, due_in, ready_in, untold_in}
use Rattle.bts_tree.specs.Scopes.{is_empty}

-- ---- units that are no activations

abbrev AreOthers : List UnitKind → Type 0
AreOthers us = AllByRecursion (λ u. is_activation u ≡ false) us

both_others : (us vs : List UnitKind) → AreOthers us → AreOthers vs → AreOthers (us ++ vs)
both_others [] vs a b = b
both_others (u ∷ us) vs a b = (a.0, both_others us vs a.1 b)

mapped_others : {X : Type 0} (f : X → UnitKind) → ((x : X) → is_activation (f x) ≡ false) → (xs : List X) → AreOthers (map f xs)
mapped_others f h [] = tt
mapped_others f h (x ∷ xs) = (h x, mapped_others f h xs)

item_is_other : (n : ℕ) (x : Item) → is_activation (unit_of n x) ≡ false
item_is_other n (item.Request key script) = refl
item_is_other n (item.Clock moment) = refl
item_is_other n item.Settle = refl
item_is_other n (item.Browse criteria) = refl

items_are_others : (test : Numbered → Bool) (session : Session) (at : Position) → AreOthers (items_enabled test session at)
items_are_others test session at =
    mapped_others (λ (x : Numbered). unit_of x.0 x.1) (λ x. item_is_other x.0 x.1) (filter (λ x. test x && is_item_enabled session at.moment at.processes at.ended x) (numbered session))

-- ---- the first work that may be taken

abbrev pub activation : Place → UnitKind
activation x = unit.Activation x.0 x.1

-- where activations may be taken or not, the others may
abbrev pub may_go : Bool → UnitKind → Bool
may_go below u = not (is_activation u) || below

pub none_goes : (ps : List Place) → find (may_go false) (map activation ps ++ []) ≡ None
none_goes [] = refl
none_goes (p ∷ ps) = none_goes ps

other_goes : (below : Bool) (u : UnitKind) (us : List UnitKind) → is_activation u ≡ false → find (may_go below) (u ∷ us) ≡ Some u
other_goes below u us other = ap (λ b. cond (not b || below) (Some u) (find (may_go below) us)) other

-- other work, activations, and behind them work that there is only where there are no activations
module _ (back : List UnitKind) (back_others : AreOthers back) where
  abbrev AreLast : List Place → Type 0
  AreLast ready = (p : Place) (ps : List Place) → ready ≡ p ∷ ps → back ≡ []

  pub least_goes : (below : Bool) (front : List UnitKind) (ready : List Place) (u : UnitKind) → AreOthers front → AreLast ready
      → find (may_go below) (front ++ map activation ready ++ back) ≡ Some u → slice_get (front ++ map activation ready ++ back) 0 ≡ Some u
  least_goes below (x ∷ front) ready u others last e = sym (other_goes below x (front ++ map activation ready ++ back) others.0) ∙ e
  least_goes true [] (p ∷ ps) u others last e = e
  least_goes false [] (p ∷ ps) u others last e =
      let none : find (may_go false) (map activation ps ++ back) ≡ None = ap (λ us. find (may_go false) (map activation ps ++ us)) (last p ps refl) ∙ none_goes ps in
      absurd (none_is_some (sym none ∙ e))
    where
      none_is_some : {x : UnitKind} → None ≡ Some x → ⊥
      none_is_some e = cc
  least_goes below [] [] u others last e = at_back back back_others e
    where
      at_back : (us : List UnitKind) → AreOthers us → find (may_go below) us ≡ Some u → slice_get us 0 ≡ Some u
      at_back [] h q = cc
      at_back (x ∷ us) h q = sym (other_goes below x us h.0) ∙ q

  -- where none goes there is none, or an activation comes first
  pub none_to_go : (below : Bool) (front : List UnitKind) (ready : List Place) → AreOthers front → find (may_go below) (front ++ map activation ready ++ back) ≡ None
      → (front ++ map activation ready ++ back ≡ []) ⊎ ((p : Place) × (slice_get (front ++ map activation ready ++ back) 0 ≡ Some (activation p)) × (below ≡ false))
  none_to_go below (x ∷ front) ready others e = absurd (some_is_none (sym (other_goes below x (front ++ map activation ready ++ back) others.0) ∙ e))
    where
      some_is_none : Some x ≡ None → ⊥
      some_is_none e = cc
  none_to_go true [] (p ∷ ps) others e = cc
  none_to_go false [] (p ∷ ps) others e = inr (p, refl, refl)
  none_to_go below [] [] others e = inl (at_back back back_others e)
    where
      at_back : (us : List UnitKind) → AreOthers us → find (may_go below) us ≡ None → us ≡ []
      at_back [] h q = refl
      at_back (x ∷ us) h q = let k : Some x ≡ None = sym (other_goes below x us h.0) ∙ q in cc

module _ (session : Session) (at : Position) (below : Bool) where
  abbrev notices : List UnitKind
  notices = map (λ x. unit.Notice x.0 x.1) (untold_in at.processes)

  abbrev expiries : List UnitKind
  expiries = map (λ x. unit.Expiry x.0 x.1 x.2) (due_in at.moment at.processes)

  abbrev fronts : List UnitKind
  fronts = items_enabled (λ x. not (is_settle x.1)) session at ++ notices ++ expiries

  abbrev settles : List UnitKind
  settles = items_enabled (λ x. is_settle x.1) session at

  fronts_are_others : AreOthers fronts
  fronts_are_others =
      both_others (items_enabled (λ x. not (is_settle x.1)) session at ++ notices) expiries
      (both_others (items_enabled (λ x. not (is_settle x.1)) session at) notices (items_are_others (λ x. not (is_settle x.1)) session at) (mapped_others (λ x. unit.Notice x.0 x.1) (λ x. refl) (untold_in at.processes)))
      (mapped_others (λ x. unit.Expiry x.0 x.1 x.2) (λ x. refl) (due_in at.moment at.processes))

  settles_are_others : AreOthers settles
  settles_are_others = items_are_others (λ x. is_settle x.1) session at

  pub found_is_least : (u : UnitKind) → find (may_go below) (works session at) ≡ Some u → least session at ≡ Some u
  unfolding works
  found_is_least u e = least_goes settles settles_are_others below fronts (ready_in at.processes) u fronts_are_others (λ p ps q. no_settles session at (unsettled_by at p ps q)) e

  pub none_is_found : find (may_go below) (works session at) ≡ None → (works session at ≡ []) ⊎ ((p : Place) × (least session at ≡ Some (unit.Activation p.0 p.1)) × (below ≡ false))
  unfolding works
  none_is_found e = none_to_go settles settles_are_others below fronts (ready_in at.processes) fronts_are_others e

-- ---- the offer

abbrev pub offer_found : ℕ → List UnitKind → Option UnitKind → Offer
offer_found made all (Some u) = work u
offer_found made all None = idle false (not (is_empty all)) made

abbrev pub offer_in : ℕ → ℕ → List UnitKind → Offer
offer_in made limit all = offer_found made all (find (may_go (nat_lt made limit)) all)

-- the offer of a region of which nothing is out
pub offer_alone_is : (r : RegionState) → r.out ≡ [] → offer r ≡ offer_in (activations_in r.history) r.limit (works r.session (position_of r))
offer_alone_is r alone =
    let made : ℕ = activations_in r.history in
    let all : List UnitKind = works r.session (position_of r) in
    let alone_offer : List Out → Offer = λ out. (let s : RegionState = record { session = r.session; limit = r.limit; opening = r.opening; moment = r.moment; history = r.history; out = out } in offer s) in
    ap alone_offer alone ∙ by made all (find (may_go (nat_lt (made + 0) r.limit)) all) ∙ ap (λ n. offer_found made all (find (may_go (nat_lt n r.limit)) all)) (add-zero made)
  where
    by : (made : ℕ) (all : List UnitKind) (o : Option UnitKind)
        → offered (record { session = r.session; limit = r.limit; opening = r.opening; moment = r.moment; history = r.history; out = [] }) o ≡ offer_found (activations_in r.history) (works r.session (position_of r)) o
    by made all (Some u) = refl
    by made all None = refl

-- ---- what is on offer is the first work, the limit, or nothing

work_in : UnitKind → Offer → UnitKind
work_in d (work u) = u
work_in d wait = d
work_in d (limit_met n) = d
work_in d all_done = d

pub same_work : (u v : UnitKind) → work u ≡ work v → u ≡ v
unfolding work_in
same_work u v e = ap (work_in u) e

module _ (r : RegionState) (alone : r.out ≡ []) where
  abbrev made : ℕ
  made = activations_in r.history

  abbrev below : Bool
  below = nat_lt made r.limit

  abbrev all : List UnitKind
  all = works r.session (position_of r)

  abbrev first : Option UnitKind
  first = find (may_go below) all

  offer_is : first ≡ None → offer r ≡ idle false (not (is_empty all)) made
  offer_is f = offer_alone_is r alone ∙ ap (offer_found made all) f

  -- an offer of which none is idle is that of the first work
  not_idle : (o : Offer) → offer r ≡ o → (u : UnitKind) → first ≡ Some u → o ≡ work u
  not_idle o e u f = sym e ∙ offer_alone_is r alone ∙ ap (offer_found made all) f

  pub least_on_offer : (u : UnitKind) → offer r ≡ work u → least r.session (position_of r) ≡ Some u
  least_on_offer u e = by first refl
    where
      idle_is_none : (b : Bool) → idle false b made ≡ work u → ⊥
      idle_is_none true q = cc
      idle_is_none false q = cc

      by : (o : Option UnitKind) → first ≡ o → least r.session (position_of r) ≡ Some u
      by (Some v) f = found_is_least r.session (position_of r) below u (f ∙ ap (λ x. Some x) (same_work v u (sym (not_idle (work u) e v f))))
      by None f = absurd (idle_is_none (not (is_empty all)) (sym (offer_is f) ∙ e))

  pub not_waiting : offer r ≡ wait → ⊥
  not_waiting e = by first refl
    where
      idle_waits_not : (b : Bool) → idle false b made ≡ wait → ⊥
      idle_waits_not true q = cc
      idle_waits_not false q = cc

      by : (o : Option UnitKind) → first ≡ o → ⊥
      by (Some v) f = let q : wait ≡ work v = not_idle wait e v f in cc
      by None f = idle_waits_not (not (is_empty all)) (sym (offer_is f) ∙ e)

  abbrev IsAtLimit : ℕ → Type 0
  IsAtLimit count = (count ≡ made) × (r.limit ≤ count) × (p : Place) × (least r.session (position_of r) ≡ Some (unit.Activation p.0 p.1))

  pub limit_on_offer : (count : ℕ) → offer r ≡ limit_met count → IsAtLimit count
  limit_on_offer count e = by first refl
    where
      at_limit : (b : Bool) → idle false b made ≡ limit_met count → (count ≡ made) × (b ≡ true)
      at_limit true q = (cc, refl)
      at_limit false q = cc

      some_left : all ≡ [] → not (is_empty all) ≡ true → ⊥
      some_left n q = let w : false ≡ true = ap (λ us. not (is_empty us)) (sym n) ∙ q in cc

      of_first : (count ≡ made) × (not (is_empty all) ≡ true) → (all ≡ []) ⊎ ((p : Place) × (least r.session (position_of r) ≡ Some (unit.Activation p.0 p.1)) × (below ≡ false)) → IsAtLimit count
      of_first t (inl n) = absurd (some_left n t.1)
      of_first t (inr x) = let q = t.0 in let l = ltb-false made r.limit x.2 in (q, omega (arith, q, l), x.0, x.1)

      by : (o : Option UnitKind) → first ≡ o → IsAtLimit count
      by (Some v) f = let q : limit_met count ≡ work v = not_idle (limit_met count) e v f in cc
      by None f = of_first (at_limit (not (is_empty all)) (sym (offer_is f) ∙ e)) (none_is_found r.session (position_of r) below f)

  pub none_on_offer : offer r ≡ all_done → works r.session (position_of r) ≡ []
  none_on_offer e = by first refl
    where
      at_end : (b : Bool) → idle false b made ≡ all_done → b ≡ false
      at_end true q = cc
      at_end false q = refl

      none_in : (us : List UnitKind) → not (is_empty us) ≡ false → us ≡ []
      none_in [] q = refl
      none_in (u ∷ us) q = cc

      by : (o : Option UnitKind) → first ≡ o → all ≡ []
      by (Some v) f = let q : all_done ≡ work v = not_idle all_done e v f in cc
      by None f = none_in all (at_end (not (is_empty all)) (sym (offer_is f) ∙ e))
