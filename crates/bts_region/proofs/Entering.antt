-- What a region keeps where a unit ended.
use Rattle.std.proofs.Common.{◌≡◌, ◌≤◌, ◌*◌, ℕ, ◌+◌, Bool, true, false, cond, List, [], ◌∷◌, ◌++◌, length, ◌||◌, is_some, None, Some, refl, sym, ap, ◌∙◌, subst, arith}
use Rattle.std.specs.List.{list_all}
use Rattle.std.proofs.Math.Nat.{add-zero}
use Rattle.bts_command.specs.declared.ended.Ended.{Ended}
use Rattle.bts_interp.specs.Items.{item_of}
use Rattle.bts_interp.specs.Names.{Named}
use Rattle.bts_region.specs.Histories.{IsNext}
use Rattle.bts_region.specs.AsStation.{is_counted}
use Rattle.bts_region.specs.Awake.{AreAwake}
use Rattle.bts_region.specs.Keeps.{AreFirst, IsNextOut, Keeps, out_of, state_of}
use Rattle.bts_region.specs.Owed.{owed}
use Rattle.bts_command.specs.Kinds.{is_activation, is_committed}
use Rattle.bts_region.specs.Positions.{Position, behind, behind_all, opened_at, with_item}
use Rattle.bts_region.specs.Regions.{IsKept, RegionState, activations_of}
use Rattle.bts_region.specs.Serial.{activations_in}
use Rattle.bts_region.specs.Today.{IsOfToday, IsSmall}
use Rattle.bts_region.specs.declared.region.Region.TheInside.{Inside}
use Rattle.bts_region.proofs.Appending.{activations_more, behind_more, first_more, items_stand_once, legal_more}
use Rattle.bts_region.proofs.Counts.{one_if}
use Rattle.bts_region.proofs.Owing.{nothing_owed}
use Rattle.bts_rows.specs.Bounds.{is_lone}
use Rattle.bts_tree.specs.Soundness.{AreSound, bound_of_units}
use Rattle.bts_unit.specs.Playing.{after}

-- a unit that may stand next ended at the moment, and the fields tell so
pub record Enters {N : Type 0} (name : Named) (r s : Inside N) (e : Ended) : Type 0 where
  -- the unit
  pub next : IsNext r.session.value (behind_all (opened_at name.opening) r.history.items) e
  pub now : e.moment ≡ r.moment
  pub counted : is_counted e.unit ≡ true
  pub item : item_of e.unit ≡ cond (is_some (item_of e.unit)) (Some (r.items_ended + 1)) None
  pub few_items : s.items_ended ≤ length r.session.value.items
  pub limited : activations_in r.history.items + one_if (is_activation e.unit) ≤ r.limit
  -- the fields
  pub session : s.session.value ≡ r.session.value
  pub limit : s.limit ≡ r.limit
  pub moment : s.moment ≡ r.moment
  pub history : s.history.items ≡ r.history.items ++ e ∷ []
  pub out : s.out ≡ None
  pub processes : s.repository.processes ≡ after r.repository.processes e
  pub units : s.units ≡ cond (is_committed e) (r.units + 1) r.units
  pub items : s.items_ended ≡ cond (is_some (item_of e.unit)) (r.items_ended + 1) r.items_ended
  pub activations : s.activations ≡ cond (is_activation e.unit) (r.activations + 1) r.activations
  -- the processes
  pub sound : AreSound s.repository.processes
  pub within : bound_of_units s.units s.repository.processes ≡ true
  pub lone : list_all is_lone s.repository.processes.items ≡ true
  pub awake : AreAwake s.repository

first_behind : (b : Bool) (count : ℕ) (ended : List ℕ) → AreFirst count ended → AreFirst (cond b (count + 1) count) (with_item (cond b (Some (count + 1)) None) ended)
first_behind true count ended first = first_more count ended first
first_behind false count ended first = first

one_more : (committed item activation : Bool) (units owing first items activations : ℕ) → item || activation ≡ true → units + owing ≤ first + 2_000 * (items + activations)
    → cond committed (units + 1) units ≤ first + 2_000 * (cond item (items + 1) items + cond activation (activations + 1) activations)
one_more true true true units owing first items activations c h = omega arith
one_more true true false units owing first items activations c h = omega arith
one_more true false true units owing first items activations c h = omega arith
one_more true false false units owing first items activations c h = cc
one_more false true true units owing first items activations c h = omega arith
one_more false true false units owing first items activations c h = omega arith
one_more false false true units owing first items activations c h = omega arith
one_more false false false units owing first items activations c h = cc

few_more : (units owing first items activations u i a : ℕ) → units ≡ u → items ≡ i → activations ≡ a → owing ≡ 0 → u ≤ first + 2_000 * (i + a) → units + owing ≤ first + 2_000 * (items + activations)
few_more units owing first items activations u i a e f g none l = omega (arith, e, f, g, none, l)

counted : (b : Bool) (n : ℕ) → cond b (n + 1) n ≡ n + one_if b
counted true n = refl
counted false n = sym (add-zero n)

module _ {N : Type 0} (name : Named) (r s : Inside N) (k : Keeps name r) (e : Ended) (n : Enters name r s e) where
  abbrev pub h : List Ended
  h = r.history.items

  abbrev pub at : Position
  at = behind_all (opened_at name.opening) h

  abbrev opened : ℕ
  opened = name.opening.units + owed name.opening.repo.processes

  abbrev pub entered : RegionState
  entered = record { session = r.session.value; limit = r.limit; opening = opened_at name.opening; moment = r.moment; history = h ++ e ∷ []; out = [] }

  pub is_entered : entered ≡ state_of name s
  is_entered = λ i. record { session = sym n.session i; limit = sym n.limit i; opening = opened_at name.opening; moment = sym n.moment i; history = sym n.history i; out = out_of (sym n.out i) }

  more : behind at e ≡ behind_all (opened_at name.opening) s.history.items
  more = sym (behind_more h (opened_at name.opening) e) ∙ ap (behind_all (opened_at name.opening)) (sym n.history)

  still_kept : IsKept entered
  still_kept =
      let legal = legal_more r.session.value h (opened_at name.opening) e k.kept.legal n.next in
      record {
        legal = legal;
        items = items_stand_once r.session.value (opened_at name.opening) (h ++ e ∷ []) legal;
        later = let m : (behind_all (opened_at name.opening) (h ++ e ∷ [])).moment ≡ e.moment = ap (λ a. a.moment) (behind_more h (opened_at name.opening) e) in let same = n.now in omega (arith, m, same);
        enabled = tt;
        apart = refl;
      }

  pub keeps_on : Keeps name s
  keeps_on = record {
    session = n.session ∙ k.session;
    limit = n.limit ∙ k.limit;
    kept = subst IsKept is_entered still_kept;
    processes = n.processes ∙ ap (λ p. after p e) k.processes ∙ ap (λ a. a.processes) more;
    units = n.units ∙ ap (λ u. cond (is_committed e) (u + 1) u) k.units ∙ ap (λ a. a.units) more;
    items =
        let first : AreFirst s.items_ended (with_item (item_of e.unit) at.ended) =
        subst (λ c. AreFirst c (with_item (item_of e.unit) at.ended)) (sym n.items)
        (subst (λ o. AreFirst (cond (is_some (item_of e.unit)) (r.items_ended + 1) r.items_ended) (with_item o at.ended)) (sym n.item) (first_behind (is_some (item_of e.unit)) r.items_ended at.ended k.items)) in
        subst (λ a. AreFirst s.items_ended a.ended) more first;
    few_items = subst (λ x. s.items_ended ≤ length x.items) (sym n.session) n.few_items;
    activations = n.activations ∙ counted (is_activation e.unit) r.activations ∙ ap (λ m. m + one_if (is_activation e.unit)) k.activations ∙ sym (activations_more h e) ∙ ap activations_in (sym n.history);
    limited = subst (λ z. activations_of z ≤ z.limit) is_entered (let m = activations_more h e in let l = n.limited in omega (arith, m, l));
    few_units =
        let m : cond (is_committed e) (r.units + 1) r.units ≤ opened + 2_000 * (cond (is_some (item_of e.unit)) (r.items_ended + 1) r.items_ended + cond (is_activation e.unit) (r.activations + 1) r.activations) =
        one_more (is_committed e) (is_some (item_of e.unit)) (is_activation e.unit) r.units (owed r.repository.processes) opened r.items_ended r.activations n.counted k.few_units in
        few_more s.units (owed s.repository.processes) opened s.items_ended s.activations (cond (is_committed e) (r.units + 1) r.units) (cond (is_some (item_of e.unit)) (r.items_ended + 1) r.items_ended)
        (cond (is_activation e.unit) (r.activations + 1) r.activations) n.units n.items n.activations (nothing_owed s.repository.processes n.sound n.lone) m;
    next_out = subst (IsNextOut s.session.value s.items_ended) (sym n.out) tt;
    sound = n.sound;
    within = n.within;
    lone = n.lone;
    awake = n.awake;
    may_open = k.may_open;
    today = subst IsOfToday (sym n.session) k.today;
    small = subst (λ x. IsSmall x s.limit) (sym n.session) (subst (IsSmall r.session.value) (sym n.limit) k.small);
  }
