-- The item on offer that holds no process ends at once.
use Rattle.std.proofs.Common.{◌≡◌, ℕ, ◌+◌, true, ◌&&◌, max, nat_eq, [], ◌∷◌, ◌++◌, Option, None, Some, refl, sym, ap, ◌∙◌, subst, arith}
use Rattle.std.specs.List.{list_all, slice_get}
use Rattle.std.proofs.lemmas.Bool.{and_from, eq-eqb}
use Rattle.bts_command.specs.declared.ended.End.TheVariants.{Commit}
use Rattle.bts_command.specs.declared.ended.Ended.{Ended}
use Rattle.bts_command.specs.declared.ended.UnitKind.{UnitKind}
use Rattle.bts_command.specs.declared.ended.UnitKind.TheVariants as unit
use Rattle.bts_interp.specs.Items.{Numbered, item_at, item_done, numbered}
use Rattle.bts_interp.specs.Names.{Named}
use Rattle.bts_region.specs.Answers.{ended_at_once, with_ended, with_moment}
use Rattle.bts_region.specs.Enabled.{is_item_enabled, is_settled}
use Rattle.bts_region.specs.Histories.{IsNext}
use Rattle.bts_region.specs.Items.{clock_in, is_for, rows_in}
use Rattle.bts_region.specs.Awake.{AreAwake}
use Rattle.bts_region.specs.Keeps.{Keeps, out_of, state_of}
use Rattle.bts_command.specs.Kinds.{key_of}
use Rattle.bts_region.specs.Positions.{Position, behind_all, opened_at}
use Rattle.bts_region.specs.Regions.{offer, position_of, work}
use Rattle.bts_region.specs.declared.region.Region.TheInside.{Inside}
use Rattle.bts_region.proofs.Entering.{Enters, is_entered}
use Rattle.bts_region.proofs.Finds.{is_quiet, offers_next}
use Rattle.bts_region.proofs.NextWork.{IsNextWork}
use Rattle.bts_region.proofs.Numbered.{any_where, item_there, numbered_at, place_below}
use Rattle.bts_region.proofs.Works.{settled_where, turn_is_next}
use Rattle.bts_session.specs.declared.session.Item.TheVariants as item
use Rattle.bts_tree.specs.Repositories.{Stored, ready_in}
use Rattle.bts_tree.specs.Soundness.{AreSound, bound_of_units}
use Rattle.bts_rows.specs.Bounds.{is_lone}

none_out : (o : Option UnitKind) → out_of o ≡ [] → o ≡ None
none_out None e = refl
none_out (Some u) e = cc

-- a unit that changes no process and is not counted was put behind the history, as the next item
pub record IsItemPut {N : Type 0} (r s : Inside N) (e : Ended) : Type 0 where
  pub session : s.session.value ≡ r.session.value
  pub limit : s.limit ≡ r.limit
  pub moment : s.moment ≡ r.moment
  pub history : s.history.items ≡ r.history.items ++ e ∷ []
  pub gone : s.out ≡ None
  pub repository : s.repository ≡ r.repository
  pub units : s.units ≡ r.units
  pub items : s.items_ended ≡ r.items_ended + 1
  pub activations : s.activations ≡ r.activations

abbrev pub ended_item : UnitKind → ℕ → Ended
ended_item u moment = record { unit = u; moment = moment; end = Commit; calls = []; rows = []; seq = 0 }

module _ {N : Type 0} (name : Named) (r : Inside N) (k : Keeps name r) where
  abbrev n : ℕ
  n = r.items_ended + 1

  abbrev at : Position
  at = position_of (state_of name r)

  -- a SETTLE is next, and nothing else is left to do
  record IsSettle (u : UnitKind) : Type 0 where
    number : u ≡ unit.Settle n
    there : slice_get r.session.value.items r.items_ended ≡ Some item.Settle
    none : ready_in at.processes ≡ []

  settle_by : (u : UnitKind) → key_of u ≡ None → IsNextWork r.session.value at r.items_ended (is_quiet name r k) r.activations r.limit u → IsSettle u
  settle_by (unit.Request m key) e w = cc
  settle_by (unit.Activation key path) e w = cc
  settle_by (unit.Notice key path) e w = absurd w
  settle_by (unit.Expiry key path timer) e w = absurd w
  settle_by (unit.Clock m) e w = absurd w
  settle_by (unit.Settle m) e w = record { number = ap unit.Settle w.0; there = w.1; none = w.2 }
  settle_by (unit.Browse m) e w = absurd w

  module _ (there : slice_get r.session.value.items r.items_ended ≡ Some item.Settle) (none : ready_in at.processes ≡ []) where
    own_item : item_at r.session.value n ≡ Some item.Settle
    own_item = item_there r.session.value r.items_ended item.Settle there

    settled : is_settled at.moment at.processes ≡ true
    settled = let q = is_quiet name r k in settled_where at q.untold q.due none

    settle_next : IsNext r.session.value (behind_all (opened_at name.opening) r.history.items) (ended_item (unit.Settle n) r.moment)
    settle_next = record {
      enabled =
          any_where (λ (x : Numbered). nat_eq x.0 n && is_item_enabled r.session.value r.moment at.processes at.ended x) (numbered r.session.value) r.items_ended (n, item.Settle)
          (numbered_at r.session.value r.items_ended item.Settle there)
          (and_from _ _ (eq-eqb n n refl) (and_from _ _ (turn_is_next r.session.value at.ended r.items_ended k.items item.Settle) settled));
      item = ap (λ o. is_for o (unit.Settle n)) own_item;
      plays = record { enabled = refl; given = record { calls = refl; end = refl } };
      text = tt;
      number = refl;
      later = k.kept.later;
      clock = let c : clock_in (item_at r.session.value n) ≡ 0 = ap clock_in own_item in omega (arith, c);
      rows = sym (ap (λ o. rows_in o at.processes) own_item);
    }

    settle_enters : (s : Inside N) → IsItemPut r s (ended_item (unit.Settle n) r.moment) → Enters name r s (ended_item (unit.Settle n) r.moment)
    settle_enters s p = record {
      next = settle_next;
      now = refl;
      counted = refl;
      item = refl;
      few_items = let b = place_below r.session.value.items r.items_ended item.Settle there in let i = p.items in omega (arith, b, i);
      limited = let l = k.limited in omega (arith, l);
      session = p.session;
      limit = p.limit;
      moment = p.moment;
      history = p.history;
      out = p.gone;
      processes = ap (λ (x : Stored). x.processes) p.repository;
      units = p.units;
      items = p.items;
      activations = p.activations;
      sound = subst (λ x. AreSound x.processes) (sym p.repository) k.sound;
      within = subst (λ m. bound_of_units m s.repository.processes ≡ true) (sym p.units) (subst (λ x. bound_of_units r.units x.processes ≡ true) (sym p.repository) k.within);
      lone = subst (λ x. list_all is_lone x.processes.items ≡ true) (sym p.repository) k.lone;
      awake = subst AreAwake (sym p.repository) k.awake;
    }

  module _ (u : UnitKind) (offered : offer (state_of name r) ≡ work u) (alone : (state_of name r).out ≡ []) (plain : key_of u ≡ None) where
    one_settle : IsSettle u
    one_settle = settle_by u plain (offers_next name r k alone u offered)

    pub not_out : r.out ≡ None
    not_out = none_out r.out alone

    -- where it was put behind the history
    pub item_enters : (s : Inside N) → IsItemPut r s (ended_item u r.moment) → Enters name r s (ended_item u r.moment)
    item_enters s p =
        let i = one_settle in
        subst (λ v. Enters name r s (ended_item v r.moment)) (sym i.number)
        (settle_enters i.there i.none s (subst (λ v. IsItemPut r s (ended_item v r.moment)) i.number p))

    no_clock : clock_in (item_done r.session.value u) ≡ 0
    no_clock = let i = one_settle in ap (λ v. clock_in (item_done r.session.value v)) i.number ∙ ap clock_in (own_item i.there i.none)

    no_rows : [] ≡ rows_in (item_done r.session.value u) at.processes
    no_rows = let i = one_settle in sym (ap (λ v. rows_in (item_done r.session.value v) at.processes) i.number ∙ ap (λ o. rows_in o at.processes) (own_item i.there i.none))

    now_is : (c : ℕ) → c ≡ 0 → r.moment ≡ max r.moment c
    now_is c e = omega (arith, e)

    now_stays : (c : ℕ) → c ≡ 0 → r.moment ≡ max r.moment (max r.moment c)
    now_stays c e = omega (arith, e)

    pub item_told : (s : Inside N) → IsItemPut r s (ended_item u r.moment) → state_of name s ≡ with_moment (ended_at_once u (state_of name r)).moment (with_ended (ended_at_once u (state_of name r)) (state_of name r))
    item_told s p =
        let c : ℕ = clock_in (item_done r.session.value u) in
        sym (is_entered name r s k (ended_item u r.moment) (item_enters s p))
        ∙ (λ i. record {
          session = r.session.value;
          limit = r.limit;
          opening = opened_at name.opening;
          moment = now_stays c no_clock i;
          history = r.history.items ++ record { unit = u; moment = now_is c no_clock i; end = Commit; calls = []; rows = no_rows i; seq = 0 } ∷ [];
          out = sym alone i;
        })
