-- What a region keeps where no unit ended: there is more room, or it is later.
use Rattle.std.proofs.Common.{◌≡◌, ◌≤◌, ℕ, List, length, map, true, ◌&&◌, ◌||◌, not, nat_eq, Option, None, Some, sym, ap, ◌∙◌, subst, arith}
use Rattle.std.specs.List.{AllByRecursion, list_all, list_any}
use Rattle.bts_command.specs.declared.ended.UnitKind.{UnitKind}
use Rattle.bts_command.specs.declared.ended.UnitKind.TheVariants as unit
use Rattle.bts_interp.specs.Items.{numbered}
use Rattle.bts_interp.specs.Names.{Named}
use Rattle.bts_interp.specs.Stations.{Out}
use Rattle.bts_region.specs.Enabled.{is_enabled}
use Rattle.bts_region.specs.Items.{has_turn, is_settle}
use Rattle.bts_region.specs.Awake.{AreAwake}
use Rattle.bts_region.specs.Keeps.{AreFirst, IsNextOut, Keeps, out_of, state_of}
use Rattle.bts_region.specs.Owed.{owed}
use Rattle.bts_region.specs.Positions.{opened_at}
use Rattle.bts_region.specs.Regions.{IsKept, RegionState, activations_of, position_of}
use Rattle.bts_region.specs.Serial.{activations_in}
use Rattle.bts_region.specs.Today.{IsOfToday, IsSmall}
use Rattle.bts_region.specs.declared.region.Region.TheInside.{Inside}
use Rattle.bts_rows.specs.Bounds.{is_lone}
use Rattle.bts_rows.proofs.Repositories.{lone_due}
use Rattle.bts_session.specs.declared.session.Session.{Session}
use Rattle.bts_tree.specs.Repositories.{Processes, ready_in, untold_in}
use Rattle.bts_tree.specs.Scopes.{is_empty}
use Rattle.bts_tree.specs.Soundness.{AreSound, bound_of_units}

-- ---- what is out stays enabled

-- where no process has a timer, a request and an activation are enabled at each moment alike
pub enabled_later : (session : Session) (count now later : ℕ) (repo : Processes) (ended : List ℕ) (u : UnitKind) → IsNextOut session count (Some u) → list_all is_lone repo.items ≡ true
    → is_enabled session now repo ended u ≡ true → is_enabled session later repo ended u ≡ true
enabled_later session count now later repo ended (unit.Request n key) o lone e =
    subst (λ due. list_any (λ x. nat_eq x.0 n && (has_turn session ended x.0 x.1 && (not (is_settle x.1) || (is_empty (untold_in repo) && is_empty due && is_empty (ready_in repo))))) (numbered session) ≡ true)
    (lone_due now repo lone ∙ sym (lone_due later repo lone)) e
enabled_later session count now later repo ended (unit.Activation key path) o lone e = e
enabled_later session count now later repo ended (unit.Notice key path) o lone e = absurd o
enabled_later session count now later repo ended (unit.Expiry key path timer) o lone e = absurd o
enabled_later session count now later repo ended (unit.Clock n) o lone e = absurd o
enabled_later session count now later repo ended (unit.Settle n) o lone e = absurd o
enabled_later session count now later repo ended (unit.Browse n) o lone e = absurd o

-- ---- in a region

-- no unit ended, and it isn't earlier
pub record IsStill {N : Type 0} (r s : Inside N) : Type 0 where
  pub session : s.session.value ≡ r.session.value
  pub limit : s.limit ≡ r.limit
  pub later : r.moment ≤ s.moment
  pub history : s.history.items ≡ r.history.items
  pub out : s.out ≡ r.out
  pub processes : s.repository.processes ≡ r.repository.processes
  pub awake : AreAwake r.repository → AreAwake s.repository
  pub units : s.units ≡ r.units
  pub items : s.items_ended ≡ r.items_ended
  pub activations : s.activations ≡ r.activations

module _ {N : Type 0} (name : Named) (r s : Inside N) (k : Keeps name r) (t : IsStill r s) where
  abbrev still : RegionState
  still = record (state_of name r) { moment = s.moment }

  is_still : still ≡ state_of name s
  is_still = λ i. record { session = sym t.session i; limit = sym t.limit i; opening = opened_at name.opening; moment = s.moment; history = sym t.history i; out = out_of (sym t.out i) }

  still_enabled : (o : Option UnitKind) → IsNextOut r.session.value r.items_ended o
      → AllByRecursion (λ v. is_enabled r.session.value r.moment (position_of (state_of name r)).processes (position_of (state_of name r)).ended v ≡ true) (map (λ (z : Out). z.1) (out_of o))
      → AllByRecursion (λ v. is_enabled r.session.value s.moment (position_of (state_of name r)).processes (position_of (state_of name r)).ended v ≡ true) (map (λ (z : Out). z.1) (out_of o))
  still_enabled None n e = tt
  still_enabled (Some u) n e = (
    enabled_later r.session.value r.items_ended r.moment s.moment (position_of (state_of name r)).processes (position_of (state_of name r)).ended u n (subst (λ repo. list_all is_lone repo.items ≡ true) k.processes k.lone) e.0,
    tt,
  )

  still_kept : IsKept still
  still_kept = record {
    legal = k.kept.legal;
    items = k.kept.items;
    later = let a = k.kept.later in let b = t.later in omega (arith, a, b);
    enabled = still_enabled r.out k.next_out k.kept.enabled;
    apart = k.kept.apart;
  }

  pub keeps_still : Keeps name s
  keeps_still = record {
    session = t.session ∙ k.session;
    limit = t.limit ∙ k.limit;
    kept = subst IsKept is_still still_kept;
    processes = t.processes ∙ k.processes ∙ ap (λ z. (position_of z).processes) is_still;
    units = t.units ∙ k.units ∙ ap (λ z. (position_of z).units) is_still;
    items = subst (λ z. AreFirst s.items_ended (position_of z).ended) is_still (subst (λ n. AreFirst n (position_of (state_of name r)).ended) (sym t.items) k.items);
    few_items = subst (λ x. s.items_ended ≤ length x.items) (sym t.session) (subst (λ n. n ≤ length r.session.value.items) (sym t.items) k.few_items);
    activations = t.activations ∙ k.activations ∙ ap activations_in (sym t.history);
    limited = subst (λ z. activations_of z ≤ z.limit) is_still k.limited;
    few_units = let a = t.units in let b = t.items in let c = t.activations in let d = k.few_units in let e = ap owed t.processes in omega (arith, a, b, c, d, e);
    next_out = subst (λ x. IsNextOut x s.items_ended s.out) (sym t.session) (subst (λ n. IsNextOut r.session.value n s.out) (sym t.items) (subst (IsNextOut r.session.value r.items_ended) (sym t.out) k.next_out));
    sound = subst AreSound (sym t.processes) k.sound;
    within = subst (λ n. bound_of_units n s.repository.processes ≡ true) (sym t.units) (subst (λ repo. bound_of_units r.units repo ≡ true) (sym t.processes) k.within);
    lone = subst (λ repo. list_all is_lone repo.items ≡ true) (sym t.processes) k.lone;
    awake = t.awake k.awake;
    may_open = k.may_open;
    today = subst IsOfToday (sym t.session) k.today;
    small = subst (λ x. IsSmall x s.limit) (sym t.session) (subst (IsSmall r.session.value) (sym t.limit) k.small);
  }
