-- What the fields of a region keep.
use Rattle.std.specs.Prelude.{◌≡◌, ℕ, ◌+◌, ◌*◌, ◌≤◌, ◌&&◌, nat_le, nat_lt, List, [], ◌∷◌, length, Option, Some, None, true}
use Rattle.std.specs.List.{list_all}
use Rattle.bts_command.specs.declared.ended.UnitKind.{UnitKind}
use Rattle.bts_command.specs.declared.ended.UnitKind.TheVariants as unit
use Rattle.bts_interp.specs.Names.{Named}
use Rattle.bts_interp.specs.Stations.{Out}
use Rattle.bts_interp.specs.Items.{item_at}
use Rattle.bts_region.specs.Awake.{AreAwake}
use Rattle.bts_region.specs.Items.{has_ended, is_for}
use Rattle.bts_region.specs.Owed.{owed}
use Rattle.bts_region.specs.Positions.{opened_at}
use Rattle.bts_region.specs.Regions.{IsKept, RegionState, activations_of, position_of}
use Rattle.bts_region.specs.Serial.{activations_in}
use Rattle.bts_region.specs.Today.{IsOfToday, IsSmall, MayOpen}
use Rattle.bts_region.specs.declared.region.Region.TheInside.{Inside}
use Rattle.bts_rows.specs.Bounds.{is_lone}
use Rattle.bts_session.specs.declared.session.Session.{Session}
use Rattle.bts_tree.specs.Soundness.{AreSound, bound_of_units}

-- at most one unit is out, under the first ticket
abbrev pub out_of : Option UnitKind → List Out
out_of None = []
out_of (Some u) = (0, u) ∷ []

abbrev pub state_of : {N : Type 0} → Named → Inside N → RegionState
state_of name r =
    record {
      session = r.session.value;
      limit = r.limit;
      opening = opened_at name.opening;
      moment = r.moment;
      history = r.history.items;
      out = out_of r.out;
    }

-- the items that have ended are the first ones, so many
abbrev pub AreFirst : ℕ → List ℕ → Type 0
AreFirst count ended = (n : ℕ) → has_ended ended n ≡ (nat_lt 0 n && nat_le n count)

-- what is out is the request behind them, or an activation
abbrev pub IsNextOut : Session → ℕ → Option UnitKind → Type 0
IsNextOut session count None = Unit {0}
IsNextOut session count (Some (unit.Request item key)) = (item ≡ count + 1) × (is_for (item_at session item) (unit.Request item key) ≡ true)
IsNextOut session count (Some (unit.Activation key path)) = Unit {0}
IsNextOut session count (Some u) = ⊥

pub record Keeps {N : Type 0} (name : Named) (r : Inside N) : Type 0 where
  pub session : r.session.value ≡ name.session
  pub limit : r.limit ≡ name.limit
  pub kept : IsKept (state_of name r)
  -- what is carried along is what the history gives
  pub processes : r.repository.processes ≡ (position_of (state_of name r)).processes
  pub units : r.units ≡ (position_of (state_of name r)).units
  pub items : AreFirst r.items_ended (position_of (state_of name r)).ended
  pub few_items : r.items_ended ≤ length r.session.value.items
  pub activations : r.activations ≡ activations_in r.history.items
  pub limited : activations_of (state_of name r) ≤ r.limit
  pub few_units : r.units + owed r.repository.processes
      ≤ name.opening.units + owed name.opening.repo.processes + 2_000 * (r.items_ended + r.activations)
  pub next_out : IsNextOut r.session.value r.items_ended r.out
  -- the processes can be worked on
  pub sound : AreSound r.repository.processes
  pub within : bound_of_units r.units r.repository.processes ≡ true
  pub lone : list_all is_lone r.repository.processes.items ≡ true
  pub awake : AreAwake r.repository
  pub today : IsOfToday r.session.value
  pub may_open : MayOpen name.opening
  pub small : IsSmall r.session.value r.limit
