-- A region as a station.
use Rattle.std.specs.Prelude.{◌≡◌, ℕ, ◌+◌, ◌-◌, ◌*◌, ◌≤◌, Bool, true, ◌||◌, cond, max, length, is_some}
use Rattle.bts_command.specs.declared.ended.UnitKind.{UnitKind}
use Rattle.bts_interp.specs.Items.{item_of}
use Rattle.bts_interp.specs.Stations as answer
use Rattle.bts_region.specs.Answers.{offer_alone}
use Rattle.bts_region.specs.Histories.{IsWithin, last_clock}
use Rattle.bts_command.specs.Kinds.{is_activation}
use Rattle.bts_region.specs.Items.{items_of}
use Rattle.bts_region.specs.Owed.{owed}
use Rattle.bts_region.specs.Positions.{behind_all}
use Rattle.bts_region.specs.Regions.{RegionState, all_done, limit_met}
use Rattle.bts_region.specs.Serial.{activations_in}

-- the items that haven't ended, and the activations that are still allowed
abbrev pub left_of : RegionState → ℕ
left_of r = length r.session.items - length (items_of r.history) + (r.limit - activations_in r.history)

-- each of them may bring about fewer notices and expiries than this, beside those that are still to come
abbrev pub rest_of : RegionState → ℕ
rest_of r = 2_000 * left_of r + owed (behind_all r.opening r.history).processes

-- no notice and no expiry is to come
abbrev pub IsNothingOwed : RegionState → Type 0
IsNothingOwed r = owed (behind_all r.opening r.history).processes ≡ 0

abbrev pub IsDue : RegionState → answer.Answer → Type 0
IsDue r answer.all_done = offer_alone r r.out ≡ all_done
IsDue r (answer.limit_met count) = offer_alone r r.out ≡ limit_met count

-- the ended units and the moment are within a bound
abbrev pub IsRegionWithin : ℕ → RegionState → Type 0
IsRegionWithin latest r = IsWithin latest r.session r.opening r.history × (r.moment ≤ max latest (max r.opening.moment (last_clock r.session)))

-- a unit that is one of so many: it does an item, or is an activation up to the limit
abbrev pub is_counted : UnitKind → Bool
is_counted u = is_some (item_of u) || is_activation u

pub record MayEnd (r : RegionState) (u : UnitKind) : Type 0 where
  pub counted : is_counted u ≡ true
  pub limited : activations_in r.history + cond (is_activation u) 1 0 ≤ r.limit
