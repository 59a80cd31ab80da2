-- What is on offer where nothing is out.
use Rattle.std.specs.Prelude.{ℕ, ◌+◌, cond, nat_lt, List, [], ◌∷◌, Option}
use Rattle.std.specs.List.{slice_get}
use Rattle.std.specs.Option.{option_map}
use Rattle.bts_command.specs.declared.ended.UnitKind.{UnitKind}
use Rattle.bts_command.specs.declared.ended.UnitKind.TheVariants as unit
use Rattle.bts_region.specs.Items.{unit_of}
use Rattle.bts_region.specs.Regions.{Offer, all_done, limit_met, work}
use Rattle.bts_region.specs.declared.finding.Found.{Found}
use Rattle.bts_region.specs.declared.finding.Found.TheVariants as found
use Rattle.bts_session.specs.declared.session.Item.{Item}
use Rattle.bts_tree.specs.Repositories.{Place}

-- what was found is on offer
abbrev pub offer_of : Found → Offer
offer_of (found.Work u) = work u
offer_of (found.Limit count) = limit_met count
offer_of found.Done = all_done

-- the unit that does the item behind so many
abbrev pub unit_behind : List Item → ℕ → Option UnitKind
unit_behind items count = option_map (unit_of (count + 1)) (slice_get items count)

-- the first of these activations, or that their count has reached the limit, or what comes behind them
abbrev pub activation_or : ℕ → ℕ → List Place → Offer → Offer
activation_or made limit [] behind = behind
activation_or made limit (p ∷ ps) behind = cond (nat_lt made limit) (work (unit.Activation p.0 p.1)) (limit_met made)
