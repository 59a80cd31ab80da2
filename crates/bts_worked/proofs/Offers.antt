-- What is answered to whoever asks a region for work.
use Rattle.std.proofs.Common.{◌≡◌, ℕ, List, [], ◌∷◌, codes, map, refl}
use Rattle.bts_command.specs.declared.ended.Ended.{Ended}
use Rattle.bts_command.specs.declared.ended.UnitKind.{UnitKind}
use Rattle.bts_command.specs.declared.ended.UnitKind.TheVariants as unit
use Rattle.bts_event.specs.Pool.{settled}
use Rattle.bts_rows.specs.RequestRows.{request_row}
use Rattle.bts_rows.specs.Rows.{answer, thing_row}
use Rattle.bts_rows.specs.OnActivity.{on_activity}
use Rattle.bts_rows.specs.OnContainers.{on_containers, on_shown}
use Rattle.bts_rows.specs.OnFamily.{on_family}
use Rattle.bts_session.specs.declared.session.Item.TheVariants as item
use Rattle.bts_session.specs.declared.session.Session.{Session}
use Rattle.bts_unit.specs.Calls.{call, called_in, run}
use Rattle.bts_unit.specs.Standings.{moved, retrieving}
use Rattle.bts_region.specs.Enabled.{works}
use Rattle.bts_region.specs.Positions.{origin}
use Rattle.bts_interp.specs.Stations.{Out}
use Rattle.bts_region.specs.Regions.{RegionState, offer, work, wait, limit_met, all_done}
use Rattle.bts_worked.proofs.Legal.{activation, key_of, lacking, p19, request, second_first, two}

abbrev region : Session → ℕ → List Out → List Ended → RegionState
region session limit out history = record { session = session; limit = limit; opening = origin; moment = 0; history = history; out = out }

abbrev one : UnitKind
one = unit.Request 1 (key_of (codes "P1"))

abbrev other : UnitKind
other = unit.Request 2 (key_of (codes "P2"))

-- two requests of different keys: the first one, the second one beside it and the first beside the second, none while
-- both are out, and none behind both
two_keys : map offer (
    region two 0 [] [] ∷
    region two 0 ((0, one) ∷ []) [] ∷
    region two 0 ((0, other) ∷ []) [] ∷
    region two 0 ((0, one) ∷ (1, other) ∷ []) [] ∷
    region two 0 [] second_first ∷ []) ≡
    work one ∷ work other ∷ work one ∷ wait ∷ all_done ∷ []
unfolding answer thing_row request_row on_activity on_containers on_shown on_family settled called_in call run moved retrieving works
two_keys = refl

-- two requests of one key: the second one waits for the first
abbrev in_turn : Session
in_turn = record { programs = []; items = item.Request p19 [] ∷ item.Request p19 [] ∷ [] }

one_key : map offer (region in_turn 0 [] [] ∷ region in_turn 0 ((0, unit.Request 1 p19) ∷ []) [] ∷ []) ≡ work (unit.Request 1 p19) ∷ wait ∷ []
unfolding works
one_key = refl

-- an activation is taken while the count is below the limit, also the count of those that are out
limits : map offer (
    region lacking 0 [] (request ∷ []) ∷
    region lacking 1 [] (request ∷ []) ∷
    region lacking 1 ((0, unit.Activation p19 []) ∷ []) (request ∷ []) ∷
    region lacking 1 [] (request ∷ activation ∷ []) ∷ []) ≡
    limit_met 0 ∷ work (unit.Activation p19 []) ∷ wait ∷ all_done ∷ []
unfolding answer thing_row request_row on_activity on_containers on_shown on_family settled called_in call run moved retrieving works
limits = refl
