-- A bound of a region holds with each greater one.
use Rattle.std.specs.Prelude.{ℕ, ◌≤◌, List, [], ◌∷◌, max}
use Rattle.std.proofs.Common.{arith}
use Rattle.std.specs.List.{AllByRecursion}
use Rattle.bts_command.specs.declared.ended.Ended.{Ended}
use Rattle.bts_region.specs.AsStation.{IsRegionWithin}
use Rattle.bts_region.specs.Histories.{last_clock}
use Rattle.bts_region.specs.Regions.{RegionState}

wider : (b c k : ℕ) (h : List Ended) → b ≤ c → AllByRecursion (λ e. e.moment ≤ max b k) h → AllByRecursion (λ e. e.moment ≤ max c k) h
wider b c k [] le w = tt
wider b c k (e ∷ es) le w = (omega (arith, le, w.0), wider b c k es le w.1)

pub region_widens : (s : RegionState) (b c : ℕ) → b ≤ c → IsRegionWithin b s → IsRegionWithin c s
region_widens s b c le w = (wider b c (max s.opening.moment (last_clock s.session)) s.history le w.0, omega (arith, le, w.1))
