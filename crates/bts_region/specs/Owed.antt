-- The notices and the expiries that are still to come.
use Rattle.std.specs.Prelude.{ℕ, ◌+◌, List, length, map}
use Rattle.std.specs.List.{filter, flat_map}
use Rattle.bts_names.specs.Names.{ActivityPath}
use Rattle.bts_names.specs.declared.key.Key.{Key}
use Rattle.bts_timer.specs.Due.{is_unexpired}
use Rattle.bts_timer.specs.Timers.{Timers}
use Rattle.bts_tree.specs.Activities.{Activities}
use Rattle.bts_tree.specs.Processes.{Process, activities}
use Rattle.bts_tree.specs.Repositories.{Processes, TimerPlace, untold_in}

-- the timers that are UNEXPIRED, due or not, by key, path and name
abbrev pub unexpired_at : Key → ActivityPath → Timers → List TimerPlace
unexpired_at key p timers = map (λ t. (key, p, t.0)) (filter (λ t. is_unexpired t.1) timers)

abbrev pub unexpired_among : Key → Activities → List TimerPlace
unexpired_among key = flat_map (λ x. unexpired_at key x.0 x.1.timers)

abbrev pub unexpired_of : Process → List TimerPlace
unexpired_of s = unexpired_among s.key (activities s)

abbrev pub unexpired_in : Processes → List TimerPlace
unexpired_in repo = flat_map unexpired_of repo.items

-- a COMPLETE child that isn't told gets a notice, and a timer that is UNEXPIRED expires
abbrev pub owed : Processes → ℕ
owed repo = length (untold_in repo) + length (unexpired_in repo)
