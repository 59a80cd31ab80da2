use Rattle.std.proofs.Common.{◌≡◌, not}
use Rattle.std.specs.List.{list_all}
use Rattle.bts_act.specs.Early.{is_early}
use Rattle.bts_act.proofs.early.are_late.Given as goal

abbrev pub invariant-loop-name : goal.invariant-loop-name
invariant-loop-name l =
    (goal.iterator-loop-name).can_next l.name-iterator ×
    (goal.iterator-loop-name).is_finite l.name-iterator ×
    (list_all (λ e. not (is_early l.timers e.1)) l.name-iterator ≡ list_all (λ e. not (is_early l.timers e.1)) l.events.entries)
