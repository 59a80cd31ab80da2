-- From which modes a cause leads.
use Rattle.std.specs.Prelude.{Bool}
use Rattle.std.specs.List.{list_any}
use Rattle.bts_names.specs.declared.state.Mode.{Mode}
use Rattle.bts_names.specs.declared.state.Mode.TheVariants as mode
use Rattle.bts_tree.specs.Modes.{Cause, change_of, is_mode_active, is_mode_complete, is_mode_dormant, is_mode_initial}

abbrev pub is_mode : Mode → Mode → Bool
is_mode mode.Initial m = is_mode_initial m
is_mode mode.Active m = is_mode_active m
is_mode mode.Dormant m = is_mode_dormant m
is_mode mode.Complete m = is_mode_complete m

-- whether a cause leads from a mode, as the table of the modes has it
abbrev pub leads_from : Cause → Mode → Bool
leads_from why m = list_any (is_mode m) (change_of why).0
