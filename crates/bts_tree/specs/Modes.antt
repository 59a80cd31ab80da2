-- The modes of an activity, and what leads from one to another.
use Rattle.std.specs.Prelude.{Bool, true, false, List, [], ◌∷◌}
use Rattle.bts_names.specs.declared.state.Mode.{Mode}
use Rattle.bts_names.specs.declared.state.Mode.TheVariants as mode
use Rattle.bts_names.specs.declared.state.Status.{Status}
use Rattle.bts_names.specs.declared.state.Status.TheVariants as status

abbrev pub is_mode_initial : Mode → Bool
is_mode_initial mode.Initial = true
is_mode_initial mode.Active = false
is_mode_initial mode.Dormant = false
is_mode_initial mode.Complete = false

abbrev pub is_mode_active : Mode → Bool
is_mode_active mode.Initial = false
is_mode_active mode.Active = true
is_mode_active mode.Dormant = false
is_mode_active mode.Complete = false

abbrev pub is_mode_dormant : Mode → Bool
is_mode_dormant mode.Initial = false
is_mode_dormant mode.Active = false
is_mode_dormant mode.Dormant = true
is_mode_dormant mode.Complete = false

abbrev pub is_mode_complete : Mode → Bool
is_mode_complete mode.Initial = false
is_mode_complete mode.Active = false
is_mode_complete mode.Dormant = false
is_mode_complete mode.Complete = true

-- why an activity's mode changes
pub data Cause : Type 0 where
  frame_opens : Cause
  waits : Cause
  finishes : Cause
  abends : Cause
  is_forced : Cause
  is_reset : Cause

-- the modes from which a cause leads, and the mode and the status to which it leads
abbrev pub change_of : Cause → List Mode × Mode × Status
change_of frame_opens = (mode.Initial ∷ mode.Dormant ∷ [], mode.Active, status.Incomplete)
change_of waits = (mode.Active ∷ [], mode.Dormant, status.Incomplete)
change_of finishes = (mode.Active ∷ [], mode.Complete, status.Normal)
change_of abends = (mode.Active ∷ [], mode.Complete, status.Abend)
change_of is_forced = (mode.Initial ∷ mode.Dormant ∷ [], mode.Complete, status.Forced)
change_of is_reset = (mode.Initial ∷ mode.Complete ∷ [], mode.Initial, status.Incomplete)
