-- The call that comes next in a unit.
use Rattle.std.specs.Prelude.{ℕ, Bool, true, false, nat_eq, List, [], ◌∷◌, Option, None}
use Rattle.bts_command.specs.declared.command.Call.{Call}
use Rattle.bts_unit.specs.Calls.{call, unit_behind}
use Rattle.bts_unit.specs.Frames.{OpenFrame, UnitOfWork}
use Rattle.bts_interp.specs.Steps.{Reached, next_of}
use Rattle.bts_interp.specs.Texts.{Texts, frame_script}

-- ---- the calls of one frame

-- whether the top frame is the one that opened behind so many calls, which no two frames did
abbrev pub is_on_top : ℕ → List OpenFrame → Bool
is_on_top opened [] = false
is_on_top opened (f ∷ fs) = nat_eq f.opened opened

abbrev pub with_own : Bool → Call → List Call → List Call
with_own true c own = c ∷ own
with_own false c own = own

-- those of some calls that are made in that frame
unfoldable pub own_calls : ℕ → UnitOfWork → List Call → List Call
own_calls opened u [] = []
own_calls opened u (c ∷ cs) = with_own (is_on_top opened u.frames) c (own_calls opened (call u c.command).1 cs)

-- ---- the next call

-- what the top one of these frames reaches next, where the unit began so and made these calls
abbrev pub next_in : Texts → UnitOfWork → List Call → List OpenFrame → Option Reached
next_in texts u calls [] = None
next_in texts u calls (f ∷ fs) = next_of (frame_script texts f) (own_calls f.opened u calls)

unfoldable pub next_call : Texts → UnitOfWork → List Call → Option Reached
next_call texts u calls = next_in texts u calls (unit_behind u calls).frames
