-- Which histories of a session are legal.
use Rattle.std.specs.Prelude.{◌≡◌, ℕ, ◌+◌, ◌≤◌, cond, max, List, [], ◌∷◌, IsTrue, Some}
use Rattle.std.specs.List.{AllByRecursion, fold}
use Rattle.bts_command.specs.declared.ended.Ended.{Ended}
use Rattle.bts_command.specs.declared.ended.UnitKind.{UnitKind}
use Rattle.bts_command.specs.declared.ended.UnitKind.TheVariants as unit
use Rattle.bts_interp.specs.Talks.{IsTalk}
use Rattle.bts_region.specs.Enabled.{is_enabled}
use Rattle.bts_region.specs.Items.{clock_in, is_for, rows_in}
use Rattle.bts_interp.specs.Items.{item_done, texts_of}
use Rattle.bts_command.specs.Kinds.{is_committed}
use Rattle.bts_region.specs.Positions.{Position, behind}
use Rattle.bts_session.specs.declared.session.Session.{Session}
use Rattle.bts_tree.specs.Repositories.{Processes, process_at}
use Rattle.bts_unit.specs.Playing.{Plays, begun}

-- ---- one unit

-- the calls and the end of a request or an activation are those of its text
abbrev pub FollowsText : Session → Processes → Ended → UnitKind → Type 0
FollowsText session repo e (unit.Request item key) = IsTalk (texts_of session e.unit) (begun e.unit e.moment (process_at key repo)) e.calls e.end
FollowsText session repo e (unit.Activation key path) = IsTalk (texts_of session e.unit) (begun e.unit e.moment (process_at key repo)) e.calls e.end
FollowsText session repo e _ = Unit {0}

-- the number of a unit behind so many committed ones
abbrev pub number_behind : ℕ → Ended → ℕ
number_behind units e = cond (is_committed e) (units + 1) 0

-- an ended unit may stand next in a history
pub record IsNext (session : Session) (at : Position) (e : Ended) : Type 0 where
  pub enabled : IsTrue (is_enabled session e.moment at.processes at.ended e.unit)
  pub item : IsTrue (is_for (item_done session e.unit) e.unit)
  pub plays : Plays at.processes e
  pub text : FollowsText session at.processes e e.unit
  pub number : e.seq ≡ number_behind at.units e
  pub later : at.moment ≤ e.moment
  pub clock : clock_in (item_done session e.unit) ≤ e.moment
  pub rows : e.rows ≡ rows_in (item_done session e.unit) at.processes

-- ---- all units

-- each unit may stand where it stands
abbrev pub IsLegal : Session → Position → List Ended → Type 0
IsLegal session at [] = Unit {0}
IsLegal session at (e ∷ es) = IsNext session at e × IsLegal session (behind at e) es

-- time passes by CLOCK alone
abbrev pub IsClocked : Session → Position → List Ended → Type 0
IsClocked session at [] = Unit {0}
IsClocked session at (e ∷ es) = (e.moment ≡ max at.moment (clock_in (item_done session e.unit))) × IsClocked session (behind at e) es

-- no unit is later than a moment, the position's and those of the CLOCK items
abbrev pub last_clock : Session → ℕ
last_clock session = fold (λ m i. max m (clock_in (Some i))) 0 session.items

abbrev pub IsWithin : ℕ → Session → Position → List Ended → Type 0
IsWithin latest session at h = AllByRecursion (λ e. e.moment ≤ max latest (max at.moment (last_clock session))) h
