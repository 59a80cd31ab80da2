-- The work that is enabled at a position.
use Rattle.std.specs.Prelude.{ℕ, Bool, not, ◌&&◌, ◌||◌, nat_eq, List, ◌++◌, map, Option, Some, None}
use Rattle.std.specs.List.{filter, list_any, slice_get}
use Rattle.bts_command.specs.declared.ended.UnitKind.{UnitKind}
use Rattle.bts_command.specs.declared.ended.UnitKind.TheVariants as unit
use Rattle.bts_region.specs.Items.{has_turn, is_settle, unit_of}
use Rattle.bts_interp.specs.Items.{Numbered, numbered, item_of}
use Rattle.bts_region.specs.Positions.{Position}
use Rattle.bts_session.specs.declared.session.Session.{Session}
use Rattle.bts_tree.specs.Repositories.{Processes, due_in, ready_in, untold_in}
use Rattle.bts_tree.specs.Scopes.{is_empty}
use Rattle.bts_unit.specs.Playing.{may_run}

-- ---- one unit

-- no activation, notice or expiry is enabled
abbrev pub is_settled : ℕ → Processes → Bool
is_settled now repo = is_empty (untold_in repo) && is_empty (due_in now repo) && is_empty (ready_in repo)

-- an item is enabled where it is its turn, and a SETTLE where besides nothing is left to do
abbrev pub is_item_enabled : Session → ℕ → Processes → List ℕ → Numbered → Bool
is_item_enabled session now repo ended x = has_turn session ended x.0 x.1 && (not (is_settle x.1) || is_settled now repo)

abbrev pub is_enabled_as : Session → ℕ → Processes → List ℕ → UnitKind → Option ℕ → Bool
is_enabled_as session now repo ended u None = may_run u now repo
is_enabled_as session now repo ended u (Some n) = list_any (λ x. nat_eq x.0 n && is_item_enabled session now repo ended x) (numbered session)

-- whether a unit is enabled at a moment, where these items have ended
abbrev pub is_enabled : Session → ℕ → Processes → List ℕ → UnitKind → Bool
is_enabled session now repo ended u = is_enabled_as session now repo ended u (item_of u)

-- ---- all work, in order

abbrev pub items_enabled : (Numbered → Bool) → Session → Position → List UnitKind
items_enabled test session at =
    map (λ x. unit_of x.0 x.1) (filter (λ x. test x && is_item_enabled session at.moment at.processes at.ended x) (numbered session))

-- the items but for SETTLE by number, notices by key and path, expiries by key, path and timer, activations by key and
-- path, and then SETTLE
unfoldable pub works : Session → Position → List UnitKind
works session at =
    items_enabled (λ x. not (is_settle x.1)) session at
    ++ map (λ x. unit.Notice x.0 x.1) (untold_in at.processes)
    ++ map (λ x. unit.Expiry x.0 x.1 x.2) (due_in at.moment at.processes)
    ++ map (λ x. unit.Activation x.0 x.1) (ready_in at.processes)
    ++ items_enabled (λ x. is_settle x.1) session at

-- the first of it
abbrev pub least : Session → Position → Option UnitKind
least session at = slice_get (works session at) 0
