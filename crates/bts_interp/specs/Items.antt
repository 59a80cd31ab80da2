-- The items of a session by their numbers, and the texts that a unit follows.
use Rattle.std.specs.Prelude.{ℕ, nat_eq, List, [], Option, Some, None}
use Rattle.std.specs.List.{enumerate_from, find}
use Rattle.std.specs.Option.{option_map}
use Rattle.bts_command.specs.declared.ended.UnitKind.{UnitKind}
use Rattle.bts_command.specs.declared.ended.UnitKind.TheVariants as unit
use Rattle.bts_interp.specs.Steps.{Script}
use Rattle.bts_interp.specs.Texts.{Texts}
use Rattle.bts_session.specs.declared.session.Item.{Item}
use Rattle.bts_session.specs.declared.session.Item.TheVariants as item
use Rattle.bts_session.specs.declared.session.Session.{Session}

-- an item with its number, from 1
abbrev pub Numbered : Type 0
Numbered = ℕ × Item

abbrev pub numbered : Session → List Numbered
numbered session = enumerate_from 1 session.items

abbrev pub item_at : Session → ℕ → Option Item
item_at session n = option_map (λ x. x.1) (find (λ x. nat_eq x.0 n) (numbered session))

-- the number of the session's item that a unit does
abbrev pub item_of : UnitKind → Option ℕ
item_of (unit.Request item key) = Some item
item_of (unit.Clock item) = Some item
item_of (unit.Settle item) = Some item
item_of (unit.Browse item) = Some item
item_of _ = None

-- the item that a unit does
abbrev pub item_in : Session → Option ℕ → Option Item
item_in session None = None
item_in session (Some n) = item_at session n

abbrev pub item_done : Session → UnitKind → Option Item
item_done session u = item_in session (item_of u)

-- the block of a request
abbrev pub block_in : Option Item → Script
block_in (Some (item.Request key script)) = script
block_in _ = []

-- the texts that a unit follows
abbrev pub texts_of : Session → UnitKind → Texts
texts_of session u = record { programs = session.programs; block = block_in (item_done session u) }
