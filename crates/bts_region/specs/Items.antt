-- Units and their items, and whose turn it is.
use Rattle.std.specs.Prelude.{◌≡◌, ℕ, ◌+◌, Bool, true, false, not, ◌&&◌, ◌||◌, nat_eq, nat_lt, List, [], Option, Some, None}
use Rattle.std.specs.List.{EachIndex, count_by, filter, filter_map, list_all, list_any}
use Rattle.bts_names.specs.declared.key.Key.{Key}
use Rattle.bts_names.specs.declared.row.Row.{Row}
use Rattle.bts_browse.specs.Met.{is_met}
use Rattle.bts_command.specs.declared.ended.Ended.{Ended}
use Rattle.bts_command.specs.declared.ended.UnitKind.{UnitKind}
use Rattle.bts_command.specs.declared.ended.UnitKind.TheVariants as unit
use Rattle.bts_interp.specs.Items.{Numbered, item_of, numbered}
use Rattle.bts_session.specs.declared.session.Item.{Item}
use Rattle.bts_session.specs.declared.session.Item.TheVariants as item
use Rattle.bts_session.specs.declared.session.Session.{Session}
use Rattle.bts_tree.specs.Repositories.{Processes, rows, same_key}

-- ---- units and their items

-- the items that a history names
abbrev pub items_of : List Ended → List ℕ
items_of h = filter_map (λ e. item_of e.unit) h

-- the unit that does an item
abbrev pub unit_of : ℕ → Item → UnitKind
unit_of n (item.Request key script) = unit.Request n key
unit_of n (item.Clock moment) = unit.Clock n
unit_of n item.Settle = unit.Settle n
unit_of n (item.Browse criteria) = unit.Browse n

-- whether a unit is what it is for its item: a request of the item's key, or a unit of the item's kind
abbrev pub is_for : Option Item → UnitKind → Bool
is_for (Some (item.Request key script)) (unit.Request n k) = same_key key k
is_for (Some (item.Clock moment)) (unit.Clock n) = true
is_for (Some item.Settle) (unit.Settle n) = true
is_for (Some (item.Browse criteria)) (unit.Browse n) = true
is_for None (unit.Activation key path) = true
is_for None (unit.Notice key path) = true
is_for None (unit.Expiry key path timer) = true
is_for _ _ = false

-- the moment of a CLOCK, and 0 of every other unit
abbrev pub clock_in : Option Item → ℕ
clock_in (Some (item.Clock moment)) = moment
clock_in _ = 0

-- the rows that a BROWSE lists, and none of every other unit
abbrev pub rows_in : Option Item → Processes → List Row
rows_in (Some (item.Browse criteria)) repo = filter (is_met criteria) (rows repo)
rows_in _ repo = []

-- ---- turns

abbrev pub has_ended : List ℕ → ℕ → Bool
has_ended ended n = list_any (nat_eq n) ended

-- the items in front of one
abbrev pub earlier : Session → ℕ → List Numbered
earlier session n = filter (λ x. nat_lt x.0 n) (numbered session)

-- whether an item is the request of another key
abbrev pub is_of_another : Key → Item → Bool
is_of_another key (item.Request k script) = not (same_key key k)
is_of_another key _ = false

-- whether all in front of an item have ended, as far as it waits for them: a request doesn't for those of other keys
abbrev pub waited_for : Session → List ℕ → ℕ → Item → Bool
waited_for session ended n (item.Request key script) = list_all (λ x. has_ended ended x.0 || is_of_another key x.1) (earlier session n)
waited_for session ended n _ = list_all (λ x. has_ended ended x.0) (earlier session n)

-- whether it is an item's turn, where these have ended
abbrev pub has_turn : Session → List ℕ → ℕ → Item → Bool
has_turn session ended n i = not (has_ended ended n) && waited_for session ended n i

abbrev pub is_settle : Item → Bool
is_settle item.Settle = true
is_settle _ = false

-- ---- a whole session

-- each item was done exactly once
abbrev pub EachItemOnce : Session → List Ended → Type 0
EachItemOnce session h = EachIndex session.items (λ i. count_by (nat_eq (i + 1)) (items_of h) ≡ 1)
