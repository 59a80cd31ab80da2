-- When a row meets criteria.
use Rattle.std.specs.Prelude.{Bool, true, not, ◌&&◌, ◌||◌, Option, Some, None}
use Rattle.std.specs.Str.{bytes_eq}
use Rattle.bts_names.specs.Names.{same}
use Rattle.bts_names.specs.Vocabulary.{mode_word, status_word}
use Rattle.bts_names.specs.declared.row.Row.{Row}
use Rattle.bts_names.specs.declared.state.Mode.{Mode}
use Rattle.bts_names.specs.declared.state.Status.{Status}
use Rattle.bts_browse.specs.declared.criteria.Criteria.{Criteria}

-- a part that isn't given asks for nothing
abbrev pub has_part : {A : Type 0} → (A → A → Bool) → Option A → A → Bool
has_part alike None found = true
has_part alike (Some given) found = alike given found

-- modes are alike where their words are, and so are statuses
abbrev pub same_mode : Mode → Mode → Bool
same_mode a b = bytes_eq (mode_word a) (mode_word b)

abbrev pub same_status : Status → Status → Bool
same_status a b = bytes_eq (status_word a) (status_word b)

-- a row meets criteria where it has every given part
abbrev pub is_met : Criteria → Row → Bool
is_met c row =
    has_part same c.ptype row.key.ptype &&
    has_part same c.pname row.key.pname &&
    has_part same_mode c.mode row.mode &&
    has_part same_status c.status row.status &&
    (not c.suspended || row.suspended)
