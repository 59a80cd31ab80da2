-- Where a history has come to.
use Rattle.std.specs.Prelude.{ℕ, ◌+◌, cond, List, [], ◌∷◌, Option, Some, None}
use Rattle.std.specs.List.{fold}
use Rattle.bts_command.specs.declared.ended.Ended.{Ended}
use Rattle.bts_command.specs.Kinds.{is_committed}
use Rattle.bts_interp.specs.Items.{item_of}
use Rattle.bts_container.specs.declared.format.Format.TheVariants as format
use Rattle.bts_tree.specs.Repositories.{Processes, no_processes}
use Rattle.bts_tree.specs.declared.opening.Opening.{Opening}
use Rattle.bts_unit.specs.Playing.{after}

-- the processes, the moment, the items that have ended, and the count of committed units
pub record Position : Type 0 where
  pub processes : Processes
  pub moment : ℕ
  pub ended : List ℕ
  pub units : ℕ

-- where a history goes on from what was opened
abbrev pub opened_at : Opening → Position
opened_at o = record { processes = o.repo.processes; moment = o.moment; ended = []; units = o.units }

-- where it begins with nothing, in the first format
abbrev pub origin : Position
origin = record { processes = no_processes format.One; moment = 0; ended = []; units = 0 }

abbrev pub with_item : Option ℕ → List ℕ → List ℕ
with_item None ended = ended
with_item (Some n) ended = n ∷ ended

-- one unit later
abbrev pub behind : Position → Ended → Position
behind at e =
    record {
      processes = after at.processes e;
      moment = e.moment;
      ended = with_item (item_of e.unit) at.ended;
      units = cond (is_committed e) (at.units + 1) at.units;
    }

abbrev pub behind_all : Position → List Ended → Position
behind_all at h = fold behind at h
