-- Marks of entries, and which of them one list has and another lacks.
use Rattle.std.specs.Prelude.{Bool, not, ◌&&◌, ◌≤◌, nat_eq, List, length}
use Rattle.std.specs.List.{filter, list_any}
use Rattle.bts_names.specs.Names.{same}
use Rattle.bts_tree.specs.declared.mark.Mark.{Mark}
use Rattle.bts_tree.specs.Processes.{Process, queued}
use Rattle.bts_tree.specs.Repositories.{same_key}

abbrev pub same_mark : Mark → Mark → Bool
same_mark a b = same_key a.key b.key && nat_eq a.generation b.generation && same a.path b.path && nat_eq a.number b.number

abbrev pub has_mark : List Mark → Mark → Bool
has_mark marks m = list_any (same_mark m) marks

-- the marks of the second list that the first one lacks
abbrev pub lacking : List Mark → List Mark → List Mark
lacking others marks = filter (λ m. not (has_mark others m)) marks

-- the entries that stand in the second process and not in the first
abbrev pub made_since : Process → Process → List Mark
made_since before now = lacking (queued before) (queued now)

-- the entries that stand in the first process and not in the second
abbrev pub gone_since : Process → Process → List Mark
gone_since before now = lacking (queued now) (queued before)

-- at most one entry was made
abbrev pub MakesAtMostOne : Process → Process → Type 0
MakesAtMostOne before now = length (made_since before now) ≤ 1
