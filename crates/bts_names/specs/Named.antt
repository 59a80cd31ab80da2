-- Lists of things under names: in a pool no name stands twice.
use Rattle.std.specs.Prelude.{Bool, List, Option, is_some}
use Rattle.std.specs.Map as map
use Rattle.std.specs.BTreeMap as ordered
use Rattle.std.specs.Ordering.{nat_cmp}
use Rattle.std.specs.Cmp.Lexicographic.{slice_cmp}
use Rattle.bts_names.specs.Names.{Name, same}

module _ {X : Type 0} where
  -- what stands under a name
  abbrev pub lookup : Name → List (Name × X) → Option X
  lookup n xs = map.lookup (same n) xs

  abbrev pub is_there : Name → List (Name × X) → Bool
  is_there n xs = is_some (lookup n xs)

  -- the list without what stands under a name
  abbrev pub without : Name → List (Name × X) → List (Name × X)
  without n xs = map.remove_entry (same n) xs

  -- the list by rising name, with this under a name
  abbrev pub in_order : Name → X → List (Name × X) → List (Name × X)
  in_order n x xs = ordered.insert_entry (slice_cmp nat_cmp) xs n x
