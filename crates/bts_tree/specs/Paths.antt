-- Paths from the root of a tree.
use Rattle.std.specs.Prelude.{ℕ, ◌+◌, ◌-◌, Bool, ◌&&◌, nat_eq, [], ◌∷◌, length, take}
use Rattle.std.specs.List.{starts_with}
use Rattle.bts_names.specs.Names.{ActivityPath}

-- whether the second path is the first one, or is below it
abbrev pub leads_to : ActivityPath → ActivityPath → Bool
leads_to p q = starts_with nat_eq q p

-- whether the second path is that of a child of the first
abbrev pub is_child_of : ActivityPath → ActivityPath → Bool
is_child_of p q = leads_to p q && nat_eq (length q) (length p + 1)

-- the path without its last number
abbrev pub parent_of : ActivityPath → ActivityPath
parent_of p = take (length p - 1) p

-- the last number of a path
abbrev pub number_of : ActivityPath → ℕ
number_of [] = 0
number_of (n ∷ []) = n
number_of (n ∷ m ∷ p) = number_of (m ∷ p)
