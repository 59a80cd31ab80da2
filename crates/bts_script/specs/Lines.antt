-- The lines of a text.
use Rattle.std.specs.Prelude.{ℕ, cond, nat_eq, List, [], ◌∷◌, Option, Some, None}
use Rattle.bts_names.specs.Names.{Bytes}

-- the parts of a text between its line feeds
abbrev pub onto_first : ℕ → List Bytes → List Bytes
onto_first b [] = (b ∷ []) ∷ []
onto_first b (part ∷ parts) = (b ∷ part) ∷ parts

abbrev pub parts_of : Bytes → List Bytes
parts_of [] = [] ∷ []
parts_of (b ∷ bs) = cond (nat_eq b 10) ([] ∷ parts_of bs) (onto_first b (parts_of bs))

-- a line without one carriage return at its end
abbrev pub without_return : Bytes → Bytes
without_return [] = []
without_return (b ∷ []) = cond (nat_eq b 13) [] (b ∷ [])
without_return (b ∷ c ∷ bs) = b ∷ without_return (c ∷ bs)

-- behind the last line feed stands a line only if a byte stands there
abbrev pub last_line : Bytes → List Bytes
last_line [] = []
last_line (b ∷ bs) = (b ∷ bs) ∷ []

-- the parts but for the last one end with a line feed, in front of which one carriage return is dropped
abbrev pub lines_among : List Bytes → List Bytes
lines_among [] = []
lines_among (part ∷ []) = last_line part
lines_among (part ∷ next ∷ parts) = without_return part ∷ lines_among (next ∷ parts)

-- the lines of a text: each ends with a line feed, which the last one may lack
abbrev pub lines_of : Bytes → List Bytes
lines_of text = lines_among (parts_of text)

-- a line and those of the text behind it
abbrev pub lines_from : Option (Bytes × Bytes) → List Bytes
lines_from None = []
lines_from (Some x) = x.0 ∷ lines_of x.1

-- what stands behind the first line feed
abbrev pub behind_feed : Bytes → Bytes
behind_feed [] = []
behind_feed (b ∷ bs) = cond (nat_eq b 10) bs (behind_feed bs)
