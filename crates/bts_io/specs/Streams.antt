-- What calls do to the bytes that a source has left and a sink holds, where they tell them.
use Rattle.std.specs.Prelude.{◌≡◌, ℕ, List, ◌++◌, take, drop, length, ◌≤◌, min, Option}
use Rattle.std.specs.Io.KnownBytes.{Appends, Consumes}

-- some front of the bytes was appended
abbrev pub AppendsFront : Option (List ℕ) → Option (List ℕ) → List ℕ → Type 0
AppendsFront old new bytes = (n : ℕ) × Appends old new (take n bytes)

-- at most so many bytes were consumed
abbrev pub ConsumesWithin : Option (List ℕ) → Option (List ℕ) → ℕ → Type 0
ConsumesWithin old new most = (bytes : List ℕ) × Consumes old new bytes × (length bytes ≤ most)

-- bytes that were consumed since some start become more, by those that were consumed since
abbrev pub Follows : Option (List ℕ) → Option (List ℕ) → List ℕ → List ℕ → Type 0
Follows old new before after = (start : Option (List ℕ)) → Consumes start old before → Consumes start new after

-- as many bytes as are left, or as find room, went to the front of the buffer
pub record Moves (left left' into into' : List ℕ) (count : ℕ) : Type 0 where
  pub most : count ≡ min (length into) (length left)
  pub front : into' ≡ take count left ++ drop count into
  pub rest : left' ≡ drop count left
