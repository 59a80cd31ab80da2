-- Names and paths as lists of numbers, and when they are the same.
use Rattle.std.specs.Prelude.{◌≡◌, ℕ, Bool, true, List, codes, refl}
use Rattle.std.specs.Ordering.{nat_cmp, eq_by_cmp, is_eq}
use Rattle.std.specs.Cmp.Lexicographic.{slice_cmp}
use Rattle.std.specs.declared.cmp.Ordering.{Ordering}
use Rattle.std.specs.declared.cmp.Ordering.TheVariants.{Less, Equal, Greater}
use Rattle.std.proofs.lemmas.Map.Lookups.{exact_bytes}

abbrev pub Name : Type 0
Name = List ℕ

abbrev pub ActivityPath : Type 0
ActivityPath = List ℕ

abbrev pub Bytes : Type 0
Bytes = List ℕ

-- whether two lists of numbers are the same
abbrev pub same : List ℕ → List ℕ → Bool
same = eq_by_cmp (slice_cmp nat_cmp)

equal_from : (o : Ordering) → is_eq o ≡ true → o ≡ Equal
equal_from Less h = cc
equal_from Equal h = refl
equal_from Greater h = cc

-- lists that are the same are equal
pub same_exact : (a b : List ℕ) → same a b ≡ true → a ≡ b
same_exact a b h = exact_bytes a b (equal_from (slice_cmp nat_cmp a b) h)

-- the names that the system keeps for itself
abbrev pub root_name : Name
root_name = codes "DFHROOT"

abbrev pub initial_name : Name
initial_name = codes "DFHINITIAL"
