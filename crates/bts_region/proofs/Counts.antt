-- Counting in lists.
use Rattle.std.proofs.Common.{rules, ◌≡◌, ℕ, ◌+◌, Bool, true, cond, nat_eq, List, [], ◌∷◌, ap, ◌∙◌}
use Rattle.std.specs.List.{count_by}
use Rattle.std.proofs.Math.Nat.{zero-add}
use Rattle.std.proofs.lemmas.List.Sums.{sum_by-append}

abbrev pub one_if : Bool → ℕ
one_if b = cond b 1 0

pub counted_first : {X : Type 0} (test : X → Bool) (x : X) (xs : List X) → count_by test (x ∷ xs) ≡ one_if (test x) + count_by test xs
counted_first test x xs = sum_by-append (λ y. one_if (test y)) (x ∷ []) xs ∙ ap (λ n. n + count_by test xs) (zero-add _)

pub equal_numbers : (n m : ℕ) → nat_eq n m ≡ true → n ≡ m
equal_numbers n m h = search rules
