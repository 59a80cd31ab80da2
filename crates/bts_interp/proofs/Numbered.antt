-- The items of a session by their numbers.
use borrow.Author.Tests.{tests}
use Rattle.std.proofs.Common.{rules, ◌≡◌, ℕ, suc, ◌+◌, ◌-◌, ◌<◌, ◌≤◌, Bool, true, false, cond, nat_eq, List, [], ◌∷◌, Option, None, Some, option_map, refl, sym, ap, ◌∙◌, arith}
use Rattle.std.specs.List.{enumerate_from, find, slice_get}

module _ {A : Type 0} where
  abbrev numbered_so : ℕ → ℕ → List A → Option A
  numbered_so n k xs = option_map (λ x. x.1) (find (λ x. nat_eq x.0 n) (enumerate_from k xs))

  abbrev found_by : Bool → A → Option A → Option A
  found_by t x rest = cond t (Some x) rest

  first_or : (t : Bool) (k : ℕ) (x : A) (o : Option (ℕ × A)) → option_map (λ y. y.1) (cond t (Some (k, x)) o) ≡ found_by t x (option_map (λ y. y.1) o)
  first_or true k x o = refl
  first_or false k x o = refl

  pub none_before : (n k : ℕ) (xs : List A) → n < k → numbered_so n k xs ≡ None
  none_before n k [] h = refl
  none_before n k (x ∷ xs) h =
      let other : nat_eq k n ≡ false = search (rules, tests, h) in
      first_or (nat_eq k n) k x _ ∙ ap (λ t. found_by t x (numbered_so n (k + 1) xs)) other ∙ none_before n (k + 1) xs (omega arith)

  at_by : (t : Bool) (n k : ℕ) (x : A) (xs : List A) → nat_eq k n ≡ t → k ≤ n → (k + 1 ≤ n → numbered_so n (k + 1) xs ≡ slice_get xs (n - (k + 1))) → found_by t x (numbered_so n (k + 1) xs) ≡ slice_get (x ∷ xs) (n - k)
  at_by true n k x xs e h later =
      let same : k ≡ n = search (rules, tests, e) in
      let place : n - k ≡ 0 = omega arith in
      ap (slice_get (x ∷ xs)) (sym place)
  at_by false n k x xs e h later =
      let other : k ≡ n → ⊥ = search (rules, tests, e) in
      let place : n - k ≡ suc (n - (k + 1)) = omega arith in
      later (omega arith) ∙ ap (slice_get (x ∷ xs)) (sym place)

  pub numbered_at : (n k : ℕ) (xs : List A) → k ≤ n → numbered_so n k xs ≡ slice_get xs (n - k)
  numbered_at n k [] h = refl
  numbered_at n k (x ∷ xs) h = first_or (nat_eq k n) k x _ ∙ at_by (nat_eq k n) n k x xs refl h (numbered_at n (k + 1) xs)
