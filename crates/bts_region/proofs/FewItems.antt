-- A legal history names no more items than the session has.
use borrow.Author.Tests.{tests}
use Rattle.std.proofs.Common.{rules, ◌≡◌, ◌<◌, ◌≤◌, ℕ, zero, suc, ◌+◌, Bool, true, false, cond, not, ◌&&◌, ◌||◌, nat_eq, List, [], ◌∷◌, length, Option, None, Some, refl, ap, ◌∙◌, subst, arith}
use Rattle.std.proofs.lemmas.Bool.{eqb-false, eqb-true}
use Rattle.std.specs.List.{AllByRecursion, cons_option, count_by, enumerate_from, filter, list_any}
use Rattle.bts_command.specs.declared.ended.Ended.{Ended}
use Rattle.bts_interp.specs.Items.{Numbered, item_of}
use Rattle.bts_region.proofs.Counts.{counted_first, one_if}
use Rattle.bts_region.proofs.EachOnce.{once_at_most}
use Rattle.bts_region.specs.Enabled.{is_enabled_as, is_item_enabled}
use Rattle.bts_region.specs.Histories.{IsLegal}
use Rattle.bts_region.specs.Items.{items_of}
use Rattle.bts_region.specs.Positions.{Position, behind}
use Rattle.bts_session.specs.declared.session.Item.{Item}
use Rattle.bts_session.specs.declared.session.Session.{Session}

-- ---- lists without one number

abbrev others : ℕ → List ℕ → List ℕ
others k ns = filter (λ n. not (nat_eq k n)) ns

abbrev count : ℕ → List ℕ → ℕ
count n ns = count_by (nat_eq n) ns

length_by : (k : ℕ) (ns : List ℕ) → length ns ≡ count k ns + length (others k ns)
length_by k [] = refl
length_by k (n ∷ ns) = by (nat_eq k n) refl (length_by k ns)
  where
    by : (b : Bool) → nat_eq k n ≡ b → length ns ≡ count k ns + length (others k ns) → length (n ∷ ns) ≡ count k (n ∷ ns) + length (cond (not b) (n ∷ others k ns) (others k ns))
    by true e i = let c : count k (n ∷ ns) ≡ 1 + count k ns = counted_first (nat_eq k) n ns ∙ ap (λ b. one_if b + count k ns) e in omega (arith, c, i)
    by false e i = let c : count k (n ∷ ns) ≡ 0 + count k ns = counted_first (nat_eq k) n ns ∙ ap (λ b. one_if b + count k ns) e in omega (arith, c, i)

fewer : (m k : ℕ) (ns : List ℕ) → count m (others k ns) ≤ count m ns
fewer m k [] = omega arith
fewer m k (n ∷ ns) = by (not (nat_eq k n)) (fewer m k ns)
  where
    by : (b : Bool) → count m (others k ns) ≤ count m ns → count m (cond b (n ∷ others k ns) (others k ns)) ≤ count m (n ∷ ns)
    by true i =
        let c = counted_first (nat_eq m) n (others k ns) in
        let d = counted_first (nat_eq m) n ns in omega (arith, c, d, i)
    by false i = let d = counted_first (nat_eq m) n ns in omega (arith, d, i)

abbrev AreUpTo : ℕ → List ℕ → Type 0
AreUpTo most ns = AllByRecursion (λ n. (1 ≤ n) × (n ≤ most)) ns

less_by_one : (k : ℕ) (ns : List ℕ) → AreUpTo (k + 1) ns → AreUpTo k (others (k + 1) ns)
less_by_one k [] h = tt
less_by_one k (n ∷ ns) h = by (nat_eq (k + 1) n) refl (less_by_one k ns h.1)
  where
    below : (a b : ℕ) → (a + 1 ≡ b → ⊥) → b ≤ a + 1 → b ≤ a
    below a b e l = search (rules, tests)

    by : (b : Bool) → nat_eq (k + 1) n ≡ b → AreUpTo k (others (k + 1) ns) → AreUpTo k (cond (not b) (n ∷ others (k + 1) ns) (others (k + 1) ns))
    by true e i = i
    by false e i = ((h.0.0, below k n (eqb-false (k + 1) n e) h.0.1), i)

-- numbers up to one, each at most once, are no more than it
few_numbers : (most : ℕ) (ns : List ℕ) → ((n : ℕ) → count n ns ≤ 1) → AreUpTo most ns → length ns ≤ most
few_numbers zero [] once h = omega arith
few_numbers zero (n ∷ ns) once h = let a = h.0.0 in let b = h.0.1 in absurd (omega (arith, a, b))
few_numbers (suc k) ns once h =
    let e : suc k ≡ k + 1 = omega arith in
    let i : length (others (k + 1) ns) ≤ k =
    few_numbers k (others (k + 1) ns) (λ n. let a = fewer n (k + 1) ns in let b = once n in omega (arith, a, b)) (less_by_one k ns (subst (λ m. AreUpTo m ns) e h)) in
    let l = length_by (k + 1) ns in
    let o = once (k + 1) in omega (arith, i, l, o)

-- ---- the items of a history

module _ (t : Numbered → Bool) (n : ℕ) where
  in_range : (m : ℕ) (xs : List Item) → list_any (λ x. nat_eq x.0 n && t x) (enumerate_from m xs) ≡ true → (m ≤ n) × (n < m + length xs)
  in_range m [] h = cc
  in_range m (x ∷ xs) h = by (nat_eq m n) refl h (in_range (m + 1) xs)
    where
      by : (b : Bool) → nat_eq m n ≡ b → (b && t (m, x)) || list_any (λ y. nat_eq y.0 n && t y) (enumerate_from (m + 1) xs) ≡ true
          → (list_any (λ y. nat_eq y.0 n && t y) (enumerate_from (m + 1) xs) ≡ true → (m + 1 ≤ n) × (n < m + 1 + length xs)) → (m ≤ n) × (n < m + length (x ∷ xs))
      by true e g i = let q = eqb-true m n e in (omega (arith, q), omega (arith, q))
      by false e g i = let r = i g in let a = r.0 in let b = r.1 in (omega (arith, a), omega (arith, b))

module _ (session : Session) where
  with_one : (at : Position) (now : ℕ) (e : Ended) (o : Option ℕ) (ns : List ℕ) → is_enabled_as session now at.processes at.ended e.unit o ≡ true → AreUpTo (length session.items) ns
      → AreUpTo (length session.items) (cons_option o ns)
  with_one at now e None ns h i = i
  with_one at now e (Some n) ns h i =
      let r = in_range (is_item_enabled session now at.processes at.ended) n 1 session.items h in
      let b = r.1 in ((r.0, omega (arith, b)), i)

  in_session : (at : Position) (h : List Ended) → IsLegal session at h → AreUpTo (length session.items) (items_of h)
  in_session at [] l = tt
  in_session at (e ∷ es) l = with_one at e.moment e (item_of e.unit) (items_of es) l.0.enabled (in_session (behind at e) es l.1)

  pub items_fit : (at : Position) (h : List Ended) → IsLegal session at h → length (items_of h) ≤ length session.items
  items_fit at h l = few_numbers (length session.items) (items_of h) (λ n. once_at_most session at h n l) (in_session at h l)
