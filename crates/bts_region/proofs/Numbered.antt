-- Lists of which a test keeps some, and the items of a session by their numbers.
use Rattle.std.proofs.Common.{◌≡◌, ◌<◌, ◌≤◌, ℕ, zero, suc, ◌+◌, Bool, true, false, cond, ◌&&◌, nat_eq, nat_le, nat_lt, List, [], ◌∷◌, length, Option, None, Some, refl, sym, ap, ◌∙◌, arith}
use Rattle.std.proofs.lemmas.Bool.{and_from, and_right, eq-eqb, le-leb, lt-leb, lt-ltb, ne_eqb, or_left, or_right}
use Rattle.std.specs.List.{enumerate_from, filter, find, list_all, list_any, slice_get}
use Rattle.std.specs.Option.{option_map}
use Rattle.bts_interp.specs.Items.{Numbered, item_at, numbered}
use Rattle.bts_region.specs.Items.{has_ended}
use Rattle.bts_region.specs.Keeps.{AreFirst}
use Rattle.bts_session.specs.declared.session.Item.{Item}
use Rattle.bts_session.specs.declared.session.Session.{Session}

-- ---- lists

some_value : {X : Type 0} → X → Option X → X
some_value d None = d
some_value d (Some x) = x

pub same_some : {X : Type 0} (x y : X) → Some x ≡ Some y → x ≡ y
unfolding some_value
same_some x y e = ap (some_value x) e

module _ {X : Type 0} (test : X → Bool) where
  -- a test that keeps none
  pub none_where : (xs : List X) → ((i : ℕ) (x : X) → slice_get xs i ≡ Some x → test x ≡ false) → filter test xs ≡ []
  none_where [] h = refl
  none_where (x ∷ xs) h = ap (λ b. cond b (x ∷ filter test xs) (filter test xs)) (h 0 x refl) ∙ none_where xs (λ i y g. h (suc i) y g)

  -- the first one that it keeps
  pub first_where : (xs : List X) (k : ℕ) (x : X) → slice_get xs k ≡ Some x → test x ≡ true → ((i : ℕ) (y : X) → i < k → slice_get xs i ≡ Some y → test y ≡ false)
      → (rest : List X) × (filter test xs ≡ x ∷ rest)
  first_where [] k x g t h = cc
  first_where (y ∷ xs) zero x g t h =
      let e : y ≡ x = same_some y x g in
      (filter test xs, ap (λ b. cond b (y ∷ filter test xs) (filter test xs)) (ap test e ∙ t) ∙ ap (λ z. z ∷ filter test xs) e)
  first_where (y ∷ xs) (suc k) x g t h =
      let r : (rest : List X) × (filter test xs ≡ x ∷ rest) = first_where xs k x g t (λ i z l q. h (suc i) z (omega (arith, l)) q) in
      (r.0, ap (λ b. cond b (y ∷ filter test xs) (filter test xs)) (h 0 y (omega arith) refl) ∙ r.1)

  -- the only one
  pub only_where : (xs : List X) (k : ℕ) (x : X) → slice_get xs k ≡ Some x → test x ≡ true → ((i : ℕ) (y : X) → (i ≡ k → ⊥) → slice_get xs i ≡ Some y → test y ≡ false)
      → filter test xs ≡ x ∷ []
  only_where [] k x g t h = cc
  only_where (y ∷ xs) zero x g t h =
      let e : y ≡ x = same_some y x g in
      let none : filter test xs ≡ [] = none_where xs (λ i z q. h (suc i) z (λ k. omega (arith, k)) q) in
      ap (λ b. cond b (y ∷ filter test xs) (filter test xs)) (ap test e ∙ t) ∙ ap (λ z. z ∷ filter test xs) e ∙ ap (λ zs. x ∷ zs) none
  only_where (y ∷ xs) (suc k) x g t h =
      ap (λ b. cond b (y ∷ filter test xs) (filter test xs)) (h 0 y (λ e. omega (arith, e)) refl) ∙ only_where xs k x g t (λ i z l q. h (suc i) z (λ e. l (omega (arith, e))) q)

  pub any_where : (xs : List X) (k : ℕ) (x : X) → slice_get xs k ≡ Some x → test x ≡ true → list_any test xs ≡ true
  any_where [] k x g t = cc
  any_where (y ∷ xs) zero x g t = or_left (test y) (list_any test xs) (ap test (same_some y x g) ∙ t)
  any_where (y ∷ xs) (suc k) x g t = or_right (test y) (list_any test xs) (any_where xs k x g t)

  pub found_where : (xs : List X) (k : ℕ) (x : X) → slice_get xs k ≡ Some x → test x ≡ true → ((i : ℕ) (y : X) → i < k → slice_get xs i ≡ Some y → test y ≡ false) → find test xs ≡ Some x
  found_where [] k x g t h = cc
  found_where (y ∷ xs) zero x g t h = let e : y ≡ x = same_some y x g in ap (λ b. cond b (Some y) (find test xs)) (ap test e ∙ t) ∙ ap (λ z. Some z) e
  found_where (y ∷ xs) (suc k) x g t h = ap (λ b. cond b (Some y) (find test xs)) (h 0 y (omega arith) refl) ∙ found_where xs k x g t (λ i z l q. h (suc i) z (omega (arith, l)) q)

  -- one that another test keeps and this one refuses
  pub not_all_where : (kept : X → Bool) (xs : List X) (k : ℕ) (x : X) → slice_get xs k ≡ Some x → kept x ≡ true → test x ≡ false → list_all test (filter kept xs) ≡ false
  not_all_where kept [] k x g p t = cc
  not_all_where kept (y ∷ xs) zero x g p t =
      let e : y ≡ x = same_some y x g in
      ap (λ b. list_all test (cond b (y ∷ filter kept xs) (filter kept xs))) (ap kept e ∙ p) ∙ ap (λ b. b && list_all test (filter kept xs)) (ap test e ∙ t)
  not_all_where kept (y ∷ xs) (suc k) x g p t = by (kept y) (not_all_where kept xs k x g p t)
    where
      by : (b : Bool) → list_all test (filter kept xs) ≡ false → list_all test (cond b (y ∷ filter kept xs) (filter kept xs)) ≡ false
      by true i = and_right (test y) (list_all test (filter kept xs)) i
      by false i = i

pub before_none : {X : Type 0} (xs : List X) (k i : ℕ) (x : X) → slice_get xs k ≡ None → slice_get xs i ≡ Some x → i < k
before_none [] k i x n g = cc
before_none (y ∷ xs) zero i x n g = cc
before_none (y ∷ xs) (suc k) zero x n g = omega arith
before_none (y ∷ xs) (suc k) (suc i) x n g = let l : i < k = before_none xs k i x n g in omega (arith, l)

pub place_below : {X : Type 0} (xs : List X) (i : ℕ) (x : X) → slice_get xs i ≡ Some x → i < length xs
place_below [] i x g = cc
place_below (y ∷ xs) zero x g = omega arith
place_below (y ∷ xs) (suc i) x g = let l : i < length xs = place_below xs i x g in omega (arith, l)

-- ---- numbers

numbered_from : (m : ℕ) (xs : List Item) (i : ℕ) → slice_get (enumerate_from m xs) i ≡ option_map (λ x. (m + i, x)) (slice_get xs i)
numbered_from m [] i = refl
numbered_from m (x ∷ xs) zero = let e : m ≡ m + 0 = omega arith in ap (λ n. Some (n, x)) e
numbered_from m (x ∷ xs) (suc i) = let e : m + 1 + i ≡ m + suc i = omega arith in numbered_from (m + 1) xs i ∙ ap (λ n. option_map (λ z. (n, z)) (slice_get xs i)) e

pub numbered_at : (session : Session) (i : ℕ) (x : Item) → slice_get session.items i ≡ Some x → slice_get (numbered session) i ≡ Some (i + 1, x)
numbered_at session i x g =
    let e : 1 + i ≡ i + 1 = omega arith in
    numbered_from 1 session.items i ∙ ap (option_map (λ z. (1 + i, z))) g ∙ ap (λ n. Some (n, x)) e

-- the number and the item at a place
pub number_at : (session : Session) (i : ℕ) (x : Numbered) → slice_get (numbered session) i ≡ Some x → (x.0 ≡ i + 1) × (slice_get session.items i ≡ Some x.1)
number_at session i x g = by (slice_get session.items i) (sym (numbered_from 1 session.items i) ∙ g)
  where
    by : (o : Option Item) → option_map (λ z. (1 + i, z)) o ≡ Some x → (x.0 ≡ i + 1) × (o ≡ Some x.1)
    by None e = cc
    by (Some y) e =
        let q : ◌≡◌ {A = Numbered} (1 + i, y) x = same_some (1 + i, y) x e in
        (sym (ap (λ (z : Numbered). z.0) q) ∙ omega arith, ap (λ (z : Numbered). Some z.1) q)

pub item_there : (session : Session) (i : ℕ) (x : Item) → slice_get session.items i ≡ Some x → item_at session (i + 1) ≡ Some x
item_there session i x g =
    ap (option_map (λ (z : Numbered). z.1))
    (found_where (λ (z : Numbered). nat_eq z.0 (i + 1)) (numbered session) i (i + 1, x) (numbered_at session i x g) (eq-eqb (i + 1) (i + 1) refl) (λ j y l q. let e : y.0 ≡ j + 1 = (number_at session j y q).0 in ne_eqb y.0 (i + 1) (λ same. omega (arith, e, l, same))))

-- ---- the first ones have ended

module _ (ended : List ℕ) (k : ℕ) (are_first : AreFirst k ended) where
  pub ended_below : (i : ℕ) → i < k → has_ended ended (i + 1) ≡ true
  ended_below i l = are_first (i + 1) ∙ and_from (nat_lt 0 (i + 1)) (nat_le (i + 1) k) (lt-ltb 0 (i + 1) (omega arith)) (le-leb (i + 1) k (omega (arith, l)))

  pub not_ended_from : (i : ℕ) → k ≤ i → has_ended ended (i + 1) ≡ false
  not_ended_from i l = are_first (i + 1) ∙ and_right (nat_lt 0 (i + 1)) (nat_le (i + 1) k) (lt-leb (i + 1) k (omega (arith, l)))
