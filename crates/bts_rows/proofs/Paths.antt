-- Paths of children: where they lead from, and that each path is the root's or a child's.
use Rattle.std.proofs.Common.{◌≡◌, ℕ, ◌+◌, ◌-◌, Bool, true, false, cond, ◌&&◌, nat_eq, List, [], ◌∷◌, ◌++◌, find, length, take, Some, length-append, refl, sym, ap, subst, ◌∙◌, true≢false, arith}
use Rattle.std.proofs.lemmas.Bool.{and_parts, eqb-true, eq-eqb}
use Rattle.bts_names.specs.Names.{Name, ActivityPath, same, same_exact}
use Rattle.bts_tree.proofs.Paths.{parent_of_child}
use Rattle.bts_tree.specs.declared.activity.Activity.{Activity}
use Rattle.bts_tree.specs.Processes.{Process, child_of}
use Rattle.bts_tree.specs.Paths.{is_child_of, leads_to, number_of, parent_of}
use Rattle.bts_tree.specs.Soundness.{is_root}
use Rattle.bts_rows.proofs.Entries.{both_so}
use Rattle.bts_rows.proofs.Order.{leads_on}

-- ---- paths of children

pub leads_append : (q r : ActivityPath) → leads_to q (q ++ r) ≡ true
leads_append [] r = refl
leads_append (m ∷ q) r = both_so (nat_eq m m) (leads_to q (q ++ r)) (eq-eqb m m refl) (leads_append q r)

front_of : (q x : ActivityPath) → leads_to q x ≡ true → take (length q) x ≡ q
front_of [] x l = refl
front_of (m ∷ q) [] l = cc
front_of (m ∷ q) (n ∷ x) l =
    let a = and_parts (nat_eq m n) (leads_to q x) l in
    ap (λ k. k ∷ take (length q) x) (sym (eqb-true m n a.0)) ∙ ap (λ y. m ∷ y) (front_of q x a.1)

one_less : (a b : ℕ) → a ≡ b + 1 → a - 1 ≡ b
one_less a b h = omega (arith, h)

module _ (q x : ActivityPath) (h : is_child_of q x ≡ true) where
  pub child_leads : leads_to q x ≡ true
  child_leads = (and_parts (leads_to q x) (nat_eq (length x) (length q + 1)) h).0

  pub parent_is : parent_of x ≡ q
  parent_is =
      let long = eqb-true (length x) (length q + 1) (and_parts (leads_to q x) (nat_eq (length x) (length q + 1)) h).1 in
      ap (λ k. take k x) (one_less (length x) (length q) long) ∙ front_of q x child_leads

pub found_passes : {X : Type 0} (f : X → Bool) (xs : List X) (x : X) → find f xs ≡ Some x → f x ≡ true
found_passes f [] x h = cc
found_passes f (y ∷ ys) x h = by (f y) refl h (found_passes f ys x)
  where
    by : (b : Bool) → f y ≡ b → cond b (Some y) (find f ys) ≡ Some x → (find f ys ≡ Some x → f x ≡ true) → f x ≡ true
    by true e k i = let q : y ≡ x = cc in ap f (sym q) ∙ e
    by false e k i = i k

pub child_is : (q : ActivityPath) (name : Name) (s : Process) (x : ActivityPath × Activity) → child_of q name s ≡ Some x
    → is_child_of q x.0 ≡ true
child_is q name s x h =
    (and_parts (is_child_of q x.0) (same name x.1.name) (found_passes (λ y. is_child_of q y.0 && same name y.1.name) _ x h)).0

-- ---- what a path is

-- the path of a child
abbrev pub below : ActivityPath → ℕ → ActivityPath
below q k = q ++ k ∷ []

front : ℕ → ActivityPath → ActivityPath
front n [] = []
front n (m ∷ r) = n ∷ front m r

split : (n : ℕ) (r : ActivityPath) → n ∷ r ≡ below (front n r) (number_of (n ∷ r))
unfolding front
split n [] = refl
split n (m ∷ r) = ap (λ p. n ∷ p) (split m r)

pub path_case : (P : ActivityPath → Type 0) → P [] → ((q : ActivityPath) (k : ℕ) → P (below q k)) → (x : ActivityPath) → P x
path_case P r c [] = r
path_case P r c (n ∷ x) = subst P (sym (split n x)) (c (front n x) (number_of (n ∷ x)))

pub number_below : (q : ActivityPath) (k : ℕ) → number_of (below q k) ≡ k
number_below [] k = refl
number_below (m ∷ []) k = refl
number_below (m ∷ n ∷ q) k = number_below (n ∷ q) k

pub not_root : (q : ActivityPath) (k : ℕ) → is_root (below q k) ≡ false
not_root [] k = refl
not_root (m ∷ q) k = refl

pub child_below : (q : ActivityPath) (k : ℕ) → is_child_of q (below q k) ≡ true
child_below q k =
    both_so (leads_to q (below q k)) _ (leads_append q (k ∷ [])) (eq-eqb (length (below q k)) (length q + 1) (length-append q (k ∷ [])))

-- a child's path is its parent's and its number
pub child_path : (q x : ActivityPath) → is_child_of q x ≡ true → x ≡ below q (number_of x)
child_path q [] h = by q h
  where
    by : (q : ActivityPath) → is_child_of q [] ≡ true → [] ≡ below q (number_of [])
    by [] h = cc
    by (m ∷ q) h = cc
child_path q (n ∷ r) h =
    let p : front n r ≡ q = sym (parent_of_child (front n r) (number_of (n ∷ r))) ∙ ap parent_of (sym (split n r))
    ∙ parent_is q (n ∷ r) h in
    split n r ∙ ap (λ y. below y (number_of (n ∷ r))) p

-- two children of one parent have two numbers
pub one_number : (q : ActivityPath) (j k : ℕ) → below q j ≡ below q k → j ≡ k
one_number q j k e = sym (number_below q j) ∙ ap number_of e ∙ number_below q k

-- a parent isn't its child
pub not_own : (q : ActivityPath) (k : ℕ) → same q (below q k) ≡ false
not_own q k = by (same q (below q k)) refl
  where
    by : (b : Bool) → same q (below q k) ≡ b → b ≡ false
    by true e =
        let l : length q ≡ length (below q k) = ap length (same_exact q (below q k) e) in
        let m : length (below q k) ≡ length q + 1 = length-append q (k ∷ []) in
        absurd (omega (arith, l, m))
    by false e = refl

-- a child doesn't lead to its parent
right_false : (a b : Bool) → b ≡ false → (a && b) ≡ false
right_false true b h = h
right_false false b h = refl

pub not_to_parent : (q : ActivityPath) (k : ℕ) → leads_to (below q k) q ≡ false
not_to_parent [] k = refl
not_to_parent (m ∷ q) k = right_false (nat_eq m m) (leads_to (below q k) q) (not_to_parent q k)

-- the parent of a path that isn't within another isn't either
pub parent_outside : (p q : ActivityPath) (k : ℕ) → leads_to p (below q k) ≡ false → leads_to p q ≡ false
parent_outside p q k h = by (leads_to p q) refl
  where
    by : (b : Bool) → leads_to p q ≡ b → b ≡ false
    by true e = absurd (true≢false (sym (leads_on p q (below q k) e (leads_append q (k ∷ []))) ∙ h))
    by false e = refl
