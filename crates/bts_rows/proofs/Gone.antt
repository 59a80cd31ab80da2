-- Which activities stay where a child goes with all below it, and where all below an activity go.
use Rattle.std.proofs.Common.{◌≡◌, ℕ, Bool, true, false, not, ◌&&◌, ◌||◌, nat_eq, [], ◌∷◌, refl, sym, ap, ◌∙◌, true≢false}
use Rattle.std.proofs.lemmas.Bool.{and_parts, eqb-true}
use Rattle.bts_names.specs.Names.{ActivityPath, same, same_exact}
use Rattle.bts_event.proofs.Same.{same_refl}
use Rattle.bts_tree.proofs.Paths.{parent_of_child}
use Rattle.bts_tree.specs.Activities.{stays_without}
use Rattle.bts_tree.specs.Paths.{leads_to, parent_of}
use Rattle.bts_rows.proofs.Entries.{right_so}
use Rattle.bts_rows.proofs.Paths.{leads_append, below, not_to_parent}
use Rattle.bts_rows.proofs.Order.{leads_on, leads_own}
use Rattle.bts_rows.proofs.Changes.{Cuts}

-- ---- paths

to_root : (c : ActivityPath) → leads_to c [] ≡ true → c ≡ []
to_root [] h = refl
to_root (m ∷ c) h = cc

-- a path that leads to a child but not to its parent is the child's
pub last_step : (c q : ActivityPath) (j : ℕ) → leads_to c (below q j) ≡ true → leads_to c q ≡ false → c ≡ below q j
last_step [] q j h g = cc
last_step (m ∷ c) [] j h g =
    let a = and_parts (nat_eq m j) (leads_to c []) h in
    ap (λ z. m ∷ z) (to_root c a.1) ∙ ap (λ z. z ∷ []) (eqb-true m j a.0)
last_step (m ∷ c) (n ∷ q) j h g =
    let a = and_parts (nat_eq m n) (leads_to c (below q j)) h in
    ap (λ z. m ∷ z) (last_step c q j a.1 (by (nat_eq m n) (leads_to c q) a.0 g)) ∙ ap (λ z. z ∷ below q j) (eqb-true m n a.0)
  where
    by : (a b : Bool) → a ≡ true → (a && b) ≡ false → b ≡ false
    by true b e h = h
    by false b e h = cc

not_to_root : (p : ActivityPath) (k : ℕ) → leads_to (below p k) [] ≡ false
not_to_root [] k = refl
not_to_root (m ∷ p) k = refl

-- ---- tests

stays_outside : (b s : Bool) → b ≡ false → (not b || s) ≡ true
stays_outside true s e = cc
stays_outside false s e = refl

goes_inside : (b s : Bool) → (not b || s) ≡ false → b ≡ true
goes_inside true s h = refl
goes_inside false s h = cc

not_same : (b s : Bool) → (not b || s) ≡ false → s ≡ false
not_same true s h = h
not_same false s h = cc

outside_of : (b : Bool) → (not b || false) ≡ true → b ≡ false
outside_of true h = cc
outside_of false h = refl

either_of : (P : Type 0) (b s : Bool) → (not b || s) ≡ true → (b ≡ false → P) → (s ≡ true → P) → P
either_of P true s h f g = g h
either_of P false s h f g = f refl

not_up : (p q : ActivityPath) (k : ℕ) (b : Bool) → leads_to p q ≡ b → leads_to p (below q k) ≡ false → b ≡ false
not_up p q k true e h = absurd (true≢false (sym (leads_on p q (below q k) e (leads_append q (k ∷ []))) ∙ h))
not_up p q k false e h = refl

-- ---- a child goes

pub child_goes : (p : ActivityPath) (k : ℕ) → Cuts (stays_without (below p k) true) p
child_goes p k =
    let c = below p k in
    record {
      root = stays_outside (leads_to c []) false (not_to_root p k);
      own = stays_outside (leads_to c p) false (not_to_parent p k);
      up = λ q j h. stays_outside (leads_to c q) false (not_up c q j (leads_to c q) refl (outside_of (leads_to c (below q j)) h));
      edge = λ q j h g.
          let e : c ≡ below q j = last_step c q j (goes_inside (leads_to c (below q j)) false g) (outside_of (leads_to c q) h) in
          sym (parent_of_child p k) ∙ ap parent_of e ∙ parent_of_child q j;
    }

-- ---- all below go

module _ (p : ActivityPath) where
  root_stays : (p : ActivityPath) → stays_without p false [] ≡ true
  root_stays [] = refl
  root_stays (m ∷ p) = refl

  up_stays : (q : ActivityPath) (j : ℕ) → stays_without p false (below q j) ≡ true → stays_without p false q ≡ true
  up_stays q j h =
      either_of (stays_without p false q ≡ true) (leads_to p (below q j)) (same p (below q j)) h
      (λ o. stays_outside (leads_to p q) (same p q) (not_up p q j (leads_to p q) refl o))
      (λ e. stays_outside (leads_to p q) (same p q) (ap (λ z. leads_to z q) (same_exact p (below q j) e) ∙ not_to_parent q j))

  edge_own : (q : ActivityPath) (j : ℕ) → stays_without p false q ≡ true → stays_without p false (below q j) ≡ false → p ≡ q
  edge_own q j h g =
      either_of (p ≡ q) (leads_to p q) (same p q) h
      (λ o. let e : p ≡ below q j = last_step p q j (goes_inside (leads_to p (below q j)) (same p (below q j)) g) o in
      absurd (true≢false (sym (same_refl p) ∙ ap (same p) e ∙ not_same (leads_to p (below q j)) (same p (below q j)) g)))
      (same_exact p q)

  pub below_goes : Cuts (stays_without p false) p
  below_goes = record {
    root = root_stays p;
    own = right_so (not (leads_to p p)) (same p p) (same_refl p);
    up = up_stays;
    edge = edge_own;
  }

  -- no child stays
  pub no_child_stays : (j : ℕ) → stays_without p false (below p j) ≡ true → ⊥
  no_child_stays j h =
      either_of ⊥ (leads_to p (below p j)) (same p (below p j)) h
      (λ o. true≢false (sym (leads_append p (j ∷ [])) ∙ o))
      (λ e. true≢false (sym (leads_own p) ∙ ap (λ z. leads_to z p) (same_exact p (below p j) e) ∙ not_to_parent p j))

-- what goes is below
pub gone_below : (p q : ActivityPath) (itself : Bool) → stays_without p itself q ≡ false → leads_to p q ≡ true
gone_below p q itself h = goes_inside (leads_to p q) (not itself && same p q) h
