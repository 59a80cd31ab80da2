-- The place of the newest old field at a path, as the list grows and shrinks.
use Rattle.std.proofs.Common.{◌≡◌, ◌+◌, ℕ, zero, suc, Bool, true, false, cond, ◌||◌, List, [], ◌∷◌, ◌++◌, drop, length, refl, ap, sym, ◌∙◌, arith, nat_lt, append_assoc, ◌≤◌, ◌<◌, take, length-append}
use Rattle.std.specs.Prelude.{Option, Some, None, IsSome, IfNone}
use Rattle.std.specs.Option.{unwrap_or, option_to_list}
use Rattle.std.proofs.Math.Numerals.{suc-eq-add-one}
use Rattle.std.proofs.lemmas.Bool.{lt-ltb, ltb-true, ltb_from_iff}
use Rattle.std.proofs.lemmas.List.{append-nil, take-append-le}
use Rattle.std.proofs.lemmas.Cmp.{eq_by_cmp_equiv, nat_list_cmp_total}
use Rattle.bts_names.specs.Names.{ActivityPath, same, same_exact}
use Rattle.bts_names.specs.Named.{lookup}
use Rattle.bts_tree.specs.Newest.{AreNumbered, HasNumber, KnowFormer, behind_last, number_at, olds_in, one_more}
use Rattle.bts_tree.specs.Olds.{has_old}
use Rattle.bts_tree.specs.declared.olds.Entry.{Entry}

-- ---- the number of a path

alike : (a b c d : ℕ) → (a < b → c < d) → (c < d → a < b) → nat_lt a b ≡ nat_lt c d
alike a b c d f g = ltb_from_iff (λ h. f (ltb-true a b h), λ l. lt-ltb a b (g l))

some_before : (n : ℕ) → nat_lt 0 (n + 1) ≡ true
some_before n = lt-ltb 0 (n + 1) (omega arith)

none_before : (n : ℕ) → nat_lt n 0 ≡ false
none_before n = alike n 0 0 0 (λ l. omega (arith, l)) (λ l. omega (arith, l))

one_more_than : (n : ℕ) (here : Bool) → one_more (n + 1) here ≡ n + 1 + 1
one_more_than n here = ap (λ b. cond b (n + 1 + 1) (cond here 1 0)) (some_before n)

more_than : (k : ℕ) (here : Bool) → one_more (suc k) here ≡ k + 1 + 1
more_than k here = ap (λ n. one_more n here) (suc-eq-add-one k) ∙ one_more_than k here

-- one more is the newest at its path
pub behind_more : (p : ActivityPath) (es : List Entry) (e : Entry) → behind_last p (es ++ e ∷ []) ≡ cond (same p e.old.path) (length es + 1) (behind_last p es)
behind_more p [] e = refl
behind_more p (d ∷ es) e = ap (λ n. one_more n (same p d.old.path)) (behind_more p es e) ∙ by (same p e.old.path)
  where
    by : (b : Bool) → one_more (cond b (length es + 1) (behind_last p es)) (same p d.old.path) ≡ cond b (length (d ∷ es) + 1) (one_more (behind_last p es) (same p d.old.path))
    by true = one_more_than (length es) (same p d.old.path) ∙ omega arith
    by false = refl

-- an old field at a path stands from a place on where the newest one does
pub has_from : (n : ℕ) (p : ActivityPath) (es : List Entry) → has_old p (drop n (olds_in es)) ≡ nat_lt n (behind_last p es)
has_from zero p [] = refl
has_from (suc n) p [] = sym (none_before (suc n))
has_from zero p (e ∷ es) = by (same p e.old.path) (behind_last p es) (has_from zero p es)
  where
    by : (b : Bool) (k : ℕ) → has_old p (olds_in es) ≡ nat_lt 0 k → (b || has_old p (olds_in es)) ≡ nat_lt 0 (one_more k b)
    by true zero h = refl
    by false zero h = h
    by true (suc k) h = sym (ap (nat_lt 0) (more_than k true) ∙ some_before (k + 1))
    by false (suc k) h =
        h ∙ ap (nat_lt 0) (suc-eq-add-one k) ∙ some_before k ∙ sym (ap (nat_lt 0) (more_than k false) ∙ some_before (k + 1))
has_from (suc n) p (e ∷ es) = has_from n p es ∙ by (same p e.old.path) (behind_last p es)
  where
    by : (b : Bool) (k : ℕ) → nat_lt n k ≡ nat_lt (suc n) (one_more k b)
    by true zero = alike n 0 (suc n) 1 (λ l. omega (arith, l)) (λ l. omega (arith, l))
    by false zero = alike n 0 (suc n) 0 (λ l. omega (arith, l)) (λ l. omega (arith, l))
    by b (suc k) = alike n (suc k) (suc n) (k + 1 + 1) (λ l. omega (arith, l)) (λ l. omega (arith, l)) ∙ ap (nat_lt (suc n)) (sym (more_than k b))

-- ---- what each knows

know_more : (front es : List Entry) (e : Entry) → KnowFormer front es → e.former ≡ behind_last e.old.path (front ++ es) → KnowFormer front (es ++ e ∷ [])
know_more front [] e k h = (h ∙ ap (behind_last e.old.path) (append-nil front), tt)
know_more front (d ∷ es) e k h = (k.0, know_more (front ++ d ∷ []) es e k.1 (h ∙ ap (behind_last e.old.path) (sym (append_assoc front (d ∷ []) es))))

know_less : (front es : List Entry) (e : Entry) → KnowFormer front (es ++ e ∷ []) → KnowFormer front es × (e.former ≡ behind_last e.old.path (front ++ es))
know_less front [] e k = (tt, k.0 ∙ ap (behind_last e.old.path) (sym (append-nil front)))
know_less front (d ∷ es) e k =
    let r = know_less (front ++ d ∷ []) es e k.1 in
    ((k.0, r.0), r.1 ∙ ap (behind_last e.old.path) (append_assoc front (d ∷ []) es))

-- ---- one more, and one less

same_other : (p q : ActivityPath) → same p q ≡ same q p
same_other p q = (eq_by_cmp_equiv nat_list_cmp_total).symm p q

with_number : (p q : ActivityPath) (n : ℕ) (ks more : List (ActivityPath × ℕ)) → HasNumber p n ks more → number_at q more ≡ cond (same p q) n (number_at q ks)
with_number p q n ks more h = ap (λ o. unwrap_or o 0) (h q) ∙ by (same p q)
  where
    by : (b : Bool) → unwrap_or (cond b (Some n) (lookup q ks)) 0 ≡ cond b n (number_at q ks)
    by true = refl
    by false = refl

pub numbered_more : (ks more : List (ActivityPath × ℕ)) (es : List Entry) (e : Entry) → AreNumbered ks es → e.former ≡ number_at e.old.path ks
    → HasNumber e.old.path (length es + 1) ks more → AreNumbered more (es ++ e ∷ [])
numbered_more ks more es e a f h = record {
  newest = λ q. with_number e.old.path q (length es + 1) ks more h
      ∙ ap (λ b. cond b (length es + 1) (number_at q ks)) (same_other e.old.path q)
      ∙ ap (cond (same q e.old.path) (length es + 1)) (a.newest q)
      ∙ sym (behind_more q es e);
  formers = know_more [] es e a.formers (f ∙ a.newest e.old.path);
}

pub numbered_less : (ks less : List (ActivityPath × ℕ)) (es : List Entry) (e : Entry) → AreNumbered ks (es ++ e ∷ [])
    → HasNumber e.old.path e.former ks less → AreNumbered less es
numbered_less ks less es e a h =
    let k = know_less [] es e a.formers in
    record { newest = λ q. with_number e.old.path q e.former ks less h ∙ ap (cond (same e.old.path q) e.former) (a.newest q ∙ behind_more q es e) ∙ by q (same e.old.path q) refl k.1; formers = k.0 }
  where
    by : (q : ActivityPath) (b : Bool) → same e.old.path q ≡ b → e.former ≡ behind_last e.old.path es
        → cond b e.former (cond (same q e.old.path) (length es + 1) (behind_last q es)) ≡ behind_last q es
    by q true s f = f ∙ ap (λ p. behind_last p es) (same_exact e.old.path q s)
    by q false s f = ap (λ b. cond b (length es + 1) (behind_last q es)) (same_other q e.old.path ∙ s)

-- the newest has a number
pub newest_there : (ks : List (ActivityPath × ℕ)) (es : List Entry) (e : Entry) → AreNumbered ks (es ++ e ∷ []) → IsSome (lookup e.old.path ks)
newest_there ks es e a =
    by (lookup e.old.path ks)
    (a.newest e.old.path ∙ behind_more e.old.path es e
    ∙ ap (λ b. cond b (length es + 1) (behind_last e.old.path es)) ((eq_by_cmp_equiv nat_list_cmp_total).refl e.old.path))
  where
    by : (o : Option ℕ) → unwrap_or o 0 ≡ length es + 1 → IsSome o
    by None h = let lost : true ≡ false = sym (some_before (length es)) ∙ ap (nat_lt 0) (sym h) in cc
    by (Some n) h = refl

-- ---- letting go

module _ {X : Type 0} (n : ℕ) (old new : List X) where
  one_at_most : (o : Option X) → length (option_to_list o) ≤ 1
  one_at_most None = omega arith
  one_at_most (Some x) = omega arith

  -- what stands in front of a place stays, where there was more
  pub popped_front : (o : Option X) → old ≡ new ++ option_to_list o → n < length old → take n new ≡ take n old
  popped_front o e h =
      let long = ap length e ∙ length-append new (option_to_list o) in
      let few = one_at_most o in
      let l : n ≤ length new = omega (arith, h, long, few) in
      sym (ap (take n) e ∙ take-append-le n new (option_to_list o) l)

  pub popped_shorter : (o : Option X) → old ≡ new ++ option_to_list o → IfNone o (old ≡ []) → n < length old → length new < length old
  popped_shorter None e f h = let none : length old ≡ 0 = ap length f in omega (arith, h, none)
  popped_shorter (Some x) e f h = let long : length old ≡ length new + 1 = ap length e ∙ length-append new (x ∷ []) in omega (arith, long)
