-- Tests of all entries of a list and of some, against what is read under a name.
use Rattle.std.proofs.Common.{◌≡◌, ℕ, ◌+◌, Bool, true, false, cond, ◌&&◌, ◌||◌, List, [], ◌∷◌, Option, Some, Less, count_by, is_eq, nat_cmp, refl, sym, ap, ◌∙◌, true≢false, arith}
use Rattle.std.specs.List.{filter, list_all, list_any, AllByRecursion}
use Rattle.std.specs.Map.{keys_of}
use Rattle.std.specs.Cmp.Lexicographic.{slice_cmp}
use Rattle.std.proofs.lemmas.Bool.{and_parts}
use Rattle.std.proofs.lemmas.List.Recursion.{is_count_by}
use Rattle.std.proofs.lemmas.Map.Keys.{sorted_head, sorted_tail}
use Rattle.bts_event.proofs.Orders.{IsRising}
use Rattle.bts_event.proofs.Same.{same_refl, same_sym}
use Rattle.bts_names.specs.Names.{Name, same, same_exact}
use Rattle.bts_names.specs.Named.{lookup}

abbrev pub Entries : Type 0 → Type 0
Entries X = List (Name × X)

pub both_so : (a b : Bool) → a ≡ true → b ≡ true → (a && b) ≡ true
both_so a b h k = rw h k

pub right_so : (a b : Bool) → b ≡ true → (a || b) ≡ true
right_so true b g = refl
right_so false b g = g

module _ {X : Type 0} where
  -- an entry that passes a test, as it is read
  pub record Passes (test : Name × X → Bool) (es : Entries X) : Type 0 where
    pub name : Name
    pub value : X
    pub found : lookup name es ≡ Some value
    pub passed : test (name, value) ≡ true

  -- ---- the first entry, and those behind it

  pub here : (e : Name × X) (es : Entries X) → lookup e.0 (e ∷ es) ≡ Some e.1
  here e es = ap (λ b. cond b (Some e.1) (lookup e.0 es)) (same_refl e.0)

  apart_case : (b : Bool) (e x : Name × X) (n : Name) (v : X) (o : Option X) → same n x.0 ≡ b → same e.0 x.0 ≡ false → cond b (Some x.1) o ≡ Some v → (o ≡ Some v → same n e.0 ≡ false) → same n e.0 ≡ false
  apart_case true e x n v o d a k i = same_sym n e.0 ∙ ap (same e.0) (same_exact n x.0 d) ∙ a
  apart_case false e x n v o d a k i = i k

  -- a name that stands behind isn't the first one
  pub apart_first : (e : Name × X) (es : Entries X) (n : Name) (v : X) → AllByRecursion (λ y. slice_cmp nat_cmp e.0 y ≡ Less) (keys_of es) → lookup n es ≡ Some v → same n e.0 ≡ false
  apart_first e [] n v a h = cc
  apart_first e (x ∷ es) n v a h = apart_case (same n x.0) e x n v (lookup n es) refl (ap is_eq a.0) h (apart_first e es n v a.1)

  pub behind_first : (e : Name × X) (es : Entries X) (n : Name) (v : X) → IsRising (keys_of (e ∷ es)) → lookup n es ≡ Some v → lookup n (e ∷ es) ≡ Some v
  behind_first e es n v s h = ap (λ b. cond b (Some e.1) (lookup n es)) (apart_first e es n v (sorted_head (slice_cmp nat_cmp) e.0 (keys_of es) s) h) ∙ h

  module _ (test : Name × X → Bool) where
    -- the entry that is read is this one
    same_entry : (e : Name × X) (n : Name) (v : X) (o : Option X) → same n e.0 ≡ true → cond true (Some e.1) o ≡ Some v → test (n, v) ≡ test e
    same_entry e n v o d k = let w : v ≡ e.1 = cc in ap (λ x. test (n, x)) w ∙ ap (λ m. test (m, e.1)) (same_exact n e.0 d)

    -- ---- all pass

    all_case : (b : Bool) (e : Name × X) (n : Name) (v : X) (o : Option X) → same n e.0 ≡ b → cond b (Some e.1) o ≡ Some v → test e ≡ true → (o ≡ Some v → test (n, v) ≡ true) → test (n, v) ≡ true
    all_case true e n v o d k h i = same_entry e n v o d k ∙ h
    all_case false e n v o d k h i = i k

    -- what all entries pass passes at a name
    pub all_at : (es : Entries X) (n : Name) (v : X) → list_all test es ≡ true → lookup n es ≡ Some v → test (n, v) ≡ true
    all_at [] n v h k = cc
    all_at (e ∷ es) n v h k =
        let a = and_parts (test e) (list_all test es) h in
        all_case (same n e.0) e n v (lookup n es) refl k a.0 (all_at es n v a.1)

    -- what passes at every name passes at all entries
    pub all_from : (es : Entries X) → IsRising (keys_of es) → ((n : Name) (v : X) → lookup n es ≡ Some v → test (n, v) ≡ true) → list_all test es ≡ true
    all_from [] s h = refl
    all_from (e ∷ es) s h =
        both_so (test e) (list_all test es) (h e.0 e.1 (here e es))
        (all_from es (sorted_tail (slice_cmp nat_cmp) e.0 (keys_of es) s) (λ n v k. h n v (behind_first e es n v s k)))

    -- ---- some passes

    from_case : (b : Bool) (e : Name × X) (n : Name) (v : X) (o : Option X) (r : Bool) → same n e.0 ≡ b → cond b (Some e.1) o ≡ Some v → test (n, v) ≡ true → (o ≡ Some v → r ≡ true) → (test e || r) ≡ true
    from_case true e n v o r d k h i = let g : test e ≡ true = sym (same_entry e n v o d k) ∙ h in rw g
    from_case false e n v o r d k h i = right_so (test e) r (i k)

    pub any_from : (es : Entries X) (n : Name) (v : X) → lookup n es ≡ Some v → test (n, v) ≡ true → list_any test es ≡ true
    any_from [] n v k h = cc
    any_from (e ∷ es) n v k h = from_case (same n e.0) e n v (lookup n es) (list_any test es) refl k h (λ l. any_from es n v l h)

    any_case : (e : Name × X) (es : Entries X) (b : Bool) → test e ≡ b → IsRising (keys_of (e ∷ es)) → (b || list_any test es) ≡ true
        → (list_any test es ≡ true → Passes test es) → Passes test (e ∷ es)
    any_case e es true d s h i = record { name = e.0; value = e.1; found = here e es; passed = d }
    any_case e es false d s h i = let p = i h in record { name = p.name; value = p.value; found = behind_first e es p.name p.value s p.found; passed = p.passed }

    pub any_at : (es : Entries X) → IsRising (keys_of es) → list_any test es ≡ true → Passes test es
    any_at [] s h = cc
    any_at (e ∷ es) s h = any_case e es (test e) refl s h (any_at es (sorted_tail (slice_cmp nat_cmp) e.0 (keys_of es) s))

    -- ---- one passes

    tally : Entries X → ℕ
    tally [] = 0
    tally (e ∷ es) = cond (test e) (1 + tally es) (tally es)

    counted : (es : Entries X) → tally es ≡ count_by test es
    unfolding tally
    counted es = is_count_by tally test refl (λ x xs. refl) es

    none_case : (b : Bool) (k : ℕ) → cond b (1 + k) k ≡ 0 → (b ≡ false) × (k ≡ 0)
    none_case true k h = absurd (omega (arith, h))
    none_case false k h = (refl, h)

    none_step : (b : Bool) (e : Name × X) (n : Name) (v : X) (o : Option X) → same n e.0 ≡ b → cond b (Some e.1) o ≡ Some v → test e ≡ false → (o ≡ Some v → test (n, v) ≡ false) → test (n, v) ≡ false
    none_step true e n v o d k h i = same_entry e n v o d k ∙ h
    none_step false e n v o d k h i = i k

    -- where none is counted, none passes
    none_at : (es : Entries X) (n : Name) (v : X) → tally es ≡ 0 → lookup n es ≡ Some v → test (n, v) ≡ false
    unfolding tally
    none_at [] n v h k = cc
    none_at (e ∷ es) n v h k = let a = none_case (test e) (tally es) h in none_step (same n e.0) e n v (lookup n es) refl k a.0 (none_at es n v a.1)

    zero_case : (b : Bool) (k : ℕ) → b ≡ false → k ≡ 0 → cond b (1 + k) k ≡ 0
    zero_case true k h g = cc
    zero_case false k h g = g

    -- where none passes, none is counted
    zero_from : (es : Entries X) → IsRising (keys_of es) → ((n : Name) (v : X) → lookup n es ≡ Some v → test (n, v) ≡ false) → tally es ≡ 0
    unfolding tally
    zero_from [] s h = refl
    zero_from (e ∷ es) s h =
        zero_case (test e) (tally es) (h e.0 e.1 (here e es))
        (zero_from es (sorted_tail (slice_cmp nat_cmp) e.0 (keys_of es) s) (λ n v k. h n v (behind_first e es n v s k)))

  -- exactly one entry passes
  pub record HasOne (test : Name × X → Bool) (es : Entries X) : Type 0 where
    pub one : Passes test es
    pub only : (n : Name) (v : X) → lookup n es ≡ Some v → test (n, v) ≡ true → n ≡ one.name

  module _ (test : Name × X → Bool) where
    -- what passes is the first entry, or stands behind
    first_or : (b : Bool) (e : Name × X) (n : Name) (v : X) (o : Option X) (P : Type 0) → same n e.0 ≡ b → cond b (Some e.1) o ≡ Some v → (n ≡ e.0 → test e ≡ test (n, v) → P) → (o ≡ Some v → P) → P
    first_or true e n v o P d k f g = f (same_exact n e.0 d) (sym (same_entry test e n v o d k))
    first_or false e n v o P d k f g = g k

    one_first : (e : Name × X) (es : Entries X) → test e ≡ true → tally test es ≡ 0 → HasOne test (e ∷ es)
    one_first e es h z = record {
      one = record { name = e.0; value = e.1; found = here e es; passed = h };
      only = λ n v k p. first_or (same n e.0) e n v (lookup n es) (n ≡ e.0) refl k (λ q t. q) (λ l. absurd (true≢false (sym p ∙ none_at test es n v z l)));
    }

    one_behind : (e : Name × X) (es : Entries X) → IsRising (keys_of (e ∷ es)) → test e ≡ false → HasOne test es → HasOne test (e ∷ es)
    one_behind e es s h o = record {
      one = record { name = o.one.name; value = o.one.value; found = behind_first e es o.one.name o.one.value s o.one.found; passed = o.one.passed };
      only = λ n v k p. first_or (same n e.0) e n v (lookup n es) (n ≡ o.one.name) refl k (λ q t. absurd (true≢false (sym p ∙ sym t ∙ h))) (λ l. o.only n v l p);
    }

    count_step : (k : ℕ) → 1 + k ≡ 1 → k ≡ 0
    count_step k h = omega (arith, h)

    one_case : (b : Bool) (e : Name × X) (es : Entries X) → test e ≡ b → IsRising (keys_of (e ∷ es)) → cond b (1 + tally test es) (tally test es) ≡ 1 → (tally test es ≡ 1 → HasOne test es) → HasOne test (e ∷ es)
    one_case true e es d s h i = one_first e es d (count_step (tally test es) h)
    one_case false e es d s h i = one_behind e es s d (i h)

    one_of : (es : Entries X) → IsRising (keys_of es) → tally test es ≡ 1 → HasOne test es
    unfolding tally
    one_of [] s h = absurd (omega (arith, h))
    one_of (e ∷ es) s h = one_case (test e) e es refl s h (one_of es (sorted_tail (slice_cmp nat_cmp) e.0 (keys_of es) s))

    pub one_at : (es : Entries X) → IsRising (keys_of es) → count_by test es ≡ 1 → HasOne test es
    one_at es s h = one_of es s (counted test es ∙ h)

    behind_fails : (b : Bool) (e : Name × X) (es : Entries X) (n : Name) (v : X) (name : Name) → test (n, v) ≡ b → IsRising (keys_of (e ∷ es)) → lookup n es ≡ Some v → e.0 ≡ name → (b ≡ true → n ≡ name) → b ≡ false
    behind_fails false e es n v name d s k q o = refl
    behind_fails true e es n v name d s k q o =
        let apart : same n e.0 ≡ false = apart_first e es n v (sorted_head (slice_cmp nat_cmp) e.0 (keys_of es) s) k in
        let alike : same n e.0 ≡ true = ap (same n) (q ∙ sym (o refl)) ∙ same_refl n in
        absurd (true≢false (sym alike ∙ apart))

    one_count : (b : Bool) (k : ℕ) → (b ≡ true → k ≡ 0) → (b ≡ false → k ≡ 1) → cond b (1 + k) k ≡ 1
    one_count true k f g = ap (λ n. 1 + n) (f refl)
    one_count false k f g = g refl

    tally_one : (es : Entries X) → IsRising (keys_of es) → HasOne test es → tally test es ≡ 1
    unfolding tally
    tally_one [] s o = let f = o.one.found in cc
    tally_one (e ∷ es) s o =
        let t = sorted_tail (slice_cmp nat_cmp) e.0 (keys_of es) s in
        one_count (test e) (tally test es)
        (λ h. zero_from test es t (λ n v k. behind_fails (test (n, v)) e es n v o.one.name refl s k (o.only e.0 e.1 (here e es) h) (o.only n v (behind_first e es n v s k))))
        (λ h. tally_one es t (record {
          one = record {
            name = o.one.name;
            value = o.one.value;
            found = first_or (same o.one.name e.0) e o.one.name o.one.value (lookup o.one.name es) (lookup o.one.name es ≡ Some o.one.value) refl o.one.found
                (λ q p. absurd (true≢false (sym o.one.passed ∙ sym p ∙ h))) (λ l. l);
            passed = o.one.passed;
          };
          only = λ n v k p. o.only n v (behind_first e es n v s k) p;
        }))

    pub one_from : (es : Entries X) → IsRising (keys_of es) → HasOne test es → count_by test es ≡ 1
    one_from es s o = sym (counted test es) ∙ tally_one es s o

-- ---- elements that pass

pub all_filtered : {X : Type 0} (P : X → Type 0) (test : X → Bool) (xs : List X) → AllByRecursion P xs → AllByRecursion P (filter test xs)
all_filtered P test [] h = tt
all_filtered P test (x ∷ xs) h = by (test x) (all_filtered P test xs h.1)
  where
    by : (b : Bool) → AllByRecursion P (filter test xs) → AllByRecursion P (cond b (x ∷ filter test xs) (filter test xs))
    by true i = (h.0, i)
    by false i = i
