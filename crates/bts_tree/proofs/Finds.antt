-- The first of a list that passes a test, one part of the list after the other.
use Rattle.std.proofs.Common.{◌≡◌, Bool, true, false, cond, List, [], ◌∷◌, ◌++◌, ℕ, zero, suc, drop, refl, sym, ap, subst, ◌∙◌, ◌+◌, add-one}
use Rattle.std.specs.List.{find, filter, slice_get}
use Rattle.std.proofs.lemmas.List.{map-append}
use Rattle.std.proofs.lemmas.List.Elements.{filter-append}
use Rattle.std.specs.Option.{option_map, option_to_list, option_or}
use Rattle.std.specs.Prelude.{Some, None, map}
use Rattle.std.proofs.lemmas.List.Folds.{find-append}
use Rattle.bts_names.specs.Names.{ActivityPath, Name}
use Rattle.bts_names.specs.declared.key.Key.{Key}
use Rattle.bts_timer.specs.Due.{is_due}
use Rattle.bts_timer.specs.Timers.{Timers, due_until}
use Rattle.bts_timer.specs.declared.timer.Timer.{Timer}
use Rattle.bts_tree.specs.Repositories.{TimerPlace, due_at}

module _ {A : Type 0} (p : A → Bool) where
  -- what is found in the first part is found in all that is left
  pub first_part : (all left mine rest : List A) (x : A) → find p all ≡ find p left → left ≡ mine ++ rest → Some x ≡ find p mine → Some x ≡ find p all
  first_part all left mine rest x i l f =
      ap (λ o. option_or o (find p rest)) f ∙ sym (find-append p mine rest) ∙ ap (find p) (sym l) ∙ sym i

  -- and where nothing is, the search goes on behind it
  pub next_part : (all left mine rest : List A) → find p all ≡ find p left → left ≡ mine ++ rest → None ≡ find p mine → find p all ≡ find p rest
  next_part all left mine rest i l f =
      i ∙ ap (find p) l ∙ find-append p mine rest ∙ ap (λ o. option_or o (find p rest)) (sym f)

pub drop_by_one : {A : Type 0} (xs : List A) (i : ℕ) → drop i xs ≡ option_to_list (slice_get xs i) ++ drop (i + 1) xs
drop_by_one {A = A} xs i = rw add-one (by xs i)
  where
    by : (xs : List A) (i : ℕ) → drop i xs ≡ option_to_list (slice_get xs i) ++ drop (suc i) xs
    by [] zero = refl
    by [] (suc i) = refl
    by (x ∷ xs) zero = refl
    by (x ∷ xs) (suc i) = by xs i

-- ---- timers

pub nothing_due : (now : ℕ) (key : Key) (p : ActivityPath) (ts : Timers) → due_until now ts ≡ None → due_at now key p ts ≡ []
nothing_due now key p [] h = refl
nothing_due now key p (t ∷ ts) h = by (is_due now t.1) h (nothing_due now key p ts)
  where
    by : (b : Bool) → option_map (λ (e : Name × Timer). e.0) (cond b (Some t) (find (λ e. is_due now e.1) ts)) ≡ None → (due_until now ts ≡ None → due_at now key p ts ≡ [])
        → map {B = TimerPlace} (λ (e : Name × Timer). (key, p, e.0)) (cond b (t ∷ filter (λ e. is_due now e.1) ts) (filter (λ e. is_due now e.1) ts)) ≡ []
    by true g next = cc
    by false g next = next g

-- the first that is due is found, where it passes
pub first_due : (q : TimerPlace → Bool) (now : ℕ) (key : Key) (p : ActivityPath) (ts : Timers) (n : Name) → due_until now ts ≡ Some n → q (key, p, n) ≡ true
    → find q (due_at now key p ts) ≡ Some (key, p, n)
first_due q now key p [] n h g = cc
first_due q now key p (t ∷ ts) n h g = by (is_due now t.1) h (λ i. first_due q now key p ts n i g)
  where
    by : (b : Bool) → option_map (λ (e : Name × Timer). e.0) (cond b (Some t) (find (λ e. is_due now e.1) ts)) ≡ Some n
        → (due_until now ts ≡ Some n → find q (due_at now key p ts) ≡ Some (key, p, n))
        → find q (map (λ (e : Name × Timer). (key, p, e.0)) (cond b (t ∷ filter (λ e. is_due now e.1) ts) (filter (λ e. is_due now e.1) ts))) ≡ Some (key, p, n)
    by true i next =
        let e : t.0 ≡ n = cc in
        subst (λ m. find q ((key, p, m) ∷ due_at now key p ts) ≡ Some (key, p, n)) (sym e) (ap (λ c. cond c (Some (key, p, n)) (find q (due_at now key p ts))) g)
    by false i next = next i

pub due-append : (now : ℕ) (key : Key) (p : ActivityPath) (ts us : Timers) → due_at now key p (ts ++ us) ≡ due_at now key p ts ++ due_at now key p us
due-append now key p ts us =
    ap (map (λ (t : Name × Timer). (key, p, t.0))) (filter-append (λ (t : Name × Timer). is_due now t.1) ts us)
    ∙ map-append (λ (t : Name × Timer). (key, p, t.0)) (filter (λ t. is_due now t.1) ts) (filter (λ t. is_due now t.1) us)
