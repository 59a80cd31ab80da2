-- The numbers of a path, one after the other.
use Rattle.std.proofs.Common.{◌≡◌, ℕ, suc, ◌-◌, ◌≤◌, List, [], ◌∷◌, ◌++◌, refl, subst, sym, ◌∙◌, arith, Option, Some, None}
use Rattle.std.specs.Option.{option_map}
use Rattle.bts_names.specs.Names.{Bytes}
use Rattle.bts_forms.specs.Texts.{cut_at}
use Rattle.bts_forms.specs.Arguments.{step_in, steps_in, step_then, one_step}
use Rattle.bts_forms.proofs.Pairs.{with_more}

some_left : (most : ℕ) (text : Bytes) → 1 ≤ most → steps_in most text ≡ step_then (steps_in (most - 1)) text (cut_at 47 text)
unfolding steps_in
some_left most text h =
    let e : most ≡ suc (most - 1) = omega arith in
    subst (λ n. steps_in n text ≡ step_then (steps_in (most - 1)) text (cut_at 47 text)) (sym e) refl

as_one : (step : Option ℕ) (front : List ℕ) → option_map (λ xs. front ++ xs) (one_step step) ≡ option_map (λ x. front ++ x ∷ []) step
as_one None front = refl
as_one (Some x) front = refl

-- a number that is read goes behind those before
pub one_more : (most : ℕ) (text part more : Bytes) (x : ℕ) (front : List ℕ) → 1 ≤ most
    → cut_at 47 text ≡ Some (part, more) → step_in part ≡ Some x
    → option_map (λ xs. (front ++ x ∷ []) ++ xs) (steps_in (most - 1) more) ≡ option_map (λ xs. front ++ xs) (steps_in most text)
one_more most text part more x front h cut read =
    with_more (steps_in (most - 1) more) front x
    ∙ sym (rw (some_left most text h, cut, read) refl)

-- where one can't be read, nothing is
pub no_step : (most : ℕ) (text part more : Bytes) (front : List ℕ) → 1 ≤ most
    → cut_at 47 text ≡ Some (part, more) → step_in part ≡ None
    → option_map (λ xs. front ++ xs) (steps_in most text) ≡ None
no_step most text part more front h cut read = rw (some_left most text h, cut, read) refl

-- the last one
pub last_step : (most : ℕ) (text : Bytes) (front : List ℕ) → 1 ≤ most → cut_at 47 text ≡ None
    → option_map (λ xs. front ++ xs) (steps_in most text) ≡ option_map (λ x. front ++ x ∷ []) (step_in text)
last_step most text front h cut = rw (some_left most text h, cut) (as_one (step_in text) front)
