-- Places in a script, and the command that is reached from them.
use Rattle.std.proofs.Common.{◌≡◌, ℕ, zero, suc, ◌+◌, ◌-◌, ◌<◌, ◌≤◌, Bool, false, cond, List, [], ◌∷◌, Option, None, Some, refl, sym, ap, ◌∙◌, subst, arith}
use Rattle.std.proofs.Math.Nat.{add-zero}
use Rattle.bts_command.specs.declared.command.Call.{Call}
use Rattle.bts_command.specs.declared.command.Command.{Command}
use Rattle.bts_forms.specs.declared.statement.Cond.{Cond}
use Rattle.bts_forms.specs.declared.statement.Statement.{Statement}
use Rattle.bts_forms.specs.declared.statement.Statement.TheVariants as statement
use Rattle.bts_names.specs.Names.{Name}
use Rattle.bts_interp.specs.Commands.{command_said}
use Rattle.bts_interp.specs.Facts.{is_so}
use Rattle.bts_interp.specs.Reaching.{is_label}
use Rattle.bts_interp.specs.Steps.{Reached, Script, behind_label, behind_labels, next, one_later, reached, step}

-- ---- no label stands behind labels

abbrev begins_with_label : Script → Bool
begins_with_label [] = false
begins_with_label (s ∷ rest) = is_label s

none_behind : (place : Script) → begins_with_label (behind_labels place) ≡ false
none_behind [] = refl
none_behind (statement.Label m ∷ rest) = none_behind rest
none_behind (statement.Command c ∷ rest) = refl
none_behind (statement.Put container spot given ∷ rest) = refl
none_behind (statement.Goto m ∷ rest) = refl
none_behind (statement.When c m ∷ rest) = refl

module _ (on : Script → Option Reached) (script : Script) (own : List Call) where
  command_at : (s : Statement) (rest : Script) → is_label s ≡ false → ((l : Name) → s ≡ statement.Goto l → ⊥) → ((c : Cond) (l : Name) → s ≡ statement.When c l → ⊥)
      → step on script own (s ∷ rest) ≡ reached (command_said own (Some s)) rest
  command_at (statement.Label m) rest h g w = cc
  command_at (statement.Command c) rest h g w = refl
  command_at (statement.Put container spot given) rest h g w = refl
  command_at (statement.Goto m) rest h g w = absurd (g m refl)
  command_at (statement.When c m) rest h g w = absurd (w c m refl)

  -- what doesn't lead on is a command
  pub command_behind : (place : Script) (s : Statement) (rest : Script) → behind_labels place ≡ s ∷ rest → ((l : Name) → s ≡ statement.Goto l → ⊥) → ((c : Cond) (l : Name) → s ≡ statement.When c l → ⊥)
      → step on script own (behind_labels place) ≡ reached (command_said own (Some s)) rest
  command_behind place s rest e g w = ap (step on script own) e ∙ command_at s rest (ap begins_with_label (sym e) ∙ none_behind place) g w

-- ---- so many statements later

abbrev pub later : ℕ → Option Reached → Option Reached
later k None = None
later k (Some r) = Some (record r { count = r.count + k })

pub none_later : (o : Option Reached) → later 0 o ≡ o
none_later None = refl
none_later (Some r) = ap (λ n. Some (record r { count = n })) (add-zero r.count)

later_once : (k : ℕ) (o : Option Reached) → later k (one_later o) ≡ later (k + 1) o
later_once k None = refl
later_once k (Some r) = let e : r.count + 1 + k ≡ r.count + (k + 1) = omega arith in ap (λ n. Some (record r { count = n })) e

module _ (script : Script) (own : List Call) where
  next_step : (m k : ℕ) (place : Script) → k < m → next (m - k) script own place ≡ step (λ p. next (m - (k + 1)) script own p) script own (behind_labels place)
  unfolding next
  next_step m k place h = let e : m - k ≡ suc (m - (k + 1)) = omega arith in ap (λ n. next n script own place) e

  module _ (m k : ℕ) (from place : Script) (h : k < m) (so_far : later k (next (m - k) script own place) ≡ next m script own from) where
    abbrev OnStep : Option Reached → Type 0
    OnStep o = step (λ p. next (m - (k + 1)) script own p) script own (behind_labels place) ≡ o

    pub reached_there : (c : Command) (rest : Script) → OnStep (reached c rest) → Some (record { command = c; count = k + 1; place = rest }) ≡ next m script own from
    reached_there c rest s =
        let e : k + 1 ≡ 1 + k = omega arith in
        ap (λ n. Some (record { command = c; count = n; place = rest })) e ∙ ap (later k) (sym (next_step m k place h ∙ s)) ∙ so_far

    pub led_on : (to : Script) → OnStep (one_later (next (m - (k + 1)) script own to)) → later (k + 1) (next (m - (k + 1)) script own to) ≡ next m script own from
    led_on to s = sym (later_once k _) ∙ ap (later k) (sym (next_step m k place h ∙ s)) ∙ so_far

  pub reached_nowhere : (m k : ℕ) (from place : Script) → m ≤ k → later k (next (m - k) script own place) ≡ next m script own from → None ≡ next m script own from
  unfolding next
  reached_nowhere m k from place h so_far = let e : m - k ≡ 0 = omega arith in ap (λ n. later k (next n script own place)) (sym e) ∙ so_far

-- ---- fewer statements

-- from at most m statements this is reached, and from as many or more that: the same command, or one that m don't reach
abbrev pub Cut : ℕ → Option Reached → Option Reached → Type 0
Cut m (Some r) all = (all ≡ Some r) × (r.count ≤ m) × (1 ≤ r.count)
Cut m None None = Unit {0}
Cut m None (Some r) = m < r.count

one_more : (m : ℕ) (few all : Option Reached) → Cut m few all → Cut (suc m) (one_later few) (one_later all)
one_more m (Some r) all (e, l, p) = (ap one_later e, omega arith, omega arith)
one_more m None None h = tt
one_more m None (Some r) h = let e : suc m < r.count + 1 = omega arith in e

later_above : (o : Option Reached) → Cut 0 None (one_later o)
later_above None = tt
later_above (Some r) = omega arith

count_above : (on : Script → Option Reached) (script : Script) (own : List Call) (place : Script) → Cut 0 None (step on script own place)
count_above on script own [] = omega arith
count_above on script own (statement.Command c ∷ rest) = omega arith
count_above on script own (statement.Put container spot given ∷ rest) = omega arith
count_above on script own (statement.Label l ∷ rest) = tt
count_above on script own (statement.Goto l ∷ rest) = later_above (on (behind_label l script))
count_above on script own (statement.When c l ∷ rest) = later_above (on (cond (is_so own c) (behind_label l script) rest))

module _ (script : Script) (own : List Call) where
  cut_step : (m : ℕ) (few all : Script → Option Reached) (place : Script) → ((p : Script) → Cut m (few p) (all p)) → Cut (suc m) (step few script own place) (step all script own place)
  cut_step m few all [] h = (refl, omega arith, omega arith)
  cut_step m few all (statement.Command c ∷ rest) h = (refl, omega arith, omega arith)
  cut_step m few all (statement.Put container spot given ∷ rest) h = (refl, omega arith, omega arith)
  cut_step m few all (statement.Label l ∷ rest) h = tt
  cut_step m few all (statement.Goto l ∷ rest) h = one_more m _ _ (h (behind_label l script))
  cut_step m few all (statement.When c l ∷ rest) h = one_more m _ _ (h (cond (is_so own c) (behind_label l script) rest))

  pub cut : (m n : ℕ) (place : Script) → m ≤ n → Cut m (next m script own place) (next n script own place)
  unfolding next
  cut zero zero place h = tt
  cut zero (suc n) place h = count_above (λ p. next n script own p) script own (behind_labels place)
  cut (suc m) zero place h = absurd (omega arith)
  cut (suc m) (suc n) place h = cut_step m (λ p. next m script own p) (λ p. next n script own p) (behind_labels place) (λ p. cut m n p (omega arith))

  pub count_within : (m : ℕ) (place : Script) (r : Reached) → next m script own place ≡ Some r → (r.count ≤ m) × (1 ≤ r.count)
  count_within m place r e =
      let c : Cut m (Some r) (next m script own place) = subst (λ o. Cut m o (next m script own place)) e (cut m m place (omega arith)) in
      (c.1, c.2)
