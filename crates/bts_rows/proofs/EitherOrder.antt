-- Changes of a process at two paths, in either order.
use Rattle.std.proofs.Common.{◌≡◌, Bool, true, false, cond, [], ◌∷◌, Option, Some, None, Ordering, Less, Equal, Greater, is_eq, nat_cmp, option_map, refl, sym, ap, ◌∙◌, true≢false}
use Rattle.std.specs.Ordering.{match_ordering}
use Rattle.std.specs.Cmp.Lexicographic.{slice_cmp}
use Rattle.bts_names.specs.Names.{ActivityPath, same, same_exact}
use Rattle.bts_names.specs.Named.{in_order}
use Rattle.bts_event.proofs.Same.{same_refl}
use Rattle.bts_tree.specs.declared.activity.Activity.{Activity}
use Rattle.bts_tree.specs.Activities.{Activities, changed_at}
use Rattle.bts_tree.specs.Processes.{Process, added, edited}
use Rattle.bts_rows.proofs.Edits.{changed_at-cons}

-- ---- two activities change

module _ (p r : ActivityPath) (g f : Activity → Activity) (apart : same p r ≡ false) where
  apart_case : (b : Bool) (x : ActivityPath × Activity) → same p x.0 ≡ b → same r x.0 ≡ true → b ≡ false
  apart_case true x d e = absurd (true≢false (sym (same_refl p) ∙ ap (same p) (same_exact p x.0 d ∙ sym (same_exact r x.0 e)) ∙ apart))
  apart_case false x d e = refl

  either_order : (t : Activities) → changed_at p g (changed_at r f t) ≡ changed_at r f (changed_at p g t)
  either_order [] = refl
  either_order (x ∷ t) =
      ap (changed_at p g) (changed_at-cons r f x t) ∙ by (same p x.0) (same r x.0) refl refl (either_order t)
      ∙ ap (changed_at r f) (sym (changed_at-cons p g x t))
    where
      by : (b c : Bool) → same p x.0 ≡ b → same r x.0 ≡ c → changed_at p g (changed_at r f t) ≡ changed_at r f (changed_at p g t)
          → changed_at p g (cond c ((x.0, f x.1) ∷ t) (x ∷ changed_at r f t)) ≡ changed_at r f (cond b ((x.0, g x.1) ∷ t) (x ∷ changed_at p g t))
      by true true d e i = absurd (true≢false (sym d ∙ apart_case (same p x.0) x refl e))
      by true false d e i =
          changed_at-cons p g x (changed_at r f t)
          ∙ ap (λ b. cond b ((x.0, g x.1) ∷ changed_at r f t) (x ∷ changed_at p g (changed_at r f t))) d
          ∙ sym (changed_at-cons r f (x.0, g x.1) t ∙ ap (λ b. cond b ((x.0, f (g x.1)) ∷ t) ((x.0, g x.1) ∷ changed_at r f t)) e)
      by false true d e i =
          changed_at-cons p g (x.0, f x.1) t ∙ ap (λ b. cond b ((x.0, g (f x.1)) ∷ t) ((x.0, f x.1) ∷ changed_at p g t)) d
          ∙ sym
          (changed_at-cons r f x (changed_at p g t)
          ∙ ap (λ b. cond b ((x.0, f x.1) ∷ changed_at p g t) (x ∷ changed_at r f (changed_at p g t))) e)
      by false false d e i =
          changed_at-cons p g x (changed_at r f t)
          ∙ ap (λ b. cond b ((x.0, g x.1) ∷ changed_at r f t) (x ∷ changed_at p g (changed_at r f t))) d
          ∙ ap (λ u. x ∷ u) i
          ∙ sym
          (changed_at-cons r f x (changed_at p g t)
          ∙ ap (λ b. cond b ((x.0, f x.1) ∷ changed_at p g t) (x ∷ changed_at r f (changed_at p g t))) e)

  pub edits_commute : (s : Process) → edited p g (edited r f s) ≡ edited r f (edited p g s)
  edits_commute s = ap (λ t. record s { tree = t }) (by s.tree)
    where
      by : (o : Option Activities)
          → option_map (changed_at p g) (option_map (changed_at r f) o) ≡ option_map (changed_at r f) (option_map (changed_at p g) o)
      by None = refl
      by (Some t) = ap Some (either_order t)

-- ---- one is added, and another changes

module _ (c p : ActivityPath) (new : Activity) (f : Activity → Activity) (apart : same p c ≡ false) where
  step : (x : ActivityPath × Activity) (t : Activities) (b : Bool) → same p x.0 ≡ b
      → changed_at p f (x ∷ t) ≡ cond b ((x.0, f x.1) ∷ t) (x ∷ changed_at p f t)
  step x t b e = changed_at-cons p f x t ∙ ap (λ d. cond d ((x.0, f x.1) ∷ t) (x ∷ changed_at p f t)) e

  not_there : (x : ActivityPath × Activity) → slice_cmp nat_cmp c x.0 ≡ Equal → same p x.0 ≡ true → ⊥
  not_there x o e = true≢false (sym (ap (same p) (same_exact c x.0 (ap is_eq o)) ∙ e) ∙ apart)

  added_changed : (t : Activities) → in_order c new (changed_at p f t) ≡ changed_at p f (in_order c new t)
  added_changed [] = sym (step (c, new) [] false apart)
  added_changed (x ∷ t) =
      ap (in_order c new) (step x t (same p x.0) refl) ∙ by (slice_cmp nat_cmp c x.0) (same p x.0) refl refl (added_changed t)
    where
      by : (o : Ordering) (b : Bool) → slice_cmp nat_cmp c x.0 ≡ o → same p x.0 ≡ b
          → in_order c new (changed_at p f t) ≡ changed_at p f (in_order c new t)
          → in_order c new (cond b ((x.0, f x.1) ∷ t) (x ∷ changed_at p f t)) ≡ changed_at p f (match_ordering o ((c, new) ∷ x ∷ t) ((x.0, new) ∷ t) (x ∷ in_order c new t))
      by Less true o e i =
          ap (λ r. match_ordering r ((c, new) ∷ (x.0, f x.1) ∷ t) ((x.0, new) ∷ t) ((x.0, f x.1) ∷ in_order c new t)) o
          ∙ sym (step (c, new) (x ∷ t) false apart ∙ ap (λ u. (c, new) ∷ u) (step x t true e))
      by Less false o e i =
          ap (λ r. match_ordering r ((c, new) ∷ x ∷ changed_at p f t) ((x.0, new) ∷ changed_at p f t) (x ∷ in_order c new (changed_at p f t))) o
          ∙ sym (step (c, new) (x ∷ t) false apart ∙ ap (λ u. (c, new) ∷ u) (step x t false e))
      by Equal true o e i = absurd (not_there x o e)
      by Equal false o e i =
          ap (λ r. match_ordering r ((c, new) ∷ x ∷ changed_at p f t) ((x.0, new) ∷ changed_at p f t) (x ∷ in_order c new (changed_at p f t))) o
          ∙ sym (step (x.0, new) t false e)
      by Greater true o e i =
          ap (λ r. match_ordering r ((c, new) ∷ (x.0, f x.1) ∷ t) ((x.0, new) ∷ t) ((x.0, f x.1) ∷ in_order c new t)) o
          ∙ sym (step x (in_order c new t) true e)
      by Greater false o e i =
          ap (λ r. match_ordering r ((c, new) ∷ x ∷ changed_at p f t) ((x.0, new) ∷ changed_at p f t) (x ∷ in_order c new (changed_at p f t))) o
          ∙ ap (λ u. x ∷ u) i ∙ sym (step x (in_order c new t) false e)

  pub added_edited : (s : Process) → added c new (edited p f s) ≡ edited p f (added c new s)
  added_edited s = ap (λ t. record s { tree = t }) (by s.tree)
    where
      by : (o : Option Activities)
          → option_map (in_order c new) (option_map (changed_at p f) o) ≡ option_map (changed_at p f) (option_map (in_order c new) o)
      by None = refl
      by (Some t) = ap Some (added_changed t)
