-- The activities of a process where another one stands at a path.
use Rattle.std.proofs.Common.{◌≡◌, Bool, true, false, cond, [], ◌∷◌, Option, Some, is_some, refl, sym, ap, subst, ◌∙◌}
use Rattle.std.specs.List.{AllByRecursion}
use Rattle.std.specs.Map.{keys_of}
use Rattle.std.proofs.lemmas.Map.{lookup-set_value, keys-set_value}
use Rattle.bts_names.specs.Names.{ActivityPath, same, same_exact}
use Rattle.bts_names.specs.Named.{lookup, is_there}
use Rattle.bts_event.proofs.Same.{same_laws}
use Rattle.bts_tree.specs.declared.activity.Activity.{Activity}
use Rattle.bts_tree.specs.Activities.{Activities, written_at}

module _ (q : ActivityPath) (b : Activity) where
  pub keys-written : (t : Activities) → keys_of (written_at q b t) ≡ keys_of t
  keys-written t = keys-set_value (same q) t b

  pub lookup-written : (t : Activities) (p : ActivityPath) → is_there q t ≡ true → lookup p (written_at q b t) ≡ cond (same q p) (Some b) (lookup p t)
  lookup-written t p h = lookup-set_value same_laws (same q) (λ x y e. ap (λ n. same n y) (same_exact q x e)) p b t h

  module _ (a : Activity) where
    there_case : (c : Bool) (o : Option Activity) → is_some o ≡ true → is_some (cond c (Some b) o) ≡ true
    there_case true o h = refl
    there_case false o h = h

    pub there_written : (t : Activities) (p : ActivityPath) → lookup q t ≡ Some a → is_there p t ≡ true → is_there p (written_at q b t) ≡ true
    there_written t p k h = ap is_some (lookup-written t p (ap is_some k)) ∙ there_case (same q p) (lookup p t) h

-- ---- what holds of one of all

found_case : (P : ActivityPath × Activity → Type 0) (c : Bool) (q : ActivityPath) (a : Activity) (x : ActivityPath × Activity) (o : Option Activity) → same q x.0 ≡ c → P x → cond c (Some x.1) o ≡ Some a
    → (o ≡ Some a → P (q, a)) → P (q, a)
found_case P true q a x o d h k i = let w : x.1 ≡ a = cc in subst (λ y. P (q, y)) w (subst (λ p. P (p, x.1)) (sym (same_exact q x.0 d)) h)
found_case P false q a x o d h k i = i k

pub all_found : (P : ActivityPath × Activity → Type 0) (q : ActivityPath) (a : Activity) (t : Activities) → AllByRecursion P t → lookup q t ≡ Some a → P (q, a)
all_found P q a [] h k = cc
all_found P q a (x ∷ t) h k = found_case P (same q x.0) q a x (lookup q t) refl h.0 k (all_found P q a t h.1)
