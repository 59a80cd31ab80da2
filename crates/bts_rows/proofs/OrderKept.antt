-- Activities stay in the order of their paths where some go, and those of a part stand before those behind it.
use Rattle.std.proofs.Common.{◌≡◌, Bool, true, false, cond, List, [], ◌∷◌, Option, Some, None, Ordering, Less, Equal, Greater, is_lt, refl, sym, ap, subst, ◌∙◌, true≢false}
use Rattle.std.specs.List.{filter}
use Rattle.std.specs.List.Sorted.{IsStrictlySortedBy}
use Rattle.std.specs.Map.{keys_of}
use Rattle.std.specs.Ordering.{ordering_reverse}
use Rattle.std.proofs.lemmas.Cmp.{nat_list_cmp_total}
use Rattle.std.proofs.lemmas.List.Kept.{IsStrictlySortedBy-filter}
use Rattle.std.proofs.lemmas.Map.{keys-set_value}
use Rattle.std.proofs.lemmas.Map.Lookups.{exact_bytes}
use Rattle.bts_names.specs.Names.{ActivityPath, same}
use Rattle.bts_tree.specs.declared.activity.Activity.{Activity}
use Rattle.bts_tree.specs.Activities.{Activities, changed_by}
use Rattle.bts_tree.specs.Paths.{leads_to}
use Rattle.bts_rows.proofs.Order.{IsInOrder, is_behind, path_cmp, behind_below, behind_parts}

-- ---- those that pass a test

keys_case : (g : ActivityPath → Bool) (b : Bool) (x : ActivityPath × Activity) (t u : Activities) (ks : List ActivityPath) → keys_of u ≡ ks → keys_of (cond b (x ∷ u) u) ≡ cond b (x.0 ∷ ks) ks
keys_case g true x t u ks h = ap (λ k. x.0 ∷ k) h
keys_case g false x t u ks h = h

pub keys_passing : (g : ActivityPath → Bool) (t : Activities) → keys_of (filter (λ x. g x.0) t) ≡ filter g (keys_of t)
keys_passing g [] = refl
keys_passing g (x ∷ t) = keys_case g (g x.0) x t (filter (λ y. g y.0) t) (filter g (keys_of t)) (keys_passing g t)

pub order_passing : (g : ActivityPath → Bool) (t : Activities) → IsInOrder t → IsInOrder (filter (λ x. g x.0) t)
order_passing g t s = subst (IsStrictlySortedBy path_cmp) (sym (keys_passing g t)) (IsStrictlySortedBy-filter path_cmp g (keys_of t) s)

-- ---- a change at a path

pub keys_changed : (q : ActivityPath) (f : Activity → Activity) (o : Option Activity) (t : Activities) → keys_of (changed_by q f o t) ≡ keys_of t
keys_changed q f None t = refl
keys_changed q f (Some a) t = keys-set_value (same q) t (f a)

-- ---- in a part, and behind it

-- what stands within a path stands before what stands behind it
module _ (p : ActivityPath) where
  within_case : (o : Ordering) (y z : ActivityPath) → path_cmp z y ≡ o → leads_to p y ≡ true → is_behind z p ≡ true → ordering_reverse o ≡ Less
  within_case Less y z e l h = let a = behind_parts z p h in absurd (true≢false (sym (ap is_lt e) ∙ behind_below z p y a.0 a.1 l))
  within_case Equal y z e l h = let a = behind_parts z p h in absurd (true≢false (sym l ∙ ap (leads_to p) (sym (exact_bytes z y e)) ∙ a.1))
  within_case Greater y z e l h = refl

  pub within_behind : (y z : ActivityPath) → leads_to p y ≡ true → is_behind z p ≡ true → path_cmp y z ≡ Less
  within_behind y z l h = nat_list_cmp_total.antisymm y z ∙ within_case (path_cmp z y) y z refl l h
