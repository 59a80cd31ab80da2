-- The part of a process at a path, and what is read of it.
use Rattle.std.proofs.Common.{◌≡◌, Bool, true, false, cond, ◌&&◌, nat_eq, List, [], ◌∷◌, ◌+◌, Option, Some, None, option_map, unwrap_or, find, length, refl, sym, ap, ◌∙◌, true≢false}
use Rattle.std.specs.List.{filter}
use Rattle.std.proofs.lemmas.Bool.{and_parts}
use Rattle.bts_names.specs.Names.{Name, ActivityPath, same, same_exact}
use Rattle.bts_names.specs.Named.{lookup}
use Rattle.bts_tree.specs.declared.activity.Activity.{Activity}
use Rattle.bts_tree.specs.Activities.{Activities, within, child_in}
use Rattle.bts_tree.specs.Paths.{leads_to, is_child_of}
use Rattle.bts_tree.specs.Processes.{Process, part, activity_at, child_of}
use Rattle.bts_rows.proofs.Order.{leads_on}

-- ---- lists

module _ {X : Type 0} (g f : X → Bool) where
  kept_one : (x : X) (ys : List X) (b : Bool) → f x ≡ b → (b ≡ true → g x ≡ true) → filter g ys ≡ ys → filter g (cond b (x ∷ ys) ys) ≡ cond b (x ∷ ys) ys
  kept_one x ys true e h i = rw (h refl) (ap (λ t. x ∷ t) i)
  kept_one x ys false e h i = i

-- a second filter that passes all that passed the first
pub kept_all : {X : Type 0} (g f : X → Bool) → ((x : X) → f x ≡ true → g x ≡ true) → (xs : List X) → filter g (filter f xs) ≡ filter f xs
kept_all g f h [] = refl
kept_all g f h (x ∷ xs) = kept_one g f x (filter f xs) (f x) refl (h x) (kept_all g f h xs)

module _ {X : Type 0} (f g : X → Bool) where
  found_one : (x : X) (xs : List X) (b c : Bool) → g x ≡ b → f x ≡ c → (c ≡ true → b ≡ true) → find f (filter g xs) ≡ find f xs → find f (cond b (x ∷ filter g xs) (filter g xs)) ≡ cond c (Some x) (find f xs)
  found_one x xs true true e d h i = rw d
  found_one x xs true false e d h i = rw d i
  found_one x xs false false e d h i = i
  found_one x xs false true e d h i = absurd (true≢false (sym (h refl)))

-- what is found by a test that implies a filter's
find-filter : {X : Type 0} (f g : X → Bool) → ((x : X) → f x ≡ true → g x ≡ true) → (xs : List X) → find f (filter g xs) ≡ find f xs
find-filter f g h [] = refl
find-filter f g h (x ∷ xs) = found_one f g x xs (g x) (f x) refl refl (h x) (find-filter f g h xs)

lookup_one : (p q : ActivityPath) (x : ActivityPath × Activity) (t u : Activities) (b c : Bool) → leads_to p x.0 ≡ b → same q x.0 ≡ c → leads_to p q ≡ true → lookup q u ≡ lookup q t
    → lookup q (cond b (x ∷ u) u) ≡ cond c (Some x.1) (lookup q t)
lookup_one p q x t u true true e d h i = rw d
lookup_one p q x t u true false e d h i = rw d i
lookup_one p q x t u false false e d h i = i
lookup_one p q x t u false true e d h i = absurd (true≢false (sym h ∙ ap (leads_to p) (same_exact q x.0 d) ∙ e))

pub lookup-within : (p q : ActivityPath) (t : Activities) → leads_to p q ≡ true → lookup q (within p t) ≡ lookup q t
lookup-within p q [] h = refl
lookup-within p q (x ∷ t) h = lookup_one p q x t (within p t) (leads_to p x.0) (same q x.0) refl refl h (lookup-within p q t h)

-- ---- what is read of a part

-- an activity at the path or below it
pub activity_at-part : (p q : ActivityPath) (s : Process) → leads_to p q ≡ true → activity_at q (part p s) ≡ activity_at q s
activity_at-part p q s h = go s.tree
  where
    go : (t : Option Activities) → lookup q (unwrap_or (option_map (within p) t) []) ≡ lookup q (unwrap_or t [])
    go None = refl
    go (Some t) = lookup-within p q t h

-- a child of the activity at the path or below it
pub child_of-part : (p q : ActivityPath) (name : Name) (s : Process) → leads_to p q ≡ true → child_of q name (part p s) ≡ child_of q name s
child_of-part p q name s h = go s.tree
  where
    go : (t : Option Activities) → child_in q name (unwrap_or (option_map (within p) t) []) ≡ child_in q name (unwrap_or t [])
    go None = refl
    go (Some t) =
        find-filter (λ x. is_child_of q x.0 && same name x.1.name) (λ x. leads_to p x.0)
        (λ x k. leads_on p q x.0 h (and_parts (leads_to q x.0) (nat_eq (length x.0) (length q + 1)) (and_parts (is_child_of q x.0) (same name x.1.name) k).0).0) t

-- ---- parts of parts

pub within_root : (t : Activities) → within [] t ≡ t
within_root [] = refl
within_root (x ∷ t) = ap (λ r. x ∷ r) (within_root t)

-- the part at the root is the whole
pub part_root : (s : Process) → part [] s ≡ s
part_root s = ap (λ t. record s { tree = t }) (go s.tree)
  where
    go : (t : Option Activities) → option_map (within []) t ≡ t
    go None = refl
    go (Some t) = ap Some (within_root t)
