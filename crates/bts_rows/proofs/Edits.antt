-- A change of one activity, made on the part at a path and joined, is that change of the whole.
use Rattle.std.proofs.Common.{◌≡◌, Bool, true, false, cond, [], ◌∷◌, ◌++◌, Option, Some, None, option_map, unwrap_or, refl, sym, ap, ◌∙◌, true≢false}
use Rattle.std.specs.List.{filter}
use Rattle.bts_names.specs.Names.{ActivityPath, same, same_exact}
use Rattle.bts_names.specs.Named.{lookup}
use Rattle.bts_tree.specs.declared.activity.Activity.{Activity}
use Rattle.bts_tree.specs.Activities.{Activities, changed_at, changed_by, within}
use Rattle.bts_tree.specs.Paths.{leads_to}
use Rattle.bts_tree.specs.Processes.{Process, part, join, edited, before, behind}
use Rattle.bts_rows.proofs.Order.{IsInOrder, is_before, is_behind, split_tree, within_not_before, within_not_behind}
use Rattle.bts_rows.proofs.Parts.{part_root}

-- the tree of a process, if it has one, is in order
abbrev pub HasOrder : Option Activities → Type 0
HasOrder None = Unit {0}
HasOrder (Some t) = IsInOrder t

pub ordered_case : (o : Option Activities) → IsInOrder (unwrap_or o []) → HasOrder o
ordered_case None h = tt
ordered_case (Some t) h = h

-- ---- a change at a path, step by step

module _ (q : ActivityPath) (f : Activity → Activity) where
  changed_past : (o : Option Activity) (x : ActivityPath × Activity) (t : Activities) → same q x.0 ≡ false → changed_by q f o (x ∷ t) ≡ x ∷ changed_by q f o t
  changed_past None x t h = refl
  changed_past (Some a) x t h = rw h

  changed_one : (b : Bool) (x : ActivityPath × Activity) (t : Activities) → same q x.0 ≡ b → changed_at q f (x ∷ t) ≡ cond b ((x.0, f x.1) ∷ t) (x ∷ changed_at q f t)
  changed_one true x t h = ap (λ b. changed_by q f (cond b (Some x.1) (lookup q t)) (x ∷ t)) h ∙ rw h
  changed_one false x t h = ap (λ b. changed_by q f (cond b (Some x.1) (lookup q t)) (x ∷ t)) h ∙ changed_past (lookup q t) x t h

  -- the first activity of that path is changed
  pub changed_at-cons : (x : ActivityPath × Activity) (t : Activities) → changed_at q f (x ∷ t) ≡ cond (same q x.0) ((x.0, f x.1) ∷ t) (x ∷ changed_at q f t)
  changed_at-cons x t = changed_one (same q x.0) x t refl

  -- nothing is changed where no activity has that path
  pub changed_none : (t : Activities) → lookup q t ≡ None → changed_at q f t ≡ t
  changed_none t h = ap (λ o. changed_by q f o t) h

  front_case : (b : Bool) (x : ActivityPath × Activity) (t u : Activities) → cond b (Some x.1) (lookup q t) ≡ None → (lookup q t ≡ None → changed_at q f (t ++ u) ≡ t ++ changed_at q f u)
      → cond b ((x.0, f x.1) ∷ (t ++ u)) (x ∷ changed_at q f (t ++ u)) ≡ x ∷ (t ++ changed_at q f u)
  front_case true x t u h i = cc
  front_case false x t u h i = ap (λ r. x ∷ r) (i h)

  pub changed_front : (t u : Activities) → lookup q t ≡ None → changed_at q f (t ++ u) ≡ t ++ changed_at q f u
  changed_front [] u h = refl
  changed_front (x ∷ t) u h = changed_at-cons x (t ++ u) ∙ front_case (same q x.0) x t u h (changed_front t u)

  back_case : (b : Bool) (x : ActivityPath × Activity) (t u r : Activities) → changed_at q f (t ++ u) ≡ r ++ u
      → cond b ((x.0, f x.1) ∷ (t ++ u)) (x ∷ changed_at q f (t ++ u)) ≡ cond b ((x.0, f x.1) ∷ t) (x ∷ r) ++ u
  back_case true x t u r i = refl
  back_case false x t u r i = ap (λ z. x ∷ z) i

  pub changed_back : (t u : Activities) → lookup q u ≡ None → changed_at q f (t ++ u) ≡ changed_at q f t ++ u
  changed_back [] u h = changed_none u h
  changed_back (x ∷ t) u h =
      changed_at-cons x (t ++ u) ∙ back_case (same q x.0) x t u (changed_at q f t) (changed_back t u h) ∙ ap (λ z. z ++ u) (sym (changed_at-cons x t))

-- ---- where a path isn't

missing_one : (test : ActivityPath → Bool) (q : ActivityPath) (x : ActivityPath × Activity) (u : Activities) (b c : Bool) → test x.0 ≡ b → same q x.0 ≡ c → test q ≡ false → lookup q u ≡ None
    → lookup q (cond b (x ∷ u) u) ≡ None
missing_one test q x u true true e d h i = absurd (true≢false (sym e ∙ ap test (sym (same_exact q x.0 d)) ∙ h))
missing_one test q x u true false e d h i = rw d i
missing_one test q x u false c e d h i = i

-- a path that fails a test isn't among those that pass it
pub missing : (test : ActivityPath → Bool) (q : ActivityPath) (t : Activities) → test q ≡ false → lookup q (filter (λ x. test x.0) t) ≡ None
missing test q [] h = refl
missing test q (x ∷ t) h = missing_one test q x (filter (λ y. test y.0) t) (test x.0) (same q x.0) refl refl h (missing test q t h)

changed_whole : (p q : ActivityPath) (f : Activity → Activity) (t : Activities) → leads_to p q ≡ true → IsInOrder t → before p t ++ changed_at q f (within p t) ++ behind p t ≡ changed_at q f t
changed_whole p q f t h r =
    let first = changed_front q f (before p t) (within p t) (missing (λ x. is_before x p) q t (within_not_before p q h)) in
    let last = changed_back q f (before p t ++ within p t) (behind p t) (missing (λ x. is_behind x p) q t (within_not_behind p q h)) in
    sym (ap (changed_at q f) (sym (split_tree p t r)) ∙ last ∙ ap (λ u. u ++ behind p t) first)

-- ---- the part of a process

module _ (s : Process) (order : HasOrder s.tree) where
  -- a part that is put back as it was
  pub join_part : (p : ActivityPath) → join p s (part p s) ≡ s
  join_part [] = part_root s
  join_part (n ∷ p) = ap (λ t. record s { tree = t }) (go s.tree order)
    where
      go : (t : Option Activities) → HasOrder t → option_map (λ u. before (n ∷ p) u ++ unwrap_or (option_map (within (n ∷ p)) t) [] ++ behind (n ∷ p) u) t ≡ t
      go None r = refl
      go (Some t) r = ap Some (split_tree (n ∷ p) t r)

  -- a change at a path within it
  pub join_edited : (p q : ActivityPath) (f : Activity → Activity) → leads_to p q ≡ true → join p s (edited q f (part p s)) ≡ edited q f s
  join_edited [] q f h = ap (edited q f) (part_root s)
  join_edited (n ∷ p) q f h = ap (λ t. record s { tree = t }) (go s.tree order)
    where
      go : (t : Option Activities) → HasOrder t → option_map (λ u. before (n ∷ p) u ++ unwrap_or (option_map (changed_at q f) (option_map (within (n ∷ p)) t)) [] ++ behind (n ∷ p) u) t ≡ option_map (changed_at q f) t
      go None r = refl
      go (Some t) r = ap Some (changed_whole (n ∷ p) q f t h r)
