-- Which activities of a sound process are ACTIVE, read at each path.
use Rattle.std.proofs.Common.{◌≡◌, ◌≤◌, Bool, true, false, cond, ◌&&◌, ◌||◌, List, [], ◌∷◌, Option, Some, None, IsTrue, unwrap_or, refl, sym, ap, subst, ◌∙◌}
use Rattle.std.specs.List.{filter, list_all, list_any}
use Rattle.std.specs.List.Sorted.{IsStrictlySortedBy}
use Rattle.std.specs.Map.{keys_of}
use Rattle.std.proofs.lemmas.Bool.{and_parts}
use Rattle.std.proofs.lemmas.Map.Keys.{sorted_tail}
use Rattle.bts_container.specs.Containers.{IsPool}
use Rattle.bts_event.proofs.Same.{same_refl}
use Rattle.bts_names.specs.Names.{ActivityPath, same, same_exact}
use Rattle.bts_names.specs.Named.{lookup}
use Rattle.bts_tree.specs.declared.activity.Activity.{Activity}
use Rattle.bts_tree.specs.Activities.{Activities}
use Rattle.bts_tree.specs.Modes.{is_mode_active}
use Rattle.bts_tree.specs.Processes.{Process, activity_at, format_of}
use Rattle.bts_tree.specs.Soundness.{IsSoundInFrames, IsSoundTree, IsSoundUnder}
use Rattle.bts_rows.proofs.Entries.{behind_first, both_so, right_so}
use Rattle.bts_rows.proofs.Order.{IsInOrder, path_cmp}
use Rattle.bts_rows.proofs.OneFormat.{AreIn}

abbrev pub is_active : Option Activity → Bool
is_active None = false
is_active (Some a) = is_mode_active a.mode

abbrev pub active_of : Activities → List ActivityPath
active_of t = keys_of (filter (λ x. is_mode_active x.1.mode) t)

-- ---- in a tree

-- no activity behind the first one has its path
hidden : (p : ActivityPath) (x : ActivityPath × Activity) (t : Activities) (o : Option Activity) → IsInOrder (x ∷ t) → same p x.0 ≡ true → is_mode_active x.1.mode ≡ false → lookup p t ≡ o → is_active o ≡ false
hidden p x t None s d h e = refl
hidden p x t (Some v) s d h e =
    let k : Some x.1 ≡ Some v = sym (ap (λ b. cond b (Some x.1) (lookup p t)) d) ∙ behind_first x t p v s e in
    let w : v ≡ x.1 = cc in
    ap (λ a. is_mode_active a.mode) w ∙ h

active_case : (b c : Bool) (p : ActivityPath) (x : ActivityPath × Activity) (t u : Activities) → same p x.0 ≡ b → is_mode_active x.1.mode ≡ c
    → (b ≡ true → c ≡ false → is_active (lookup p t) ≡ false) → list_any (same p) (keys_of u) ≡ is_active (lookup p t)
    → list_any (same p) (keys_of (cond c (x ∷ u) u)) ≡ is_active (cond b (Some x.1) (lookup p t))
active_case true true p x t u d e n i = ap (λ b. b || list_any (same p) (keys_of u)) d ∙ sym e
active_case true false p x t u d e n i = i ∙ n refl refl ∙ sym e
active_case false true p x t u d e n i = ap (λ b. b || list_any (same p) (keys_of u)) d ∙ i
active_case false false p x t u d e n i = i

pub any_active : (p : ActivityPath) (t : Activities) → IsInOrder t → list_any (same p) (active_of t) ≡ is_active (lookup p t)
any_active p [] s = refl
any_active p (x ∷ t) s =
    active_case (same p x.0) (is_mode_active x.1.mode) p x t (filter (λ y. is_mode_active y.1.mode) t) refl refl
    (λ d e. hidden p x t (lookup p t) s d e refl) (any_active p t (sorted_tail path_cmp x.0 (keys_of t) s))

-- ---- tests of all paths of a list

in_case : (T : ActivityPath → Bool) (b r : Bool) (p x : ActivityPath) → same p x ≡ b → T x ≡ true → (b || r) ≡ true → (r ≡ true → T p ≡ true) → T p ≡ true
in_case T true r p x e h k i = ap T (same_exact p x e) ∙ h
in_case T false r p x e h k i = i k

pub all_in : (T : ActivityPath → Bool) (xs : List ActivityPath) (p : ActivityPath) → list_all T xs ≡ true → list_any (same p) xs ≡ true → T p ≡ true
all_in T [] p h k = cc
all_in T (x ∷ xs) p h k =
    let a = and_parts (T x) (list_all T xs) h in
    in_case T (same p x) (list_any (same p) xs) p x refl a.0 k (all_in T xs p a.1)

all_of_in : (T : ActivityPath → Bool) (xs : List ActivityPath) → ((p : ActivityPath) → list_any (same p) xs ≡ true → T p ≡ true) → list_all T xs ≡ true
all_of_in T [] f = refl
all_of_in T (x ∷ xs) f =
    both_so (T x) (list_all T xs) (f x (ap (λ b. b || list_any (same x) xs) (same_refl x)))
    (all_of_in T xs (λ p k. f p (right_so (same p x) (list_any (same p) xs) k)))

same_so : (a b : Bool) → (a ≡ true → b ≡ true) → (b ≡ true → a ≡ true) → a ≡ b
same_so true b f g = sym (f refl)
same_so false true f g = g refl
same_so false false f g = refl

-- ---- the paths of a list are those of the ACTIVE activities

module _ (frames : List ActivityPath) (t : Activities) (order : IsInOrder t) where
  abbrev is_open : ActivityPath → Bool
  is_open p = list_any (same p) frames

  abbrev runs : ActivityPath → Bool
  runs p = list_any (same p) (active_of t)

  pub read_active : (list_all is_open (active_of t) && list_all runs frames) ≡ true → (p : ActivityPath) → is_active (lookup p t) ≡ is_open p
  read_active h p =
      let a = and_parts (list_all is_open (active_of t)) (list_all runs frames) h in
      sym (any_active p t order) ∙ same_so (runs p) (is_open p) (λ k. all_in is_open (active_of t) p a.0 k) (λ k. all_in runs frames p a.1 k)

  pub active_read : ((p : ActivityPath) → is_active (lookup p t) ≡ is_open p) → (list_all is_open (active_of t) && list_all runs frames) ≡ true
  active_read f =
      both_so _ _
      (all_of_in is_open (active_of t) (λ p k. sym (f p) ∙ sym (any_active p t order) ∙ k))
      (all_of_in runs frames (λ p k. any_active p t order ∙ f p ∙ k))

-- ---- in a process

pub order_case : (s : Process) (o : Option Activities) → IsSoundUnder s o → IsInOrder (unwrap_or o [])
unfolding IsStrictlySortedBy
order_case s None u = tt
order_case s (Some t) u = u.0.paths_rise

-- exactly the activities of the open frames are ACTIVE
pub active_at : (frames : List ActivityPath) (s : Process) → IsSoundInFrames frames s → (p : ActivityPath) → is_active (activity_at p s) ≡ list_any (same p) frames
active_at frames s sound = read_active frames (unwrap_or s.tree []) (order_case s s.tree sound.tree) sound.active

-- the activity of an open frame is there
pub record RunsAt (p : ActivityPath) (s : Process) : Type 0 where
  pub activity : Activity
  pub found : activity_at p s ≡ Some activity
  pub active : is_mode_active activity.mode ≡ true

runs_case : (p : ActivityPath) (s : Process) (o : Option Activity) → activity_at p s ≡ o → is_active o ≡ true → RunsAt p s
runs_case p s None e h = cc
runs_case p s (Some a) e h = record { activity = a; found = e; active = h }

pub runs_at : (frames : List ActivityPath) (p : ActivityPath) (s : Process) → IsSoundInFrames frames s → list_any (same p) frames ≡ true → RunsAt p s
runs_at frames p s sound h = runs_case p s (activity_at p s) refl (active_at frames s sound p ∙ h)

-- a process with a sound tree, of which exactly the activities of these frames are ACTIVE
pub sound_in_frames : (frames : List ActivityPath) (s : Process) (t : Activities) → s.tree ≡ Some t → IsSoundTree t → 1 ≤ s.generation → IsPool s.containers
    → AreIn (format_of s) t → ((p : ActivityPath) → is_active (lookup p t) ≡ list_any (same p) frames) → IsSoundInFrames frames s
sound_in_frames frames s t e tree defined containers formats read = record {
  tree = subst (IsSoundUnder s) (sym e) (tree, defined);
  containers = containers;
  formats = subst (λ o. AreIn (format_of s) (unwrap_or o [])) (sym e) formats;
  active = subst (λ o. IsTrue (list_all (λ p. list_any (same p) frames) (active_of (unwrap_or o [])) && list_all (λ p. list_any (same p) (active_of (unwrap_or o []))) frames)) (sym e)
      (active_read frames t tree.paths_rise read);
}
