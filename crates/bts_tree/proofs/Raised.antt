-- What is sound stays so in the second format.
use Rattle.std.proofs.Common.{◌≡◌, Bool, true, false, not, ◌&&◌, ◌||◌, cond, nat_le, List, [], ◌∷◌, map, Option, None, Some, is_some, unwrap_or, IsTrue, refl, sym, ap, subst, ◌∙◌}
use Rattle.std.specs.Cmp.Lexicographic.{slice_cmp}
use Rattle.std.specs.List.{AllByRecursion, IsDistinct, filter, list_all, list_any}
use Rattle.std.specs.List.Sorted.{IsStrictlySortedBy}
use Rattle.std.specs.Map.{keys_of}
use Rattle.std.specs.Option.{option_map}
use Rattle.std.specs.Ordering.{nat_cmp}
use Rattle.bts_container.proofs.Kept.{IsPool-raised}
use Rattle.bts_container.specs.declared.format.Format.TheVariants as format
use Rattle.bts_event.specs.Events.{is_completion}
use Rattle.bts_event.specs.declared.event.Event.{Event}
use Rattle.bts_names.specs.Keys.{key_cmp}
use Rattle.bts_names.specs.Named.{lookup, is_there}
use Rattle.bts_names.specs.Names.{Name, ActivityPath, same}
use Rattle.bts_tree.specs.Activities.{Activities}
use Rattle.bts_tree.specs.Modes.{is_mode_active}
use Rattle.bts_tree.specs.Paths.{is_child_of, number_of, parent_of}
use Rattle.bts_tree.specs.Processes.{Process}
use Rattle.bts_tree.specs.Repositories.{Processes, raised_activity, raised_all, raised_process, raised_tree}
use Rattle.bts_tree.specs.Soundness.{AreSound, FitsChildren, FitsParent, IsSoundActivity, IsSoundInFrames, IsSoundTree, IsSoundUnder, active_in, children_of, is_event_of_child, is_fired, is_root, needs_event, parent_passes}
use Rattle.bts_tree.specs.declared.activity.Activity.{Activity}

-- ---- what is read of a tree

paths_raised : (t : Activities) → keys_of (raised_tree t) ≡ keys_of t
paths_raised [] = refl
paths_raised (x ∷ t) = ap (λ ks. x.0 ∷ ks) (paths_raised t)

found_raised : (p : ActivityPath) (t : Activities) → lookup p (raised_tree t) ≡ option_map raised_activity (lookup p t)
found_raised p [] = refl
found_raised p (x ∷ t) = by (same p x.0) (found_raised p t)
  where
    by : (b : Bool) → lookup p (raised_tree t) ≡ option_map raised_activity (lookup p t)
        → cond b (Some (raised_activity x.1)) (lookup p (raised_tree t)) ≡ option_map raised_activity (cond b (Some x.1) (lookup p t))
    by true i = refl
    by false i = i

there_raised : (p : ActivityPath) (t : Activities) → is_there p t ≡ is_there p (raised_tree t)
there_raised p t = by (lookup p t) (found_raised p t)
  where
    by : (o : Option Activity) → lookup p (raised_tree t) ≡ option_map raised_activity o → is_some o ≡ is_there p (raised_tree t)
    by None e = sym (ap is_some e)
    by (Some a) e = sym (ap is_some e)

-- a test that doesn't look at containers
passes_raised : (test : Activity → Bool) → ((a : Activity) → test a ≡ test (raised_activity a)) → (p : ActivityPath) (t : Activities) → parent_passes test p t ≡ parent_passes test p (raised_tree t)
passes_raised test blind p t = by (lookup (parent_of p) t) (found_raised (parent_of p) t)
  where
    by : (o : Option Activity) → lookup (parent_of p) (raised_tree t) ≡ option_map raised_activity o → unwrap_or (option_map test o) false ≡ parent_passes test p (raised_tree t)
    by None e = sym (ap (λ x. unwrap_or (option_map test x) false) e)
    by (Some a) e = (λ i. blind a i) ∙ sym (ap (λ x. unwrap_or (option_map test x) false) e)

children_raised : (p : ActivityPath) (t : Activities) → children_of p (raised_tree t) ≡ raised_tree (children_of p t)
children_raised p [] = refl
children_raised p (x ∷ t) = by (is_child_of p x.0) (children_raised p t)
  where
    by : (b : Bool) → children_of p (raised_tree t) ≡ raised_tree (children_of p t)
        → cond b ((x.0, raised_activity x.1) ∷ children_of p (raised_tree t)) (children_of p (raised_tree t)) ≡ raised_tree (cond b (x ∷ children_of p t) (children_of p t))
    by true i = ap (λ xs. (x.0, raised_activity x.1) ∷ xs) i
    by false i = i

names_raised : (t : Activities) → map (λ y. y.1.name) (raised_tree t) ≡ map (λ y. y.1.name) t
names_raised [] = refl
names_raised (x ∷ t) = ap (λ ns. x.1.name ∷ ns) (names_raised t)

any_raised : (e : Name × Event) (t : Activities) → list_any (is_event_of_child e) (raised_tree t) ≡ list_any (is_event_of_child e) t
any_raised e [] = refl
any_raised e (x ∷ t) = ap (λ b. is_event_of_child e x || b) (any_raised e t)

-- ---- one tree

activity_raised : (a : Activity) → IsSoundActivity a → IsSoundActivity (raised_activity a)
activity_raised a h = record {
  status = h.status;
  code = h.code;
  pool = h.pool;
  timers_rise = h.timers_rise;
  timer_events = record { one_event_each = h.timer_events.one_event_each; timer_of_each = h.timer_events.timer_of_each; unexpired = h.timer_events.unexpired };
  containers = IsPool-raised a.containers h.containers;
  few_children = h.few_children;
}

parent_raised : (t : Activities) (x : ActivityPath × Activity) → FitsParent t x → FitsParent (raised_tree t) (x.0, raised_activity x.1)
parent_raised t x h = record {
  parent = subst (λ b. IsTrue (is_root x.0 || b)) (there_raised (parent_of x.0) t) h.parent;
  number = subst (λ b. IsTrue (is_root x.0 || b)) (passes_raised (λ a. nat_le 1 (number_of x.0) && nat_le (number_of x.0) a.made) (λ a. refl) x.0 t) h.number;
  name = h.name;
  completion = h.completion;
  told = h.told;
  event = subst (λ b. IsTrue (is_root x.0 || not (needs_event x.1) || b)) (passes_raised (λ a. list_any (λ e. is_event_of_child e x && not (is_fired e.1)) a.pool.events) (λ a. refl) x.0 t) h.event;
  depth = h.depth;
}

child_raised : (t : Activities) (x : ActivityPath × Activity) → FitsChildren t x → FitsChildren (raised_tree t) (x.0, raised_activity x.1)
child_raised t x h =
    let names = ap (map (λ y. y.1.name)) (children_raised x.0 t) ∙ names_raised (children_of x.0 t) in
    let any : (e : Name × Event) → list_any (is_event_of_child e) (children_of x.0 (raised_tree t)) ≡ list_any (is_event_of_child e) (children_of x.0 t) =
    λ e. ap (list_any (is_event_of_child e)) (children_raised x.0 t) ∙ any_raised e (children_of x.0 t) in
    record {
      distinct_names = subst (IsDistinct same) (sym names) h.distinct_names;
      events = subst (λ (f : Name × Event → Bool). IsTrue (list_all (λ e. not (is_completion e.1) || f e) x.1.pool.events)) (sym (λ i e. any e i)) h.events;
    }

module _ (P Q : ActivityPath × Activity → Type 0) (raises : (x : ActivityPath × Activity) → P x → Q (x.0, raised_activity x.1)) where
  each_raised : (t : Activities) → AllByRecursion P t → AllByRecursion Q (raised_tree t)
  each_raised [] h = tt
  each_raised (x ∷ t) h = (raises x h.0, each_raised t h.1)

tree_raised : (t : Activities) → IsSoundTree t → IsSoundTree (raised_tree t)
tree_raised t h = record {
  paths_rise = subst (IsStrictlySortedBy (slice_cmp nat_cmp)) (sym (paths_raised t)) h.paths_rise;
  root = subst IsTrue (there_raised [] t) h.root;
  activities = each_raised (λ x. IsSoundActivity x.1) (λ x. IsSoundActivity x.1) (λ x. activity_raised x.1) t h.activities;
  parents = each_raised (FitsParent t) (FitsParent (raised_tree t)) (parent_raised t) t h.parents;
  children = each_raised (FitsChildren t) (FitsChildren (raised_tree t)) (child_raised t) t h.children;
}

-- ---- processes

module _ (s : Process) where
  under_raised : (o : Option Activities) → IsSoundUnder s o → IsSoundUnder (raised_process s) (option_map raised_tree o)
  under_raised None h = h
  under_raised (Some t) h = (tree_raised t h.0, h.1)

  formats_raised : (o : Option Activities) → AllByRecursion (λ x. x.1.containers.format ≡ format.Two) (unwrap_or (option_map raised_tree o) [])
  formats_raised None = tt
  formats_raised (Some t) = all t
    where
      all : (t : Activities) → AllByRecursion (λ x. x.1.containers.format ≡ format.Two) (raised_tree t)
      all [] = tt
      all (x ∷ t) = (refl, all t)

abbrev active_of : Activities → Activities
active_of = filter (λ x. is_mode_active x.1.mode)

active_paths : (t : Activities) → keys_of (active_of (raised_tree t)) ≡ keys_of (active_of t)
active_paths [] = refl
active_paths (x ∷ t) = by (is_mode_active x.1.mode) (active_paths t)
  where
    by : (b : Bool) → keys_of (active_of (raised_tree t)) ≡ keys_of (active_of t)
        → keys_of (cond b ((x.0, raised_activity x.1) ∷ active_of (raised_tree t)) (active_of (raised_tree t))) ≡ keys_of (cond b (x ∷ active_of t) (active_of t))
    by true i = ap (λ ps. x.0 ∷ ps) i
    by false i = i

active_raised : (s : Process) → active_in s ≡ active_in (raised_process s)
active_raised s = by s.tree
  where
    by : (o : Option Activities)
        → keys_of (active_of (unwrap_or o [])) ≡ keys_of (active_of (unwrap_or (option_map raised_tree o) []))
    by None = refl
    by (Some t) = sym (active_paths t)

pub process_raised : (frames : List ActivityPath) (s : Process) → IsSoundInFrames frames s → IsSoundInFrames frames (raised_process s)
process_raised frames s h = record {
  tree = under_raised s s.tree h.tree;
  containers = IsPool-raised s.containers h.containers;
  formats = formats_raised s s.tree;
  active = subst (λ ps. IsTrue (list_all (λ p. list_any (same p) frames) ps && list_all (λ p. list_any (same p) ps) frames)) (active_raised s) h.active;
}

keys_stay : (ss : List Process) → map (λ s. s.key) (map raised_process ss) ≡ map (λ s. s.key) ss
keys_stay [] = refl
keys_stay (s ∷ ss) = ap (λ ks. s.key ∷ ks) (keys_stay ss)

generations_stay : (ss : List Process) → list_all (λ s. nat_le 1 s.generation) ss ≡ list_all (λ s. nat_le 1 s.generation) (map raised_process ss)
generations_stay [] = refl
generations_stay (s ∷ ss) = ap (λ b. nat_le 1 s.generation && b) (generations_stay ss)

module _ (P Q : Process → Type 0) (raises : (s : Process) → P s → Q (raised_process s)) where
  all_raised : (ss : List Process) → AllByRecursion P ss → AllByRecursion Q (map raised_process ss)
  all_raised [] h = tt
  all_raised (s ∷ ss) h = (raises s h.0, all_raised ss h.1)

pub processes_raised : (repo : Processes) → AreSound repo → AreSound (raised_all repo)
processes_raised repo h = record {
  keys_rise = subst (IsStrictlySortedBy key_cmp) (sym (keys_stay repo.items)) h.keys_rise;
  defined = subst IsTrue (generations_stay repo.items) h.defined;
  formats = all_raised (IsSoundInFrames []) (λ s. s.containers.format ≡ format.Two) (λ s i. refl) repo.items h.each;
  each = all_raised (IsSoundInFrames []) (IsSoundInFrames []) (process_raised []) repo.items h.each;
}
