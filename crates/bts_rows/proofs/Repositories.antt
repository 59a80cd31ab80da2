-- What is read of a repository and put into it, and what one of lone roots leaves to do.
use Rattle.std.proofs.Common.{◌≡◌, ℕ, Bool, true, false, cond, not, ◌&&◌, ◌||◌, nat_eq, nat_le, List, [], ◌∷◌, ◌++◌, map, Option, Some, None, unwrap_or, Ordering, Less, Equal, Greater, is_eq, refl, sym, ap, subst, ◌∙◌, arith}
use Rattle.std.specs.List.{filter, list_all, AllByRecursion, flat_map}
use Rattle.std.specs.List.Sorted.{IsStrictlySortedBy}
use Rattle.std.specs.Ordering.{match_ordering, ordering_reverse}
use Rattle.std.proofs.lemmas.Bool.{and_parts, eqb-true, eqb-false, le-leb}
use Rattle.std.proofs.lemmas.Map.Keys.{sorted_head, sorted_tail}
use Rattle.bts_names.specs.Keys.{key_cmp}
use Rattle.bts_names.specs.Names.{ActivityPath}
use Rattle.bts_names.specs.declared.key.Key.{Key}
use Rattle.bts_names.proofs.Sameness.{keys_exact}
use Rattle.bts_timer.specs.Timers.{Timers}
use Rattle.bts_tree.specs.declared.activity.Activity.{Activity}
use Rattle.bts_tree.specs.Activities.{Activities, is_complete, is_untold}
use Rattle.bts_tree.specs.Processes.{Process, activities, no_process, format_of}
use Rattle.bts_tree.specs.Repositories.{Processes, chosen_at, chosen_of, due_among, due_at, due_in, placed_by_key, process_at, put, same_key, untold_in, without_key, found_or, with_process, due_of}
use Rattle.bts_tree.specs.Scopes.{is_empty}
use Rattle.bts_tree.specs.Soundness.{AreSound, FitsParent, IsSoundInFrames, IsSoundUnder, is_root, is_within}
use Rattle.bts_tree.proofs.New.{nothing_kept}
use Rattle.bts_tree.proofs.Slots.{key_total}
use Rattle.bts_rows.specs.Bounds.{is_bare_root, is_lone}
use Rattle.bts_rows.proofs.Bounds.{lone_none, within_none}
use Rattle.bts_rows.proofs.Entries.{all_filtered, both_so}
use Rattle.bts_container.specs.declared.format.Format.{Format}

-- ---- a test that all processes pass

module _ {X : Type 0} (test : X → Bool) where
  pub all_one_by_one : (xs : List X) → list_all test xs ≡ true → AllByRecursion (λ x. test x ≡ true) xs
  all_one_by_one [] h = tt
  all_one_by_one (x ∷ xs) h = let a = and_parts (test x) (list_all test xs) h in (a.0, all_one_by_one xs a.1)

  pub all_together : (xs : List X) → AllByRecursion (λ x. test x ≡ true) xs → list_all test xs ≡ true
  all_together [] h = refl
  all_together (x ∷ xs) h = both_so (test x) (list_all test xs) h.0 (all_together xs h.1)

-- ---- what stands under a key

module _ (P : Process → Type 0) (key : Key) where
  at_case : (b : Bool) (s t : Process) → P s → P t → P (cond b s t)
  at_case true s t h k = h
  at_case false s t h k = k

  found_each : (other : Process) → P other → (ss : List Process) → AllByRecursion P ss → P (found_or other key ss)
  found_each other none [] h = none
  found_each other none (s ∷ ss) h = at_case (same_key key s.key) s (found_or other key ss) h.0 (found_each other none ss h.1)

  -- what holds of all processes, and of one that was never defined, holds there
  pub each_at : (repo : Processes) → P (no_process repo.format key) → AllByRecursion P repo.items → P (process_at key repo)
  each_at repo none h = found_each (no_process repo.format key) none repo.items h

pub none_sound : (f : Format) (key : Key) → IsSoundInFrames [] (no_process f key)
none_sound f key = record { tree = refl; containers = nothing_kept f; formats = tt; active = refl }

pub sound_at : (key : Key) (repo : Processes) → AreSound repo → IsSoundInFrames [] (process_at key repo)
sound_at key repo sound = each_at (IsSoundInFrames []) key repo (none_sound repo.format key) sound.each

-- it is in the format of the repository
pub format_at : (key : Key) (repo : Processes) → AreSound repo → format_of (process_at key repo) ≡ repo.format
format_at key repo sound = each_at (λ s. format_of s ≡ repo.format) key repo refl sound.formats

pub within_at : (g n : ℕ) (key : Key) (repo : Processes) → list_all (is_within g n) repo.items ≡ true → is_within g n (process_at key repo) ≡ true
within_at g n key repo h =
    each_at (λ s. is_within g n s ≡ true) key repo (within_none g n repo.format key) (all_one_by_one (is_within g n) repo.items h)

pub lone_at : (key : Key) (repo : Processes) → list_all is_lone repo.items ≡ true → is_lone (process_at key repo) ≡ true
lone_at key repo h = each_at (λ s. is_lone s ≡ true) key repo (lone_none repo.format key) (all_one_by_one is_lone repo.items h)

-- ---- a process is put

module _ (P : Process → Type 0) (s : Process) where
  placed_each : P s → (ss : List Process) → AllByRecursion P ss → AllByRecursion P (placed_by_key s ss)
  placed_each own [] h = (own, tt)
  placed_each own (t ∷ ts) h = by (key_cmp s.key t.key) (placed_each own ts h.1)
    where
      by : (o : Ordering) → AllByRecursion P (placed_by_key s ts) → AllByRecursion P (match_ordering o (s ∷ t ∷ ts) (s ∷ ts) (t ∷ placed_by_key s ts))
      by Less i = (own, h)
      by Equal i = (own, h.1)
      by Greater i = (h.0, i)

  -- what holds of all processes, and of the one that is put if it was ever defined
  pub put_each : (nat_eq s.generation 0 ≡ false → P s) → (ss : List Process) → AllByRecursion P ss → AllByRecursion P (with_process s ss)
  put_each own ss h = by (nat_eq s.generation 0) own
    where
      by : (b : Bool) → (b ≡ false → P s) → AllByRecursion P (cond b (without_key s.key ss) (placed_by_key s ss))
      by true own = all_filtered P (λ t. not (same_key s.key t.key)) ss h
      by false own = placed_each (own refl) ss h

pub put_all : (test : Process → Bool) (s : Process) (repo : Processes) → list_all test repo.items ≡ true → test s ≡ true → list_all test (put s repo).items ≡ true
put_all test s repo h own =
    all_together test (put s repo).items (put_each (λ t. test t ≡ true) s (λ d. own) repo.items (all_one_by_one test repo.items h))

-- ---- in the order of keys

abbrev keys_in : List Process → List Key
keys_in ss = map (λ s. s.key) ss

abbrev AreInOrder : List Process → Type 0
AreInOrder ss = IsStrictlySortedBy key_cmp (keys_in ss)

abbrev AreBehind : Key → List Process → Type 0
AreBehind key ss = AllByRecursion (λ t. key_cmp key t.key ≡ Less) ss

keys_behind : (key : Key) (ss : List Process) → AreBehind key ss → AllByRecursion (λ k. key_cmp key k ≡ Less) (keys_in ss)
keys_behind key [] h = tt
keys_behind key (t ∷ ts) h = (h.0, keys_behind key ts h.1)

from_keys : (key : Key) (ss : List Process) → AllByRecursion (λ k. key_cmp key k ≡ Less) (keys_in ss) → AreBehind key ss
from_keys key [] h = tt
from_keys key (t ∷ ts) h = (h.0, from_keys key ts h.1)

ordered_cons : (s : Process) (ss : List Process) → AreBehind s.key ss → AreInOrder ss → AreInOrder (s ∷ ss)
unfolding IsStrictlySortedBy
ordered_cons s ss h k = (keys_behind s.key ss h, k)

ordered_head : (s : Process) (ss : List Process) → AreInOrder (s ∷ ss) → AreBehind s.key ss
ordered_head s ss k = from_keys s.key ss (sorted_head key_cmp s.key (keys_in ss) k)

ordered_tail : (s : Process) (ss : List Process) → AreInOrder (s ∷ ss) → AreInOrder ss
ordered_tail s ss k = sorted_tail key_cmp s.key (keys_in ss) k

further_behind : (key : Key) (s : Process) (ss : List Process) → key_cmp key s.key ≡ Less → AreBehind s.key ss → AreBehind key ss
further_behind key s [] l h = tt
further_behind key s (t ∷ ts) l h = (key_total.trans key s.key t.key l h.0, further_behind key s ts l h.1)

filtered_order : (test : Process → Bool) (ss : List Process) → AreInOrder ss → AreInOrder (filter test ss)
filtered_order test [] k = k
filtered_order test (s ∷ ss) k = by (test s) (filtered_order test ss (ordered_tail s ss k))
  where
    by : (b : Bool) → AreInOrder (filter test ss) → AreInOrder (cond b (s ∷ filter test ss) (filter test ss))
    by true i = ordered_cons s (filter test ss) (all_filtered (λ t. key_cmp s.key t.key ≡ Less) test ss (ordered_head s ss k)) i
    by false i = i

placed_order : (s : Process) (ss : List Process) → AreInOrder ss → AreInOrder (placed_by_key s ss)
placed_order s [] k = ordered_cons s [] tt k
placed_order s (t ∷ ts) k = by (key_cmp s.key t.key) refl (placed_order s ts (ordered_tail t ts k))
  where
    by : (o : Ordering) → key_cmp s.key t.key ≡ o → AreInOrder (placed_by_key s ts) → AreInOrder (match_ordering o (s ∷ t ∷ ts) (s ∷ ts) (t ∷ placed_by_key s ts))
    by Less e i = ordered_cons s (t ∷ ts) (e, further_behind s.key t ts e (ordered_head t ts k)) k
    by Equal e i =
        ordered_cons s ts (subst (λ key. AreBehind key ts) (sym (keys_exact s.key t.key (ap is_eq e))) (ordered_head t ts k)) (ordered_tail t ts k)
    by Greater e i =
        ordered_cons t (placed_by_key s ts)
        (placed_each (λ u. key_cmp t.key u.key ≡ Less) s (key_total.antisymm t.key s.key ∙ ap ordering_reverse e) ts (ordered_head t ts k)) i

put_order : (s : Process) (ss : List Process) → AreInOrder ss → AreInOrder (with_process s ss)
put_order s ss k = by (nat_eq s.generation 0)
  where
    by : (b : Bool) → AreInOrder (cond b (without_key s.key ss) (placed_by_key s ss))
    by true = filtered_order (λ t. not (same_key s.key t.key)) ss k
    by false = placed_order s ss k

defined_once : (g : ℕ) → nat_eq g 0 ≡ false → nat_le 1 g ≡ true
defined_once g h = let d = eqb-false g 0 h in le-leb 1 g (omega arith)

-- a process in the format of the repository
pub put_sound : (s : Process) (repo : Processes) → AreSound repo → format_of s ≡ repo.format → IsSoundInFrames [] s → AreSound (put s repo)
put_sound s repo sound format own =
    let is_defined : Process → Bool = λ t. nat_le 1 t.generation in
    record {
      keys_rise = put_order s repo.items sound.keys_rise;
      defined = all_together is_defined (put s repo).items
          (put_each (λ t. is_defined t ≡ true) s (defined_once s.generation) repo.items (all_one_by_one is_defined repo.items sound.defined));
      formats = put_each (λ t. format_of t ≡ repo.format) s (λ d. format) repo.items sound.formats;
      each = put_each (IsSoundInFrames []) s (λ d. own) repo.items sound.each;
    }

-- ---- what stands under a key behind a put

-- a sound process that was never defined is none
never_defined : (s : Process) (o : Option Activities) → s.tree ≡ o → IsSoundUnder s o → s.generation ≡ 0 → s ≡ no_process (format_of s) s.key
never_defined s None e u g = λ i. record {
  key = s.key;
  generation = g i;
  tree = e i;
  containers = record { format = s.containers.format; items = u i };
}
never_defined s (Some t) e u g = absurd (omega (arith, u.1))

module _ (key : Key) (s : Process) (own : same_key key s.key ≡ true) (other : Process) where
  dropped_own : (ss : List Process) → found_or other key (without_key s.key ss) ≡ other
  dropped_own [] = refl
  dropped_own (t ∷ ts) = by (same_key s.key t.key) refl (dropped_own ts)
    where
      by : (b : Bool) → same_key s.key t.key ≡ b → found_or other key (without_key s.key ts) ≡ other
          → found_or other key (cond (not b) (t ∷ without_key s.key ts) (without_key s.key ts)) ≡ other
      by true e i = i
      by false e i =
          ap (λ b. cond b t (found_or other key (without_key s.key ts))) (ap (λ k. same_key k t.key) (keys_exact key s.key own) ∙ e) ∙ i

  placed_own : (ss : List Process) → found_or other key (placed_by_key s ss) ≡ s
  placed_own [] = ap (λ b. cond b s other) own
  placed_own (t ∷ ts) = by (key_cmp s.key t.key) refl (placed_own ts)
    where
      by : (o : Ordering) → key_cmp s.key t.key ≡ o → found_or other key (placed_by_key s ts) ≡ s
          → found_or other key (match_ordering o (s ∷ t ∷ ts) (s ∷ ts) (t ∷ placed_by_key s ts)) ≡ s
      by Less e i = ap (λ b. cond b s (found_or other key (t ∷ ts))) own
      by Equal e i = ap (λ b. cond b s (found_or other key ts)) own
      by Greater e i =
          ap (λ b. cond b t (found_or other key (placed_by_key s ts)))
          (ap (λ k. same_key k t.key) (keys_exact key s.key own) ∙ ap is_eq e)
          ∙ i

-- the process that was put, in the format of the repository
pub put_own : (key : Key) (s : Process) → same_key key s.key ≡ true → (frames : List ActivityPath) → IsSoundInFrames frames s
    → (repo : Processes) → format_of s ≡ repo.format → process_at key (put s repo) ≡ s
put_own key s own frames sound repo format = by (nat_eq s.generation 0) refl
  where
    none : Process
    none = no_process repo.format key

    by : (b : Bool) → nat_eq s.generation 0 ≡ b
        → found_or none key (cond b (without_key s.key repo.items) (placed_by_key s repo.items)) ≡ s
    by true e =
        dropped_own key s own none repo.items ∙ (λ i. no_process (sym format i) (keys_exact key s.key own i))
        ∙ sym (never_defined s s.tree refl sound.tree (eqb-true s.generation 0 e))
    by false e = placed_own key s own none repo.items

module _ (key : Key) (s : Process) (other : same_key key s.key ≡ false) where
  other_same : (t : Process) → is_eq (key_cmp s.key t.key) ≡ true → same_key key t.key ≡ false
  other_same t e = ap (same_key key) (sym (keys_exact s.key t.key e)) ∙ other

  module _ (none : Process) where
    abbrev found : List Process → Process
    found ss = found_or none key ss

    dropped_other : (ss : List Process) → found (without_key s.key ss) ≡ found ss
    dropped_other [] = refl
    dropped_other (t ∷ ts) = by (same_key s.key t.key) refl (dropped_other ts)
      where
        by : (b : Bool) → same_key s.key t.key ≡ b → found (without_key s.key ts) ≡ found ts
            → found (cond (not b) (t ∷ without_key s.key ts) (without_key s.key ts)) ≡ cond (same_key key t.key) t (found ts)
        by true e i = i ∙ sym (ap (λ b. cond b t (found ts)) (other_same t e))
        by false e i = ap (cond (same_key key t.key) t) i

    placed_other : (ss : List Process) → found (placed_by_key s ss) ≡ found ss
    placed_other [] = ap (λ b. cond b s none) other
    placed_other (t ∷ ts) = by (key_cmp s.key t.key) refl (placed_other ts)
      where
        by : (o : Ordering) → key_cmp s.key t.key ≡ o → found (placed_by_key s ts) ≡ found ts
            → found (match_ordering o (s ∷ t ∷ ts) (s ∷ ts) (t ∷ placed_by_key s ts)) ≡ cond (same_key key t.key) t (found ts)
        by Less e i = ap (λ b. cond b s (found (t ∷ ts))) other
        by Equal e i = ap (λ b. cond b s (found ts)) other ∙ sym (ap (λ b. cond b t (found ts)) (other_same t (ap is_eq e)))
        by Greater e i = ap (cond (same_key key t.key) t) i

  -- every other process
  pub put_other : (repo : Processes) → process_at key (put s repo) ≡ process_at key repo
  put_other repo = by (nat_eq s.generation 0)
    where
      none : Process
      none = no_process repo.format key

      by : (b : Bool) → found_or none key (cond b (without_key s.key repo.items) (placed_by_key s repo.items)) ≡ process_at key repo
      by true = dropped_other none repo.items
      by false = placed_other none repo.items

-- ---- lone roots leave nothing to do

-- a root is told
told_root : (x : ActivityPath × Activity) (root : Bool) → root ≡ true → (not root || x.1.told) ≡ true → is_untold x.1 ≡ false
told_root x true e h = by (is_complete x.1) x.1.told h
  where
    by : (b t : Bool) → t ≡ true → (b && not t) ≡ false
    by true true h = refl
    by true false h = cc
    by false t h = refl
told_root x false e h = cc

none_untold : (whole t : Activities) → AllByRecursion (FitsParent whole) t → list_all is_bare_root t ≡ true → filter (λ x. is_untold x.1) t ≡ []
none_untold whole [] f h = refl
none_untold whole (x ∷ t) f h =
    let a = and_parts (is_bare_root x) _ h in
    ap (λ b. cond b (x ∷ filter (λ y. is_untold y.1) t) (filter (λ y. is_untold y.1) t))
    (told_root x (is_root x.0) (and_parts (is_root x.0) (is_empty x.1.timers) a.0).0 f.0.told)
    ∙ none_untold whole t f.1 a.1

untold_of : (s : Process) → IsSoundInFrames [] s → is_lone s ≡ true → chosen_of is_untold s ≡ []
untold_of s sound h = by s.tree sound.tree h
  where
    by : (o : Option Activities) → IsSoundUnder s o → list_all is_bare_root (unwrap_or o []) ≡ true → chosen_at is_untold s.key (unwrap_or o []) ≡ []
    by None u h = refl
    by (Some t) u h = ap (map (λ x. (s.key, x.0))) (none_untold t t u.0.parents h)

untold_none : (ss : List Process) → AllByRecursion (IsSoundInFrames []) ss → list_all is_lone ss ≡ true → flat_map (chosen_of is_untold) ss ≡ []
untold_none [] sound h = refl
untold_none (s ∷ ss) sound h =
    let a = and_parts (is_lone s) (list_all is_lone ss) h in
    ap (λ places. places ++ flat_map (chosen_of is_untold) ss) (untold_of s sound.0 a.0) ∙ untold_none ss sound.1 a.1

pub lone_untold : (repo : Processes) → AllByRecursion (IsSoundInFrames []) repo.items → list_all is_lone repo.items ≡ true → untold_in repo ≡ []
lone_untold repo = untold_none repo.items

due_none : (now : ℕ) (key : Key) (p : ActivityPath) (timers : Timers) → is_empty timers ≡ true → due_at now key p timers ≡ []
due_none now key p [] h = refl
due_none now key p (t ∷ timers) h = cc

due_of_lone : (now : ℕ) (key : Key) (t : Activities) → list_all is_bare_root t ≡ true → due_among now key t ≡ []
due_of_lone now key [] h = refl
due_of_lone now key (x ∷ t) h =
    let a = and_parts (is_bare_root x) _ h in
    ap (λ places. places ++ due_among now key t) (due_none now key x.0 x.1.timers (and_parts (is_root x.0) (is_empty x.1.timers) a.0).1) ∙ due_of_lone now key t a.1

lone_none_due : (now : ℕ) (ss : List Process) → list_all is_lone ss ≡ true → flat_map (due_of now) ss ≡ []
lone_none_due now [] h = refl
lone_none_due now (s ∷ ss) h =
    let a = and_parts (is_lone s) (list_all is_lone ss) h in
    ap (λ places. places ++ flat_map (due_of now) ss) (due_of_lone now s.key (activities s) a.0) ∙ lone_none_due now ss a.1

pub lone_due : (now : ℕ) (repo : Processes) → list_all is_lone repo.items ≡ true → due_in now repo ≡ []
lone_due now repo = lone_none_due now repo.items
