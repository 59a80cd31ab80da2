-- How much more a process has behind a change: by how much its numbers rise, and whether a child or a timer is new.
use Rattle.std.proofs.Common.{◌≡◌, ℕ, ◌+◌, ◌≤◌, Bool, true, false, cond, nat_le, [], ◌∷◌, map, Option, Some, None, option_map, unwrap_or, refl, ap, subst, ◌∙◌, arith}
use Rattle.std.specs.List.{list_all}
use Rattle.std.proofs.lemmas.Bool.{and_parts, leb-true, le-leb}
use Rattle.bts_names.specs.Names.{ActivityPath, Name, same, same_exact}
use Rattle.bts_names.specs.Named.{lookup, without}
use Rattle.bts_names.specs.declared.state.TimerStatus.TheVariants as timer_status
use Rattle.bts_container.specs.Containers.{Containers}
use Rattle.bts_names.specs.declared.state.Status.{Status}
use Rattle.bts_names.specs.declared.state.Status.TheVariants as status
use Rattle.bts_timer.specs.Timers.{Timers, with_status}
use Rattle.bts_tree.specs.declared.activity.Activity.{Activity}
use Rattle.bts_tree.specs.Activities.{Activities, by_cause, changed_at, completed, completed_one, is_complete, new_root}
use Rattle.bts_tree.specs.Modes.{Cause}
use Rattle.bts_tree.specs.Paths.{leads_to}
use Rattle.bts_tree.specs.Processes.{Process, activities, activity_at, complete, edited, planted, purged, format_of}
use Rattle.bts_tree.specs.Scopes.{is_empty}
use Rattle.bts_tree.specs.Soundness.{is_root, is_within}
use Rattle.bts_rows.specs.Bounds.{is_bare_root, is_lone}
use Rattle.bts_rows.proofs.Edits.{changed_at-cons}
use Rattle.bts_rows.proofs.Entries.{both_so}

-- an activity's last entry number rises by no more than this, and it has its first timer only where more is made
pub record GrowsIn (most : ℕ) (more : Bool) (a b : Activity) : Type 0 where
  pub last : b.pool.last ≤ a.pool.last + most
  pub timers : more ≡ false → is_empty a.timers ≡ true → is_empty b.timers ≡ true

-- no activity's last entry number is above n
abbrev pub numbers_within : ℕ → Process → Bool
numbers_within n s = list_all (λ x. nat_le x.1.pool.last n) (activities s)

-- a process keeps its key, its generation rises by no more than `once` and its numbers by no more than `most`, and a
-- process that has only its root has more only where more is made
pub record Grows (once most : ℕ) (more : Bool) (s t : Process) : Type 0 where
  pub key : t.key ≡ s.key
  pub generation : t.generation ≤ s.generation + once
  pub numbers : (n m : ℕ) → n + most ≤ m → numbers_within n s ≡ true → numbers_within m t ≡ true
  pub lone : more ≡ false → is_lone s ≡ true → is_lone t ≡ true

-- ---- timers of an activity that has none

pub none_without : (t : Name) (timers : Timers) → is_empty timers ≡ true → is_empty (without t timers) ≡ true
none_without t [] h = refl
none_without t (x ∷ xs) h = cc

pub none_forced : (t : Name) (timers : Timers) → is_empty timers ≡ true → is_empty (with_status timer_status.Forced t timers) ≡ true
none_forced t [] h = refl
none_forced t (x ∷ xs) h = cc

-- ---- tests of all activities

module _ (test other : ActivityPath × Activity → Bool) where
  -- where another activity stands under each path
  mapped_all : (g : ActivityPath × Activity → Activity) → ((x : ActivityPath × Activity) → test x ≡ true → other (x.0, g x) ≡ true)
      → (t : Activities) → list_all test t ≡ true → list_all other (map (λ x. (x.0, g x)) t) ≡ true
  mapped_all g h [] k = refl
  mapped_all g h (x ∷ t) k = let a = and_parts (test x) (list_all test t) k in both_so _ _ (h x a.0) (mapped_all g h t a.1)

  module _ (wider : (x : ActivityPath × Activity) → test x ≡ true → other x ≡ true) where
    pub all_wider : (t : Activities) → list_all test t ≡ true → list_all other t ≡ true
    all_wider [] k = refl
    all_wider (x ∷ t) k = let a = and_parts (test x) (list_all test t) k in both_so _ _ (wider x a.0) (all_wider t a.1)

    module _ (q : ActivityPath) (f : Activity → Activity) where
      changed_case : (b : Bool) (x : ActivityPath × Activity) (t : Activities) → same q x.0 ≡ b
          → ((a : Activity) → cond b (Some x.1) (lookup q t) ≡ Some a → test (q, a) ≡ true → other (q, f a) ≡ true)
          → test x ≡ true → list_all test t ≡ true → (((a : Activity) → lookup q t ≡ Some a → test (q, a) ≡ true → other (q, f a) ≡ true) → list_all other (changed_at q f t) ≡ true)
          → list_all other (cond b ((x.0, f x.1) ∷ t) (x ∷ changed_at q f t)) ≡ true
      changed_case true x t e h k ks i =
          let own : other (x.0, f x.1) ≡ true = subst (λ p. test (p, x.1) ≡ true → other (p, f x.1) ≡ true) (same_exact q x.0 e) (h x.1 refl) k in
          both_so _ _ own (all_wider t ks)
      changed_case false x t e h k ks i = both_so _ _ (wider x k) (i h)

      -- where one is changed
      changed_all : (t : Activities) → ((a : Activity) → lookup q t ≡ Some a → test (q, a) ≡ true → other (q, f a) ≡ true) → list_all test t ≡ true → list_all other (changed_at q f t) ≡ true
      changed_all [] h k = refl
      changed_all (x ∷ t) h k =
          let a = and_parts (test x) (list_all test t) k in
          ap (list_all other) (changed_at-cons q f x t) ∙ changed_case (same q x.0) x t refl h a.0 a.1 (λ g. changed_all t g a.1)

-- ---- what grows

abbrev last_within : ℕ → ActivityPath × Activity → Bool
last_within n x = nat_le x.1.pool.last n

at_most : (n m : ℕ) (a b : ℕ) → b ≤ a + m → nat_le a n ≡ true → (k : ℕ) → n + m ≤ k → nat_le b k ≡ true
at_most n m a b h e k l = let d : a ≤ n = leb-true a n e in le-leb b k (omega arith)

module _ (most : ℕ) (more : Bool) where
  last_more : (a b : Activity) → GrowsIn most more a b → (n m : ℕ) → n + most ≤ m → nat_le a.pool.last n ≡ true → nat_le b.pool.last m ≡ true
  last_more a b g n m l e = at_most n most a.pool.last b.pool.last g.last e m l

  lone_still : (p : ActivityPath) (a b : Activity) → GrowsIn most more a b → more ≡ false → is_bare_root (p, a) ≡ true → is_bare_root (p, b) ≡ true
  lone_still p a b g e h = let k = and_parts (is_root p) (is_empty a.timers) h in both_so _ _ k.0 (g.timers e k.1)

  -- ---- one activity

  -- its timers, and its last number, are the same
  pub grows_in_same : (a b : Activity) → b.pool.last ≡ a.pool.last → b.timers ≡ a.timers → GrowsIn most more a b
  grows_in_same a b e t = record { last = omega arith; timers = λ f h. ap is_empty t ∙ h }

  -- or it has none
  pub grows_in_none : (a b : Activity) → b.pool.last ≡ a.pool.last → b.timers ≡ [] → GrowsIn most more a b
  grows_in_none a b e t = record { last = omega arith; timers = λ f h. ap is_empty t }

  -- ---- a process

  pub grows_same : (s : Process) → Grows 0 most more s s
  grows_same s = record {
    key = refl;
    generation = omega arith;
    numbers = λ n m l. all_wider (last_within n) (last_within m) (λ x e. last_more x.1 x.1 (grows_in_same x.1 x.1 refl refl) n m l e) (activities s);
    lone = λ e h. h;
  }

  -- the containers of the process are others
  pub grows_containers : (s : Process) (containers : Containers) → (let t : Process = record s { containers = containers } in Grows 0 most more s t)
  grows_containers s containers = let g = grows_same s in record { key = refl; generation = g.generation; numbers = g.numbers; lone = g.lone }

  module _ (p : ActivityPath) (f : Activity → Activity) where
    edited_case : (test other : ActivityPath × Activity → Bool) → ((x : ActivityPath × Activity) → test x ≡ true → other x ≡ true) → (o : Option Activities)
        → ((a : Activity) → lookup p (unwrap_or o []) ≡ Some a → test (p, a) ≡ true → other (p, f a) ≡ true) → list_all test (unwrap_or o []) ≡ true
        → list_all other (unwrap_or (option_map (changed_at p f) o) []) ≡ true
    edited_case test other wider None h k = refl
    edited_case test other wider (Some t) h k = changed_all test other wider p f t h k

    -- one activity is changed
    pub grows_edited : (s : Process) → ((a : Activity) → activity_at p s ≡ Some a → GrowsIn most more a (f a)) → Grows 0 most more s (edited p f s)
    grows_edited s g = record {
      key = refl;
      generation = omega arith;
      numbers = λ n m l.
          edited_case (last_within n) (last_within m) (λ x e. last_more x.1 x.1 (grows_in_same x.1 x.1 refl refl) n m l e) s.tree
          (λ b there e. last_more b (f b) (g b there) n m l e);
      lone = λ e h.
          edited_case is_bare_root is_bare_root (λ x k. k) s.tree (λ b there k. lone_still p b (f b) (g b there) e k) h;
    }

    -- the one that is there is changed
    pub grows_at : (s : Process) (a : Activity) → activity_at p s ≡ Some a → GrowsIn most more a (f a) → Grows 0 most more s (edited p f s)
    grows_at s a there g = grows_edited s (λ b there_too. let e : a ≡ b = cc in subst (λ x. GrowsIn most more x (f x)) e g)

  -- an activity's mode changes
  pub grows_by_cause : (p : ActivityPath) (why : Cause) (code : Option Name) (s : Process) → Grows 0 most more s (edited p (by_cause why code) s)
  grows_by_cause p why code s = grows_edited p (by_cause why code) s (λ a there. grows_in_same a (by_cause why code a) refl refl)

  -- ---- activities become COMPLETE

  module _ (p : ActivityPath) (s : Status) (code : Option Name) where
    completed_case : (b c d : Bool) (a : Activity) → GrowsIn most more a (cond b (completed s code (same p []) a) (cond c (cond d (completed a.status a.code true a) (completed status.Forced None true a)) a))
    completed_case true c d a = grows_in_none a (completed s code (same p []) a) refl refl
    completed_case false true true a = grows_in_none a (completed a.status a.code true a) refl refl
    completed_case false true false a = grows_in_none a (completed status.Forced None true a) refl refl
    completed_case false false d a = grows_in_same a a refl refl

    grows_completed : (x : ActivityPath × Activity) → GrowsIn most more x.1 (completed_one p s code x)
    grows_completed x = completed_case (same p x.0) (leads_to p x.0) (is_complete x.1) x.1

    complete_case : (test other : ActivityPath × Activity → Bool) → ((x : ActivityPath × Activity) → test x ≡ true → other (x.0, completed_one p s code x) ≡ true) → (o : Option Activities)
        → list_all test (unwrap_or o []) ≡ true → list_all other (unwrap_or (option_map (map (λ x. (x.0, completed_one p s code x))) o) []) ≡ true
    complete_case test other h None k = refl
    complete_case test other h (Some t) k = mapped_all test other (completed_one p s code) h t k

    pub grows_complete : (whole : Process) → Grows 0 most more whole (complete p s code whole)
    grows_complete whole = record {
      key = refl;
      generation = omega arith;
      numbers = λ n m l.
          complete_case (last_within n) (last_within m) (λ x e. last_more x.1 (completed_one p s code x) (grows_completed x) n m l e) whole.tree;
      lone = λ e h.
          complete_case is_bare_root is_bare_root (λ x k. lone_still x.0 x.1 (completed_one p s code x) (grows_completed x) e k) whole.tree h;
    }

  -- ---- the whole tree goes

  pub grows_purged : (s : Process) → Grows 0 most more s (purged s)
  grows_purged s = record { key = refl; generation = omega arith; numbers = λ n m l h. refl; lone = λ e h. refl }

-- ---- the key is defined again

none_below : (m : ℕ) → nat_le 0 m ≡ true
none_below m = le-leb 0 m (omega arith)

pub grows_planted : (most : ℕ) (more : Bool) (transid program : Name) (s : Process) → Grows 1 most more s (planted (new_root (format_of s) transid program) s)
grows_planted most more transid program s = record {
  key = refl;
  generation = omega arith;
  numbers = λ n m l h. both_so _ _ (none_below m) refl;
  lone = λ e h. refl;
}

-- ---- what a process is within

-- within these bounds before, it is within those behind
pub grows_within : (once most : ℕ) (more : Bool) (s t : Process) → Grows once most more s t → (g n h m : ℕ) → g + once ≤ h → n + most ≤ m → is_within g n s ≡ true → is_within h m t ≡ true
grows_within once most more s t k g n h m l j w =
    let a = and_parts (nat_le s.generation g) (numbers_within n s) w in
    both_so _ _ (at_most g once s.generation t.generation k.generation a.0 h l) (k.numbers n m j a.1)
