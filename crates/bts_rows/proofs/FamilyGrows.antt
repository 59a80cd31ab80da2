-- By a command on a family numbers rise by one at most, and only DEFINE ACTIVITY makes more.
use Rattle.std.proofs.Common.{◌≡◌, ℕ, ◌+◌, Bool, true, false, cond, ◌&&◌, nat_le, nat_cmp, List, [], ◌∷◌, ◌++◌, Option, Some, None, Ordering, Less, Equal, Greater, is_none, option_map, unwrap_or, refl, sym, ap, ◌∙◌, arith}
use Rattle.std.specs.List.{filter, list_all}
use Rattle.std.specs.Ordering.{match_ordering}
use Rattle.std.specs.Cmp.Lexicographic.{slice_cmp}
use Rattle.std.proofs.lemmas.Bool.{and_parts, le-leb}
use Rattle.bts_names.specs.Names.{Name, ActivityPath, same}
use Rattle.bts_names.specs.Named.{in_order, lookup}
use Rattle.bts_names.specs.declared.state.Status.TheVariants as status
use Rattle.bts_command.specs.declared.command.Command.{Command}
use Rattle.bts_event.specs.declared.event.Trigger.TheVariants.{Completion}
use Rattle.bts_event.specs.Events.{completion_of, holder}
use Rattle.bts_event.specs.Pool.{Pool, unfired, withdrawn}
use Rattle.bts_event.specs.Refusals.{define_refusal}
use Rattle.bts_event.specs.Sound.{IsSoundPool}
use Rattle.bts_tree.specs.declared.activity.Activity.{Activity}
use Rattle.bts_tree.specs.Activities.{Activities, ended_by, is_complete, new_activity, stays_without, without_below}
use Rattle.bts_tree.specs.Modes.{is_reset}
use Rattle.bts_tree.specs.Paths.{number_of, parent_of}
use Rattle.bts_tree.specs.Processes.{Process, activity_at, added, edited, on_tree, purged, removed, with_pool, format_of}
use Rattle.bts_tree.specs.Soundness.{IsSoundInFrames}
use Rattle.bts_rows.specs.Timing.{removed_if}
use Rattle.bts_rows.specs.Bounds.{is_bare_root, makes_more}
use Rattle.bts_rows.specs.Completions.{completion_refusal, pool_of, rearmed, rearmed_by, with_child, with_completion, without_completion}
use Rattle.bts_rows.proofs.InPlace.{own_sound}
use Rattle.bts_rows.proofs.Entries.{both_so}
use Rattle.bts_rows.proofs.Grows.{Grows, grows_complete, grows_edited, grows_in_none, grows_in_same, grows_purged, grows_same, grows_at}
use Rattle.bts_rows.proofs.LastNumbers.{IsNext, next_defined, next_removed_if, next_same}
use Rattle.bts_rows.specs.OnFamily as rows
use Rattle.bts_rows.specs.OnFamily.{on_family}
use Rattle.bts_rows.proofs.ResetSound.{allowed}
use Rattle.bts_rows.proofs.FamilyRows.{family_tells}
use Rattle.bts_rows.proofs.Telling.{Tells}
use Rattle.bts_rows.proofs.Trees.{found_passing, passes_found}
use Rattle.bts_container.specs.declared.format.Format.{Format}

-- ---- one change behind another

pub grows_both : (few many : ℕ) (more : Bool) (s t u : Process) → Grows 0 few more s t → Grows 0 many more t u
    → Grows 0 (few + many) more s u
grows_both few many more s t u a b = record {
  key = b.key ∙ a.key;
  generation = let x = a.generation in let y = b.generation in omega (arith, x, y);
  numbers = λ n m l h. b.numbers (n + few) m (omega (arith, l)) (a.numbers n (n + few) (omega arith) h);
  lone = λ e h. b.lone e (a.lone e h);
}

-- ---- activities go

all_passing : (test : ActivityPath × Activity → Bool) (keeps : ActivityPath → Bool) (t : Activities) → list_all test t ≡ true
    → list_all test (filter (λ x. keeps x.0) t) ≡ true
all_passing test keeps [] h = refl
all_passing test keeps (x ∷ t) h = let a = and_parts (test x) (list_all test t) h in by (keeps x.0) a.0 (all_passing test keeps t a.1)
  where
    by : (b : Bool) → test x ≡ true → list_all test (filter (λ y. keeps y.0) t) ≡ true
        → list_all test (cond b (x ∷ filter (λ y. keeps y.0) t) (filter (λ y. keeps y.0) t)) ≡ true
    by true k i = both_so _ _ k i
    by false k i = i

module _ (more : Bool) (p : ActivityPath) (itself : Bool) (s : Process) where
  abbrev left : Process
  left = on_tree (without_below p itself) s

  all_left : (test : ActivityPath × Activity → Bool) (o : Option Activities) → list_all test (unwrap_or o []) ≡ true
      → list_all test (unwrap_or (option_map (without_below p itself) o) []) ≡ true
  all_left test None h = h
  all_left test (Some t) h = all_passing test (stays_without p itself) t h

  grows_left : Grows 0 0 more s left
  grows_left = record {
    key = refl;
    generation = omega arith;
    numbers = λ n m l h. all_left (λ x. nat_le x.1.pool.last m) s.tree ((grows_same 0 more s).numbers n m l h);
    lone = λ e h. all_left is_bare_root s.tree h;
  }

  pub grows_removed : Grows 0 0 more s (removed p itself s)
  grows_removed = by (itself && same p [])
    where
      by : (b : Bool) → Grows 0 0 more s (cond b (purged s) left)
      by true = grows_purged 0 more s
      by false = grows_left

  -- an activity that is left was there
  pub left_found : (q : ActivityPath) (a : Activity) → activity_at q (removed p itself s) ≡ Some a → activity_at q s ≡ Some a
  left_found q a = by (itself && same p [])
    where
      tree_case : (o : Option Activities) → lookup q (unwrap_or (option_map (without_below p itself) o) []) ≡ Some a
          → lookup q (unwrap_or o []) ≡ Some a
      tree_case None h = h
      tree_case (Some t) h = sym (found_passing (stays_without p itself) q t (passes_found (stays_without p itself) q t a h)) ∙ h

      by : (b : Bool) → activity_at q (cond b (purged s) left) ≡ Some a → activity_at q s ≡ Some a
      by true h = cc
      by false h = tree_case s.tree h

-- ---- an activity is made

all_added : (test : ActivityPath × Activity → Bool) (c : ActivityPath) (new : Activity) (t : Activities)
    → ((q : ActivityPath) → test (q, new) ≡ true) → list_all test t ≡ true → list_all test (in_order c new t) ≡ true
all_added test c new [] f h = both_so _ _ (f c) refl
all_added test c new (x ∷ t) f h =
    let a = and_parts (test x) (list_all test t) h in by (slice_cmp nat_cmp c x.0) a.0 a.1 (all_added test c new t f a.1)
  where
    by : (o : Ordering) → test x ≡ true → list_all test t ≡ true → list_all test (in_order c new t) ≡ true
        → list_all test (match_ordering o ((c, new) ∷ x ∷ t) ((x.0, new) ∷ t) (x ∷ in_order c new t)) ≡ true
    by Less k l i = both_so _ _ (f c) h
    by Equal k l i = both_so _ _ (f x.0) l
    by Greater k l i = both_so _ _ k i

pub grows_added : (c : ActivityPath) (f : Format) (name transid program : Name) (completion : Option Name) (s : Process)
    → Grows 0 0 true s (added c (new_activity f name transid program completion) s)
grows_added c f name transid program completion s = record {
  key = refl;
  generation = omega arith;
  numbers = λ n m l h. by m s.tree ((grows_same 0 true s).numbers n m l h);
  lone = λ e h. cc;
}
  where
    by : (m : ℕ) (o : Option Activities) → list_all (λ x. nat_le x.1.pool.last m) (unwrap_or o []) ≡ true
        → list_all (λ x. nat_le x.1.pool.last m) (unwrap_or (option_map (in_order c (new_activity f name transid program completion)) o) []) ≡ true
    by m None h = h
    by m (Some t) h =
        all_added (λ x. nat_le x.1.pool.last m) c (new_activity f name transid program completion) t (λ q. le-leb 0 m (omega arith)) h

-- ---- pools

withdrawn_last : (o : Option Name) (n : Name) (p : Pool) → (withdrawn n o p).last ≡ p.last
withdrawn_last None n p = refl
withdrawn_last (Some c) n p = refl

next_rearmed : (k : ℕ) (name : Name) (p : Pool) → IsSoundPool p → (completion_of k p.events ≡ None → define_refusal name p.events ≡ None)
    → IsNext p (rearmed k name p)
next_rearmed k name p s free = by (completion_of k p.events) refl
  where
    by : (o : Option Name) → completion_of k p.events ≡ o → IsNext p (rearmed_by o k name p)
    by None e = next_defined name (Completion k) p s (free e)
    by (Some n) e = next_same p (unfired n p) (withdrawn_last (holder p.events n) n p)

-- ---- the rows

module _ (frames : List ActivityPath) (more : Bool) (s : Process) (sound : IsSoundInFrames frames s) where
  abbrev Grown : (Process → Process) → Type 0
  Grown change = Grows 0 1 more s (change s)

  pool_at : (q : ActivityPath) (a : Activity) → activity_at q s ≡ Some a → IsSoundPool a.pool
  pool_at q a h = (own_sound frames s sound q a h).pool

  grows_pool : (q : ActivityPath) (change : Pool → Pool) (t : Process)
      → ((a : Activity) → activity_at q t ≡ Some a → IsNext a.pool (change a.pool)) → Grows 0 1 more t (with_pool q change t)
  grows_pool q change t f =
      grows_edited 1 more q (λ a. record a { pool = change a.pool }) t (λ a h. record { last = f a h; timers = λ e i. i })

  grows_without : (p : ActivityPath) (t : Process) → ((a : Activity) → activity_at (parent_of p) t ≡ Some a → IsSoundPool a.pool)
      → Grows 0 1 more t (without_completion p t)
  grows_without p t f =
      grows_pool (parent_of p) (λ pool. removed_if (completion_of (number_of p) pool.events) pool) t
      (λ a h. next_removed_if (completion_of (number_of p) a.pool.events) a.pool (f a h))

  module _ (p : ActivityPath) (a : Activity) (there : activity_at p s ≡ Some a) where
    same_parent : (b : Activity) → activity_at (parent_of p) s ≡ Some b → pool_of (activity_at (parent_of p) s) ≡ b.pool
    same_parent b h = ap pool_of h

    rearmed_grows : (o : Option Name) → completion_refusal (number_of p) o (pool_of (activity_at (parent_of p) s)).events ≡ None
        → Grows 0 1 more s (with_completion p o s)
    rearmed_grows None r = grows_same 1 more s
    rearmed_grows (Some name) r =
        grows_pool (parent_of p) (rearmed (number_of p) name) s
        (λ b h.
        next_rearmed (number_of p) name b.pool (pool_at (parent_of p) b h)
        (allowed (number_of p) name b.pool.events
        (ap (λ (q : Pool). completion_refusal (number_of p) (Some name) q.events) (sym (same_parent b h)) ∙ r)))

    checked_grows : Grown (λ t. cond (is_complete a) (rows.told p t) t)
    checked_grows = by (is_complete a)
      where
        by : (b : Bool) → Grows 0 1 more s (cond b (rows.told p s) s)
        by true =
            let t = without_completion p s in
            grows_both 1 0 more s t (edited p rows.as_told t) (grows_without p s (λ b h. pool_at (parent_of p) b h))
            (grows_edited 0 more p rows.as_told t (λ b h. grows_in_same 0 more b (rows.as_told b) refl refl))
        by false = grows_same 1 more s

    deleted_grows : (x : ActivityPath) → Grown (λ t. without_completion x (removed x true t))
    deleted_grows x =
        grows_both 0 1 more s (removed x true s) (without_completion x (removed x true s)) (grows_removed more x true s)
        (grows_without x (removed x true s) (λ b h. pool_at (parent_of x) b (left_found more x true s (parent_of x) b h)))

    reset_grows : completion_refusal (number_of p) a.completion (pool_of (activity_at (parent_of p) s)).events ≡ None
        → Grown (λ t. edited p (ended_by is_reset None (is_none a.completion)) (removed p false (with_completion p a.completion t)))
    reset_grows r =
        let t = with_completion p a.completion s in
        let u = removed p false t in
        let f : Activity → Activity = ended_by is_reset None (is_none a.completion) in
        grows_both 1 0 more s u (edited p f u)
        (grows_both 1 0 more s t u (rearmed_grows a.completion r) (grows_removed more p false t))
        (grows_edited 0 more p f u (λ b h. grows_in_none 0 more b (f b) refl refl))

module _ (frames : List ActivityPath) (s : Process) (sound : IsSoundInFrames frames s) (p : ActivityPath) (a : Activity)
    (there : activity_at p s ≡ Some a) where
  defined_grows : (name : Name) (e transid program : Name) → define_refusal e a.pool.events ≡ None
      → Grows 0 1 true s (added (p ++ (a.made + 1) ∷ []) (new_activity (format_of s) name transid program (Some e)) (edited p (with_child e (a.made + 1)) s))
  defined_grows name e transid program free =
      let f : Activity → Activity = with_child e (a.made + 1) in
      grows_both 1 0 true s (edited p f s) (added (p ++ (a.made + 1) ∷ []) (new_activity (format_of s) name transid program (Some e)) (edited p f s))
      (grows_at 1 true p f s a there
      (record { last = next_defined e (Completion (a.made + 1)) a.pool (own_sound frames s sound p a there).pool free; timers = λ m i. i }))
      (grows_added (p ++ (a.made + 1) ∷ []) (format_of s) name transid program (Some e) (edited p f s))

  -- each row on a family
  pub family_grows : (c : Command) → Tells (λ change. Grows 0 1 (makes_more c) s (change s)) (on_family c p a s)
  family_grows = family_tells (λ c change. Grows 0 1 (makes_more c) s (change s)) p a s (record {
    defined = λ name e transid program no_child free shallow few. defined_grows name (unwrap_or e name) transid program free;
    deleted = λ name x e. deleted_grows frames false s sound p a there x.0;
    checked = λ target. checked_grows frames false s sound p a there;
    cancelled = λ target m. grows_complete 1 false p status.Forced None s;
    reset = λ target rest r. reset_grows frames false s sound p a there r;
  })
