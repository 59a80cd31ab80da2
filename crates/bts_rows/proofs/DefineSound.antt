-- DEFINE ACTIVITY keeps a process sound.
use Rattle.std.proofs.Common.{◌≡◌, ◌≤◌, ℕ, ◌+◌, Bool, true, false, cond, ◌&&◌, nat_le, length, length-append, List, [], ◌∷◌, Option, Some, None, is_some, option_map, unwrap_or, refl, sym, ap, subst, ◌∙◌, true≢false, arith}
use Rattle.std.specs.List.{find}
use Rattle.std.specs.List.Sorted.{IsStrictlySortedBy}
use Rattle.std.proofs.lemmas.Bool.{and_parts, leb-false, leb-true, le-leb}
use Rattle.bts_names.specs.Names.{Name, ActivityPath, same, same_exact, initial_name, root_name}
use Rattle.bts_names.specs.Named.{in_order, lookup, is_there}
use Rattle.bts_event.specs.declared.event.Event.{Event}
use Rattle.bts_event.specs.declared.event.Trigger.TheVariants.{Completion}
use Rattle.bts_event.specs.Events.{is_fired_atomic, new_atomic}
use Rattle.bts_event.specs.Pool.{defined, empty_pool}
use Rattle.bts_event.specs.Refusals.{define_refusal}
use Rattle.bts_event.proofs.Accounts.{clear_sound}
use Rattle.bts_event.proofs.Same.{same_refl, same_sym}
use Rattle.bts_tree.proofs.New.{nothing_kept}
use Rattle.bts_tree.proofs.Paths.{parent_of_child}
use Rattle.bts_tree.specs.declared.activity.Activity.{Activity}
use Rattle.bts_tree.specs.Activities.{Activities, changed_at, changed_by, child_in, child_limit, new_activity, path_limit, written_at}
use Rattle.bts_tree.specs.Paths.{is_child_of, number_of, parent_of}
use Rattle.bts_tree.specs.Processes.{Process, activity_at, added, child_of, edited, on_tree, format_of}
use Rattle.bts_tree.specs.Soundness.{IsSoundActivity, IsSoundInFrames, is_root}
use Rattle.bts_rows.specs.Completions.{with_child}
use Rattle.bts_rows.proofs.Active.{active_at, is_active, sound_in_frames}
use Rattle.bts_rows.proofs.Entries.{both_so}
use Rattle.bts_rows.proofs.Fits.{sound_define}
use Rattle.bts_rows.proofs.Ordered as ordered
use Rattle.bts_rows.proofs.Local.{on_tree_twice}
use Rattle.bts_rows.proofs.Order.{path_cmp}
use Rattle.bts_rows.proofs.OwnedEvents.{read_new as read_new_event, read_own as read_own_event}
use Rattle.bts_rows.proofs.PoolKeeps.{define_free, keeps_defined}
use Rattle.bts_rows.proofs.TimerEvents.{trigger_at}
use Rattle.bts_rows.proofs.Written.{keys-written, lookup-written}
use Rattle.bts_rows.proofs.Changes.{only, waits_named}
use Rattle.bts_rows.proofs.ChildEvents.{but, but_timers, own_unpicked, pool_sound}
use Rattle.bts_rows.proofs.Cutting.{stands_at}
use Rattle.bts_rows.proofs.Paths.{below, child_below, not_own, not_root, number_below, one_number}
use Rattle.bts_rows.proofs.Trees.{HasChild, HasParent, IsChild, IsFamily, IsFirst, Waits, tree_from}
use Rattle.bts_rows.proofs.OneFormat.{AreIn, in_added, in_written}
use Rattle.bts_container.specs.declared.format.Format.{Format}

-- no child has a name that isn't found
find_none : (f : ActivityPath × Activity → Bool) (t : Activities) (q : ActivityPath) (a : Activity) → find f t ≡ None → lookup q t ≡ Some a
    → f (q, a) ≡ false
find_none f [] q a h k = cc
find_none f (x ∷ t) q a h k = by (f x) (same q x.0) refl refl h k (find_none f t q a)
  where
    by : (b c : Bool) → f x ≡ b → same q x.0 ≡ c → cond b (Some x) (find f t) ≡ None → cond c (Some x.1) (lookup q t) ≡ Some a
        → (find f t ≡ None → lookup q t ≡ Some a → f (q, a) ≡ false) → f (q, a) ≡ false
    by true c e d h k i = cc
    by false true e d h k i = let w : x.1 ≡ a = cc in (λ z. f (same_exact q x.0 d z, (sym w) z)) ∙ e
    by false false e d h k i = i h k

one_below : (l m : ℕ) → nat_le l m ≡ false → m + 1 ≤ l
one_below l m h = let d = leb-false l m h in omega (arith, d)

-- ---- the new child

new_sound : (m : Format) (name transid program : Name) (completion : Option Name) → IsSoundActivity (new_activity m name transid program completion)
unfolding IsStrictlySortedBy
new_sound m name transid program completion = record {
  status = refl;
  code = refl;
  pool = clear_sound empty_pool;
  timers_rise = tt;
  timer_events = record { one_event_each = refl; timer_of_each = refl; unexpired = refl };
  containers = nothing_kept m;
  few_children = omega arith;
}

module _ (t : Activities) (f : IsFamily t) (p : ActivityPath) (a : Activity) (found : lookup p t ≡ Some a) (m : Format) (name transid program e : Name)
    (taken : (j : ℕ) (x : Activity) → lookup (below p j) t ≡ Some x → same name x.name ≡ false)
    (free : define_refusal e a.pool.events ≡ None)
    (usual : same e initial_name ≡ false) (named : same name root_name ≡ false) (shallow : nat_le path_limit (length p) ≡ false)
    (few : nat_le child_limit a.made ≡ false) where
  abbrev n : ℕ
  n = a.made + 1

  abbrev child : ActivityPath
  child = below p n

  abbrev new : Activity
  new = new_activity m name transid program (Some e)

  abbrev parent : Activity
  parent = with_child e n a

  abbrev after : Activities
  after = in_order child new (written_at p parent t)

  -- ---- what is read

  absent : lookup child t ≡ None
  absent = by (lookup child t) refl
    where
      by : (o : Option Activity) → lookup child t ≡ o → o ≡ None
      by None h = refl
      by (Some x) h =
          let y = f.parents p n x h in
          let l = leb-true n y.parent.made (and_parts (nat_le 1 n) (nat_le n y.parent.made) y.fits.number).1 in
          let m = ap (λ (z : Activity). z.made) (only t p y.parent a y.found found) in
          absurd (omega (arith, l, m))

  read : (q : ActivityPath) → lookup q after ≡ cond (same child q) (Some new) (cond (same p q) (Some parent) (lookup q t))
  read q =
      ordered.lookup-in_order (written_at p parent t) child new q
      ∙ ap (λ o. cond (same child q) (Some new) o) (lookup-written p parent t q (ap is_some found))

  data In (q : ActivityPath) (x : Activity) : Type 0 where
    fresh : child ≡ q → new ≡ x → In q x
    own : p ≡ q → parent ≡ x → In q x
    old : same p q ≡ false → lookup q t ≡ Some x → In q x

  stands : (q : ActivityPath) (x : Activity) → lookup q after ≡ Some x → In q x
  stands q x h = by (same child q) (same p q) refl refl (sym (read q) ∙ h)
    where
      by : (b c : Bool) → same child q ≡ b → same p q ≡ c → cond b (Some new) (cond c (Some parent) (lookup q t)) ≡ Some x → In q x
      by true c d i k = fresh (same_exact child q d) cc
      by false true d i k = own (same_exact p q i) cc
      by false false d i k = old i k

  read_new : lookup child after ≡ Some new
  read_new = read child ∙ ap (λ b. cond b (Some new) (cond (same p child) (Some parent) (lookup child t))) (same_refl child)

  read_own : lookup p after ≡ Some parent
  read_own =
      read p ∙ ap (λ b. cond b (Some new) (cond (same p p) (Some parent) (lookup p t))) (same_sym child p ∙ not_own p n)
      ∙ ap (λ b. cond b (Some parent) (lookup p t)) (same_refl p)

  read_old : (q : ActivityPath) (x : Activity) → same p q ≡ false → lookup q t ≡ Some x → lookup q after ≡ Some x
  read_old q x d h =
      read q ∙ ap (λ b. cond b (Some new) (cond (same p q) (Some parent) (lookup q t))) (by (same child q) refl)
      ∙ ap (λ b. cond b (Some parent) (lookup q t)) d ∙ h
    where
      by : (b : Bool) → same child q ≡ b → b ≡ false
      by true i = let z : None ≡ Some x = sym absent ∙ ap (λ r. lookup r t) (same_exact child q i) ∙ h in cc
      by false i = refl

  -- ---- its events

  abbrev event : Event
  event = new_atomic (Completion n)

  -- the events of the other children are as they were
  still_event : (m : Name) (k : ℕ) → trigger_at (lookup m a.pool.events) ≡ Some (Completion k)
      → lookup m parent.pool.events ≡ lookup m a.pool.events
  still_event m k h = read_new_event e (Completion n) a.pool m ∙ ap (λ b. cond b (Some event) (lookup m a.pool.events)) (by (same e m) refl)
    where
      by : (b : Bool) → same e m ≡ b → b ≡ false
      by true i =
          let z : None ≡ Some (Completion k) =
          sym (ap trigger_at (ap (λ r. lookup r a.pool.events) (sym (same_exact e m i)) ∙ define_free e a.pool.events free)) ∙ h in
          cc
      by false i = refl

  still_waits : (k : ℕ) (x : Activity) → Waits a k x → Waits parent k x
  still_waits k x w =
      let same_event = still_event w.name k w.fires in
      record {
        name = w.name;
        named = w.named;
        fires = ap trigger_at same_event ∙ w.fires;
        unfired = ap is_fired_atomic same_event ∙ w.unfired;
      }

  new_waits : Waits parent n new
  new_waits =
      record {
        name = e;
        named = refl;
        fires = ap trigger_at (read_own_event e (Completion n) a.pool);
        unfired = ap is_fired_atomic (read_own_event e (Completion n) a.pool);
      }

  parent_sound : IsSoundActivity parent
  parent_sound =
      let pool = defined e event a.pool in
      let s = f.sound p a found in
      let b : Activity = record a { pool = pool } in
      let r : IsSoundActivity b = pool_sound (but n) (but_timers n) a s pool (sound_define e (Completion n) a.pool s.pool free usual)
      (keeps_defined (but n) e event a.pool (define_free e a.pool.events free) (own_unpicked n (Some event) refl)) in
      let h = r.timer_events in
      record {
        status = r.status;
        code = r.code;
        pool = r.pool;
        timers_rise = r.timers_rise;
        timer_events = record { one_event_each = h.one_event_each; timer_of_each = h.timer_of_each; unexpired = h.unexpired };
        containers = r.containers;
        few_children = one_below child_limit a.made few;
      }

  -- ---- the tree

  sound_at : (q : ActivityPath) (x : Activity) → In q x → IsSoundActivity x
  sound_at q x (fresh d i) = subst IsSoundActivity i (new_sound m name transid program (Some e))
  sound_at q x (own d i) = subst IsSoundActivity i parent_sound
  sound_at q x (old d h) = f.sound q x h

  first_at : (x : Activity) → In [] x → IsFirst x
  first_at x (fresh d i) = absurd (true≢false (sym (ap is_root d) ∙ not_root p n))
  first_at x (own d i) =
      let r = f.first a (ap (λ q. lookup q t) (sym d) ∙ found) in
      subst IsFirst i (record { named = r.named; completes = r.completes; told = r.told })
  first_at x (old d h) = f.first x h

  more : (k m : ℕ) → (nat_le 1 k && nat_le k m) ≡ true → (nat_le 1 k && nat_le k (m + 1)) ≡ true
  more k m h =
      let z = and_parts (nat_le 1 k) (nat_le k m) h in let l = leb-true k m z.1 in both_so _ _ z.0 (le-leb k (m + 1) (omega (arith, l)))

  new_number : (m : ℕ) → (nat_le 1 (m + 1) && nat_le (m + 1) (m + 1)) ≡ true
  new_number m = both_so _ _ (le-leb 1 (m + 1) (omega arith)) (le-leb (m + 1) (m + 1) (omega arith))

  depth_of_child : length child ≤ path_limit
  depth_of_child = let l = length-append p (n ∷ []) in let d = one_below path_limit (length p) shallow in omega (arith, l, d)

  -- the parent of an activity that was there, as it is now
  parent_now : (q : ActivityPath) (k : ℕ) (x : Activity) → HasParent t q k x → HasParent after q k x
  parent_now q k x h = by (same p q) refl
    where
      by : (b : Bool) → same p q ≡ b → HasParent after q k x
      by true d =
          let is : a ≡ h.parent = only t q a h.parent (ap (λ r. lookup r t) (sym (same_exact p q d)) ∙ found) h.found in
          let c = subst (λ z. IsChild z k x) (sym is) h.fits in
          record {
            parent = parent;
            found = ap (λ r. lookup r after) (sym (same_exact p q d)) ∙ read_own;
            fits =
                record {
                  number = more k a.made c.number;
                  named = c.named;
                  completes = c.completes;
                  waits = λ w. still_waits k x (c.waits w);
                };
            depth = h.depth;
          }
      by false d = record { parent = h.parent; found = read_old q h.parent d h.found; fits = h.fits; depth = h.depth }

  parent_at : (q : ActivityPath) (k : ℕ) (x : Activity) → In (below q k) x → HasParent after q k x
  parent_at q k x (fresh d i) =
      let path : p ≡ q = sym (parent_of_child p n) ∙ ap parent_of d ∙ parent_of_child q k in
      let number : n ≡ k = sym (number_below p n) ∙ ap number_of d ∙ number_below q k in
      let h : HasParent after p n new = record {
        parent = parent;
        found = read_own;
        fits = record { number = new_number a.made; named = named; completes = refl; waits = λ w. new_waits };
        depth = depth_of_child;
      } in
      subst (λ z. HasParent after q k z) i (subst (λ z. HasParent after z k new) path (subst (λ z. HasParent after p z new) number h))
  parent_at q k x (own d i) =
      let h = parent_now q k a (f.parents q k a (ap (λ r. lookup r t) (sym d) ∙ found)) in
      subst (HasParent after q k) i (record {
        parent = h.parent;
        found = h.found;
        fits =
            record {
              number = h.fits.number;
              named = h.fits.named;
              completes = h.fits.completes;
              waits = λ w. waits_named h.parent k a parent refl (h.fits.waits w);
            };
        depth = h.depth;
      })
  parent_at q k x (old d h) = parent_now q k x (f.parents q k x h)

  -- what was there, under the name that it still has
  record Named (q : ActivityPath) (x : Activity) : Type 0 where
    value : Activity
    was : lookup q t ≡ Some value
    name_is : value.name ≡ x.name

  names_both : (q : ActivityPath) (j k : ℕ) (x y : Activity) → Named (below q j) x → Named (below q k) y → same x.name y.name ≡ true → j ≡ k
  names_both q j k x y v w h = f.names q j k v.value w.value v.was w.was ((λ z. same (v.name_is z) (w.name_is z)) ∙ h)

  new_apart : (q : ActivityPath) (j : ℕ) (x : Activity) → p ≡ q → Named (below q j) x → same name x.name ≡ true → ⊥
  new_apart q j x d v h = true≢false (sym h ∙ ap (same name) (sym v.name_is) ∙ taken j v.value (ap (λ r. lookup (below r j) t) d ∙ v.was))

  data Known (q : ActivityPath) (x : Activity) : Type 0 where
    made : child ≡ q → new ≡ x → Known q x
    known : Named q x → Known q x

  known_at : (q : ActivityPath) (x : Activity) → In q x → Known q x
  known_at q x (fresh d i) = made d i
  known_at q x (own d i) =
      known (record { value = a; was = ap (λ r. lookup r t) (sym d) ∙ found; name_is = ap (λ (z : Activity). z.name) i })
  known_at q x (old d h) = known (record { value = x; was = h; name_is = refl })

  path_of : (q : ActivityPath) (j : ℕ) → child ≡ below q j → p ≡ q
  path_of q j d = sym (parent_of_child p n) ∙ ap parent_of d ∙ parent_of_child q j

  names_at : (q : ActivityPath) (j k : ℕ) (x y : Activity) → Known (below q j) x → Known (below q k) y → same x.name y.name ≡ true → j ≡ k
  names_at q j k x y (made d i) (made g l) h = one_number q j k (sym d ∙ g)
  names_at q j k x y (made d i) (known w) h = absurd (new_apart q k y (path_of q j d) w (ap (λ (z : Activity). same z.name y.name) i ∙ h))
  names_at q j k x y (known v) (made d i) h =
      absurd (new_apart q j x (path_of q k d) v (same_sym name x.name ∙ ap (λ (z : Activity). same x.name z.name) i ∙ h))
  names_at q j k x y (known v) (known w) h = names_both q j k x y v w h

  child_now : (q : ActivityPath) (m : Name) (k : ℕ) → HasChild t q m k → HasChild after q m k
  child_now q m k h = by (same p (below q k)) refl
    where
      by : (b : Bool) → same p (below q k) ≡ b → HasChild after q m k
      by true d =
          let path = same_exact p (below q k) d in
          let is : a ≡ h.child = only t (below q k) a h.child (ap (λ r. lookup r t) (sym path) ∙ found) h.found in
          record {
            child = parent;
            found = ap (λ r. lookup r after) (sym path) ∙ read_own;
            named = ap (λ (z : Activity). z.completion) is ∙ h.named;
          }
      by false d = record { child = h.child; found = read_old (below q k) h.child d h.found; named = h.named }

  own_events : (m : Name) (k : ℕ) (b : Bool) → same e m ≡ b
      → trigger_at (cond b (Some event) (lookup m a.pool.events)) ≡ Some (Completion k) → HasChild after p m k
  own_events m k true d h =
      let number : n ≡ k = cc in
      subst (HasChild after p m) number (record { child = new; found = read_new; named = ap Some (same_exact e m d) })
  own_events m k false d h = child_now p m k (f.events p a m k found h)

  events_at : (q : ActivityPath) (x : Activity) (m : Name) (k : ℕ) → In q x → trigger_at (lookup m x.pool.events) ≡ Some (Completion k)
      → HasChild after q m k
  events_at q x m k (fresh d i) h =
      let z : None ≡ Some (Completion k) = ap (λ (z : Activity). trigger_at (lookup m z.pool.events)) i ∙ h in cc
  events_at q x m k (own d i) h =
      subst (λ r. HasChild after r m k) d
      (own_events m k (same e m) refl
      (sym (ap trigger_at (read_new_event e (Completion n) a.pool m)) ∙ ap (λ (z : Activity). trigger_at (lookup m z.pool.events)) i ∙ h))
  events_at q x m k (old d i) h = child_now q m k (f.events q x m k i h)

  pub family_defined : IsFamily after
  family_defined = record {
    order =
        ordered.rising_in_order (written_at p parent t) child new
        (subst (IsStrictlySortedBy path_cmp) (sym (keys-written p parent t)) f.order);
    root = root_there (same child []) (same p []) (lookup [] t) (read []) f.root;
    sound = λ q x h. sound_at q x (stands q x h);
    first = λ x h. first_at x (stands [] x h);
    parents = λ q k x h. parent_at q k x (stands (below q k) x h);
    names =
        λ q j k x y h i d.
        names_at q j k x y (known_at (below q j) x (stands (below q j) x h)) (known_at (below q k) y (stands (below q k) y i)) d;
    events = λ q x m k h i. events_at q x m k (stands q x h) i;
  }
    where
      root_there : (b c : Bool) (o : Option Activity) → lookup [] after ≡ cond b (Some new) (cond c (Some parent) o) → is_some o ≡ true
          → is_there [] after ≡ true
      root_there true c o e h = ap is_some e
      root_there false true o e h = ap is_some e
      root_there false false o e h = ap is_some e ∙ h

  -- ---- which are ACTIVE

  pub still_active : (q : ActivityPath) → is_active (lookup q after) ≡ is_active (lookup q t)
  still_active q = ap is_active (read q) ∙ by (same child q) (same p q) refl refl
    where
      by : (b c : Bool) → same child q ≡ b → same p q ≡ c
          → is_active (cond b (Some new) (cond c (Some parent) (lookup q t))) ≡ is_active (lookup q t)
      by true c d i = sym (ap is_active (ap (λ r. lookup r t) (sym (same_exact child q d)) ∙ absent))
      by false true d i = sym (ap is_active (ap (λ r. lookup r t) (sym (same_exact p q i)) ∙ found))
      by false false d i = refl

-- ---- in a process

pub defined_sound : (frames : List ActivityPath) (s : Process) (p : ActivityPath) (a : Activity) (name transid program e : Name)
    → IsSoundInFrames frames s → activity_at p s ≡ Some a
    → child_of p name s ≡ None → define_refusal e a.pool.events ≡ None → same e initial_name ≡ false → same name root_name ≡ false
    → nat_le path_limit (length p) ≡ false → nat_le child_limit a.made ≡ false
    → IsSoundInFrames frames (added (below p (a.made + 1)) (new_activity (format_of s) name transid program (Some e)) (edited p (with_child e (a.made + 1)) s))
defined_sound frames s p a name transid program e sound there taken free usual named shallow few =
    let w = stands_at frames s p a sound there in
    let c = below p (a.made + 1) in
    let new = new_activity (format_of s) name transid program (Some e) in
    let change : Activities → Activities = λ t. in_order c new (changed_at p (with_child e (a.made + 1)) t) in
    let no_child : (j : ℕ) (x : Activity) → lookup (below p j) w.tree ≡ Some x → same name x.name ≡ false =
    λ j x h.
    rw_and (is_child_of p (below p j)) (same name x.name) (child_below p j)
    (find_none (λ y. is_child_of p y.0 && same name y.1.name) w.tree (below p j) x
    (ap (λ o. child_in p name (unwrap_or o [])) (sym w.is_tree) ∙ taken) h) in
    let writes : change w.tree ≡ in_order c new (written_at p (with_child e (a.made + 1) a) w.tree) = ap
    (λ o. in_order c new (changed_by p (with_child e (a.made + 1)) o w.tree)) w.found in
    subst (IsSoundInFrames frames) (sym (on_tree_twice (in_order c new) (changed_at p (with_child e (a.made + 1))) s))
    (sound_in_frames frames (on_tree change s) (change w.tree) (ap (option_map change) w.is_tree)
    (tree_from (change w.tree)
    (subst IsFamily (sym writes) (family_defined w.tree w.family p a w.found (format_of s) name transid program e no_child free usual named shallow few)))
    w.defined sound.containers
    (subst (AreIn (format_of s)) (sym writes)
    (in_added (format_of s) c new refl (written_at p (with_child e (a.made + 1) a) w.tree)
    (in_written (format_of s) p (with_child e (a.made + 1) a) w.format w.tree w.formats)))
    (λ q. ap (λ t. is_active (lookup q t)) writes ∙ still_active w.tree w.family p a w.found (format_of s) name transid program e no_child free usual named shallow few q
    ∙ ap (λ o. is_active (lookup q (unwrap_or o []))) (sym w.is_tree) ∙ active_at frames s sound q))
  where
    rw_and : (x y : Bool) → x ≡ true → (x && y) ≡ false → y ≡ false
    rw_and true y h g = g
    rw_and false y h g = cc
