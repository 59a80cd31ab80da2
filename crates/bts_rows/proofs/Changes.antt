-- A sound tree stays one: what a change owes at the paths at which activities still stand, and what it owes where it changes but one.
use Rattle.std.proofs.Common.{◌≡◌, ℕ, Bool, true, false, cond, ◌&&◌, nat_le, [], ◌∷◌, Option, Some, None, is_some, is_none, refl, sym, ap, subst, ◌∙◌, true≢false}
use Rattle.std.specs.List.{filter}
use Rattle.std.specs.List.Sorted.{IsStrictlySortedBy}
use Rattle.bts_names.specs.Names.{Name, ActivityPath, same, same_exact, root_name}
use Rattle.bts_names.specs.Named.{lookup, is_there}
use Rattle.bts_event.specs.declared.event.Trigger.TheVariants.{Completion}
use Rattle.bts_event.proofs.Same.{same_refl}
use Rattle.bts_tree.specs.declared.activity.Activity.{Activity}
use Rattle.bts_tree.specs.Activities.{Activities, written_at}
use Rattle.bts_tree.specs.Soundness.{IsSoundActivity, is_root, needs_event}
use Rattle.bts_rows.proofs.Order.{IsInOrder, path_cmp}
use Rattle.bts_rows.proofs.OrderKept.{order_passing}
use Rattle.bts_rows.proofs.TimerEvents.{trigger_at}
use Rattle.bts_rows.proofs.Written.{keys-written, lookup-written, there_written}
use Rattle.bts_rows.proofs.Paths.{below, not_own}
use Rattle.bts_rows.proofs.Trees.{HasChild, HasParent, IsFamily, IsFirst, Waits, found_passing, passes_found}

-- an activity of the tree, and what stood in its place
pub record Was (t : Activities) (q : ActivityPath) (b : Activity) : Type 0 where
  pub old : Activity
  pub found : lookup q t ≡ Some old
  pub sound : IsSoundActivity b
  pub name : b.name ≡ old.name
  pub completion : b.completion ≡ old.completion
  pub made : b.made ≡ old.made
  pub told : is_root q ≡ true → old.told ≡ true → b.told ≡ true

-- no activity is new; those that are left have their parents, and each event has its child and each child its event
pub record Leaves (t u : Activities) : Type 0 where
  pub order : IsInOrder u
  pub root : is_there [] u ≡ true
  pub was : (q : ActivityPath) (b : Activity) → lookup q u ≡ Some b → Was t q b
  pub parents : (q : ActivityPath) (k : ℕ) (b : Activity) → lookup (below q k) u ≡ Some b → is_there q u ≡ true
  pub waits : (q : ActivityPath) (k : ℕ) (a b : Activity) → lookup q u ≡ Some a → lookup (below q k) u ≡ Some b → needs_event b ≡ true
      → Waits a k b
  pub events : (q : ActivityPath) (a : Activity) (n : Name) (k : ℕ) → lookup q u ≡ Some a
      → trigger_at (lookup n a.pool.events) ≡ Some (Completion k) → HasChild u q n k

-- one activity of a path
pub only : (t : Activities) (q : ActivityPath) (a b : Activity) → lookup q t ≡ Some a → lookup q t ≡ Some b → a ≡ b
only t q a b h k = let e : Some a ≡ Some b = sym h ∙ k in cc

record Stands (t : Activities) (q : ActivityPath) : Type 0 where
  value : Activity
  found : lookup q t ≡ Some value

stands : (t : Activities) (q : ActivityPath) (o : Option Activity) → lookup q t ≡ o → is_some o ≡ true → Stands t q
stands t q None e h = cc
stands t q (Some a) e h = record { value = a; found = e }

module _ (t u : Activities) (f : IsFamily t) (l : Leaves t u) where
  first_left : (b : Activity) → lookup [] u ≡ Some b → IsFirst b
  first_left b h =
      let w = l.was [] b h in
      let r = f.first w.old w.found in
      record {
        named = ap (λ n. same n root_name) w.name ∙ r.named;
        completes = ap is_none w.completion ∙ r.completes;
        told = w.told refl r.told;
      }

  parent_left : (q : ActivityPath) (k : ℕ) (b : Activity) → lookup (below q k) u ≡ Some b → HasParent u q k b
  parent_left q k b h =
      let w = l.was (below q k) b h in
      let p = f.parents q k w.old w.found in
      let a = stands u q (lookup q u) refl (l.parents q k b h) in
      let v = l.was q a.value a.found in
      let made : a.value.made ≡ p.parent.made = v.made ∙ ap (λ (x : Activity). x.made) (only t q v.old p.parent v.found p.found) in
      record {
        parent = a.value;
        found = a.found;
        fits = record {
          number = ap (λ m. nat_le 1 k && nat_le k m) made ∙ p.fits.number;
          named = ap (λ n. same n root_name) w.name ∙ p.fits.named;
          completes = ap is_none w.completion ∙ p.fits.completes;
          waits = l.waits q k a.value b a.found h;
        };
        depth = p.depth;
      }

  names_left : (q : ActivityPath) (j k : ℕ) (b c : Activity) → lookup (below q j) u ≡ Some b → lookup (below q k) u ≡ Some c
      → same b.name c.name ≡ true → j ≡ k
  names_left q j k b c h i e =
      let v = l.was (below q j) b h in
      let w = l.was (below q k) c i in
      f.names q j k v.old w.old v.found w.found ((λ z. same ((sym v.name) z) ((sym w.name) z)) ∙ e)

  pub family_left : IsFamily u
  family_left = record {
    order = l.order;
    root = l.root;
    sound = λ q b h. (l.was q b h).sound;
    first = first_left;
    parents = parent_left;
    names = names_left;
    events = l.events;
  }

-- ---- one activity is another

module _ (t : Activities) (f : IsFamily t) where
  pub same_was : (q : ActivityPath) (a : Activity) → lookup q t ≡ Some a → Was t q a
  same_was q a h = record { old = a; found = h; sound = f.sound q a h; name = refl; completion = refl; made = refl; told = λ r i. i }

  -- the parent of a child that needs its event has it
  pub old_waits : (q : ActivityPath) (k : ℕ) (a b : Activity) → lookup q t ≡ Some a → lookup (below q k) t ≡ Some b → needs_event b ≡ true
      → Waits a k b
  old_waits q k a b h i n = let p = f.parents q k b i in subst (λ x. Waits x k b) (only t q p.parent a p.found h) (p.fits.waits n)

-- which activities stay where the children of one go, some or all, with what is below them
pub record Cuts (keeps : ActivityPath → Bool) (p : ActivityPath) : Type 0 where
  pub root : keeps [] ≡ true
  pub own : keeps p ≡ true
  pub up : (q : ActivityPath) (k : ℕ) → keeps (below q k) ≡ true → keeps q ≡ true
  pub edge : (q : ActivityPath) (k : ℕ) → keeps q ≡ true → keeps (below q k) ≡ false → p ≡ q

-- what an activity owes that stands in the place of another: it has its event where it needs one, and fits the children that stay
pub record Replaces (t : Activities) (keeps : ActivityPath → Bool) (p : ActivityPath) (a b : Activity) : Type 0 where
  pub sound : IsSoundActivity b
  pub name : b.name ≡ a.name
  pub completion : b.completion ≡ a.completion
  pub made : b.made ≡ a.made
  pub format : b.containers.format ≡ a.containers.format
  pub told : is_root p ≡ true → a.told ≡ true → b.told ≡ true
  pub own : (q : ActivityPath) (k : ℕ) (x : Activity) → p ≡ below q k → lookup q t ≡ Some x → needs_event b ≡ true → Waits x k b
  pub waits : (k : ℕ) (c : Activity) → keeps (below p k) ≡ true → lookup (below p k) t ≡ Some c → needs_event c ≡ true → Waits b k c
  pub events : (n : Name) (k : ℕ) → trigger_at (lookup n b.pool.events) ≡ Some (Completion k) → HasChild t p n k
  pub stay : (n : Name) (k : ℕ) → trigger_at (lookup n b.pool.events) ≡ Some (Completion k) → keeps (below p k) ≡ true

pub waits_named : (a : Activity) (k : ℕ) (b c : Activity) → c.completion ≡ b.completion → Waits a k b → Waits a k c
waits_named a k b c e w = record { name = w.name; named = e ∙ w.named; fires = w.fires; unfired = w.unfired }

-- it needs its event only where it did
pub own_as_before : (t : Activities) (f : IsFamily t) (p : ActivityPath) (a b : Activity) → lookup p t ≡ Some a
    → b.completion ≡ a.completion → (needs_event b ≡ true → needs_event a ≡ true)
    → (q : ActivityPath) (k : ℕ) (x : Activity) → p ≡ below q k → lookup q t ≡ Some x → needs_event b ≡ true → Waits x k b
own_as_before t f p a b found completion needs q k x e h n =
    waits_named x k a b completion (old_waits t f q k x a h (ap (λ z. lookup z t) (sym e) ∙ found) (needs n))

module _ (t : Activities) (f : IsFamily t) (keeps : ActivityPath → Bool) (p : ActivityPath) (cuts : Cuts keeps p) (a b : Activity)
    (found : lookup p t ≡ Some a) (r : Replaces t keeps p a b) where
  abbrev left : Activities
  left = filter (λ x. keeps x.0) t

  abbrev after : Activities
  after = written_at p b left

  found_left : lookup p left ≡ Some a
  found_left = found_passing keeps p t cuts.own ∙ found

  read : (q : ActivityPath) → lookup q after ≡ cond (same p q) (Some b) (lookup q left)
  read q = lookup-written p b left q (ap is_some found_left)

  -- at the path, and elsewhere
  data At (q : ActivityPath) (c : Activity) : Type 0 where
    here : p ≡ q → b ≡ c → At q c
    there : same p q ≡ false → keeps q ≡ true → lookup q t ≡ Some c → At q c

  at : (q : ActivityPath) (c : Activity) → lookup q after ≡ Some c → At q c
  at q c h = by (same p q) refl (sym (read q) ∙ h)
    where
      by : (d : Bool) → same p q ≡ d → cond d (Some b) (lookup q left) ≡ Some c → At q c
      by true e k = here (same_exact p q e) cc
      by false e k = let i = passes_found keeps q t c k in there e i (sym (found_passing keeps q t i) ∙ k)

  was_at : (q : ActivityPath) (c : Activity) → At q c → Was t q c
  was_at q c (here e i) =
      subst (λ y. Was t y c) e
      (subst (λ y. Was t p y) i
      (record { old = a; found = found; sound = r.sound; name = r.name; completion = r.completion; made = r.made; told = r.told }))
  was_at q c (there e i h) = same_was t f q c h

  kept_at : (q : ActivityPath) (c : Activity) → At q c → keeps q ≡ true
  kept_at q c (here e i) = ap keeps (sym e) ∙ cuts.own
  kept_at q c (there e i h) = i

  -- a child that stays
  still : (q : ActivityPath) (n : Name) (k : ℕ) → keeps (below q k) ≡ true → HasChild t q n k → HasChild after q n k
  still q n k stays h = by (same p (below q k)) refl
    where
      by : (d : Bool) → same p (below q k) ≡ d → HasChild after q n k
      by true e =
          let own : a ≡ h.child = only t (below q k) a h.child (ap (λ y. lookup y t) (sym (same_exact p (below q k) e)) ∙ found) h.found in
          record {
            child = b;
            found = read (below q k) ∙ ap (λ d. cond d (Some b) (lookup (below q k) left)) e;
            named = r.completion ∙ ap (λ (x : Activity). x.completion) own ∙ h.named;
          }
      by false e = record { child = h.child; found = read (below q k) ∙ ap (λ d. cond d (Some b) (lookup (below q k) left)) e ∙ found_passing keeps (below q k) t stays ∙ h.found; named = h.named }

  waits_at : (q : ActivityPath) (k : ℕ) (x y : Activity) → At q x → At (below q k) y → needs_event y ≡ true → Waits x k y
  waits_at q k x y (here e i) (here d j) n = absurd (true≢false (sym (ap (same q) (sym d ∙ e) ∙ same_refl q) ∙ not_own q k))
  waits_at q k x y (here e i) (there d l h) n =
      subst (λ z. Waits z k y) i (r.waits k y (ap (λ z. keeps (below z k)) e ∙ l) (ap (λ z. lookup (below z k) t) e ∙ h) n)
  waits_at q k x y (there d l h) (here e i) n = subst (Waits x k) i (r.own q k x e h (ap needs_event i ∙ n))
  waits_at q k x y (there d l h) (there e m i) n = old_waits t f q k x y h i n

  events_at : (q : ActivityPath) (x : Activity) (n : Name) (k : ℕ) → At q x → trigger_at (lookup n x.pool.events) ≡ Some (Completion k)
      → HasChild t q n k
  events_at q x n k (here e i) h =
      subst (λ z. HasChild t z n k) e (r.events n k (ap (λ (z : Activity). trigger_at (lookup n z.pool.events)) i ∙ h))
  events_at q x n k (there e l i) h = f.events q x n k i h

  child_stays : (q : ActivityPath) (x : Activity) (n : Name) (k : ℕ) → At q x → trigger_at (lookup n x.pool.events) ≡ Some (Completion k)
      → keeps (below q k) ≡ true
  child_stays q x n k (here e i) h =
      ap (λ z. keeps (below z k)) (sym e) ∙ r.stay n k (ap (λ (z : Activity). trigger_at (lookup n z.pool.events)) i ∙ h)
  child_stays q x n k (there e l i) h = by (keeps (below q k)) refl
    where
      by : (d : Bool) → keeps (below q k) ≡ d → d ≡ true
      by true g = refl
      by false g = absurd (true≢false (sym (same_refl q) ∙ ap (λ z. same z q) (sym (cuts.edge q k l g)) ∙ e))

  parents_at : (q : ActivityPath) (k : ℕ) (y : Activity) → keeps (below q k) ≡ true → Was t (below q k) y → is_there q after ≡ true
  parents_at q k y stays w =
      there_written p b a left q found_left (ap is_some (found_passing keeps q t (cuts.up q k stays) ∙ (f.parents q k w.old w.found).found))

  pub family_replaced : IsFamily after
  family_replaced = family_left t after f (record {
    order = subst (IsStrictlySortedBy path_cmp) (sym (keys-written p b left)) (order_passing keeps t f.order);
    root = there_written p b a left [] found_left (ap is_some (found_passing keeps [] t cuts.root) ∙ f.root);
    was = λ q c h. was_at q c (at q c h);
    parents = λ q k y h. let i = at (below q k) y h in parents_at q k y (kept_at (below q k) y i) (was_at (below q k) y i);
    waits = λ q k x y h i n. waits_at q k x y (at q x h) (at (below q k) y i) n;
    events = λ q x n k h e. let i = at q x h in still q n k (child_stays q x n k i e) (events_at q x n k i e);
  })

-- ---- where all stay

pub all : ActivityPath → Bool
all q = true

pub all_stay : (q : ActivityPath) → all q ≡ true
unfolding all
all_stay q = refl

pub all_cuts : (p : ActivityPath) → Cuts all p
unfolding all
all_cuts p = record { root = refl; own = refl; up = λ q k h. refl; edge = λ q k h g. cc }

pub all_left : (t : Activities) → filter (λ x. all x.0) t ≡ t
unfolding all
all_left [] = refl
all_left (x ∷ t) = ap (λ u. x ∷ u) (all_left t)

pub family_edited : (t : Activities) (f : IsFamily t) (p : ActivityPath) (a b : Activity) → lookup p t ≡ Some a → Replaces t all p a b
    → IsFamily (written_at p b t)
family_edited t f p a b found r = subst (λ u. IsFamily (written_at p b u)) (all_left t) (family_replaced t f all p (all_cuts p) a b found r)
