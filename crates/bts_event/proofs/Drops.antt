-- Soundness where an event is deleted.
use Rattle.std.proofs.Common.{◌≡◌, ℕ, ◌≤◌, Bool, true, false, cond, ◌||◌, List, [], ◌∷◌, length, Option, Some, None, refl, ap, sym, subst, ◌∙◌, arith}
use Rattle.std.specs.Map.{keys_of}
use Rattle.std.specs.List.Sorted.{IsStrictlySortedBy}
use Rattle.std.specs.Ordering.{nat_cmp}
use Rattle.std.specs.Cmp.Lexicographic.{slice_cmp}
use Rattle.std.specs.List.{list_any}
use Rattle.bts_event.specs.declared.event.Event.{Event}
use Rattle.bts_event.specs.declared.event.Event.TheVariants.{Atomic as atomic, Composite as composite}
use Rattle.bts_event.proofs.Bits.{differs, entries_dropped, free_at, queue_kept, rises_dropped}
use Rattle.bts_event.proofs.Leaves.{fit_leave, fit_left, holder_none, left_atomic, left_holder, left_sound, other_holder, removed_composite}
use Rattle.bts_event.proofs.NewComposites.{or_false}
use Rattle.bts_event.proofs.Orders.{length-without, lookup-without, rising_without}
use Rattle.bts_event.proofs.Readings.{lookup-change}
use Rattle.bts_event.proofs.Same.{same_refl}
use Rattle.bts_event.proofs.SubCalls.{settled_sound}
use Rattle.bts_event.proofs.Subs.{owned}
use Rattle.bts_event.specs.Composites.{Composite}
use Rattle.bts_event.specs.Events.{Events, change, has, held_at, holder, is_atomic, is_composite, is_fired_atomic, lists, without_sub}
use Rattle.bts_event.specs.Pool.{Pool, deleted_from, dropped, settled_at}
use Rattle.bts_event.specs.Sound.{AreSoundEvents, EntriesFit, IsSoundComposite, IsSoundPool, entries_of, one_if}
use Rattle.bts_names.specs.Named.{lookup, without}
use Rattle.bts_names.specs.Names.{Name, initial_name, same, same_exact}

-- what std says of a map that lost a key
pub record Drops (es fs : Events) (name : Name) : Type 0 where
  pub is_without : fs ≡ without name es
  pub found : (q : Name) → lookup q fs ≡ cond (same name q) None (lookup q es)
  pub ordered : IsStrictlySortedBy (slice_cmp nat_cmp) (keys_of fs)
  pub fewer : length fs ≤ length es

without_case : (t : Bool) (e : List ℕ × Event) (es fs : Events) (name : Name) (v : Event) (n : Name)
    → cond t (Some e.1) (lookup name es) ≡ Some v → lists v n ≡ false → (lookup name es ≡ Some v → holder fs n ≡ holder es n)
    → holder (cond t es (e ∷ fs)) n ≡ cond (lists e.1 n) (Some e.0) (holder es n)
without_case true e es fs name v n f l ih =
    let g : v ≡ e.1 = cc in
    sym (ap (λ t. cond t (Some e.0) (holder es n)) (ap (λ x. lists x n) (sym g) ∙ l))
without_case false e es fs name v n f l ih = ap (cond (lists e.1 n) (Some e.0)) (ih f)

pub holder-without : (es : Events) (name : Name) (v : Event) (n : Name) → lookup name es ≡ Some v → lists v n ≡ false → holder (without name es) n ≡ holder es n
holder-without [] name v n f l = cc
holder-without (e ∷ es) name v n f l = without_case (same name e.0) e es (without name es) name v n f l (λ g. holder-without es name v n g l)

pub kept_by : (t : Bool) (o : Option Event) (k : Composite) → cond t None o ≡ Some (composite k) → (t ≡ false) × (o ≡ Some (composite k))
kept_by true o k h = cc
kept_by false o k h = (refl, h)

pub kept_out : (es fs : Events) (name n : Name) → Drops es fs name → same name n ≡ false → lookup n fs ≡ lookup n es
kept_out es fs name n d e = d.found n ∙ ap (λ t. cond t None (lookup n es)) e

drop_one : (es fs : Events) (name x : Name) (k : Composite) → Drops es fs name → IsSoundComposite es x k
    → ((n : Name) → has k.subs n ≡ true → (same name n ≡ false) × (holder fs n ≡ holder es n)) → IsSoundComposite fs x k
drop_one es fs name x k d w f = record {
  few = w.few;
  once = w.once;
  atomics = λ n h. ap is_atomic (kept_out es fs name n d (f n h).0) ∙ w.atomics n h;
  alone = λ n h. (f n h).1 ∙ w.alone n h;
  queue = λ n. w.queue n ∙ ap one_if (queue_kept (has k.subs n) es fs k n refl (λ h. kept_out es fs name n d (f n h).0));
}

none_of : (t : Bool) (o : Option Event) → o ≡ None → cond t None o ≡ None
none_of true o h = refl
none_of false o h = h

pub drop_sound : (es fs : Events) (name : Name) → AreSoundEvents es → Drops es fs name
    → ((x : Name) (k : Composite) → lookup x es ≡ Some (composite k) → same name x ≡ false → (n : Name) → has k.subs n ≡ true → (same name n ≡ false) × (holder fs n ≡ holder es n))
    → AreSoundEvents fs
drop_sound es fs name o d f = record {
  ordered = d.ordered;
  few = omega (arith, d.fewer, o.few);
  unnamed = d.found initial_name ∙ none_of (same name initial_name) (lookup initial_name es) o.unnamed;
  composites = λ x k g.
      let z = kept_by (same name x) (lookup x es) k (sym (d.found x) ∙ g) in
      drop_one es fs name x k d (o.composites x k z.1) (f x k z.1 z.0);
}

-- ---- an atomic event that is no sub-event

atomic_lists : (o : Option Event) (v : Event) (n : Name) → o ≡ Some v → is_atomic o ≡ true → lists v n ≡ false
atomic_lists o (atomic a) n e h = refl
atomic_lists o (composite k) n e h = let z : is_atomic o ≡ false = ap is_atomic e in cc

some_by : (es : Events) (name n : Name) (o : Option Event) → lookup name es ≡ o → is_atomic o ≡ true → holder (without name es) n ≡ holder es n
some_by es name n None e h = cc
some_by es name n (Some v) e h = holder-without es name v n e (atomic_lists (Some v) v n refl h)

pub atomic_homes : (es fs : Events) (name : Name) → Drops es fs name → is_atomic (lookup name es) ≡ true → (n : Name) → holder fs n ≡ holder es n
atomic_homes es fs name d a n = ap (λ x. holder x n) d.is_without ∙ some_by es name n (lookup name es) refl a

pub atomic_drop : (es fs : Events) (name : Name) → AreSoundEvents es → Drops es fs name → is_atomic (lookup name es) ≡ true → holder es name ≡ None → AreSoundEvents fs
atomic_drop es fs name o d a h = drop_sound es fs name o d
    (λ x k f e n g. (differs k.subs name n (free_at es name o h x k f) g, atomic_homes es fs name d a n))

gone_fit : (t : Bool) (n : Name) (o : Option Event) (h : Option Name) (many : ℕ) → (t ≡ false → EntriesFit n o h many) → EntriesFit n (cond t None o) h (cond t 0 many)
gone_fit true n o h many f = λ i. refl
gone_fit false n o h many f = f refl

dropped_entries : (p : Pool) (fs : Events) (name : Name) → Drops p.events fs name
    → ((n : Name) → same name n ≡ false → EntriesFit n (lookup n p.events) (holder fs n) (entries_of n p.entries))
    → (n : Name) → EntriesFit n (lookup n fs) (holder fs n) (entries_of n (dropped p.entries name))
dropped_entries p fs name d f n =
    subst (EntriesFit n (lookup n fs) (holder fs n)) (sym (entries_dropped n name p.entries))
    (subst (λ x. EntriesFit n x (holder fs n) (cond (same name n) 0 (entries_of n p.entries))) (sym (d.found n))
    (gone_fit (same name n) n (lookup n p.events) (holder fs n) (entries_of n p.entries) (f n)))

atomic_delete : (p : Pool) (fs : Events) (name : Name) → IsSoundPool p → Drops p.events fs name → is_atomic (lookup name p.events) ≡ true → holder p.events name ≡ None
    → (let q : Pool = record { events = fs; entries = dropped p.entries name; last = p.last } in IsSoundPool q)
atomic_delete p fs name o d a h = record {
  events = atomic_drop p.events fs name o.events d a h;
  entries = dropped_entries p fs name d (λ n e. subst (λ x. EntriesFit n (lookup n p.events) x (entries_of n p.entries)) (sym (atomic_homes p.events fs name d a n)) (o.entries n));
  numbers = rises_dropped 0 p.entries p.last name o.numbers;
}

-- ---- a composite without sub-events fired

any_case : (t : Bool) (es : Events) (x n : Name) (h : Bool) → same x n ≡ t → is_fired_atomic (lookup x es) ≡ false → (h ≡ true → is_fired_atomic (lookup n es) ≡ false) → (t || h) ≡ true
    → is_fired_atomic (lookup n es) ≡ false
any_case true es x n h e f ih g = subst (λ m. is_fired_atomic (lookup m es) ≡ false) (same_exact x n e) f
any_case false es x n h e f ih g = ih g

none_fired : (es : Events) (subs : List Name) (n : Name) → list_any (λ s. is_fired_atomic (lookup s es)) subs ≡ false → has subs n ≡ true → is_fired_atomic (lookup n es) ≡ false
none_fired es [] n f h = cc
none_fired es (x ∷ xs) n f h =
    let z = or_false (is_fired_atomic (lookup x es)) (list_any (λ s. is_fired_atomic (lookup s es)) xs) f in
    any_case (same x n) es x n (has xs n) refl z.0 (none_fired es xs n z.1) h

module _ (p : Pool) (fs : Events) (name : Name) (b : Composite) (o : IsSoundPool p) (d : Drops p.events fs name) (f : lookup name p.events ≡ Some (composite b))
    (calm : list_any (λ s. is_fired_atomic (lookup s p.events)) b.subs ≡ false) where
  own : IsSoundComposite p.events name b
  own = o.events.composites name b f

  not_name : (t : Bool) (n : Name) → same name n ≡ t → is_atomic (lookup n p.events) ≡ true → same name n ≡ false
  not_name true n e a =
      let z : is_atomic (lookup n p.events) ≡ false = ap (λ m. is_atomic (lookup m p.events)) (sym (same_exact name n e)) ∙ ap is_atomic f in cc
  not_name false n e a = e

  other_sub : (t : Bool) (x : Name) (k : Composite) (n : Name) → IsSoundComposite p.events x k → same name x ≡ false → has k.subs n ≡ true → has b.subs n ≡ t → has b.subs n ≡ false
  other_sub true x k n w e g h =
      let q : Some name ≡ Some x = sym (own.alone n h) ∙ w.alone n g in
      let y : name ≡ x = cc in
      let r : same name x ≡ true = ap (same name) (sym y) ∙ same_refl name in cc
  other_sub false x k n w e g h = h

  stays : (n : Name) → has b.subs n ≡ false → holder fs n ≡ holder p.events n
  stays n h = ap (λ x. holder x n) d.is_without ∙ holder-without p.events name (composite b) n f h

  unlisted_by : (t : Bool) (x : Name) (k : Composite) (n : Name) → lookup x p.events ≡ Some (composite k) → same name x ≡ false → has b.subs n ≡ true → has k.subs n ≡ t → has k.subs n ≡ false
  unlisted_by true x k n g e h i = let z : has b.subs n ≡ false = other_sub (has b.subs n) x k n (o.events.composites x k g) e i refl in cc
  unlisted_by false x k n g e h i = i

  unheld : (n : Name) → has b.subs n ≡ true → holder fs n ≡ None
  unheld n h = holder_none fs n d.ordered
      (λ x k g. let z = kept_by (same name x) (lookup x p.events) k (sym (d.found x) ∙ g) in unlisted_by (has k.subs n) x k n z.1 z.0 h refl)

  fit_by : (t : Bool) (n : Name) → has b.subs n ≡ t → EntriesFit n (lookup n p.events) (holder fs n) (entries_of n p.entries)
  fit_by true n h =
      subst (λ x. EntriesFit n (lookup n p.events) x (entries_of n p.entries)) (sym (unheld n h))
      (fit_left n name (lookup n p.events) (entries_of n p.entries) (own.atomics n h) (none_fired p.events b.subs n calm h)
      (subst (λ x. EntriesFit n (lookup n p.events) x (entries_of n p.entries)) (own.alone n h) (o.entries n)))
  fit_by false n h = subst (λ x. EntriesFit n (lookup n p.events) x (entries_of n p.entries)) (sym (stays n h)) (o.entries n)

  pub composite_delete : (let q : Pool = record { events = fs; entries = dropped p.entries name; last = p.last } in IsSoundPool q)
  composite_delete = record {
    events = drop_sound p.events fs name o.events d
        (λ x k g e n h.
        let w = o.events.composites x k g in
        (not_name (same name n) n refl (w.atomics n h), stays n (other_sub (has b.subs n) x k n w e h refl)));
    entries = dropped_entries p fs name d (λ n e. fit_by (has b.subs n) n refl);
    numbers = rises_dropped 0 p.entries p.last name o.numbers;
  }

-- ---- a sub-event

pub sub_atomic : (p : Pool) (name c : Name) → IsSoundPool p → holder p.events name ≡ Some c → is_atomic (lookup name p.events) ≡ true
sub_atomic p name c o h = let w = owned p.events name c o.events.ordered h in (o.events.composites c w.body w.found).atomics name w.listed

pub composite_apart : (t : Bool) (es : Events) (name c : Name) → is_atomic (lookup name es) ≡ true → is_composite (lookup c es) ≡ true → same name c ≡ t → same name c ≡ false
composite_apart true es name c a k e = both (lookup c es) (subst (λ m. is_atomic (lookup m es) ≡ true) (same_exact name c e) a) k
  where
    both : (o : Option Event) → is_atomic o ≡ true → is_composite o ≡ true → same name c ≡ false
    both None a k = cc
    both (Some (atomic x)) a k = cc
    both (Some (composite x)) a k = cc
composite_apart false es name c a k e = e

pub sub_delete : (p : Pool) (fs : Events) (name c : Name) → IsSoundPool p → holder p.events name ≡ Some c → Drops (change p.events c (without_sub name)) fs name
    → (let q : Pool = record { events = fs; entries = dropped p.entries name; last = p.last } in IsSoundPool (settled_at (held_at p.events c) c q))
sub_delete p fs name c o h d =
    let es = change p.events c (without_sub name) in
    let a = sub_atomic p name c o h in
    let a' : is_atomic (lookup name es) ≡ true = left_atomic p.events c name o.events h name ∙ a in
    let w = owned p.events name c o.events.ordered h in
    let k : is_composite (lookup c es) ≡ true = removed_composite p.events c name (ap is_composite w.found) in
    let q : Pool = record { events = fs; entries = dropped p.entries name; last = p.last } in
    let m : Pool = record { events = es; entries = p.entries; last = p.last } in
    let s : IsSoundPool q = record {
      events = atomic_drop es fs name (left_sound p.events c name o.events h) d a' (left_holder p.events c name o.events h);
      entries = dropped_entries m fs name d
          (λ n e.
          subst (λ x. EntriesFit n (lookup n es) x (entries_of n p.entries)) (sym (atomic_homes es fs name d a' n ∙ other_holder p.events c name o.events h n e))
          (subst (λ x. EntriesFit n x (holder p.events n) (entries_of n p.entries)) (sym (lookup-change p.events c n (without_sub name)))
          (fit_leave n name (same c n) (lookup n p.events) (holder p.events n) (entries_of n p.entries) (o.entries n))));
      numbers = rises_dropped 0 p.entries p.last name o.numbers;
    } in
    settled_sound (held_at p.events c) q c s (ap is_composite (kept_out es fs name c d (composite_apart (same name c) es name c a' k refl)) ∙ k)

-- a name taken out of events in order
pub drops : (es : Events) (name : Name) → IsStrictlySortedBy (slice_cmp nat_cmp) (keys_of es) → Drops es (without name es) name
drops es name s = record {
  is_without = refl;
  found = λ q. lookup-without es name q s;
  ordered = rising_without es name s;
  fewer = length-without es name;
}

delete_at : (p : Pool) (name : Name) (h : Option Name) → holder p.events name ≡ h → IsSoundPool p
    → ((b : Composite) → lookup name p.events ≡ Some (composite b) → list_any (λ s. is_fired_atomic (lookup s p.events)) b.subs ≡ false)
    → (lookup name p.events ≡ None → ⊥)
    → IsSoundPool (deleted_from h name p)
delete_at p name None e o calm there = gone (lookup name p.events) refl
  where
    gone : (v : Option Event) → lookup name p.events ≡ v → IsSoundPool (deleted_from None name p)
    gone None g = absurd (there g)
    gone (Some (atomic a)) g = atomic_delete p (without name p.events) name o (drops p.events name o.events.ordered) (ap is_atomic g) e
    gone (Some (composite b)) g = composite_delete p (without name p.events) name b o (drops p.events name o.events.ordered) g (calm b g)
delete_at p name (Some c) e o calm there =
    sub_delete p (without name (change p.events c (without_sub name))) name c o e
    (drops (change p.events c (without_sub name)) name (left_sound p.events c name o.events e).ordered)

pub deleted_from_sound : (p : Pool) (name : Name) → IsSoundPool p
    → ((b : Composite) → lookup name p.events ≡ Some (composite b) → list_any (λ s. is_fired_atomic (lookup s p.events)) b.subs ≡ false)
    → (lookup name p.events ≡ None → ⊥)
    → IsSoundPool (deleted_from (holder p.events name) name p)
deleted_from_sound p name o calm there = delete_at p name (holder p.events name) refl o calm there
