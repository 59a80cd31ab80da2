-- Soundness under a change of a composite's sub-event queue and of one bit.
use Rattle.std.proofs.Common.{◌≡◌, ℕ, ◌≤◌, Bool, true, false, cond, ◌&&◌, List, [], ◌∷◌, length, Option, Some, None, Ordering, refl, ap, sym, subst, ◌∙◌}
use Rattle.std.specs.declared.cmp.Ordering.TheVariants.{Less}
use Rattle.std.specs.Option.{option_map}
use Rattle.std.specs.Map.{keys_of}
use Rattle.std.specs.List.{AllByRecursion}
use Rattle.std.specs.List.Sorted.{IsStrictlySortedBy}
use Rattle.std.specs.Ordering.{nat_cmp, is_eq}
use Rattle.std.specs.Cmp.Lexicographic.{slice_cmp}
use Rattle.std.proofs.lemmas.Map.Keys.{sorted_head, sorted_tail}
use Rattle.bts_event.specs.declared.event.Event.{Event}
use Rattle.bts_event.specs.declared.event.Event.TheVariants.{Atomic as atomic, Composite as composite}
use Rattle.bts_event.proofs.Bits.{bit_atomic, bit_lists, differs, lookup_composite_bit, lookup_none_change, not_listed}
use Rattle.bts_event.proofs.Readings.{holder-change, keys-change, length-change, lookup-change, read-change}
use Rattle.bts_event.proofs.Same.{same_refl, same_sym}
use Rattle.bts_event.specs.Composites.{Composite}
use Rattle.bts_event.specs.Events.{Events, change, has, holder, is_atomic, is_fired_atomic, lists, requeue, set_bit, with_bit}
use Rattle.bts_event.specs.Sound.{AreSoundEvents, IsSoundComposite, one_if, times}
use Rattle.bts_names.specs.Named.{lookup}
use Rattle.bts_names.specs.Names.{Name, initial_name, same, same_exact}

-- ---- the composite that has a sub-event

less_case : (t : Bool) (k : Name) (e : List ℕ × Event) (es : Events) (c : Name) (v : Event)
    → same c e.0 ≡ t → slice_cmp nat_cmp k e.0 ≡ Less → (lookup c es ≡ Some v → slice_cmp nat_cmp k c ≡ Less)
    → cond t (Some e.1) (lookup c es) ≡ Some v → slice_cmp nat_cmp k c ≡ Less
less_case true k e es c v h l ih f = ap (slice_cmp nat_cmp k) (same_exact c e.0 h) ∙ l
less_case false k e es c v h l ih f = ih f

-- a key that is found among keys above k is above k
found_less : (k : Name) (es : Events) (c : Name) (v : Event) → AllByRecursion (λ y. slice_cmp nat_cmp k y ≡ Less) (keys_of es)
    → lookup c es ≡ Some v → slice_cmp nat_cmp k c ≡ Less
found_less k [] c v a f = cc
found_less k (e ∷ es) c v a f = less_case (same c e.0) k e es c v refl a.0 (found_less k es c v a.1) f

less_not_same : (o : Ordering) → o ≡ Less → is_eq o ≡ false
less_not_same o h = ap is_eq h

pub record Owns (es : Events) (s c : Name) : Type 0 where
  pub body : Composite
  pub found : lookup c es ≡ Some (composite body)
  pub listed : has body.subs s ≡ true

owned_head : (v : Event) (k : Name) (es : Events) (s c : Name) → lists v s ≡ true → k ≡ c → Owns ((k, v) ∷ es) s c
owned_head (atomic a) k es s c h g = cc
owned_head (composite b) k es s c h g = record {
  body = b;
  found = ap (λ t. cond t (Some (composite b)) (lookup c es)) (ap (λ x. same x k) (sym g) ∙ same_refl k);
  listed = h;
}

owned_tail : (e : List ℕ × Event) (es : Events) (s c : Name) → AllByRecursion (λ y. slice_cmp nat_cmp e.0 y ≡ Less) (keys_of es) → Owns es s c → Owns (e ∷ es) s c
owned_tail e es s c a o = record {
  body = o.body;
  found = ap (λ t. cond t (Some e.1) (lookup c es)) (same_sym c e.0 ∙ less_not_same _ (found_less e.0 es c (composite o.body) a o.found)) ∙ o.found;
  listed = o.listed;
}

owned_case : (t : Bool) (e : List ℕ × Event) (es : Events) (s c : Name) → lists e.1 s ≡ t → IsStrictlySortedBy (slice_cmp nat_cmp) (keys_of (e ∷ es))
    → (holder es s ≡ Some c → Owns es s c) → cond t (Some e.0) (holder es s) ≡ Some c → Owns (e ∷ es) s c
owned_case true e es s c h o ih g = let k : e.0 ≡ c = cc in owned_head e.1 e.0 es s c h k
owned_case false e es s c h o ih g = owned_tail e es s c (sorted_head (slice_cmp nat_cmp) e.0 (keys_of es) o) (ih g)

pub owned : (es : Events) (s c : Name) → IsStrictlySortedBy (slice_cmp nat_cmp) (keys_of es) → holder es s ≡ Some c → Owns es s c
owned [] s c o h = cc
owned (e ∷ es) s c o h = owned_case (lists e.1 s) e es s c refl o (owned es s c (sorted_tail (slice_cmp nat_cmp) e.0 (keys_of es) o)) h

-- ---- a change of the sub-event queue

pub queue_lists : (g : List Name → List Name) (n : Name) (e : Event) → lists (requeue g e) n ≡ lists e n
queue_lists g n (atomic a) = refl
queue_lists g n (composite c) = refl

pub queue_atomic : (g : List Name → List Name) (o : Option Event) → is_atomic (option_map (requeue g) o) ≡ is_atomic o
queue_atomic g None = refl
queue_atomic g (Some (atomic a)) = refl
queue_atomic g (Some (composite c)) = refl

pub queue_fired : (g : List Name → List Name) (o : Option Event) → is_fired_atomic (option_map (requeue g) o) ≡ is_fired_atomic o
queue_fired g None = refl
queue_fired g (Some (atomic a)) = refl
queue_fired g (Some (composite c)) = refl

-- what composite stood there before
pub record Before (g : List Name → List Name) (t : Bool) (o : Option Event) (k : Composite) : Type 0 where
  pub body : Composite
  pub found : o ≡ Some (composite body)
  pub all : k.all ≡ body.all
  pub subs : k.subs ≡ body.subs
  pub queued : k.queued ≡ cond t (g body.queued) body.queued

before_same : (g : List Name → List Name) (o : Option Event) (k : Composite) → option_map (requeue g) o ≡ Some (composite k) → Before g true o k
before_same g None k h = cc
before_same g (Some (atomic a)) k h = cc
before_same g (Some (composite b)) k h =
    let m : Composite = record { all = b.all; subs = b.subs; queued = g b.queued } in
    let e : m ≡ k = cc in
    record { body = b; found = refl; all = ap (λ x. x.all) (sym e); subs = ap (λ x. x.subs) (sym e); queued = ap (λ x. x.queued) (sym e) }

pub before : (g : List Name → List Name) (t : Bool) (o : Option Event) (k : Composite) → cond t (option_map (requeue g) o) o ≡ Some (composite k) → Before g t o k
before g true o k h = before_same g o k h
before g false o k h = record { body = k; found = h; all = refl; subs = refl; queued = refl }

-- the events after it
abbrev after : Events → Name → (List Name → List Name) → Name → Bool → Events
after es c g name b = set_bit (change es c (requeue g)) name b

after_atomic : (es : Events) (c : Name) (g : List Name → List Name) (name : Name) (b : Bool) (n : Name) → is_atomic (lookup n (after es c g name b)) ≡ is_atomic (lookup n es)
after_atomic es c g name b n = read-change is_atomic (change es c (requeue g)) name n (with_bit b) (bit_atomic b) ∙ read-change is_atomic es c n (requeue g) (queue_atomic g)

pub after_holder : (es : Events) (c : Name) (g : List Name → List Name) (name : Name) (b : Bool) (n : Name) → holder (set_bit (change es c (requeue g)) name b) n ≡ holder es n
after_holder es c g name b n = holder-change (change es c (requeue g)) name n (with_bit b) (bit_lists b n) ∙ holder-change es c n (requeue g) (queue_lists g n)

fired_after : (t b : Bool) (o : Option Event) → is_fired_atomic (cond t (option_map (with_bit b) o) o) ≡ cond t (is_atomic o && b) (is_fired_atomic o)
fired_after true b None = refl
fired_after true b (Some (atomic a)) = refl
fired_after true b (Some (composite c)) = refl
fired_after false b o = refl

-- whether a name is fired then
pub after_fired : (es : Events) (c : Name) (g : List Name → List Name) (name : Name) (b : Bool) (n : Name)
    → is_fired_atomic (lookup n (set_bit (change es c (requeue g)) name b)) ≡ cond (same name n) (is_atomic (lookup n es) && b) (is_fired_atomic (lookup n es))
after_fired es c g name b n =
    ap is_fired_atomic (lookup-change (change es c (requeue g)) name n (with_bit b))
    ∙ fired_after (same name n) b (lookup n (change es c (requeue g)))
    ∙ ap (λ x. cond (same name n) (x && b) (is_fired_atomic (lookup n (change es c (requeue g))))) (read-change is_atomic es c n (requeue g) (queue_atomic g))
    ∙ ap (λ x. cond (same name n) (is_atomic (lookup n es) && b) x) (read-change is_fired_atomic es c n (requeue g) (queue_fired g))

-- what the changed queue owes
abbrev pub QueueFits : Events → Name → (List Name → List Name) → Name → Bool → Type 0
QueueFits es c g name b = (k : Composite) → lookup c es ≡ Some (composite k) → (n : Name)
    → times n (g k.queued) ≡ one_if (has k.subs n && cond (same name n) (is_atomic (lookup n es) && b) (is_fired_atomic (lookup n es)))

other_queue : (h : Bool) (es : Events) (name : Name) (b : Bool) (names : List Name) (n : Name)
    → has names n ≡ h → has names name ≡ false
    → (h && is_fired_atomic (lookup n es)) ≡ (h && cond (same name n) (is_atomic (lookup n es) && b) (is_fired_atomic (lookup n es)))
other_queue true es name b names n h g = sym (ap (λ t. cond t (is_atomic (lookup n es) && b) (is_fired_atomic (lookup n es))) (differs names name n g h))
other_queue false es name b names n h g = refl

queue_then : (t : Bool) (es : Events) (c : Name) (g : List Name → List Name) (name : Name) (b : Bool) (x : Name) (body : Composite) (n : Name)
    → same c x ≡ t → IsSoundComposite es x body → lookup x es ≡ Some (composite body) → holder es name ≡ Some c → QueueFits es c g name b
    → times n (cond t (g body.queued) body.queued) ≡ one_if (has body.subs n && cond (same name n) (is_atomic (lookup n es) && b) (is_fired_atomic (lookup n es)))
queue_then true es c g name b x body n e s f h q = q body (ap (λ m. lookup m es) (same_exact c x e) ∙ f) n
queue_then false es c g name b x body n e s f h q =
    s.queue n ∙ ap one_if (other_queue (has body.subs n) es name b body.subs n refl (not_listed (has body.subs name) es name c x body s h e refl))

composite_then : (es : Events) (c : Name) (g : List Name → List Name) (name : Name) (b : Bool) (x : Name) (k : Composite)
    → AreSoundEvents es → holder es name ≡ Some c → QueueFits es c g name b → Before g (same c x) (lookup x es) k → IsSoundComposite (after es c g name b) x k
composite_then es c g name b x k s h q o =
    let sc = s.composites x o.body o.found in
    let subs : (n : Name) → has k.subs n ≡ has o.body.subs n = λ n. ap (λ names. has names n) o.subs in
    record {
      few = subst (λ names. length names ≤ 32) (sym o.subs) sc.few;
      once = λ n. ap (times n) o.subs ∙ sc.once n ∙ sym (ap one_if (subs n));
      atomics = λ n i. after_atomic es c g name b n ∙ sc.atomics n (sym (subs n) ∙ i);
      alone = λ n i. after_holder es c g name b n ∙ sc.alone n (sym (subs n) ∙ i);
      queue = λ n.
          ap (times n) o.queued
          ∙ queue_then (same c x) es c g name b x o.body n refl sc o.found h q
          ∙ sym (ap (λ v. one_if (has k.subs n && v)) (after_fired es c g name b n) ∙ ap (λ v. one_if (v && cond (same name n) (is_atomic (lookup n es) && b) (is_fired_atomic (lookup n es)))) (subs n));
    }

-- the bit of the sub-event `name` of c, with a change of c's queue that fits it
pub requeued_sound : (es : Events) (c : Name) (g : List Name → List Name) (name : Name) (b : Bool)
    → AreSoundEvents es → holder es name ≡ Some c → QueueFits es c g name b → AreSoundEvents (set_bit (change es c (requeue g)) name b)
requeued_sound es c g name b s h q = record {
  ordered = subst (λ ks. IsStrictlySortedBy (slice_cmp nat_cmp) ks) (sym (keys-change (change es c (requeue g)) name (with_bit b) ∙ keys-change es c (requeue g))) s.ordered;
  few = subst (λ n. n ≤ 256) (sym (length-change (change es c (requeue g)) name (with_bit b) ∙ length-change es c (requeue g))) s.few;
  unnamed = lookup_none_change (change es c (requeue g)) name initial_name (with_bit b) (lookup_none_change es c initial_name (requeue g) s.unnamed);
  composites = λ x k f.
      composite_then es c g name b x k s h q
      (before g (same c x) (lookup x es) k (sym (lookup-change es c x (requeue g)) ∙ lookup_composite_bit (change es c (requeue g)) name b x k f));
}
