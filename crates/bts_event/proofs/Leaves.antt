-- Soundness where a sub-event leaves its composite.
use Rattle.std.proofs.Common.{◌≡◌, ℕ, ◌≤◌, Bool, true, false, cond, not, ◌&&◌, ◌||◌, List, [], ◌∷◌, length, Option, Some, None, refl, ap, sym, subst, ◌∙◌, arith}
use Rattle.std.specs.Option.{option_map}
use Rattle.std.specs.Map.{keys_of}
use Rattle.std.specs.List.Sorted.{IsStrictlySortedBy}
use Rattle.std.specs.Ordering.{nat_cmp}
use Rattle.std.specs.Cmp.Lexicographic.{slice_cmp}
use Rattle.bts_event.specs.declared.queue.Entry.{Entry}
use Rattle.bts_event.specs.declared.event.Event.{Event}
use Rattle.bts_event.specs.declared.event.Event.TheVariants.{Atomic as atomic, Composite as composite}
use Rattle.bts_names.specs.declared.reply.Reason.TheVariants as reason
use Rattle.bts_event.proofs.Bits.{lookup_none_change, not_both, not_listed, same_left}
use Rattle.bts_event.proofs.Readings.{holder-change, keys-change, length-change, lookup-change, read-change}
use Rattle.bts_event.proofs.Same.{same_refl}
use Rattle.bts_event.proofs.SubCalls.{settled_sound, times_but}
use Rattle.bts_event.proofs.Subs.{owned}
use Rattle.bts_event.specs.Composites.{Composite}
use Rattle.bts_event.specs.Events.{Events, change, except, has, held_at, holder, is_atomic, is_composite, is_fired_atomic, lists, without_sub}
use Rattle.bts_event.specs.Pool.{Pool, settled_at}
use Rattle.bts_event.specs.Refusals.{leave_refusal, leave_refusal_of}
use Rattle.bts_event.specs.Sound.{AreSoundEvents, EntriesFit, IsSoundComposite, IsSoundPool, entries_of, one_if, times}
use Rattle.bts_names.specs.Named.{lookup}
use Rattle.bts_names.specs.Names.{Name, initial_name, same, same_exact}

-- a name that no composite lists has no holder
none_by : (o : Option Name) (fs : Events) (n : Name) → holder fs n ≡ o → IsStrictlySortedBy (slice_cmp nat_cmp) (keys_of fs)
    → ((x : Name) (k : Composite) → lookup x fs ≡ Some (composite k) → has k.subs n ≡ false) → o ≡ None
none_by None fs n e s h = refl
none_by (Some x) fs n e s h = let o = owned fs n x s e in let z : has o.body.subs n ≡ false = h x o.body o.found in let y = o.listed in cc

pub holder_none : (fs : Events) (n : Name) → IsStrictlySortedBy (slice_cmp nat_cmp) (keys_of fs)
    → ((x : Name) (k : Composite) → lookup x fs ≡ Some (composite k) → has k.subs n ≡ false) → holder fs n ≡ None
holder_none fs n s h = none_by (holder fs n) fs n refl s h

-- ---- leaving

has_cond : (t : Bool) (x : Name) (xs : List Name) (n : Name) → has (cond t (x ∷ xs) xs) n ≡ ((t && same x n) || has xs n)
has_cond true x xs n = refl
has_cond false x xs n = refl

but_case : (x s n a : Bool) (h : Bool) → (x ≡ true → a ≡ s) → (x ≡ false → s ≡ true → a ≡ false) → ((not x && a) || (cond s false h)) ≡ cond s false (a || h)
but_case true true n a h f g = refl
but_case true false n a h f g = let e : a ≡ false = f refl in rw e refl
but_case false true n a h f g = let e : a ≡ false = g refl refl in rw e refl
but_case false false n a h f g = refl

pub has_but : (xs : List Name) (s n : Name) → has (except xs s) n ≡ cond (same s n) false (has xs n)
has_but [] s n = zero_false (same s n)
  where
    zero_false : (b : Bool) → let x : Bool = false in x ≡ cond b false false
    zero_false true = refl
    zero_false false = refl
has_but (x ∷ xs) s n =
    has_cond (not (same x s)) x (except xs s) n
    ∙ ap (λ h. (not (same x s) && same x n) || h) (has_but xs s n)
    ∙ but_case (same x s) (same s n) true (same x n) (has xs n) (same_left x s n) (not_both x s n)

but_same : (b h : Bool) → b ≡ false → cond b false h ≡ h
but_same true h e = cc
but_same false h e = refl

leave_lists : (s n : Name) → same s n ≡ false → (e : Event) → lists (without_sub s e) n ≡ lists e n
leave_lists s n d (atomic a) = refl
leave_lists s n d (composite k) = has_but k.subs s n ∙ but_same (same s n) (has k.subs n) d

leave_atomic : (s : Name) (o : Option Event) → is_atomic (option_map (without_sub s) o) ≡ is_atomic o
leave_atomic s None = refl
leave_atomic s (Some (atomic a)) = refl
leave_atomic s (Some (composite k)) = refl

pub leave_fired : (s : Name) (o : Option Event) → is_fired_atomic (option_map (without_sub s) o) ≡ is_fired_atomic o
leave_fired s None = refl
leave_fired s (Some (atomic a)) = refl
leave_fired s (Some (composite k)) = refl

-- what composite stood there before
record Left (s : Name) (t : Bool) (o : Option Event) (k : Composite) : Type 0 where
  body : Composite
  found : o ≡ Some (composite body)
  subs : k.subs ≡ cond t (except body.subs s) body.subs
  queued : k.queued ≡ cond t (except body.queued s) body.queued

left_same : (s : Name) (o : Option Event) (k : Composite) → option_map (without_sub s) o ≡ Some (composite k) → Left s true o k
left_same s None k h = cc
left_same s (Some (atomic a)) k h = cc
left_same s (Some (composite b)) k h =
    let m : Composite = record { all = b.all; subs = except b.subs s; queued = except b.queued s } in
    let e : m ≡ k = cc in
    record { body = b; found = refl; subs = ap (λ x. x.subs) (sym e); queued = ap (λ x. x.queued) (sym e) }

left : (s : Name) (t : Bool) (o : Option Event) (k : Composite) → cond t (option_map (without_sub s) o) o ≡ Some (composite k) → Left s t o k
left s true o k h = left_same s o k h
left s false o k h = record { body = k; found = h; subs = refl; queued = refl }

-- in each case the new list is the old one without s
subs_then : (t : Bool) (es : Events) (c s x : Name) (b : Composite) (n : Name) → same c x ≡ t → IsSoundComposite es x b → holder es s ≡ Some c
    → has (cond t (except b.subs s) b.subs) n ≡ cond (same s n) false (has b.subs n)
subs_then true es c s x b n e o h = has_but b.subs s n
subs_then false es c s x b n e o h = stay (same s n) refl
  where
    stay : (q : Bool) → same s n ≡ q → has b.subs n ≡ cond q false (has b.subs n)
    stay true g = ap (has b.subs) (sym (same_exact s n g)) ∙ not_listed (has b.subs s) es s c x b o h e refl
    stay false g = refl

times_then : (t : Bool) (es : Events) (c s x : Name) (b : Composite) (n : Name) → same c x ≡ t → IsSoundComposite es x b → holder es s ≡ Some c
    → times n (cond t (except b.subs s) b.subs) ≡ cond (same s n) 0 (times n b.subs)
times_then true es c s x b n e o h = times_but n s b.subs
times_then false es c s x b n e o h = stay (same s n) refl
  where
    stay : (q : Bool) → same s n ≡ q → times n b.subs ≡ cond q 0 (times n b.subs)
    stay true g = o.once n ∙ ap one_if (ap (has b.subs) (sym (same_exact s n g)) ∙ not_listed (has b.subs s) es s c x b o h e refl)
    stay false g = refl

queue_then : (t : Bool) (es : Events) (c s x : Name) (b : Composite) (n : Name) → same c x ≡ t → IsSoundComposite es x b → holder es s ≡ Some c
    → times n (cond t (except b.queued s) b.queued) ≡ cond (same s n) 0 (times n b.queued)
queue_then true es c s x b n e o h = times_but n s b.queued
queue_then false es c s x b n e o h = stay (same s n) refl
  where
    stay : (q : Bool) → same s n ≡ q → times n b.queued ≡ cond q 0 (times n b.queued)
    stay true g =
        o.queue n ∙ ap (λ y. one_if (y && is_fired_atomic (lookup n es))) (ap (has b.subs) (sym (same_exact s n g)) ∙ not_listed (has b.subs s) es s c x b o h e refl)
    stay false g = refl

one_cond : (t h : Bool) (many : ℕ) → many ≡ one_if h → cond t 0 many ≡ one_if (cond t false h)
one_cond true h many e = refl
one_cond false h many e = e

one_and : (t h f : Bool) (many : ℕ) → many ≡ one_if (h && f) → cond t 0 many ≡ one_if (cond t false h && f)
one_and true h f many e = refl
one_and false h f many e = e

true_under : (t h : Bool) → cond t false h ≡ true → (t ≡ false) × (h ≡ true)
true_under true h e = cc
true_under false h e = (refl, e)

length_but : (xs : List Name) (s : Name) → length (except xs s) ≤ length xs
length_but [] s = omega arith
length_but (x ∷ xs) s = more (not (same x s)) (except xs s) (length_but xs s)
  where
    more : (t : Bool) (ys : List Name) → length ys ≤ length xs → length (cond t (x ∷ ys) ys) ≤ length (x ∷ xs)
    more true ys h = omega (arith, h)
    more false ys h = omega (arith, h)

short_then : (t : Bool) (xs : List Name) (s : Name) → length xs ≤ 32 → length (cond t (except xs s) xs) ≤ 32
short_then true xs s h = omega (arith, length_but xs s)
short_then false xs s h = h

module _ (es : Events) (c s : Name) (o : AreSoundEvents es) (h : holder es s ≡ Some c) where
  abbrev fs : Events
  fs = change es c (without_sub s)

  sorted : IsStrictlySortedBy (slice_cmp nat_cmp) (keys_of (change es c (without_sub s)))
  sorted = subst (λ ks. IsStrictlySortedBy (slice_cmp nat_cmp) ks) (sym (keys-change es c (without_sub s))) o.ordered

  before : (x : Name) (k : Composite) → lookup x (change es c (without_sub s)) ≡ Some (composite k) → Left s (same c x) (lookup x es) k
  before x k f = left s (same c x) (lookup x es) k (sym (lookup-change es c x (without_sub s)) ∙ f)

  members : (x : Name) (k : Composite) (l : Left s (same c x) (lookup x es) k) (n : Name) → has k.subs n ≡ cond (same s n) false (has l.body.subs n)
  members x k l n = ap (λ y. has y n) l.subs ∙ subs_then (same c x) es c s x l.body n refl (o.composites x l.body l.found) h

  pub left_holder : holder (change es c (without_sub s)) s ≡ None
  left_holder = holder_none (change es c (without_sub s)) s sorted
      (λ x k f. let l = before x k f in members x k l s ∙ ap (λ t. cond t false (has l.body.subs s)) (same_refl s))

  pub other_holder : (n : Name) → same s n ≡ false → holder (change es c (without_sub s)) n ≡ holder es n
  other_holder n d = holder-change es c n (without_sub s) (leave_lists s n d)

  pub left_fired : (n : Name) → is_fired_atomic (lookup n (change es c (without_sub s))) ≡ is_fired_atomic (lookup n es)
  left_fired n = read-change is_fired_atomic es c n (without_sub s) (leave_fired s)

  pub left_atomic : (n : Name) → is_atomic (lookup n (change es c (without_sub s))) ≡ is_atomic (lookup n es)
  left_atomic n = read-change is_atomic es c n (without_sub s) (leave_atomic s)

  each : (x : Name) (k : Composite) → Left s (same c x) (lookup x es) k → IsSoundComposite (change es c (without_sub s)) x k
  each x k l =
      let b = o.composites x l.body l.found in
      record {
        few = subst (λ y. length y ≤ 32) (sym l.subs) (short_then (same c x) l.body.subs s b.few);
        once = λ n. ap (times n) l.subs ∙ times_then (same c x) es c s x l.body n refl b h ∙ one_cond (same s n) (has l.body.subs n) _ (b.once n) ∙ sym (ap one_if (members x k l n));
        atomics = λ n g. left_atomic n ∙ b.atomics n (true_under (same s n) (has l.body.subs n) (sym (members x k l n) ∙ g)).1;
        alone = λ n g. let z = true_under (same s n) (has l.body.subs n) (sym (members x k l n) ∙ g) in other_holder n z.0 ∙ b.alone n z.1;
        queue = λ n.
            ap (times n) l.queued ∙ queue_then (same c x) es c s x l.body n refl b h
            ∙ one_and (same s n) (has l.body.subs n) (is_fired_atomic (lookup n es)) _ (b.queue n)
            ∙ sym (ap (λ y. one_if (y && is_fired_atomic (lookup n (change es c (without_sub s))))) (members x k l n) ∙ ap (λ y. one_if (cond (same s n) false (has l.body.subs n) && y)) (left_fired n));
      }

  pub left_sound : AreSoundEvents (change es c (without_sub s))
  left_sound = record {
    ordered = sorted;
    few = subst (λ n. n ≤ 256) (sym (length-change es c (without_sub s))) o.few;
    unnamed = lookup_none_change es c initial_name (without_sub s) o.unnamed;
    composites = λ x k f. each x k (before x k f);
  }

leave_composite : (s : Name) (o : Option Event) → is_composite (option_map (without_sub s) o) ≡ is_composite o
leave_composite s None = refl
leave_composite s (Some (atomic a)) = refl
leave_composite s (Some (composite k)) = refl

pub fit_leave : (n s : Name) (t : Bool) (o : Option Event) (h : Option Name) (many : ℕ) → EntriesFit n o h many → EntriesFit n (cond t (option_map (without_sub s) o) o) h many
fit_leave n s true None h many f = f
fit_leave n s true (Some (atomic a)) h many f = f
fit_leave n s true (Some (composite k)) h many f = tt
fit_leave n s false o h many f = f

-- an unfired event that is no sub-event any more
pub fit_left : (n c : Name) (o : Option Event) (many : ℕ) → is_atomic o ≡ true → is_fired_atomic o ≡ false → EntriesFit n o (Some c) many → EntriesFit n o None many
fit_left n c None many a b f = cc
fit_left n c (Some (atomic e)) many a b f = f ∙ sym (ap one_if b)
fit_left n c (Some (composite k)) many a b f = tt

left_fit : (t : Bool) (p : Pool) (c s n : Name) → same s n ≡ t → IsSoundPool p → holder p.events s ≡ Some c → is_atomic (lookup s p.events) ≡ true → is_fired_atomic (lookup s p.events) ≡ false
    → EntriesFit n (lookup n p.events) (holder (change p.events c (without_sub s)) n) (entries_of n p.entries)
left_fit true p c s n e o h a b =
    let same = same_exact s n e in
    let es = p.events in
    let h' : holder (change p.events c (without_sub s)) n ≡ None = subst (λ m. holder (change p.events c (without_sub s)) m ≡ None) same (left_holder p.events c s o.events h) in
    subst (λ x. EntriesFit n (lookup n p.events) x (entries_of n p.entries)) (sym h')
    (fit_left n c (lookup n p.events) (entries_of n p.entries) (subst (λ m. is_atomic (lookup m p.events) ≡ true) same a) (subst (λ m. is_fired_atomic (lookup m p.events) ≡ false) same b)
    (subst (λ x. EntriesFit n (lookup n p.events) x (entries_of n p.entries)) (subst (λ m. holder p.events m ≡ Some c) same h) (o.entries n)))
left_fit false p c s n e o h a b =
    subst (λ x. EntriesFit n (lookup n p.events) x (entries_of n p.entries)) (sym (other_holder p.events c s o.events h n e)) (o.entries n)

-- a sub-event leaves, before the entry of its composite
pub removed_sound : (p : Pool) (c s : Name) → IsSoundPool p → holder p.events s ≡ Some c → is_atomic (lookup s p.events) ≡ true → is_fired_atomic (lookup s p.events) ≡ false
    → (let q : Pool = record { events = change p.events c (without_sub s); entries = p.entries; last = p.last } in IsSoundPool q)
removed_sound p c s o h a b = record {
  events = left_sound p.events c s o.events h;
  entries = λ n.
      subst (λ x. EntriesFit n x (holder (change p.events c (without_sub s)) n) (entries_of n p.entries)) (sym (lookup-change p.events c n (without_sub s)))
      (fit_leave n s (same c n) (lookup n p.events) _ (entries_of n p.entries) (left_fit (same s n) p c s n refl o h a b));
  numbers = o.numbers;
}

pub removed_composite : (es : Events) (c s : Name) → is_composite (lookup c es) ≡ true → is_composite (lookup c (change es c (without_sub s))) ≡ true
removed_composite es c s h = read-change is_composite es c c (without_sub s) (leave_composite s) ∙ h

-- a sub-event that may leave
pub record MayLeave (es : Events) (c s : Name) : Type 0 where
  pub body : Composite
  pub found : lookup c es ≡ Some (composite body)
  pub listed : has body.subs s ≡ true
  pub unfired : is_fired_atomic (lookup s es) ≡ false

leave_by : (h f : Bool) → cond h (cond f (Some reason.Fired) None) (Some reason.NotSubevent) ≡ None → (h ≡ true) × (f ≡ false)
leave_by true true g = cc
leave_by true false g = (refl, refl)
leave_by false f g = cc

pub may_leave : (es : Events) (c s : Name) (o : Option Event) → lookup c es ≡ o → leave_refusal_of o s es ≡ None → MayLeave es c s
may_leave es c s None e g = cc
may_leave es c s (Some (atomic a)) e g = cc
may_leave es c s (Some (composite k)) e g = let z = leave_by (has k.subs s) (is_fired_atomic (lookup s es)) g in record { body = k; found = e; listed = z.0; unfired = z.1 }

-- the sub-event s has left c
abbrev pub sub_left : Pool → Name → Name → Pool
sub_left p c s = record { events = change p.events c (without_sub s); entries = p.entries; last = p.last }

pub sub_left_sound : (p : Pool) (c s : Name) → IsSoundPool p → leave_refusal c s p.events ≡ None
    → IsSoundPool (settled_at (held_at p.events c) c (sub_left p c s))
sub_left_sound p c s o g =
    let m = may_leave p.events c s (lookup c p.events) refl g in
    let k = o.events.composites c m.body m.found in
    let q : Pool = record { events = change p.events c (without_sub s); entries = p.entries; last = p.last } in
    settled_sound (held_at p.events c) q c (removed_sound p c s o (k.alone s m.listed) (k.atomics s m.listed) m.unfired)
    (removed_composite p.events c s (ap is_composite m.found))

pub removed_step : (p r : Pool) (c s : Name) (b : Bool) (es : Events) (queue : List Entry)
    → b ≡ held_at p.events c → es ≡ change p.events c (without_sub s) → queue ≡ p.entries
    → (let q : Pool = record { events = es; entries = queue; last = p.last } in settled_at b c q ≡ r) → r ≡ settled_at (held_at p.events c) c (sub_left p c s)
removed_step p r c s b es queue v e k g =
    sym g
    ∙ ap (λ x. let q : Pool = record { events = es; entries = queue; last = p.last } in settled_at x c q) v
    ∙ ap (λ (xs : List Entry). let q : Pool = record { events = es; entries = xs; last = p.last } in settled_at (held_at p.events c) c q) k
    ∙ ap (λ (xs : Events). let q : Pool = record { events = xs; entries = p.entries; last = p.last } in settled_at (held_at p.events c) c q) e
