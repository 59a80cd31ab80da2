-- Soundness under a change of one bit.
use Rattle.std.proofs.Common.{◌≡◌, ℕ, ◌+◌, ◌<◌, ◌≤◌, Bool, true, false, cond, not, ◌&&◌, List, [], ◌∷◌, ◌++◌, Option, Some, None, refl, ap, sym, subst, ◌∙◌, arith}
use Rattle.std.specs.Option.{option_map}
use Rattle.std.specs.List.Sorted.{IsStrictlySortedBy}
use Rattle.std.specs.Ordering.{nat_cmp}
use Rattle.std.specs.Cmp.Lexicographic.{slice_cmp}
use Rattle.bts_event.specs.declared.queue.Entry.{Entry}
use Rattle.bts_event.specs.declared.event.Event.{Event}
use Rattle.bts_event.specs.declared.event.Event.TheVariants.{Atomic as atomic, Composite as composite}
use Rattle.bts_names.specs.declared.reply.Reason.{Reason}
use Rattle.bts_names.specs.declared.reply.Reason.TheVariants as reason
use Rattle.bts_event.proofs.Readings.{holder-change, keys-change, length-change, lookup-change, read-change}
use Rattle.bts_event.proofs.Same.{same_refl}
use Rattle.bts_event.specs.Composites.{Composite}
use Rattle.bts_event.specs.Events.{Events, change, has, holder, is_atomic, is_fired_atomic, lists, set_bit, with_bit}
use Rattle.bts_event.specs.Pool.{Pool, dropped}
use Rattle.bts_event.specs.Refusals.{fire_refusal_of, when}
use Rattle.bts_event.specs.Sound.{AreSoundEvents, EntriesFit, IsSoundComposite, IsSoundPool, Rises, entries_of, one_if}
use Rattle.bts_names.specs.Named.{lookup}
use Rattle.bts_names.specs.Names.{Name, initial_name, same, same_exact}

pub bit_atomic : (b : Bool) (o : Option Event) → is_atomic (option_map (with_bit b) o) ≡ is_atomic o
bit_atomic b None = refl
bit_atomic b (Some (atomic a)) = refl
bit_atomic b (Some (composite c)) = refl

pub bit_lists : (b : Bool) (n : Name) (e : Event) → lists (with_bit b e) n ≡ lists e n
bit_lists b n (atomic a) = refl
bit_lists b n (composite c) = refl

bit_composite : (b : Bool) (o : Option Event) (k : Composite) → option_map (with_bit b) o ≡ Some (composite k) → o ≡ Some (composite k)
bit_composite b None k h = cc
bit_composite b (Some (atomic a)) k h = cc
bit_composite b (Some (composite c)) k h = h

bit_composite_at : (t b : Bool) (o : Option Event) (k : Composite) → cond t (option_map (with_bit b) o) o ≡ Some (composite k) → o ≡ Some (composite k)
bit_composite_at true b o k h = bit_composite b o k h
bit_composite_at false b o k h = h

pub lookup_composite_bit : (es : Events) (name : Name) (b : Bool) (c : Name) (k : Composite)
    → lookup c (set_bit es name b) ≡ Some (composite k) → lookup c es ≡ Some (composite k)
lookup_composite_bit es name b c k h = bit_composite_at (same name c) b (lookup c es) k (sym (lookup-change es name c (with_bit b)) ∙ h)

none_at : (t : Bool) (f : Event → Event) (o : Option Event) → o ≡ None → cond t (option_map f o) o ≡ None
none_at true f None h = refl
none_at true f (Some x) h = cc
none_at false f o h = h

pub lookup_none_change : (es : Events) (name n : Name) (f : Event → Event) → lookup n es ≡ None → lookup n (change es name f) ≡ None
lookup_none_change es name n f h = lookup-change es name n f ∙ none_at (same name n) f (lookup n es) h

differs_by : (t : Bool) (names : List Name) (m n : Name) → same m n ≡ t → has names m ≡ false → has names n ≡ true → same m n ≡ false
differs_by true names m n e h g = let q : has names m ≡ has names n = ap (has names) (same_exact m n e) in cc
differs_by false names m n e h g = e

-- a name in a list differs from one that is not
pub differs : (names : List Name) (m n : Name) → has names m ≡ false → has names n ≡ true → same m n ≡ false
differs names m n h g = differs_by (same m n) names m n refl h g

pub fired_other : (t b : Bool) (o : Option Event) → t ≡ false → is_fired_atomic (cond t (option_map (with_bit b) o) o) ≡ is_fired_atomic o
fired_other true b o h = cc
fired_other false b o h = refl

queue_case : (h : Bool) (es : Events) (name : Name) (b : Bool) (names : List Name) (n : Name)
    → has names n ≡ h → has names name ≡ false
    → (h && is_fired_atomic (lookup n es)) ≡ (h && is_fired_atomic (lookup n (set_bit es name b)))
queue_case true es name b names n h g =
    sym (ap is_fired_atomic (lookup-change es name n (with_bit b)) ∙ fired_other (same name n) b (lookup n es) (differs names name n g h))
queue_case false es name b names n h g = refl

composite_bit : (es : Events) (name : Name) (b : Bool) (c : Name) (k : Composite)
    → has k.subs name ≡ false → IsSoundComposite es c k → IsSoundComposite (set_bit es name b) c k
composite_bit es name b c k g s = record {
  few = s.few;
  once = s.once;
  atomics = λ n h. read-change is_atomic es name n (with_bit b) (bit_atomic b) ∙ s.atomics n h;
  alone = λ n h. holder-change es name n (with_bit b) (bit_lists b n) ∙ s.alone n h;
  queue = λ n. s.queue n ∙ ap one_if (queue_case (has k.subs n) es name b k.subs n refl g);
}

-- a bit of an event that is no sub-event
pub set_bit_sound : (es : Events) (name : Name) (b : Bool) → AreSoundEvents es
    → ((c : Name) (k : Composite) → lookup c es ≡ Some (composite k) → has k.subs name ≡ false) → AreSoundEvents (set_bit es name b)
set_bit_sound es name b s free = record {
  ordered = subst (λ ks. IsStrictlySortedBy (slice_cmp nat_cmp) ks) (sym (keys-change es name (with_bit b))) s.ordered;
  few = subst (λ n. n ≤ 256) (sym (length-change es name (with_bit b))) s.few;
  unnamed = lookup_none_change es name initial_name (with_bit b) s.unnamed;
  composites = λ c k h. let g = lookup_composite_bit es name b c k h in composite_bit es name b c k (free c k g) (s.composites c k g);
}

-- ---- numbers

pub rises_lower : (low least : ℕ) (q : List Entry) (last : ℕ) → least ≤ low → Rises low q last → Rises least q last
rises_lower low least [] last l r = omega arith
rises_lower low least (e ∷ es) last l r = (omega (arith, r.0), r.1)

pub rises_bound : (low : ℕ) (q : List Entry) (last : ℕ) → Rises low q last → low ≤ last + 1
rises_bound low [] last r = r
rises_bound low (e ∷ es) last r = omega (arith, r.0, rises_bound (e.number + 1) es last r.1)

pub rises_push : (low : ℕ) (q : List Entry) (last : ℕ) (n : Name) → Rises low q last → Rises low (q ++ record { name = n; number = last + 1 } ∷ []) (last + 1)
rises_push low [] last n r = (omega arith, omega arith)
rises_push low (e ∷ es) last n r = (r.0, rises_push (e.number + 1) es last n r.1)

-- ---- entries

fit_taken : (n : Name) (o : Option Event) (h : Option Name) (many : ℕ) → EntriesFit n o h (1 + many) → EntriesFit n (option_map (with_bit false) o) h many
fit_taken n None h many f = λ d. let g : 1 + many ≡ 0 = f d in omega arith
fit_taken n (Some (atomic a)) None many f = one_less a.fired many f
  where
    one_less : (b : Bool) (many : ℕ) → 1 + many ≡ one_if b → many ≡ 0
    one_less true many h = omega arith
    one_less false many h = omega arith
fit_taken n (Some (atomic a)) (Some c) many f = let g : 1 + many ≡ 0 = f in omega arith
fit_taken n (Some (composite k)) h many f = tt

taken_case : (t : Bool) (n : Name) (o : Option Event) (h : Option Name) (many : ℕ) → EntriesFit n o h (one_if t + many)
    → EntriesFit n (cond t (option_map (with_bit false) o) o) h many
taken_case true n o h many f = fit_taken n o h many f
taken_case false n o h many f = let g : 0 + many ≡ many = omega arith in subst (EntriesFit n o h) g f

no_sub : (n : Name) (o : Option Event) (c : Name) (many : ℕ) → is_atomic o ≡ true → EntriesFit n o (Some c) (1 + many) → ⊥
no_sub n None c many a f = cc
no_sub n (Some (atomic e)) c many a f = let g : 1 + many ≡ 0 = f in omega arith
no_sub n (Some (composite k)) c many a f = cc

free_by : (t : Bool) (p : Pool) (e : Entry) (es : List Entry) (c : Name) (k : Composite) → p.entries ≡ e ∷ es → IsSoundPool p
    → lookup c p.events ≡ Some (composite k) → has k.subs e.name ≡ t → has k.subs e.name ≡ false
free_by true p e es c k q s h g =
    let sc = (s.events).composites c k h in
    let f : EntriesFit e.name (lookup e.name p.events) (Some c) (1 + entries_of e.name es) =
    subst (EntriesFit e.name (lookup e.name p.events) (Some c)) (ap (entries_of e.name) q ∙ ap (λ b. one_if b + entries_of e.name es) (same_refl e.name))
    (subst (λ x. EntriesFit e.name (lookup e.name p.events) x (entries_of e.name p.entries)) (sc.alone e.name g) (s.entries e.name)) in
    absurd (no_sub e.name (lookup e.name p.events) c (entries_of e.name es) (sc.atomics e.name g) f)
free_by false p e es c k q s h g = g

-- taking the first entry
pub retrieved_sound : (p : Pool) (e : Entry) (es : List Entry) → p.entries ≡ e ∷ es → IsSoundPool p
    → (let r : Pool = record { events = set_bit p.events e.name false; entries = es; last = p.last } in IsSoundPool r)
retrieved_sound p e es q s = record {
  events = set_bit_sound p.events e.name false s.events (λ c k h. free_by (has k.subs e.name) p e es c k q s h refl);
  entries = λ n.
      let f : EntriesFit n (lookup n p.events) (holder p.events n) (one_if (same e.name n) + entries_of n es) =
      subst (EntriesFit n (lookup n p.events) (holder p.events n)) (ap (entries_of n) q) (s.entries n) in
      let t = taken_case (same e.name n) n (lookup n p.events) (holder p.events n) (entries_of n es) f in
      subst (λ o. EntriesFit n o (holder (set_bit p.events e.name false) n) (entries_of n es)) (sym (lookup-change p.events e.name n (with_bit false)))
      (subst (λ h. EntriesFit n (cond (same e.name n) (option_map (with_bit false) (lookup n p.events)) (lookup n p.events)) h (entries_of n es))
      (sym (holder-change p.events e.name n (with_bit false) (bit_lists false n))) t);
  numbers = let r : Rises 0 (e ∷ es) p.last = subst (λ x. Rises 0 x p.last) q s.numbers in rises_lower (e.number + 1) 0 es p.last (omega arith) r.1;
}

-- ---- entries at the end, and dropped

pub entries_push : (n name : Name) (q : List Entry) (number : ℕ) → entries_of n (q ++ record { name = name; number = number } ∷ []) ≡ entries_of n q + one_if (same name n)
entries_push n name [] number = omega arith
entries_push n name (e ∷ es) number = omega (arith, entries_push n name es number)

entries_cond : (x : Bool) (n : Name) (e : Entry) (es : List Entry) → entries_of n (cond x (e ∷ es) es) ≡ cond x (one_if (same e.name n)) 0 + entries_of n es
entries_cond true n e es = refl
entries_cond false n e es = omega arith

pub drop_sum : (x b t : Bool) (r m : ℕ) → (x ≡ true → t ≡ b) → (x ≡ false → b ≡ true → t ≡ false) → r ≡ cond b 0 m → cond (not x) (one_if t) 0 + r ≡ cond b 0 (one_if t + m)
drop_sum true true t r m f g h = omega (arith, h)
drop_sum true false t r m f g h = let e : t ≡ false = f refl in rw e (omega (arith, h))
drop_sum false true t r m f g h = let e : t ≡ false = g refl refl in rw e (omega (arith, h))
drop_sum false false t r m f g h = omega (arith, h)

pub same_left : (a b n : Name) → same a b ≡ true → same a n ≡ same b n
same_left a b n h = ap (λ x. same x n) (same_exact a b h)

pub not_both : (a b n : Name) → same a b ≡ false → same b n ≡ true → same a n ≡ false
not_both a b n h g = ap (same a) (sym (same_exact b n g)) ∙ h

pub zero_if : (b : Bool) (x : ℕ) → x ≡ 0 → x ≡ cond b 0 x
zero_if true x h = h
zero_if false x h = refl

pub entries_dropped : (n name : Name) (q : List Entry) → entries_of n (dropped q name) ≡ cond (same name n) 0 (entries_of n q)
entries_dropped n name [] = zero_if (same name n) 0 refl
entries_dropped n name (e ∷ es) =
    entries_cond (not (same e.name name)) n e (dropped es name)
    ∙ drop_sum (same e.name name) (same name n) (same e.name n) _ (entries_of n es) (same_left e.name name n) (not_both e.name name n) (entries_dropped n name es)

rise_case : (x : Bool) (low : ℕ) (e : Entry) (es : List Entry) (last : ℕ) → low ≤ e.number → Rises (e.number + 1) es last → Rises low (cond x (e ∷ es) es) last
rise_case true low e es last h r = (h, r)
rise_case false low e es last h r = rises_lower (e.number + 1) low es last (omega arith) r

pub rises_dropped : (low : ℕ) (q : List Entry) (last : ℕ) (name : Name) → Rises low q last → Rises low (dropped q name) last
rises_dropped low [] last name r = r
rises_dropped low (e ∷ es) last name r = rise_case (not (same e.name name)) low e (dropped es name) last r.0 (rises_dropped (e.number + 1) es last name r.1)

-- ---- an atomic event that is no sub-event

holder_apart : (t : Bool) (es : Events) (name c : Name) (k : Composite) → IsSoundComposite es c k → holder es name ≡ None → has k.subs name ≡ t → has k.subs name ≡ false
holder_apart true es name c k s h g = let x : holder es name ≡ Some c = s.alone name g in cc
holder_apart false es name c k s h g = g

pub free_at : (es : Events) (name : Name) → AreSoundEvents es → holder es name ≡ None
    → (c : Name) (k : Composite) → lookup c es ≡ Some (composite k) → has k.subs name ≡ false
free_at es name s h c k g = holder_apart (has k.subs name) es name c k (s.composites c k g) h refl

fit_fired : (n : Name) (b : Bool) (o : Option Event) (many : ℕ) → is_atomic o ≡ true → EntriesFit n (option_map (with_bit b) o) None (one_if b)
fit_fired n b None many h = cc
fit_fired n b (Some (atomic a)) many h = refl
fit_fired n b (Some (composite k)) many h = cc

none_left : (n : Name) (o : Option Event) (many : ℕ) → is_atomic o ≡ true → is_fired_atomic o ≡ false → EntriesFit n o None many → many ≡ 0
none_left n None many h g f = cc
none_left n (Some (atomic a)) many h g f = f ∙ ap one_if g
none_left n (Some (composite k)) many h g f = cc

fire_fit : (t : Bool) (p : Pool) (name n : Name) → same name n ≡ t → IsSoundPool p → is_atomic (lookup name p.events) ≡ true → is_fired_atomic (lookup name p.events) ≡ false → holder p.events name ≡ None
    → EntriesFit n (cond t (option_map (with_bit true) (lookup n p.events)) (lookup n p.events)) (holder p.events n) (entries_of n p.entries + one_if t)
fire_fit true p name n e s a b h =
    let same : name ≡ n = same_exact name n e in
    let a' : is_atomic (lookup n p.events) ≡ true = subst (λ m. is_atomic (lookup m p.events) ≡ true) same a in
    let b' : is_fired_atomic (lookup n p.events) ≡ false = subst (λ m. is_fired_atomic (lookup m p.events) ≡ false) same b in
    let h' : holder p.events n ≡ None = subst (λ m. holder p.events m ≡ None) same h in
    let z : entries_of n p.entries ≡ 0 = none_left n (lookup n p.events) _ a' b' (subst (λ x. EntriesFit n (lookup n p.events) x (entries_of n p.entries)) h' (s.entries n)) in
    let y : 1 ≡ entries_of n p.entries + 1 = omega (arith, z) in
    subst (EntriesFit n (option_map (with_bit true) (lookup n p.events)) (holder p.events n)) y
    (subst (λ x. EntriesFit n (option_map (with_bit true) (lookup n p.events)) x 1) (sym h') (fit_fired n true (lookup n p.events) 0 a'))
fire_fit false p name n e s a b h =
    let y : entries_of n p.entries ≡ entries_of n p.entries + 0 = omega arith in subst (EntriesFit n (lookup n p.events) (holder p.events n)) y (s.entries n)

pub fired_sound : (p : Pool) (name : Name) → IsSoundPool p → is_atomic (lookup name p.events) ≡ true → is_fired_atomic (lookup name p.events) ≡ false → holder p.events name ≡ None
    → (let r : Pool = record { events = set_bit p.events name true; entries = p.entries ++ record { name = name; number = p.last + 1 } ∷ []; last = p.last + 1 } in IsSoundPool r)
fired_sound p name s a b h = record {
  events = set_bit_sound p.events name true s.events (free_at p.events name s.events h);
  entries = λ n.
      subst (EntriesFit n (lookup n (set_bit p.events name true)) (holder (set_bit p.events name true) n)) (sym (entries_push n name p.entries (p.last + 1)))
      (subst (λ o. EntriesFit n o (holder (set_bit p.events name true) n) (entries_of n p.entries + one_if (same name n))) (sym (lookup-change p.events name n (with_bit true)))
      (subst (λ x. EntriesFit n (cond (same name n) (option_map (with_bit true) (lookup n p.events)) (lookup n p.events)) x (entries_of n p.entries + one_if (same name n)))
      (sym (holder-change p.events name n (with_bit true) (bit_lists true n)))
      (fire_fit (same name n) p name n refl s a b h)));
  numbers = rises_push 0 p.entries p.last name s.numbers;
}

clear_fit : (t : Bool) (p : Pool) (name n : Name) → same name n ≡ t → IsSoundPool p → is_atomic (lookup name p.events) ≡ true → holder p.events name ≡ None
    → EntriesFit n (cond t (option_map (with_bit false) (lookup n p.events)) (lookup n p.events)) (holder p.events n) (cond t 0 (entries_of n p.entries))
clear_fit true p name n e s a h =
    let same : name ≡ n = same_exact name n e in
    let a' : is_atomic (lookup n p.events) ≡ true = subst (λ m. is_atomic (lookup m p.events) ≡ true) same a in
    let h' : holder p.events n ≡ None = subst (λ m. holder p.events m ≡ None) same h in
    subst (λ x. EntriesFit n (option_map (with_bit false) (lookup n p.events)) x 0) (sym h') (fit_fired n false (lookup n p.events) 0 a')
clear_fit false p name n e s a h = s.entries n

pub cleared_sound : (p : Pool) (name : Name) → IsSoundPool p → is_atomic (lookup name p.events) ≡ true → holder p.events name ≡ None
    → (let r : Pool = record { events = set_bit p.events name false; entries = dropped p.entries name; last = p.last } in IsSoundPool r)
cleared_sound p name s a h = record {
  events = set_bit_sound p.events name false s.events (free_at p.events name s.events h);
  entries = λ n.
      subst (EntriesFit n (lookup n (set_bit p.events name false)) (holder (set_bit p.events name false) n)) (sym (entries_dropped n name p.entries))
      (subst (λ o. EntriesFit n o (holder (set_bit p.events name false) n) (cond (same name n) 0 (entries_of n p.entries))) (sym (lookup-change p.events name n (with_bit false)))
      (subst (λ x. EntriesFit n (cond (same name n) (option_map (with_bit false) (lookup n p.events)) (lookup n p.events)) x (cond (same name n) 0 (entries_of n p.entries)))
      (sym (holder-change p.events name n (with_bit false) (bit_lists false n)))
      (clear_fit (same name n) p name n refl s a h)));
  numbers = rises_dropped 0 p.entries p.last name s.numbers;
}

pub not_when : (b : Bool) (r : Reason) → when b r ≡ None → b ≡ false
not_when true r h = cc
not_when false r h = refl

pub fire_allowed : (o : Option Event) → fire_refusal_of o ≡ None → (is_atomic o ≡ true) × (is_fired_atomic o ≡ false)
fire_allowed None h = cc
fire_allowed (Some (atomic a)) h = (refl, not_when a.fired reason.Fired h)
fire_allowed (Some (composite k)) h = cc

-- ---- an event that joins a composite, or is in another one

-- an unfired event has no entry, alone or in a composite
pub adopt : (n c : Name) (o : Option Event) (many : ℕ) → is_atomic o ≡ true → is_fired_atomic o ≡ false → EntriesFit n o None many → EntriesFit n o (Some c) many
adopt n c None many a b f = cc
adopt n c (Some (atomic e)) many a b f = f ∙ ap one_if b
adopt n c (Some (composite k)) many a b f = tt

-- another composite than the one that has the name does not list it
pub not_listed : (t : Bool) (es : Events) (name c x : Name) (k : Composite) → IsSoundComposite es x k → holder es name ≡ Some c → same c x ≡ false → has k.subs name ≡ t → has k.subs name ≡ false
not_listed true es name c x k s h d g =
    let e : Some c ≡ Some x = sym h ∙ s.alone name g in
    let f : c ≡ x = cc in
    let r : same c x ≡ true = ap (same c) (sym f) ∙ same_refl c in cc
not_listed false es name c x k s h d g = g

pub queue_kept : (t : Bool) (es fs : Events) (k : Composite) (n : Name) → has k.subs n ≡ t → (has k.subs n ≡ true → lookup n fs ≡ lookup n es)
    → (t && is_fired_atomic (lookup n es)) ≡ (t && is_fired_atomic (lookup n fs))
queue_kept true es fs k n e f = sym (ap is_fired_atomic (f e))
queue_kept false es fs k n e f = refl
