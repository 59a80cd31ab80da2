-- Soundness where a sub-event joins a composite.
use Rattle.std.proofs.Common.{◌≡◌, ℕ, ◌+◌, ◌<◌, ◌≤◌, Bool, true, false, cond, ◌&&◌, ◌||◌, List, [], ◌∷◌, ◌++◌, length, Option, Some, None, refl, ap, sym, subst, ◌∙◌, arith}
use Rattle.std.specs.Option.{option_map}
use Rattle.std.specs.List.Sorted.{IsStrictlySortedBy}
use Rattle.std.specs.Ordering.{nat_cmp}
use Rattle.std.specs.Cmp.Lexicographic.{slice_cmp}
use Rattle.std.proofs.lemmas.Bool.{leb-false}
use Rattle.std.specs.Prelude.{nat_le}
use Rattle.bts_event.specs.declared.event.Event.{Event}
use Rattle.bts_event.specs.declared.event.Event.TheVariants.{Atomic as atomic, Composite as composite}
use Rattle.bts_names.specs.declared.reply.Reason.TheVariants as reason
use Rattle.bts_event.proofs.Bits.{adopt, lookup_none_change, not_when}
use Rattle.bts_event.proofs.NewComposites.{SubOk, has_push, or_none, sub_ok}
use Rattle.bts_event.proofs.Readings.{head_none, holder-change, keys-change, length-change, lookup-change, read-change}
use Rattle.bts_event.proofs.Same.{same_refl}
use Rattle.bts_event.proofs.SubCalls.{times_push}
use Rattle.bts_event.specs.Composites.{Composite}
use Rattle.bts_event.specs.Events.{Events, change, has, holder, is_atomic, is_fired_atomic, lists, with_sub}
use Rattle.bts_event.specs.Pool.{Pool}
use Rattle.bts_event.specs.Refusals.{add_refusal, is_full_composite, not_composite, sub_refusal, when}
use Rattle.bts_event.specs.Sound.{AreSoundEvents, EntriesFit, IsSoundComposite, IsSoundPool, entries_of, one_if, times}
use Rattle.bts_names.specs.Named.{lookup}
use Rattle.bts_names.specs.Names.{Name, initial_name, same, same_exact}

or_right : (a b : Bool) → b ≡ false → (a || b) ≡ a
or_right true b h = refl
or_right false b h = h

or_true : (a b : Bool) → b ≡ true → (a || b) ≡ true
or_true true b h = refl
or_true false b h = h

join_lists : (s n : Name) → same s n ≡ false → (e : Event) → lists (with_sub s e) n ≡ lists e n
join_lists s n d (atomic a) = refl
join_lists s n d (composite k) = has_push k.subs s n ∙ or_right (has k.subs n) (same s n) d

join_atomic : (s : Name) (o : Option Event) → is_atomic (option_map (with_sub s) o) ≡ is_atomic o
join_atomic s None = refl
join_atomic s (Some (atomic a)) = refl
join_atomic s (Some (composite k)) = refl

pub join_fired : (s : Name) (o : Option Event) → is_fired_atomic (option_map (with_sub s) o) ≡ is_fired_atomic o
join_fired s None = refl
join_fired s (Some (atomic a)) = refl
join_fired s (Some (composite k)) = refl

joined_lists : (s : Name) (v : Event) (b : Composite) → v ≡ composite b → lists (with_sub s v) s ≡ true
joined_lists s v b h = ap (λ x. lists (with_sub s x) s) h ∙ has_push b.subs s s ∙ or_true (has b.subs s) (same s s) (same_refl s)

join_case : (t : Bool) (e : List ℕ × Event) (es fs : Events) (c s : Name) (b : Composite) → same c e.0 ≡ t
    → cond t (Some e.1) (lookup c es) ≡ Some (composite b) → holder (e ∷ es) s ≡ None
    → (lookup c es ≡ Some (composite b) → holder es s ≡ None → holder fs s ≡ Some c)
    → holder (cond t ((e.0, with_sub s e.1) ∷ es) (e ∷ fs)) s ≡ Some c
join_case true e es fs c s b i f h ih =
    let v : e.1 ≡ composite b = cc in
    ap (λ t. cond t (Some e.0) (holder es s)) (joined_lists s e.1 b v) ∙ ap Some (sym (same_exact c e.0 i))
join_case false e es fs c s b i f h ih =
    let z = head_none (lists e.1 s) e.0 (holder es s) h in
    ap (λ t. cond t (Some e.0) (holder fs s)) z.0 ∙ ih f z.1

pub joined_holder : (es : Events) (c s : Name) (b : Composite) → lookup c es ≡ Some (composite b) → holder es s ≡ None → holder (change es c (with_sub s)) s ≡ Some c
joined_holder [] c s b f h = cc
joined_holder (e ∷ es) c s b f h = join_case (same c e.0) e es (change es c (with_sub s)) c s b refl f h (joined_holder es c s b)

record Joined (s : Name) (t : Bool) (o : Option Event) (k : Composite) : Type 0 where
  body : Composite
  found : o ≡ Some (composite body)
  subs : k.subs ≡ cond t (body.subs ++ s ∷ []) body.subs
  queued : k.queued ≡ body.queued

joined_same : (s : Name) (o : Option Event) (k : Composite) → option_map (with_sub s) o ≡ Some (composite k) → Joined s true o k
joined_same s None k h = cc
joined_same s (Some (atomic a)) k h = cc
joined_same s (Some (composite b)) k h =
    let m : Composite = record { all = b.all; subs = b.subs ++ s ∷ []; queued = b.queued } in
    let e : m ≡ k = cc in
    record { body = b; found = refl; subs = ap (λ x. x.subs) (sym e); queued = ap (λ x. x.queued) (sym e) }

joined : (s : Name) (t : Bool) (o : Option Event) (k : Composite) → cond t (option_map (with_sub s) o) o ≡ Some (composite k) → Joined s t o k
joined s true o k h = joined_same s o k h
joined s false o k h = record { body = k; found = h; subs = refl; queued = refl }

no_home_has : (t : Bool) (es : Events) (s x : Name) (k : Composite) → IsSoundComposite es x k → holder es s ≡ None → has k.subs s ≡ t → has k.subs s ≡ false
no_home_has true es s x k o h e = let z : holder es s ≡ Some x = o.alone s e in cc
no_home_has false es s x k o h e = e

has_then : (t : Bool) (s : Name) (xs : List Name) (n : Name) → has (cond t (xs ++ s ∷ []) xs) n ≡ (has xs n || (t && same s n))
has_then true s xs n = has_push xs s n
has_then false s xs n = sym (or_right (has xs n) false refl)

times_then : (t : Bool) (s : Name) (xs : List Name) (n : Name) → times n (cond t (xs ++ s ∷ []) xs) ≡ times n xs + one_if (t && same s n)
times_then true s xs n = times_push n s xs
times_then false s xs n = omega arith

push_once : (t h : Bool) (many : ℕ) → (t ≡ true → h ≡ false) → many ≡ one_if h → many + one_if t ≡ one_if (h || t)
push_once true true many f g = let x : true ≡ false = f refl in cc
push_once true false many f g = omega (arith, g)
push_once false true many f g = omega (arith, g)
push_once false false many f g = omega (arith, g)

short_then : (t : Bool) (xs : List Name) (s : Name) → (t ≡ true → length xs < 32) → length xs ≤ 32 → length (cond t (xs ++ s ∷ []) xs) ≤ 32
short_then true xs s f h = let z : length xs < 32 = f refl in omega (arith, z, more xs)
  where
    more : (ys : List Name) → length (ys ++ s ∷ []) ≡ length ys + 1
    more [] = refl
    more (y ∷ ys) = omega (arith, more ys)
short_then false xs s f h = h

and_true : (a b : Bool) → (a && b) ≡ true → (a ≡ true) × (b ≡ true)
and_true true b h = (refl, h)
and_true false b h = cc

module _ (es : Events) (c s : Name) (b : Composite) (o : AreSoundEvents es) (f : lookup c es ≡ Some (composite b)) (short : length b.subs < 32) (ok : SubOk es [] s) where
  missing : (x : Name) (k : Composite) → lookup x es ≡ Some (composite k) → has k.subs s ≡ false
  missing x k g = no_home_has (has k.subs s) es s x k (o.composites x k g) ok.unheld refl

  missing_at : (x : Name) (k : Composite) (t : Bool) (n : Name) → lookup x es ≡ Some (composite k) → (t && same s n) ≡ true → has k.subs n ≡ false
  missing_at x k t n g h = subst (λ m. has k.subs m ≡ false) (same_exact s n (and_true t (same s n) h).1) (missing x k g)

  now_atomic : (n : Name) → is_atomic (lookup n (change es c (with_sub s))) ≡ is_atomic (lookup n es)
  now_atomic n = read-change is_atomic es c n (with_sub s) (join_atomic s)

  now_fired : (n : Name) → is_fired_atomic (lookup n (change es c (with_sub s))) ≡ is_fired_atomic (lookup n es)
  now_fired n = read-change is_fired_atomic es c n (with_sub s) (join_fired s)

  pub now_holder : (n : Name) → same s n ≡ false → holder (change es c (with_sub s)) n ≡ holder es n
  now_holder n d = holder-change es c n (with_sub s) (join_lists s n d)

  member_atomic : (h t : Bool) (x : Name) (k : Composite) (n : Name) → IsSoundComposite es x k → has k.subs n ≡ h → (h || (t && same s n)) ≡ true → is_atomic (lookup n es) ≡ true
  member_atomic true t x k n w e g = w.atomics n e
  member_atomic false t x k n w e g = subst (λ m. is_atomic (lookup m es) ≡ true) (same_exact s n (and_true t (same s n) g).1) ok.is_one

  differs_by : (q : Bool) (x : Name) (k : Composite) (n : Name) → lookup x es ≡ Some (composite k) → has k.subs n ≡ true → same s n ≡ q → same s n ≡ false
  differs_by true x k n g h e = let z : has k.subs n ≡ false = subst (λ m. has k.subs m ≡ false) (same_exact s n e) (missing x k g) in cc
  differs_by false x k n g h e = e

  member_holder : (h t : Bool) (x : Name) (k : Composite) (n : Name) → same c x ≡ t → lookup x es ≡ Some (composite k) → IsSoundComposite es x k → has k.subs n ≡ h → (h || (t && same s n)) ≡ true
      → holder (change es c (with_sub s)) n ≡ Some x
  member_holder true t x k n i g w e q = now_holder n (differs_by (same s n) x k n g e refl) ∙ w.alone n e
  member_holder false t x k n i g w e q =
      let z = and_true t (same s n) q in
      subst (λ m. holder (change es c (with_sub s)) m ≡ Some x) (same_exact s n z.1) (joined_holder es c s b f ok.unheld ∙ ap Some (same_exact c x (i ∙ z.0)))

  waiting : (h q : Bool) (k : Composite) (n : Name) (many : ℕ) → (q ≡ true → is_fired_atomic (lookup n es) ≡ false) → (q ≡ true → h ≡ false) → many ≡ one_if (h && is_fired_atomic (lookup n es))
      → many ≡ one_if ((h || q) && is_fired_atomic (lookup n es))
  waiting true q k n many u v g = g
  waiting false true k n many u v g = g ∙ sym (ap one_if (u refl))
  waiting false false k n many u v g = g

  each : (x : Name) (k : Composite) → Joined s (same c x) (lookup x es) k → IsSoundComposite (change es c (with_sub s)) x k
  each x k l =
      let w = o.composites x l.body l.found in
      let t = same c x in
      let subs : (n : Name) → has k.subs n ≡ (has l.body.subs n || (same c x && same s n)) = λ n. ap (λ y. has y n) l.subs ∙ has_then (same c x) s l.body.subs n in
      record {
        few = subst (λ y. length y ≤ 32) (sym l.subs) (short_then (same c x) l.body.subs s
            (λ e. let m : b ≡ l.body = cc (f, l.found, ap (λ m. lookup m es) (same_exact c x e)) in subst (λ (y : Composite). length y.subs < 32) m short) w.few);
        once = λ n.
            ap (times n) l.subs ∙ times_then (same c x) s l.body.subs n
            ∙ push_once (same c x && same s n) (has l.body.subs n) (times n l.body.subs) (missing_at x l.body (same c x) n l.found) (w.once n) ∙ sym (ap one_if (subs n));
        atomics = λ n g. now_atomic n ∙ member_atomic (has l.body.subs n) (same c x) x l.body n w refl (sym (subs n) ∙ g);
        alone = λ n g. member_holder (has l.body.subs n) (same c x) x l.body n refl l.found w refl (sym (subs n) ∙ g);
        queue = λ n.
            ap (times n) l.queued
            ∙ waiting (has l.body.subs n) (same c x && same s n) k n (times n l.body.queued)
            (λ e. subst (λ m. is_fired_atomic (lookup m es) ≡ false) (same_exact s n (and_true (same c x) (same s n) e).1) ok.unfired)
            (missing_at x l.body (same c x) n l.found) (w.queue n)
            ∙ sym (ap (λ y. one_if (y && is_fired_atomic (lookup n (change es c (with_sub s))))) (subs n) ∙ ap (λ y. one_if ((has l.body.subs n || (same c x && same s n)) && y)) (now_fired n));
      }

  pub joined_sound : AreSoundEvents (change es c (with_sub s))
  joined_sound = record {
    ordered = subst (λ ks. IsStrictlySortedBy (slice_cmp nat_cmp) ks) (sym (keys-change es c (with_sub s))) o.ordered;
    few = subst (λ n. n ≤ 256) (sym (length-change es c (with_sub s))) o.few;
    unnamed = lookup_none_change es c initial_name (with_sub s) o.unnamed;
    composites = λ x k g. each x k (joined s (same c x) (lookup x es) k (sym (lookup-change es c x (with_sub s)) ∙ g));
  }

fit_join : (n s : Name) (t : Bool) (o : Option Event) (h : Option Name) (many : ℕ) → EntriesFit n o h many → EntriesFit n (cond t (option_map (with_sub s) o) o) h many
fit_join n s true None h many f = f
fit_join n s true (Some (atomic a)) h many f = f
fit_join n s true (Some (composite k)) h many f = tt
fit_join n s false o h many f = f

join_fit : (t : Bool) (p : Pool) (c s n : Name) (b : Composite) → same s n ≡ t → IsSoundPool p → lookup c p.events ≡ Some (composite b) → length b.subs < 32 → SubOk p.events [] s
    → EntriesFit n (lookup n p.events) (holder (change p.events c (with_sub s)) n) (entries_of n p.entries)
join_fit true p c s n b e o f short ok =
    let same = same_exact s n e in
    let h' : holder (change p.events c (with_sub s)) n ≡ Some c = subst (λ m. holder (change p.events c (with_sub s)) m ≡ Some c) same (joined_holder p.events c s b f ok.unheld) in
    subst (λ x. EntriesFit n (lookup n p.events) x (entries_of n p.entries)) (sym h')
    (adopt n c (lookup n p.events) (entries_of n p.entries) (subst (λ m. is_atomic (lookup m p.events) ≡ true) same ok.is_one) (subst (λ m. is_fired_atomic (lookup m p.events) ≡ false) same ok.unfired)
    (subst (λ x. EntriesFit n (lookup n p.events) x (entries_of n p.entries)) (subst (λ m. holder p.events m ≡ None) same ok.unheld) (o.entries n)))
join_fit false p c s n b e o f short ok =
    subst (λ x. EntriesFit n (lookup n p.events) x (entries_of n p.entries)) (sym (now_holder p.events c s b o.events f short ok n e)) (o.entries n)

added_sound : (p : Pool) (c s : Name) (b : Composite) → IsSoundPool p → lookup c p.events ≡ Some (composite b) → length b.subs < 32 → SubOk p.events [] s
    → (let q : Pool = record { events = change p.events c (with_sub s); entries = p.entries; last = p.last } in IsSoundPool q)
added_sound p c s b o f short ok = record {
  events = joined_sound p.events c s b o.events f short ok;
  entries = λ n.
      subst (λ x. EntriesFit n x (holder (change p.events c (with_sub s)) n) (entries_of n p.entries)) (sym (lookup-change p.events c n (with_sub s)))
      (fit_join n s (same c n) (lookup n p.events) _ (entries_of n p.entries) (join_fit (same s n) p c s n b refl o f short ok));
  numbers = o.numbers;
}

-- where no refusal holds
add_by : (p : Pool) (c s : Name) (e : Option Event) → lookup c p.events ≡ e → IsSoundPool p → not_composite e ≡ None → sub_refusal p.events [] s ≡ None → when (is_full_composite e) reason.Limit ≡ None
    → (let q : Pool = record { events = change p.events c (with_sub s); entries = p.entries; last = p.last } in IsSoundPool q)
add_by p c s None e o g h l = cc
add_by p c s (Some (atomic a)) e o g h l = cc
add_by p c s (Some (composite b)) e o g h l = added_sound p c s b o e (leb-false 32 (length b.subs) (not_when (nat_le 32 (length b.subs)) reason.Limit l)) (sub_ok p.events [] s h)

pub add_sound : (p : Pool) (c s : Name) → IsSoundPool p → add_refusal c s p.events ≡ None
    → (let q : Pool = record { events = change p.events c (with_sub s); entries = p.entries; last = p.last } in IsSoundPool q)
add_sound p c s o h =
    let z = or_none (not_composite (lookup c p.events)) _ h in
    let y = or_none (sub_refusal p.events [] s) (when (is_full_composite (lookup c p.events)) reason.Limit) z.1 in
    add_by p c s (lookup c p.events) refl o z.0 y.0 y.1
