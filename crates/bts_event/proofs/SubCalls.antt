-- Soundness of the calls that touch a sub-event.
use Rattle.std.proofs.Common.{◌≡◌, ℕ, ◌+◌, Bool, true, false, cond, not, ◌&&◌, List, [], ◌∷◌, ◌++◌, Option, Some, None, Ok, refl, ap, sym, subst, ◌∙◌, arith}
use Rattle.std.specs.Option.{option_map}
use Rattle.bts_event.specs.declared.event.Event.{Event}
use Rattle.bts_event.specs.declared.event.Event.TheVariants.{Atomic as atomic, Composite as composite}
use Rattle.bts_names.specs.declared.state.EventKind.{EventKind}
use Rattle.bts_event.proofs.Bits.{drop_sum, entries_push, not_both, rises_push, same_left, zero_if}
use Rattle.bts_event.proofs.Readings.{lookup-change, read-change}
use Rattle.bts_event.proofs.Same.{same_refl, same_sym}
use Rattle.bts_event.proofs.Subs.{Owns, QueueFits, after_holder, owned, requeued_sound}
use Rattle.bts_event.specs.Composites.{Composite}
use Rattle.bts_event.specs.Events.{Events, change, entry_kind, except, has, held_at, holder, is_atomic, is_composite, is_fired_atomic, requeue, rest_of, set_bit, with_bit, with_queued}
use Rattle.bts_event.specs.Pool.{Pool, entered, first_queued, settled_at, subevent_of}
use Rattle.bts_event.specs.Sound.{AreSoundEvents, EntriesFit, IsSoundPool, entries_of, one_if, times}
use Rattle.bts_names.specs.Named.{lookup}
use Rattle.bts_names.specs.Names.{Name, initial_name, same, same_exact}

-- ---- a composite's entry

fit_composite : (n : Name) (o : Option Event) (h : Option Name) (many : ℕ) → is_composite o ≡ true → EntriesFit n o h many
fit_composite n None h many c = cc
fit_composite n (Some (atomic a)) h many c = cc
fit_composite n (Some (composite k)) h many c = tt

enter_fit : (t : Bool) (p : Pool) (c n : Name) → same c n ≡ t → IsSoundPool p → is_composite (lookup c p.events) ≡ true
    → EntriesFit n (lookup n p.events) (holder p.events n) (entries_of n p.entries + one_if t)
enter_fit true p c n e s k = fit_composite n (lookup n p.events) (holder p.events n) _ (subst (λ m. is_composite (lookup m p.events) ≡ true) (same_exact c n e) k)
enter_fit false p c n e s k = let y : entries_of n p.entries ≡ entries_of n p.entries + 0 = omega arith in subst (EntriesFit n (lookup n p.events) (holder p.events n)) y (s.entries n)

pub entered_sound : (p : Pool) (c : Name) → IsSoundPool p → is_composite (lookup c p.events) ≡ true → IsSoundPool (entered c p)
entered_sound p c s k = record {
  events = s.events;
  entries = λ n. subst (EntriesFit n (lookup n p.events) (holder p.events n)) (sym (entries_push n c p.entries (p.last + 1))) (enter_fit (same c n) p c n refl s k);
  numbers = rises_push 0 p.entries p.last c s.numbers;
}

settle_by : (t : Bool) (p : Pool) (c : Name) → IsSoundPool p → is_composite (lookup c p.events) ≡ true → IsSoundPool (cond t (entered c p) p)
settle_by true p c s k = entered_sound p c s k
settle_by false p c s k = s

pub settled_sound : (b : Bool) (p : Pool) (c : Name) → IsSoundPool p → is_composite (lookup c p.events) ≡ true → IsSoundPool (settled_at b c p)
settled_sound b p c s k = settle_by (not b && held_at p.events c) p c s k

queue_composite : (g : List Name → List Name) (o : Option Event) → is_composite (option_map (requeue g) o) ≡ is_composite o
queue_composite g None = refl
queue_composite g (Some (atomic a)) = refl
queue_composite g (Some (composite k)) = refl

bit_composite : (b : Bool) (o : Option Event) → is_composite (option_map (with_bit b) o) ≡ is_composite o
bit_composite b None = refl
bit_composite b (Some (atomic a)) = refl
bit_composite b (Some (composite k)) = refl

pub after_composite : (es : Events) (c : Name) (g : List Name → List Name) (name : Name) (b : Bool) (n : Name)
    → is_composite (lookup n (set_bit (change es c (requeue g)) name b)) ≡ is_composite (lookup n es)
after_composite es c g name b n =
    read-change is_composite (change es c (requeue g)) name n (with_bit b) (bit_composite b) ∙ read-change is_composite es c n (requeue g) (queue_composite g)

pub owner_composite : (es : Events) (s c : Name) → Owns es s c → is_composite (lookup c es) ≡ true
owner_composite es s c o = ap is_composite o.found

-- ---- entries stay

fit_queue : (n : Name) (g : List Name → List Name) (t : Bool) (o : Option Event) (h : Option Name) (many : ℕ) → EntriesFit n o h many → EntriesFit n (cond t (option_map (requeue g) o) o) h many
fit_queue n g true None h many f = f
fit_queue n g true (Some (atomic a)) h many f = f
fit_queue n g true (Some (composite k)) h many f = tt
fit_queue n g false o h many f = f

fit_bit : (n : Name) (b : Bool) (o : Option Event) (c : Name) (many : ℕ) → EntriesFit n o (Some c) many → EntriesFit n (option_map (with_bit b) o) (Some c) many
fit_bit n b None c many f = f
fit_bit n b (Some (atomic a)) c many f = f
fit_bit n b (Some (composite k)) c many f = tt

sub_fit : (t b : Bool) (es : Events) (name n c : Name) (o : Option Event) (many : ℕ) → same name n ≡ t → holder es name ≡ Some c
    → EntriesFit n o (holder es n) many → EntriesFit n (cond t (option_map (with_bit b) o) o) (holder es n) many
sub_fit true b es name n c o many e h f =
    let h' : holder es n ≡ Some c = subst (λ m. holder es m ≡ Some c) (same_exact name n e) h in
    subst (λ x. EntriesFit n (option_map (with_bit b) o) x many) (sym h') (fit_bit n b o c many (subst (λ x. EntriesFit n o x many) h' f))
sub_fit false b es name n c o many e h f = f

-- a change of the bit of a sub-event and of its composite's queue
pub sub_bit_sound : (p : Pool) (c : Name) (g : List Name → List Name) (name : Name) (b : Bool) → IsSoundPool p → holder p.events name ≡ Some c → QueueFits p.events c g name b
    → (let r : Pool = record { events = set_bit (change p.events c (requeue g)) name b; entries = p.entries; last = p.last } in IsSoundPool r)
sub_bit_sound p c g name b s h q = record {
  events = requeued_sound p.events c g name b s.events h q;
  entries = λ n.
      let es = change p.events c (requeue g) in
      subst (λ x. EntriesFit n (lookup n (set_bit es name b)) x (entries_of n p.entries)) (sym (after_holder p.events c g name b n))
      (subst (λ o. EntriesFit n o (holder p.events n) (entries_of n p.entries)) (sym (lookup-change es name n (with_bit b)))
      (sub_fit (same name n) b p.events name n c (lookup n es) (entries_of n p.entries) refl h
      (subst (λ o. EntriesFit n o (holder p.events n) (entries_of n p.entries)) (sym (lookup-change p.events c n (requeue g)))
      (fit_queue n g (same c n) (lookup n p.events) (holder p.events n) (entries_of n p.entries) (s.entries n)))));
  numbers = s.numbers;
}

-- ---- what the three calls do to the queue

pub times_push : (n s : Name) (xs : List Name) → times n (xs ++ s ∷ []) ≡ times n xs + one_if (same s n)
times_push n s [] = omega arith
times_push n s (x ∷ xs) = omega (arith, times_push n s xs)

times_cond : (t : Bool) (n x : Name) (xs : List Name) → times n (cond t (x ∷ xs) xs) ≡ cond t (one_if (same x n)) 0 + times n xs
times_cond true n x xs = refl
times_cond false n x xs = omega arith

pub times_but : (n s : Name) (xs : List Name) → times n (except xs s) ≡ cond (same s n) 0 (times n xs)
times_but n s [] = zero_if (same s n) 0 refl
times_but n s (x ∷ xs) =
    times_cond (not (same x s)) n x (except xs s)
    ∙ drop_sum (same x s) (same s n) (same x n) _ (times n xs) (same_left x s n) (not_both x s n) (times_but n s xs)

push_by : (t h a f : Bool) (many : ℕ) → (t ≡ true → h ≡ true) → (t ≡ true → a ≡ true) → (t ≡ true → f ≡ false) → many ≡ one_if (h && f)
    → many + one_if t ≡ one_if (h && cond t (a && true) f)
push_by true h a f many x y z m =
    let e : h ≡ true = x refl in let d : a ≡ true = y refl in let g : f ≡ false = z refl in
    rw (e, d) (let k : many ≡ 0 = m ∙ rw (e, g) refl in omega (arith, k))
push_by false h a f many x y z m = let k : many + 0 ≡ many = omega arith in k ∙ m

listed_in : (es : Events) (s c : Name) (k : Composite) → Owns es s c → lookup c es ≡ Some (composite k) → has k.subs s ≡ true
listed_in es s c k o h = let e : o.body ≡ k = cc (o.found, h) in ap (λ x. has x.subs s) (sym e) ∙ o.listed

pub push_fits : (es : Events) (c name : Name) → AreSoundEvents es → holder es name ≡ Some c → is_atomic (lookup name es) ≡ true → is_fired_atomic (lookup name es) ≡ false
    → QueueFits es c (λ q. q ++ name ∷ []) name true
push_fits es c name s h a f = λ k g n.
    times_push n name k.queued
    ∙ push_by (same name n) (has k.subs n) (is_atomic (lookup n es)) (is_fired_atomic (lookup n es)) (times n k.queued)
    (λ e. subst (λ m. has k.subs m ≡ true) (same_exact name n e) (listed_in es name c k (owned es name c s.ordered h) g))
    (λ e. subst (λ m. is_atomic (lookup m es) ≡ true) (same_exact name n e) a)
    (λ e. subst (λ m. is_fired_atomic (lookup m es) ≡ false) (same_exact name n e) f)
    ((s.composites c k g).queue n)

but_by : (t h a f : Bool) (many : ℕ) → many ≡ one_if (h && f) → cond t 0 many ≡ one_if (h && cond t (a && false) f)
but_by true true true f many m = refl
but_by true true false f many m = refl
but_by true false a f many m = refl
but_by false h a f many m = m

pub but_fits : (es : Events) (c name : Name) → AreSoundEvents es → QueueFits es c (λ q. except q name) name false
but_fits es c name s = λ k g n.
    times_but n name k.queued
    ∙ but_by (same name n) (has k.subs n) (is_atomic (lookup n es)) (is_fired_atomic (lookup n es)) (times n k.queued) ((s.composites c k g).queue n)

rest_by : (t h a f : Bool) (many : ℕ) → one_if t + many ≡ one_if (h && f) → many ≡ one_if (h && cond t (a && false) f)
rest_by true true true true many m = omega (arith, m)
rest_by true true false true many m = omega (arith, m)
rest_by true true a false many m = let z : 1 + many ≡ 0 = m in absurd (omega arith)
rest_by true false a f many m = let z : 1 + many ≡ 0 = m in absurd (omega arith)
rest_by false h a f many m = let z : 0 + many ≡ many = omega arith in sym z ∙ m

pub rest_fits : (es : Events) (c name : Name) (body : Composite) (ss : List Name) → AreSoundEvents es → lookup c es ≡ Some (composite body) → body.queued ≡ name ∷ ss
    → QueueFits es c rest_of name false
rest_fits es c name body ss s f q = λ k g n.
    let e : body ≡ k = cc (f, g) in
    let r : k.queued ≡ name ∷ ss = ap (λ x. x.queued) (sym e) ∙ q in
    ap (λ x. times n (rest_of x)) r
    ∙ rest_by (same name n) (has k.subs n) (is_atomic (lookup n es)) (is_fired_atomic (lookup n es)) (times n ss) (sym (ap (times n) r) ∙ (s.composites c k g).queue n)

queued_listed : (h f : Bool) (many : ℕ) → 1 + many ≡ one_if (h && f) → h ≡ true
queued_listed true f many m = refl
queued_listed false f many m = let z : 1 + many ≡ 0 = m in absurd (omega arith)

-- what stands in a composite's queue is its sub-event
pub queued_holder : (es : Events) (c name : Name) (body : Composite) (ss : List Name) → AreSoundEvents es → lookup c es ≡ Some (composite body) → body.queued ≡ name ∷ ss
    → holder es name ≡ Some c
queued_holder es c name body ss s f q =
    let sc = s.composites c body f in
    sc.alone name
    (queued_listed (has body.subs name) (is_fired_atomic (lookup name es)) (times name ss)
    (sym (ap (times name) q ∙ ap (λ t. one_if t + times name ss) (same_refl name)) ∙ sc.queue name))

-- ---- firing

-- the sub-event `name` of c is fired and waits last in its queue
abbrev pub sub_fired : Pool → Name → Name → Pool
sub_fired p name c = record { events = set_bit (change p.events c (with_queued name)) name true; entries = p.entries; last = p.last }

pub fired_sub_sound : (p : Pool) (name c : Name) → IsSoundPool p → holder p.events name ≡ Some c → is_atomic (lookup name p.events) ≡ true → is_fired_atomic (lookup name p.events) ≡ false
    → IsSoundPool (settled_at (held_at p.events c) c (sub_fired p name c))
fired_sub_sound p name c s h a f =
    let r : Pool = record { events = set_bit (change p.events c (with_queued name)) name true; entries = p.entries; last = p.last } in
    let g : List Name → List Name = λ q. q ++ name ∷ [] in
    settled_sound (held_at p.events c) r c
    (sub_bit_sound p c g name true s h (push_fits p.events c name s.events h a f))
    (after_composite p.events c g name true c ∙ owner_composite p.events name c (owned p.events name c s.events.ordered h))

-- ---- retrieving a sub-event

-- the name that waits first in a composite's queue
pub record Waits (o : Option Event) (s : Name) : Type 0 where
  pub body : Composite
  pub rest : List Name
  pub found : o ≡ Some (composite body)
  pub queued : body.queued ≡ s ∷ rest

first_is : (es : Events) (b : Composite) (q : List Name) (s : Name) (k : EventKind) → b.queued ≡ q → first_queued q es ≡ Ok (s, k) → Waits (Some (composite b)) s
first_is es b [] s k h g = cc
first_is es b (x ∷ xs) s k h g =
    let e : (x, entry_kind (lookup x es)) ≡ (s, k) = cc in
    record { body = b; rest = xs; found = refl; queued = h ∙ ap (λ (p : Name × EventKind). p.0 ∷ xs) e }

pub waits : (es : Events) (o : Option Event) (s : Name) (k : EventKind) → subevent_of o es ≡ Ok (s, k) → Waits o s
waits es None s k g = cc
waits es (Some (atomic a)) s k g = cc
waits es (Some (composite b)) s k g = first_is es b b.queued s k refl g

pub sub_retrieved_sound : (p : Pool) (c s : Name) (k : EventKind) → IsSoundPool p → subevent_of (lookup c p.events) p.events ≡ Ok (s, k)
    → (let r : Pool = record { events = set_bit (change p.events c (requeue rest_of)) s false; entries = p.entries; last = p.last } in IsSoundPool r)
sub_retrieved_sound p c s k o g =
    let w = waits p.events (lookup c p.events) s k g in
    sub_bit_sound p c rest_of s false o (queued_holder p.events c s w.body w.rest o.events w.found w.queued)
    (rest_fits p.events c s w.body w.rest o.events w.found w.queued)

-- ---- the system event

start_fit : (t : Bool) (p : Pool) (n : Name) → same initial_name n ≡ t → IsSoundPool p → EntriesFit n (lookup n p.events) (holder p.events n) (entries_of n p.entries + one_if t)
start_fit true p n e s =
    let z : lookup n p.events ≡ None = subst (λ m. lookup m p.events ≡ None) (same_exact initial_name n e) s.events.unnamed in
    let y : same n initial_name ≡ true = same_sym n initial_name ∙ e in
    subst (λ o. EntriesFit n o (holder p.events n) (entries_of n p.entries + 1)) (sym z) (λ d. let x : true ≡ false = sym y ∙ d in cc)
start_fit false p n e s = let y : entries_of n p.entries ≡ entries_of n p.entries + 0 = omega arith in subst (EntriesFit n (lookup n p.events) (holder p.events n)) y (s.entries n)

pub started_sound : (p : Pool) → IsSoundPool p → IsSoundPool (entered initial_name p)
started_sound p s = record {
  events = s.events;
  entries = λ n. subst (EntriesFit n (lookup n p.events) (holder p.events n)) (sym (entries_push n initial_name p.entries (p.last + 1))) (start_fit (same initial_name n) p n refl s);
  numbers = rises_push 0 p.entries p.last initial_name s.numbers;
}
