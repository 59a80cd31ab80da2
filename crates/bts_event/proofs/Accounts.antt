-- What calls do to the queue.
use Rattle.std.proofs.Common.{◌≡◌, ℕ, ◌+◌, ◌≤◌, Bool, true, false, cond, not, ◌&&◌, List, [], ◌∷◌, ◌++◌, length, nat_lt, Option, Some, None, Result, Ok, Err, refl, ap, sym, subst, append-nil, ◌∙◌, arith}
use Rattle.std.specs.Option.{is_some}
use Rattle.std.specs.List.{filter}
use Rattle.std.specs.List.Sorted.{IsStrictlySortedBy}
use Rattle.std.specs.Ordering.{nat_cmp}
use Rattle.std.specs.Cmp.Lexicographic.{slice_cmp}
use Rattle.std.proofs.lemmas.Bool.{le-ltb, lt-ltb}
use Rattle.bts_event.specs.declared.queue.Entry.{Entry}
use Rattle.bts_event.specs.declared.event.Event.{Event}
use Rattle.bts_event.specs.declared.event.Event.TheVariants.{Atomic as atomic, Composite as composite}
use Rattle.bts_names.specs.declared.reply.Reason.{Reason}
use Rattle.bts_names.specs.declared.state.EventKind.{EventKind}
use Rattle.bts_event.proofs.Bits.{retrieved_sound, rises_bound, rises_dropped, rises_lower}
use Rattle.bts_event.proofs.Leaves.{may_leave, sub_left}
use Rattle.bts_event.proofs.Settling.{added_calm, added_sound_at, atomic_defined, composite_define_sound, composite_defined, define_sound, delete_sound, deleted_at, fire_sound, fired_alone, fired_within, leave_sound, left_alone, remove_sound, unfire_sound}
use Rattle.bts_event.proofs.SubCalls.{started_sound, sub_fired, sub_retrieved_sound}
use Rattle.bts_event.specs.Calls.{AreOwed, Call, CallerOwes, add_subevent, after, behind, clear, define, define_composite, delete, dropped_unless, fire, kept, made, made_by, remove, remove_subevent, rest_of_queue, retrieve, retrieve_subevent, start, unfire, unless}
use Rattle.bts_event.specs.Events.{Events, change, held_at, holder, is_atomic, is_composite, new_atomic, new_composite, without_sub}
use Rattle.bts_event.specs.Pool.{Pool, cleared, defined, deleted, deleted_from, dropped, entered, fired, first_taken, next_subevent, removed_at, subevent_added, subevent_removed, subevent_taken, with_unfired, withdrawn}
use Rattle.bts_event.specs.Refusals.{add_refusal, composite_refusal, define_refusal, delete_refusal, fire_refusal, leave_refusal}
use Rattle.bts_event.specs.Sound.{EntriesFit, IsSoundPool, Rises, entries_of, one_if}
use Rattle.bts_names.specs.Named.{is_there, lookup, without}
use Rattle.bts_names.specs.Names.{Name, initial_name, same}

-- ---- what is kept

unless_sound : (o : Option Reason) (p q : Pool) → IsSoundPool p → (o ≡ None → IsSoundPool q) → IsSoundPool (unless o q p)
unless_sound None p q s f = f refl
unless_sound (Some r) p q s f = s

removed_sound_by : (o : Option Event) (p : Pool) (n : Name) → lookup n p.events ≡ o → IsSoundPool p → is_composite (lookup n p.events) ≡ false → IsSoundPool (removed_at o n p)
removed_sound_by None p n e s h = s
removed_sound_by (Some v) p n e s h = remove_sound p n s h (ap is_some e)

nothing_sorted : IsStrictlySortedBy (slice_cmp nat_cmp) []
unfolding IsStrictlySortedBy
nothing_sorted = tt

pub clear_sound : (p : Pool) → IsSoundPool (cleared p)
clear_sound p = record {
  events = record { ordered = nothing_sorted; few = omega arith; unnamed = refl; composites = λ c k h. cc };
  entries = λ n. λ h. refl;
  numbers = omega arith;
}

first_sound : (q : List Entry) (p : Pool) → p.entries ≡ q → IsSoundPool p → IsSoundPool (first_taken q p)
first_sound [] p e s = s
first_sound (x ∷ xs) p e s = retrieved_sound p x xs e s

subevent_sound : (o : Result (Name × EventKind) Reason) (c : Name) (p : Pool) → next_subevent c p ≡ o → IsSoundPool p → IsSoundPool (subevent_taken o c p)
subevent_sound (Err r) c p e s = s
subevent_sound (Ok (n, k)) c p e s = sub_retrieved_sound p c n k s e

pub after_sound : (call : Call) (p : Pool) → CallerOwes call p → IsSoundPool p → IsSoundPool (after call p)
after_sound (define n trigger) p o s = unless_sound (define_refusal n p.events) p (defined n (new_atomic trigger) p) s (λ r. define_sound p n trigger s r o)
after_sound (define_composite n all subs) p o s =
    unless_sound (composite_refusal n subs p.events) p (defined n (new_composite all subs) p) s (λ r. composite_define_sound p n all subs s r o.0 o.1)
after_sound (add_subevent c n) p o s = unless_sound (add_refusal c n p.events) p (subevent_added c n p) s (λ r. added_sound_at p c n s r)
after_sound (remove_subevent c n) p o s = unless_sound (leave_refusal c n p.events) p (subevent_removed c n p) s (λ r. leave_sound p c n s r)
after_sound (delete n) p o s = unless_sound (delete_refusal n p.events) p (deleted n p) s (λ r. delete_sound p n s r)
after_sound (remove n) p o s = removed_sound_by (lookup n p.events) p n refl s o
after_sound (fire n) p o s = unless_sound (fire_refusal n p.events) p (fired n p) s (λ r. fire_sound p n s r)
after_sound (unfire n) p o s = unfire_sound p n s o
after_sound start p o s = started_sound p s
after_sound clear p o s = clear_sound p
after_sound retrieve p o s = first_sound p.entries p refl s
after_sound (retrieve_subevent c) p o s = subevent_sound (next_subevent c p) c p refl s

pub behind_sound : (calls : List Call) (p : Pool) → AreOwed calls p → IsSoundPool p → IsSoundPool (behind calls p)
behind_sound [] p o s = s
behind_sound (c ∷ cs) p o s = behind_sound cs (after c p) o.1 (after_sound c p o.0 s)

-- ---- what is gained

-- behind a call stand the entries that it kept, and at most one more, of the next number
pub data Gains (p : Pool) (keeps : List Entry) (q : Pool) : Type 0 where
  nothing : q.entries ≡ keeps → q.last ≡ p.last → Gains p keeps q
  one : (c : Name) → (let e : Entry = record { name = c; number = p.last + 1 } in q.entries ≡ keeps ++ e ∷ []) → q.last ≡ p.last + 1 → Gains p keeps q

settle_gains : (t : Bool) (p q : Pool) (keeps : List Entry) (c : Name) → q.entries ≡ keeps → q.last ≡ p.last → Gains p keeps (cond t (entered c q) q)
settle_gains true p q keeps c e l =
    one c
    (ap (λ (xs : List Entry). let x : Entry = record { name = c; number = q.last + 1 } in xs ++ x ∷ []) e
    ∙ ap (λ (n : ℕ). let x : Entry = record { name = c; number = n + 1 } in keeps ++ x ∷ []) l)
    (ap (λ n. n + 1) l)
settle_gains false p q keeps c e l = nothing e l

unless_gains : (o : Option Reason) (p q : Pool) → (o ≡ None → Gains p p.entries q) → Gains p p.entries (unless o q p)
unless_gains None p q f = f refl
unless_gains (Some r) p q f = nothing refl refl

unless_drops : (o : Option Reason) (p q : Pool) (n : Name) → (o ≡ None → Gains p (dropped p.entries n) q) → Gains p (dropped_unless o n p.entries) (unless o q p)
unless_drops None p q n f = f refl
unless_drops (Some r) p q n f = nothing refl refl

delete_gains : (o : Option Name) (p : Pool) (n : Name) → Gains p (dropped p.entries n) (deleted_from o n p)
delete_gains None p n = nothing refl refl
delete_gains (Some c) p n =
    let q : Pool = record { events = without n (change p.events c (without_sub n)); entries = dropped p.entries n; last = p.last } in
    settle_gains (not (held_at p.events c) && held_at q.events c) p q (dropped p.entries n) c refl refl

deletes : (p : Pool) (n : Name) → IsSoundPool p → Gains p (dropped p.entries n) (deleted n p)
deletes p n s = subst (λ q. Gains p (dropped p.entries n) q) (sym (deleted_at p n s)) (delete_gains (holder p.events n) p n)

remove_gains : (o : Option Event) (p : Pool) (n : Name) → IsSoundPool p → Gains p (cond (is_some o) (dropped p.entries n) p.entries) (removed_at o n p)
remove_gains None p n s = nothing refl refl
remove_gains (Some v) p n s = deletes p n s

fire_gains : (o : Option Name) (p : Pool) (n : Name) → holder p.events n ≡ o → IsSoundPool p → Gains p p.entries (fired n p)
fire_gains None p n h s = subst (λ q. Gains p p.entries q) (sym (fired_alone p n s h)) (one n refl refl)
fire_gains (Some c) p n h s =
    let q = sub_fired p n c in
    subst (λ x. Gains p p.entries x) (sym (fired_within p n c s h)) (settle_gains (not (held_at p.events c) && held_at q.events c) p q p.entries c refl refl)

none_there : (t : Bool) (m : ℕ) → one_if t + m ≡ 0 → (t ≡ false) × (m ≡ 0)
none_there true m h = absurd (omega arith)
none_there false m h = (refl, omega (arith, h))

pub dropped_same : (n : Name) (q : List Entry) → entries_of n q ≡ 0 → dropped q n ≡ q
dropped_same n [] h = refl
dropped_same n (e ∷ es) h =
    let z = none_there (same e.name n) (entries_of n es) h in
    ap (λ t. cond (not t) (e ∷ dropped es n) (dropped es n)) z.0 ∙ ap (λ xs. e ∷ xs) (dropped_same n es z.1)

no_entries : (n c : Name) (o : Option Event) (many : ℕ) → is_atomic o ≡ true → EntriesFit n o (Some c) many → many ≡ 0
no_entries n c None many a f = cc
no_entries n c (Some (atomic e)) many a f = f
no_entries n c (Some (composite k)) many a f = cc

unfire_gains : (o : Option Name) (p : Pool) (n : Name) → holder p.events n ≡ o → IsSoundPool p → is_atomic (lookup n p.events) ≡ true → Gains p (dropped p.entries n) (with_unfired n (withdrawn n o p))
unfire_gains None p n h s a = nothing refl refl
unfire_gains (Some c) p n h s a =
    let z : entries_of n p.entries ≡ 0 =
    no_entries n c (lookup n p.events) (entries_of n p.entries) a (subst (λ x. EntriesFit n (lookup n p.events) x (entries_of n p.entries)) h (s.entries n)) in
    nothing (sym (dropped_same n p.entries z)) refl

first_gains : (q : List Entry) (p : Pool) → p.entries ≡ q → Gains p (rest_of_queue q) (first_taken q p)
first_gains [] p e = nothing e refl
first_gains (x ∷ xs) p e = nothing refl refl

subevent_gains : (o : Result (Name × EventKind) Reason) (c : Name) (p : Pool) → Gains p p.entries (subevent_taken o c p)
subevent_gains (Err r) c p = nothing refl refl
subevent_gains (Ok (n, k)) c p = nothing refl refl

composite_there : (es : Events) (c s : Name) → leave_refusal c s es ≡ None → is_composite (lookup c es) ≡ true
composite_there es c s r = let m = may_leave es c s (lookup c es) refl r in ap is_composite m.found

pub gains : (call : Call) (p : Pool) → CallerOwes call p → IsSoundPool p → Gains p (kept call p) (after call p)
gains (define n trigger) p o s =
    unless_gains (define_refusal n p.events) p (defined n (new_atomic trigger) p)
    (λ r. subst (λ q. Gains p p.entries q) (sym (atomic_defined p n trigger s r)) (nothing refl refl))
gains (define_composite n all subs) p o s =
    unless_gains (composite_refusal n subs p.events) p (defined n (new_composite all subs) p)
    (λ r. subst (λ q. Gains p p.entries q) (sym (composite_defined p n all subs s r)) (nothing refl refl))
gains (add_subevent c n) p o s =
    unless_gains (add_refusal c n p.events) p (subevent_added c n p) (λ r. subst (λ q. Gains p p.entries q) (sym (added_calm p c n r)) (nothing refl refl))
gains (remove_subevent c n) p o s =
    unless_gains (leave_refusal c n p.events) p (subevent_removed c n p)
    (λ r.
    let q = sub_left p c n in
    subst (λ x. Gains p p.entries x) (sym (left_alone p c n s (composite_there p.events c n r)))
    (settle_gains (not (held_at p.events c) && held_at q.events c) p q p.entries c refl refl))
gains (delete n) p o s = unless_drops (delete_refusal n p.events) p (deleted n p) n (λ r. deletes p n s)
gains (remove n) p o s = remove_gains (lookup n p.events) p n s
gains (fire n) p o s = unless_gains (fire_refusal n p.events) p (fired n p) (λ r. fire_gains (holder p.events n) p n refl s)
gains (unfire n) p o s = unfire_gains (holder p.events n) p n refl s o
gains start p o s = one initial_name refl refl
gains clear p o s = nothing refl refl
gains retrieve p o s = first_gains p.entries p refl
gains (retrieve_subevent c) p o s = subevent_gains (next_subevent c p) c p

-- ---- the entries that are kept have old numbers

kept_unless : (o : Option Reason) (n : Name) (q : List Entry) (last : ℕ) → Rises 0 q last → Rises 0 (dropped_unless o n q) last
kept_unless None n q last r = rises_dropped 0 q last n r
kept_unless (Some w) n q last r = r

kept_if : (t : Bool) (n : Name) (q : List Entry) (last : ℕ) → Rises 0 q last → Rises 0 (cond t (dropped q n) q) last
kept_if true n q last r = rises_dropped 0 q last n r
kept_if false n q last r = r

kept_rest : (q : List Entry) (last : ℕ) → Rises 0 q last → Rises 0 (rest_of_queue q) last
kept_rest [] last r = r
kept_rest (e ∷ es) last r = rises_lower (e.number + 1) 0 es last (omega arith) r.1

kept_rises : (call : Call) (p : Pool) → IsSoundPool p → Rises 0 (kept call p) p.last
kept_rises (define n trigger) p s = s.numbers
kept_rises (define_composite n all subs) p s = s.numbers
kept_rises (add_subevent c n) p s = s.numbers
kept_rises (remove_subevent c n) p s = s.numbers
kept_rises (delete n) p s = kept_unless (delete_refusal n p.events) n p.entries p.last s.numbers
kept_rises (remove n) p s = kept_if (is_there n p.events) n p.entries p.last s.numbers
kept_rises (fire n) p s = s.numbers
kept_rises (unfire n) p s = rises_dropped 0 p.entries p.last n s.numbers
kept_rises start p s = s.numbers
kept_rises clear p s = omega arith
kept_rises retrieve p s = kept_rest p.entries p.last s.numbers
kept_rises (retrieve_subevent c) p s = s.numbers

abbrev is_new : ℕ → Entry → Bool
is_new last e = nat_lt last e.number

skip_old : (t : Bool) (e : Entry) (es : List Entry) → t ≡ false → cond t (e ∷ es) es ≡ es
skip_old true e es h = cc
skip_old false e es h = refl

at_most : (n last : ℕ) → n + 1 ≤ last + 1 → n ≤ last
at_most n last h = omega arith

new_only : (low : ℕ) (q more : List Entry) (last : ℕ) → Rises low q last → filter (is_new last) (q ++ more) ≡ filter (is_new last) more
new_only low [] more last r = refl
new_only low (e ∷ es) more last r =
    skip_old (nat_lt last e.number) e (filter (is_new last) (es ++ more)) (le-ltb last e.number (at_most e.number last (rises_bound (e.number + 1) es last r.1)))
    ∙ new_only (e.number + 1) es more last r.1

-- what a call makes
pub data Makes (p q : Pool) (m : List Entry) : Type 0 where
  nothing : m ≡ [] → q.last ≡ p.last → Makes p q m
  one : (c : Name) → (let e : Entry = record { name = c; number = p.last + 1 } in m ≡ e ∷ []) → q.last ≡ p.last + 1 → Makes p q m

keep_one : (t : Bool) (e : Entry) → t ≡ true → cond t (e ∷ []) [] ≡ e ∷ []
keep_one true e h = refl
keep_one false e h = cc

makes_by : (p q : Pool) (keeps : List Entry) → Rises 0 keeps p.last → Gains p keeps q → Makes p q (filter (is_new p.last) q.entries)
makes_by p q keeps r (nothing e l) =
    nothing (ap (filter (is_new p.last)) (e ∙ sym (append-nil keeps)) ∙ new_only 0 keeps [] p.last r) l
makes_by p q keeps r (one c e l) =
    let x : Entry = record { name = c; number = p.last + 1 } in
    one c
    (ap (filter (is_new p.last)) e ∙ new_only 0 keeps (x ∷ []) p.last r ∙ keep_one (nat_lt p.last (p.last + 1)) x (lt-ltb p.last (p.last + 1) (omega arith)))
    l

pub makes : (call : Call) (p : Pool) → CallerOwes call p → IsSoundPool p → Makes p (after call p) (made call p)
makes call p o s = makes_by p (after call p) (kept call p) (kept_rises call p s) (gains call p o s)

few_by : (p q : Pool) (m : List Entry) → Makes p q m → length m ≤ 1
few_by p q m (nothing e l) = let n : length m ≡ 0 = ap length e in omega (arith, n)
few_by p q m (one c e l) = let n : length m ≡ 1 = ap length e in omega (arith, n)

pub made_few : (call : Call) (p : Pool) → CallerOwes call p → IsSoundPool p → length (made call p) ≤ 1
made_few call p o s = few_by p (after call p) (made call p) (makes call p o s)

parts_by : (p q : Pool) (keeps m : List Entry) → m ≡ filter (is_new p.last) q.entries → Rises 0 keeps p.last → Gains p keeps q → q.entries ≡ keeps ++ m
parts_by p q keeps m i r (nothing e l) =
    let z : m ≡ [] = i ∙ ap (filter (is_new p.last)) (e ∙ sym (append-nil keeps)) ∙ new_only 0 keeps [] p.last r in
    e ∙ sym (append-nil keeps) ∙ sym (ap (λ xs. keeps ++ xs) z)
parts_by p q keeps m i r (one c e l) =
    let x : Entry = record { name = c; number = p.last + 1 } in
    let z : m ≡ x ∷ [] =
    i ∙ ap (filter (is_new p.last)) e ∙ new_only 0 keeps (x ∷ []) p.last r ∙ keep_one (nat_lt p.last (p.last + 1)) x (lt-ltb p.last (p.last + 1) (omega arith)) in
    e ∙ sym (ap (λ xs. keeps ++ xs) z)

pub parts : (call : Call) (p : Pool) → CallerOwes call p → IsSoundPool p → (after call p).entries ≡ kept call p ++ made call p
parts call p o s = parts_by p (after call p) (kept call p) (made call p) refl (kept_rises call p s) (gains call p o s)

-- ---- numbers over a list of calls

rises_on : (p q : Pool) (m rest : List Entry) (end : ℕ) → Makes p q m → Rises (q.last + 1) rest end → Rises (p.last + 1) (m ++ rest) end
rises_on p q m rest end (nothing e l) r = subst (λ xs. Rises (p.last + 1) (xs ++ rest) end) (sym e) (subst (λ n. Rises (n + 1) rest end) l r)
rises_on p q m rest end (one c e l) r =
    subst (λ xs. Rises (p.last + 1) (xs ++ rest) end) (sym e) (omega arith, subst (λ n. Rises (n + 1) rest end) l r)

pub numbers_rise : (calls : List Call) (p : Pool) → AreOwed calls p → IsSoundPool p → Rises (p.last + 1) (made_by calls p) (behind calls p).last
numbers_rise [] p o s = omega arith
numbers_rise (c ∷ cs) p o s =
    rises_on p (after c p) (made c p) (made_by cs (after c p)) (behind cs (after c p)).last (makes c p o.0 s) (numbers_rise cs (after c p) o.1 (after_sound c p o.0 s))
