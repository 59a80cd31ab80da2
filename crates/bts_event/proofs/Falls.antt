-- Where a firing is taken away, no composite turns.
use Rattle.std.proofs.Common.{◌≡◌, Bool, true, false, cond, not, ◌&&◌, ◌||◌, List, [], ◌∷◌, length, nat_eq, Option, Some, None, Result, Ok, Err, refl, ap, sym, ◌∙◌}
use Rattle.std.specs.Option.{option_map}
use Rattle.std.specs.List.{list_all, list_any}
use Rattle.bts_event.specs.declared.queue.Entry.{Entry}
use Rattle.bts_event.specs.declared.event.Event.{Event}
use Rattle.bts_event.specs.declared.event.Event.TheVariants.{Atomic as atomic, Composite as composite}
use Rattle.bts_names.specs.declared.reply.Reason.{Reason}
use Rattle.bts_names.specs.declared.state.EventKind.{EventKind}
use Rattle.bts_event.proofs.Bits.{lookup_composite_bit}
use Rattle.bts_event.proofs.OneTurns.{settled_none}
use Rattle.bts_event.proofs.Readings.{lookup-change, lookup-change_other}
use Rattle.bts_event.proofs.Same.{same_refl}
use Rattle.bts_event.proofs.Subs.{after_fired, before}
use Rattle.bts_event.specs.Composites.{Composite}
use Rattle.bts_event.specs.Events.{Events, change, except, held_at, holder, holds, is_atomic, is_composite, is_fired_atomic, requeue, rest_of, set_bit, value_of, with_bit, with_rest}
use Rattle.bts_event.specs.Pool.{Pool, entered, first_taken, next_subevent, retrieved, settled, subevent_retrieved, subevent_taken, turns, unfired, with_unfired, withdrawn}
use Rattle.bts_names.specs.Named.{lookup}
use Rattle.bts_names.specs.Names.{Name, same}

both_true : (a b d : Bool) → (b ≡ true → d ≡ true) → (a && b) ≡ true → (a && d) ≡ true
both_true true b d h e = h e
both_true false b d h e = cc

all_falls : (f g : Name → Bool) (xs : List Name) → ((n : Name) → f n ≡ true → g n ≡ true) → list_all f xs ≡ true → list_all g xs ≡ true
all_falls f g [] h e = refl
all_falls f g (x ∷ xs) h e = joined (f x) (g x) (list_all f xs) (list_all g xs) (h x) (all_falls f g xs h) e
  where
    joined : (a b c d : Bool) → (a ≡ true → b ≡ true) → (c ≡ true → d ≡ true) → (a && c) ≡ true → (b && d) ≡ true
    joined true b c d i j k = ap (λ y. y && d) (i refl) ∙ j k
    joined false b c d i j k = cc

any_falls : (f g : Name → Bool) (xs : List Name) → ((n : Name) → f n ≡ true → g n ≡ true) → list_any f xs ≡ true → list_any g xs ≡ true
any_falls f g [] h e = e
any_falls f g (x ∷ xs) h e = either (f x) (g x) (list_any f xs) (list_any g xs) (h x) (any_falls f g xs h) e
  where
    either : (a b c d : Bool) → (a ≡ true → b ≡ true) → (c ≡ true → d ≡ true) → (a || c) ≡ true → (b || d) ≡ true
    either true b c d i j k = ap (λ y. y || d) (i refl)
    either false true c d i j k = refl
    either false false c d i j k = j k

holds_falls : (f g : Name → Bool) (all : Bool) (xs : List Name) → ((n : Name) → f n ≡ true → g n ≡ true)
    → cond all (not (nat_eq (length xs) 0) && list_all f xs) (list_any f xs) ≡ true → cond all (not (nat_eq (length xs) 0) && list_all g xs) (list_any g xs) ≡ true
holds_falls f g true xs h e = both_true (not (nat_eq (length xs) 0)) (list_all f xs) (list_all g xs) (all_falls f g xs h) e
holds_falls f g false xs h e = any_falls f g xs h e

-- a composite with the same sub-events, of which none fires
held_falls : (es fs : Events) (x : Name) (b k : Composite) → lookup x es ≡ Some (composite b) → lookup x fs ≡ Some (composite k) → k.all ≡ b.all → k.subs ≡ b.subs
    → ((n : Name) → is_fired_atomic (lookup n fs) ≡ true → is_fired_atomic (lookup n es) ≡ true) → held_at fs x ≡ true → held_at es x ≡ true
held_falls es fs x b k e f a s h v =
    let now : holds fs k ≡ true = sym (ap (value_of fs) f) ∙ v in
    let was : holds es k ≡ true = holds_falls (λ n. is_fired_atomic (lookup n fs)) (λ n. is_fired_atomic (lookup n es)) k.all k.subs h now in
    ap (value_of es) e
    ∙ ap (λ y. cond y (not (nat_eq (length b.subs) 0) && list_all (λ n. is_fired_atomic (lookup n es)) b.subs) (list_any (λ n. is_fired_atomic (lookup n es)) b.subs)) (sym a)
    ∙ ap (λ ys. cond k.all (not (nat_eq (length ys) 0) && list_all (λ n. is_fired_atomic (lookup n es)) ys) (list_any (λ n. is_fired_atomic (lookup n es)) ys)) (sym s)
    ∙ was

falling : (o : Option Event) (v b : Bool) → ((k : Composite) → o ≡ Some (composite k) → v ≡ true → b ≡ true) → (is_composite o && v && not b) ≡ false
falling None v b h = refl
falling (Some (atomic a)) v b h = refl
falling (Some (composite k)) true true h = refl
falling (Some (composite k)) true false h = let e : false ≡ true = h k refl refl in cc
falling (Some (composite k)) false b h = refl

fired_then : (t : Bool) (o : Option Event) → is_fired_atomic (cond t (option_map (with_bit false) o) o) ≡ true → is_fired_atomic o ≡ true
fired_then true None h = cc
fired_then true (Some (atomic a)) h = cc
fired_then true (Some (composite k)) h = cc
fired_then false o h = h

-- a bit is taken away
bit_falls : (es : Events) (name x : Name) → turns es (set_bit es name false) x ≡ false
bit_falls es name x =
    falling (lookup x (set_bit es name false)) (held_at (set_bit es name false) x) (held_at es x)
    (λ k f v. held_falls es (set_bit es name false) x k k (lookup_composite_bit es name false x k f) f refl refl
    (λ n h. fired_then (same name n) (lookup n es) (sym (ap is_fired_atomic (lookup-change es name n (with_bit false))) ∙ h)) v)

fired_within_then : (t a f : Bool) → cond t (a && false) f ≡ true → f ≡ true
fired_within_then true true f h = cc
fired_within_then true false f h = cc
fired_within_then false a f h = h

-- a bit is taken away, and a sub-event queue changes
queue_falls : (es : Events) (c : Name) (g : List Name → List Name) (name x : Name) → turns es (set_bit (change es c (requeue g)) name false) x ≡ false
queue_falls es c g name x =
    let fs = set_bit (change es c (requeue g)) name false in
    falling (lookup x fs) (held_at fs x) (held_at es x)
    (λ k f v.
    let w = before g (same c x) (lookup x es) k (sym (lookup-change es c x (requeue g)) ∙ lookup_composite_bit (change es c (requeue g)) name false x k f) in
    held_falls es fs x w.body k w.found f w.all w.subs
    (λ n h. fired_within_then (same name n) (is_atomic (lookup n es)) (is_fired_atomic (lookup n es)) (sym (after_fired es c g name false n) ∙ h)) v)

same_turns : (es : Events) (x : Name) → turns es es x ≡ false
same_turns es x = falling (lookup x es) (held_at es x) (held_at es x) (λ k f v. v)

first_calm : (q : List Entry) (p : Pool) → settled p.events (first_taken q p) ≡ first_taken q p
first_calm [] p = settled_none p.events p (λ x. same_turns p.events x)
first_calm (e ∷ es) p = settled_none p.events (first_taken (e ∷ es) p) (λ x. bit_falls p.events e.name x)

pub retrieved_calm : (p : Pool) → settled p.events (retrieved p) ≡ retrieved p
retrieved_calm p = first_calm p.entries p

subevent_calm : (o : Result (Name × EventKind) Reason) (c : Name) (p : Pool) → settled p.events (subevent_taken o c p) ≡ subevent_taken o c p
subevent_calm (Err r) c p = settled_none p.events p (λ x. same_turns p.events x)
subevent_calm (Ok (s, k)) c p = settled_none p.events (subevent_taken (Ok (s, k)) c p) (λ x. queue_falls p.events c rest_of s x)

pub subevent_retrieved_calm : (c : Name) (p : Pool) → settled p.events (subevent_retrieved c p) ≡ subevent_retrieved c p
subevent_retrieved_calm c p = subevent_calm (next_subevent c p) c p

unfired_calm_by : (o : Option Name) (n : Name) (p : Pool) → settled p.events (with_unfired n (withdrawn n o p)) ≡ with_unfired n (withdrawn n o p)
unfired_calm_by None n p = settled_none p.events (with_unfired n (withdrawn n None p)) (λ x. bit_falls p.events n x)
unfired_calm_by (Some c) n p = settled_none p.events (with_unfired n (withdrawn n (Some c) p)) (λ x. queue_falls p.events c (λ q. except q n) n x)

pub unfired_calm : (n : Name) (p : Pool) → settled p.events (unfired n p) ≡ unfired n p
unfired_calm n p = unfired_calm_by (holder p.events n) n p

pub entered_calm : (n : Name) (p : Pool) → settled p.events (entered n p) ≡ entered n p
entered_calm n p = settled_none p.events (entered n p) (λ x. same_turns p.events x)

-- ---- whose firing it is

bit_off : (t : Bool) (o : Option Event) → t ≡ true → is_fired_atomic (cond t (option_map (with_bit false) o) o) ≡ false
bit_off true None h = refl
bit_off true (Some (atomic a)) h = refl
bit_off true (Some (composite k)) h = refl
bit_off false o h = cc

off : (es : Events) (n : Name) → is_fired_atomic (lookup n (set_bit es n false)) ≡ false
off es n = ap is_fired_atomic (lookup-change es n n (with_bit false)) ∙ bit_off (same n n) (lookup n es) (same_refl n)

others : (es : Events) (c n : Name) (f : Event → Event) → same c n ≡ false → lookup n (change es c f) ≡ lookup n es
others es c n f d = lookup-change_other es c n f d

first_taken_is : (p : Pool) (e : Entry) (es : List Entry) → p.entries ≡ e ∷ es → (let q : Pool = record { events = set_bit p.events e.name false; entries = es; last = p.last } in retrieved p ≡ q)
first_taken_is p e es h = ap (λ q. first_taken q p) h

pub retrieved_off : (p : Pool) (e : Entry) (es : List Entry) → p.entries ≡ e ∷ es → is_fired_atomic (lookup e.name (retrieved p).events) ≡ false
retrieved_off p e es h = ap (λ (q : Pool). is_fired_atomic (lookup e.name q.events)) (first_taken_is p e es h) ∙ off p.events e.name

pub retrieved_others : (p : Pool) (e : Entry) (es : List Entry) (n : Name) → p.entries ≡ e ∷ es → same e.name n ≡ false → lookup n (retrieved p).events ≡ lookup n p.events
retrieved_others p e es n h d = ap (λ (q : Pool). lookup n q.events) (first_taken_is p e es h) ∙ others p.events e.name n (with_bit false) d

pub subevent_off : (p : Pool) (c s : Name) (k : EventKind) → next_subevent c p ≡ Ok (s, k) → is_fired_atomic (lookup s (subevent_retrieved c p).events) ≡ false
subevent_off p c s k h = ap (λ o. is_fired_atomic (lookup s (subevent_taken o c p).events)) h ∙ off (change p.events c with_rest) s

pub subevent_others : (p : Pool) (c s : Name) (k : EventKind) (n : Name) → next_subevent c p ≡ Ok (s, k) → same s n ≡ false → same c n ≡ false
    → lookup n (subevent_retrieved c p).events ≡ lookup n p.events
subevent_others p c s k n h d e =
    ap (λ o. lookup n (subevent_taken o c p).events) h ∙ others (change p.events c with_rest) s n (with_bit false) d ∙ others p.events c n with_rest e
