-- Which composites can turn: only that of the name that changes.
use Rattle.std.proofs.Common.{◌≡◌, Bool, true, false, cond, not, ◌&&◌, ◌||◌, List, [], ◌∷◌, ◌++◌, length, nat_eq, Option, Some, None, refl, ap, sym, ◌∙◌}
use Rattle.std.specs.Prelude.{fold}
use Rattle.std.specs.declared.cmp.Ordering.TheVariants.{Less}
use Rattle.std.specs.Option.{option_map}
use Rattle.std.specs.Map.{keys_of}
use Rattle.std.specs.List.{list_all, list_any, filter, AllByRecursion}
use Rattle.std.specs.List.Sorted.{IsStrictlySortedBy}
use Rattle.std.specs.Ordering.{nat_cmp, is_eq}
use Rattle.std.specs.Cmp.Lexicographic.{slice_cmp}
use Rattle.std.proofs.lemmas.Map.Keys.{sorted_head, sorted_tail}
use Rattle.bts_event.specs.declared.event.Event.{Event}
use Rattle.bts_event.specs.declared.event.Event.TheVariants.{Atomic as atomic, Composite as composite}
use Rattle.bts_event.proofs.Bits.{differs, fired_other, free_at, lookup_composite_bit, not_listed}
use Rattle.bts_event.proofs.Defines.{Puts}
use Rattle.bts_event.proofs.Drops.{Drops, kept_by, kept_out}
use Rattle.bts_event.proofs.NewComposites.{kept_in}
use Rattle.bts_event.proofs.Readings.{lookup-change, read-change}
use Rattle.bts_event.proofs.Same.{same_refl, same_sym}
use Rattle.bts_event.proofs.Subs.{after_fired, before}
use Rattle.bts_event.specs.Composites.{Composite}
use Rattle.bts_event.specs.Events.{Events, change, has, held_at, holder, holds, is_atomic, is_composite, is_fired_atomic, requeue, set_bit, value_of, with_bit}
use Rattle.bts_event.specs.Pool.{Pool, entered, settled, settled_at, turns}
use Rattle.bts_event.specs.Sound.{AreSoundEvents}
use Rattle.bts_names.specs.Named.{lookup}
use Rattle.bts_names.specs.Names.{Name, same, same_exact}

-- ---- names that a test finds

skip : (t : Bool) (k : Name) (ks : List Name) → t ≡ false → ks ≡ [] → cond t (k ∷ ks) ks ≡ []
skip true k ks h e = cc
skip false k ks h e = e

none_found : (f : Name → Bool) (ks : List Name) → ((n : Name) → f n ≡ false) → filter f ks ≡ []
none_found f [] h = refl
none_found f (k ∷ ks) h = skip (f k) k (filter f ks) (h k) (none_found f ks h)

none_above : (f : Name → Bool) (c : Name) (ks : List Name) → ((n : Name) → same c n ≡ false → f n ≡ false) → AllByRecursion (λ y. slice_cmp nat_cmp c y ≡ Less) ks → filter f ks ≡ []
none_above f c [] h a = refl
none_above f c (k ∷ ks) h a = skip (f k) k (filter f ks) (h k (ap is_eq a.0)) (none_above f c ks h a.1)

keep_head : (t : Bool) (k : Name) (ks : List Name) → ks ≡ [] → cond t (k ∷ ks) ks ≡ cond t (k ∷ []) []
keep_head true k ks e = ap (λ xs. k ∷ xs) e
keep_head false k ks e = e

drop_head : (t : Bool) (k : Name) (ks : List Name) → t ≡ false → cond t (k ∷ ks) ks ≡ ks
drop_head true k ks h = cc
drop_head false k ks h = refl

one_case : (t : Bool) (f : Name → Bool) (c k : Name) (ks : List Name) → same k c ≡ t → (t || has ks c) ≡ true → ((n : Name) → same c n ≡ false → f n ≡ false)
    → AllByRecursion (λ y. slice_cmp nat_cmp k y ≡ Less) ks → (has ks c ≡ true → filter f ks ≡ cond (f c) (c ∷ []) []) → filter f (k ∷ ks) ≡ cond (f c) (c ∷ []) []
one_case true f c k ks e i h a ih =
    let g : k ≡ c = same_exact k c e in
    keep_head (f k) k (filter f ks) (none_above f k ks (λ n d. h n (ap (λ m. same m n) (sym g) ∙ d)) a) ∙ ap (λ m. cond (f m) (m ∷ []) []) g
one_case false f c k ks e i h a ih = drop_head (f k) k (filter f ks) (h k (same_sym c k ∙ e)) ∙ ih i

one_found : (f : Name → Bool) (c : Name) (ks : List Name) → IsStrictlySortedBy (slice_cmp nat_cmp) ks → has ks c ≡ true → ((n : Name) → same c n ≡ false → f n ≡ false)
    → filter f ks ≡ cond (f c) (c ∷ []) []
one_found f c [] s i h = cc
one_found f c (k ∷ ks) s i h =
    one_case (same k c) f c k ks refl i h (sorted_head (slice_cmp nat_cmp) k ks s) (λ j. one_found f c ks (sorted_tail (slice_cmp nat_cmp) k ks s) j h)

there_case : (t : Bool) (e : Name × Event) (es : Events) (c : Name) → same c e.0 ≡ t → is_composite (cond t (Some e.1) (lookup c es)) ≡ true
    → (is_composite (lookup c es) ≡ true → has (keys_of es) c ≡ true) → (same e.0 c || has (keys_of es) c) ≡ true
there_case true e es c h k ih = ap (λ t. t || has (keys_of es) c) (same_sym e.0 c ∙ h)
there_case false e es c h k ih = ap (λ t. t || has (keys_of es) c) (same_sym e.0 c ∙ h) ∙ ih k

key_there : (es : Events) (c : Name) → is_composite (lookup c es) ≡ true → has (keys_of es) c ≡ true
key_there [] c k = cc
key_there (e ∷ es) c k = there_case (same c e.0) e es c refl k (key_there es c)

-- ---- the entries that follow

pub settled_none : (before : Events) (p : Pool) → ((x : Name) → turns before p.events x ≡ false) → settled before p ≡ p
unfolding settled
settled_none before p h = ap (fold (λ q c. entered c q) p) (none_found (turns before p.events) (keys_of p.events) h)

enter_if : (t : Bool) (c : Name) (p : Pool) → fold (λ q n. entered n q) p (cond t (c ∷ []) []) ≡ cond t (entered c p) p
enter_if true c p = refl
enter_if false c p = refl

turned : (k v b : Bool) → k ≡ true → (k && v && not b) ≡ (not b && v)
turned true true true h = refl
turned true true false h = refl
turned true false true h = refl
turned true false false h = refl
turned false v b h = cc

-- the one sentence, where no other composite than c turns
pub settled_one : (before : Events) (p : Pool) (c : Name) → IsStrictlySortedBy (slice_cmp nat_cmp) (keys_of p.events) → is_composite (lookup c p.events) ≡ true
    → ((x : Name) → same c x ≡ false → turns before p.events x ≡ false) → settled before p ≡ settled_at (held_at before c) c p
unfolding settled
settled_one before p c s k h =
    ap (fold (λ q n. entered n q) p) (one_found (turns before p.events) c (keys_of p.events) s (key_there p.events c k) h)
    ∙ enter_if (turns before p.events c) c p
    ∙ ap (λ t. cond t (entered c p) p) (turned (is_composite (lookup c p.events)) (held_at p.events c) (held_at before c) k)

-- ---- values

or_left : (a b : Bool) → a ≡ true → (a || b) ≡ true
or_left true b h = refl
or_left false b h = cc

or_last : (a b : Bool) → b ≡ true → (a || b) ≡ true
or_last true b h = refl
or_last false b h = h

all_same : (f g : Name → Bool) (xs : List Name) → ((n : Name) → has xs n ≡ true → f n ≡ g n) → list_all f xs ≡ list_all g xs
all_same f g [] h = refl
all_same f g (x ∷ xs) h =
    ap (λ a. a && list_all f xs) (h x (or_left (same x x) (has xs x) (same_refl x))) ∙ ap (λ a. g x && a) (all_same f g xs (λ n e. h n (or_last (same x n) (has xs n) e)))

any_same : (f g : Name → Bool) (xs : List Name) → ((n : Name) → has xs n ≡ true → f n ≡ g n) → list_any f xs ≡ list_any g xs
any_same f g [] h = refl
any_same f g (x ∷ xs) h =
    ap (λ a. a || list_any f xs) (h x (or_left (same x x) (has xs x) (same_refl x))) ∙ ap (λ a. g x || a) (any_same f g xs (λ n e. h n (or_last (same x n) (has xs n) e)))

pub holds_by : (f g : Name → Bool) (all : Bool) (xs : List Name) → ((n : Name) → has xs n ≡ true → f n ≡ g n)
    → cond all (not (nat_eq (length xs) 0) && list_all f xs) (list_any f xs) ≡ cond all (not (nat_eq (length xs) 0) && list_all g xs) (list_any g xs)
holds_by f g true xs h = ap (λ a. not (nat_eq (length xs) 0) && a) (all_same f g xs h)
holds_by f g false xs h = any_same f g xs h

-- a composite that stays has the value that it had, where its sub-events have
pub held_same : (es fs : Events) (x : Name) (k : Composite) → lookup x es ≡ Some (composite k) → lookup x fs ≡ Some (composite k)
    → ((n : Name) → has k.subs n ≡ true → is_fired_atomic (lookup n fs) ≡ is_fired_atomic (lookup n es)) → held_at fs x ≡ held_at es x
held_same es fs x k e f h =
    ap (value_of fs) f ∙ holds_by (λ s. is_fired_atomic (lookup s fs)) (λ s. is_fired_atomic (lookup s es)) k.all k.subs h ∙ sym (ap (value_of es) e)

unturned : (k v b : Bool) → v ≡ b → (k && v && not b) ≡ false
unturned true true true h = refl
unturned true true false h = cc
unturned true false b h = refl
unturned false v b h = refl

turns_case : (o : Option Event) (v b : Bool) → ((k : Composite) → o ≡ Some (composite k) → v ≡ b) → (is_composite o && v && not b) ≡ false
turns_case None v b h = refl
turns_case (Some (atomic a)) v b h = refl
turns_case (Some (composite k)) v b h = unturned true v b (h k refl)

pub turns_by : (es fs : Events) (x : Name) → ((k : Composite) → lookup x fs ≡ Some (composite k) → held_at fs x ≡ held_at es x) → turns es fs x ≡ false
turns_by es fs x h = turns_case (lookup x fs) (held_at fs x) (held_at es x) h

-- ---- another composite than the one that changes

pub other_there : (es : Events) (c x : Name) (f : Event → Event) → same c x ≡ false → lookup x (change es c f) ≡ lookup x es
other_there es c x f d = lookup-change es c x f ∙ ap (λ t. cond t (option_map f (lookup x es)) (lookup x es)) d

-- the event of c changes, and nothing's bit
pub change_turns : (es : Events) (c x : Name) (f : Event → Event) → ((o : Option Event) → is_fired_atomic (option_map f o) ≡ is_fired_atomic o) → same c x ≡ false → turns es (change es c f) x ≡ false
change_turns es c x f h d =
    turns_by es (change es c f) x
    (λ k g. held_same es (change es c f) x k (sym (other_there es c x f d) ∙ g) g (λ n m. read-change is_fired_atomic es c n f h))

-- the bit of an event that is no sub-event
pub bit_turns : (es : Events) (name : Name) (b : Bool) (x : Name) → AreSoundEvents es → holder es name ≡ None → turns es (set_bit es name b) x ≡ false
bit_turns es name b x s h =
    turns_by es (set_bit es name b) x
    (λ k g. let f = lookup_composite_bit es name b x k g in
    held_same es (set_bit es name b) x k f g
    (λ n m. ap is_fired_atomic (lookup-change es name n (with_bit b)) ∙ fired_other (same name n) b (lookup n es) (differs k.subs name n (free_at es name s h x k f) m)))

bit_stays : (t b : Bool) (k : Composite) (o : Option Event) → o ≡ Some (composite k) → cond t (option_map (with_bit b) o) o ≡ Some (composite k)
bit_stays true b k o h = ap (option_map (with_bit b)) h
bit_stays false b k o h = h

-- the bit of a sub-event of c, with c's queue
pub sub_turns : (es : Events) (c : Name) (g : List Name → List Name) (name : Name) (b : Bool) (x : Name) → AreSoundEvents es → holder es name ≡ Some c → same c x ≡ false
    → turns es (set_bit (change es c (requeue g)) name b) x ≡ false
sub_turns es c g name b x s h d =
    let fs = set_bit (change es c (requeue g)) name b in
    turns_by es fs x
    (λ k i.
    let f : lookup x es ≡ Some (composite k) = sym (other_there es c x (requeue g) d) ∙ lookup_composite_bit (change es c (requeue g)) name b x k i in
    let free : has k.subs name ≡ false = not_listed (has k.subs name) es name c x k (s.composites x k f) h d refl in
    held_same es fs x k f i
    (λ n m. after_fired es c g name b n ∙ ap (λ t. cond t (is_atomic (lookup n es) && b) (is_fired_atomic (lookup n es))) (differs k.subs name n free m)))

-- an event goes that is no sub-event of x
pub drop_held : (es fs : Events) (name x : Name) (k : Composite) → Drops es fs name → lookup x fs ≡ Some (composite k) → ((n : Name) → has k.subs n ≡ true → same name n ≡ false) → held_at fs x ≡ held_at es x
drop_held es fs name x k d f h =
    held_same es fs x k (kept_by (same name x) (lookup x es) k (sym (d.found x) ∙ f)).1 f (λ n m. ap is_fired_atomic (kept_out es fs name n d (h n m)))

-- a new event of a name that was absent
pub put_held : (es fs : Events) (name x : Name) (v : Event) (k : Composite) → AreSoundEvents es → Puts es fs name v → same name x ≡ false → lookup x fs ≡ Some (composite k) → held_at fs x ≡ held_at es x
put_held es fs name x v k s u d f =
    let e : lookup x es ≡ Some (composite k) = sym (u.found x ∙ ap (λ t. cond t (Some v) (lookup x es)) d) ∙ f in
    held_same es fs x k e f (λ n m. ap is_fired_atomic (kept_in es fs name v n u ((s.composites x k e).atomics n m)))

not_any : (f : Name → Bool) (xs : List Name) → ((n : Name) → has xs n ≡ true → f n ≡ false) → list_any f xs ≡ false
not_any f xs h = any_same f (λ n. false) xs h ∙ never xs
  where
    never : (ys : List Name) → list_any (λ n. false) ys ≡ false
    never [] = refl
    never (y ∷ ys) = never ys

not_all : (f : Name → Bool) (xs : List Name) → ((n : Name) → has xs n ≡ true → f n ≡ false) → (not (nat_eq (length xs) 0) && list_all f xs) ≡ false
not_all f [] h = refl
not_all f (x ∷ xs) h = between (not (nat_eq (length (x ∷ xs)) 0)) (f x) (list_all f xs) (h x (or_left (same x x) (has xs x) (same_refl x)))
  where
    between : (a b d : Bool) → b ≡ false → (a && (b && d)) ≡ false
    between true true d e = cc
    between true false d e = refl
    between false b d e = refl

-- where no sub-event is fired, nothing holds
pub calm_holds : (es : Events) (c : Composite) → ((n : Name) → has c.subs n ≡ true → is_fired_atomic (lookup n es) ≡ false) → holds es c ≡ false
calm_holds es c h = by_kind c.all
  where
    by_kind : (all : Bool) → cond all (not (nat_eq (length c.subs) 0) && list_all (λ s. is_fired_atomic (lookup s es)) c.subs) (list_any (λ s. is_fired_atomic (lookup s es)) c.subs) ≡ false
    by_kind true = not_all (λ s. is_fired_atomic (lookup s es)) c.subs h
    by_kind false = not_any (λ s. is_fired_atomic (lookup s es)) c.subs h

-- one more sub-event, which is not fired
any_push : (f : Name → Bool) (xs : List Name) (s : Name) → f s ≡ false → list_any f (xs ++ s ∷ []) ≡ list_any f xs
any_push f [] s h = ap (λ a. a || false) h
any_push f (x ∷ xs) s h = ap (λ a. f x || a) (any_push f xs s h)

all_push : (f : Name → Bool) (xs : List Name) (s : Name) → f s ≡ false → list_all f (xs ++ s ∷ []) ≡ false
all_push f [] s h = ap (λ a. a && true) h
all_push f (x ∷ xs) s h = last (f x) (list_all f (xs ++ s ∷ [])) (all_push f xs s h)
  where
    last : (a b : Bool) → b ≡ false → (a && b) ≡ false
    last true b e = e
    last false b e = refl

pub push_kind : (all : Bool) (f : Name → Bool) (xs : List Name) (s : Name) → f s ≡ false
    → (cond all (not (nat_eq (length (xs ++ s ∷ [])) 0) && list_all f (xs ++ s ∷ [])) (list_any f (xs ++ s ∷ []))
    && not (cond all (not (nat_eq (length xs) 0) && list_all f xs) (list_any f xs))) ≡ false
push_kind true f xs s h = first (not (nat_eq (length (xs ++ s ∷ [])) 0)) (list_all f (xs ++ s ∷ [])) (not (not (nat_eq (length xs) 0) && list_all f xs)) (all_push f xs s h)
  where
    first : (a b d : Bool) → b ≡ false → ((a && b) && d) ≡ false
    first true b d e = ap (λ x. x && d) e
    first false b d e = refl
push_kind false f xs s h = ap (λ a. a && not (list_any f xs)) (any_push f xs s h) ∙ clash (list_any f xs)
  where
    clash : (b : Bool) → (b && not b) ≡ false
    clash true = refl
    clash false = refl
