-- What each call leaves, where the one composite that can turn is looked at alone.
use Rattle.std.proofs.Common.{◌≡◌, ◌+◌, ◌<◌, ◌≤◌, Bool, true, false, cond, not, ◌&&◌, List, [], ◌∷◌, ◌++◌, length, Option, Some, None, refl, ap, sym, subst, ◌∙◌}
use Rattle.std.specs.Option.{option_map, is_some}
use Rattle.std.proofs.lemmas.Bool.{leb-false}
use Rattle.std.specs.Map.{keys_of}
use Rattle.std.specs.List.{list_any}
use Rattle.bts_event.specs.declared.queue.Entry.{Entry}
use Rattle.bts_event.specs.declared.event.Event.{Event}
use Rattle.bts_event.specs.declared.event.Event.TheVariants.{Atomic as atomic, Composite as composite}
use Rattle.bts_event.specs.declared.event.Trigger.{Trigger}
use Rattle.bts_names.specs.declared.reply.Reason.TheVariants as reason
use Rattle.bts_event.proofs.Bits.{cleared_sound, differs, fire_allowed, fired_sound, free_at, not_listed, not_when}
use Rattle.bts_event.proofs.Defines.{Puts, defined_sound, none_from, puts}
use Rattle.bts_event.proofs.Drops.{composite_apart, deleted_from_sound, drops, kept_by, kept_out, sub_atomic}
use Rattle.bts_event.proofs.Joins.{add_sound, join_fired}
use Rattle.bts_event.proofs.Leaves.{leave_fired, left_atomic, may_leave, removed_composite, removed_step, sub_left, sub_left_sound}
use Rattle.bts_event.proofs.NewComposites.{composite_sound, kept_in, or_none, sub_ok, subs_all}
use Rattle.bts_event.proofs.OneTurns.{bit_turns, calm_holds, change_turns, drop_held, held_same, holds_by, other_there, push_kind, put_held, settled_none, settled_one, sub_turns, turns_by}
use Rattle.bts_event.proofs.Orders.{IsRising, rising_without}
use Rattle.bts_event.proofs.Readings.{keys-change, lookup-change_here, read-change}
use Rattle.bts_event.proofs.SubCalls.{after_composite, but_fits, fired_sub_sound, owner_composite, sub_bit_sound, sub_fired}
use Rattle.bts_event.proofs.Subs.{owned}
use Rattle.bts_event.specs.Composites.{Composite}
use Rattle.bts_event.specs.Events.{Events, change, except, has, held_at, holder, holds, is_atomic, is_composite, is_fired_atomic, new_atomic, new_composite, set_bit, value_of, with_bit, with_queued, with_sub, without_queued, without_sub}
use Rattle.bts_event.specs.Pool.{Pool, defined, deleted, deleted_from, dropped, fired, parted, placed, removed, removed_at, settled, settled_at, subevent_added, subevent_removed, turns, unfired, with_fired, with_unfired, withdrawn}
use Rattle.bts_event.specs.Refusals.{add_refusal, composite_refusal, define_refusal, delete_refusal, delete_refusal_of, fire_refusal, is_full, is_full_composite, leave_refusal, not_composite, sub_refusal, subs_refusal, when}
use Rattle.bts_event.specs.Sound.{AreSoundEvents, IsSoundPool}
use Rattle.bts_names.specs.Named.{in_order, is_there, lookup, without}
use Rattle.bts_names.specs.Names.{Name, initial_name, same, same_exact}

rising_change : (es : Events) (c : Name) (f : Event → Event) → IsRising (keys_of es) → IsRising (keys_of (change es c f))
rising_change es c f s = subst (λ ks. IsRising ks) (sym (keys-change es c f)) s

-- ---- firing

-- an event that is no sub-event is fired and makes an entry
abbrev pub alone_fired : Pool → Name → Pool
alone_fired p n = record { events = set_bit p.events n true; entries = p.entries ++ record { name = n; number = p.last + 1 } ∷ []; last = p.last + 1 }

pub fired_alone : (p : Pool) (n : Name) → IsSoundPool p → holder p.events n ≡ None → fired n p ≡ alone_fired p n
fired_alone p n s h =
    ap (λ o. settled p.events (with_fired n (placed n o p))) h
    ∙ settled_none p.events (alone_fired p n) (λ x. bit_turns p.events n true x s.events h)

pub fired_within : (p : Pool) (n c : Name) → IsSoundPool p → holder p.events n ≡ Some c → fired n p ≡ settled_at (held_at p.events c) c (sub_fired p n c)
fired_within p n c s h =
    let g : List Name → List Name = λ q. q ++ n ∷ [] in
    ap (λ o. settled p.events (with_fired n (placed n o p))) h
    ∙ settled_one p.events (sub_fired p n c) c
    (rising_change (change p.events c (with_queued n)) n (with_bit true) (rising_change p.events c (with_queued n) s.events.ordered))
    (after_composite p.events c g n true c ∙ owner_composite p.events n c (owned p.events n c s.events.ordered h))
    (λ x d. sub_turns p.events c g n true x s.events h d)

fired_by : (p : Pool) (n : Name) (o : Option Name) → holder p.events n ≡ o → IsSoundPool p → is_atomic (lookup n p.events) ≡ true → is_fired_atomic (lookup n p.events) ≡ false → IsSoundPool (fired n p)
fired_by p n None h s a f = subst IsSoundPool (sym (fired_alone p n s h)) (fired_sound p n s a f h)
fired_by p n (Some c) h s a f = subst IsSoundPool (sym (fired_within p n c s h)) (fired_sub_sound p n c s h a f)

pub fire_sound : (p : Pool) (n : Name) → IsSoundPool p → fire_refusal n p.events ≡ None → IsSoundPool (fired n p)
fire_sound p n s r = let a = fire_allowed (lookup n p.events) r in fired_by p n (holder p.events n) refl s a.0 a.1

-- the steps of the code, in a composite
pub fired_step : (p r : Pool) (n c : Name) (b : Bool) (es fs : Events) (entries : List Entry) → IsSoundPool p
    → holder p.events n ≡ Some c → b ≡ held_at p.events c → es ≡ change p.events c (with_queued n) → fs ≡ set_bit es n true → entries ≡ p.entries
    → (let q : Pool = record { events = fs; entries = entries; last = p.last } in settled_at b c q ≡ r)
    → r ≡ fired n p
fired_step p r n c b es fs entries o h v d e k s =
    sym s
    ∙ ap (λ x. let q : Pool = record { events = fs; entries = entries; last = p.last } in settled_at x c q) v
    ∙ ap (λ (xs : List Entry). let q : Pool = record { events = fs; entries = xs; last = p.last } in settled_at (held_at p.events c) c q) k
    ∙ ap (λ (xs : Events). let q : Pool = record { events = xs; entries = p.entries; last = p.last } in settled_at (held_at p.events c) c q) (e ∙ ap (λ xs. set_bit xs n true) d)
    ∙ sym (fired_within p n c o h)

-- ---- taking a firing back

pub unfired_within : (p : Pool) (n c : Name) (es fs : Events)
    → holder p.events n ≡ Some c → es ≡ change p.events c (without_queued n) → fs ≡ set_bit es n false
    → (let q : Pool = record { events = fs; entries = p.entries; last = p.last } in q ≡ unfired n p)
unfired_within p n c es fs h d e =
    ap (λ (xs : Events). let q : Pool = record { events = xs; entries = p.entries; last = p.last } in q) (e ∙ ap (λ xs. set_bit xs n false) d)
    ∙ ap (λ o. with_unfired n (withdrawn n o p)) (sym h)

unfired_by : (p : Pool) (n : Name) (o : Option Name) → holder p.events n ≡ o → IsSoundPool p → is_atomic (lookup n p.events) ≡ true → IsSoundPool (with_unfired n (withdrawn n o p))
unfired_by p n None h s a = cleared_sound p n s a h
unfired_by p n (Some c) h s a = sub_bit_sound p c (λ q. except q n) n false s h (but_fits p.events c n s.events)

pub unfire_sound : (p : Pool) (n : Name) → IsSoundPool p → is_atomic (lookup n p.events) ≡ true → IsSoundPool (unfired n p)
unfire_sound p n s a = unfired_by p n (holder p.events n) refl s a

-- ---- deleting

deleted_alone : (p : Pool) (n : Name) → IsSoundPool p → holder p.events n ≡ None → deleted n p ≡ deleted_from None n p
deleted_alone p n s h =
    ap (λ o. settled p.events (record { events = without n (parted n o p.events); entries = dropped p.entries n; last = p.last })) h
    ∙ settled_none p.events (deleted_from None n p)
    (λ x. turns_by p.events (without n p.events) x
    (λ k f.
    let d = drops p.events n s.events.ordered in
    let e : lookup x p.events ≡ Some (composite k) = (kept_by (same n x) (lookup x p.events) k (sym (d.found x) ∙ f)).1 in
    drop_held p.events (without n p.events) n x k d f (λ m i. differs k.subs n m (free_at p.events n s.events h x k e) i)))

deleted_within : (p : Pool) (n c : Name) → IsSoundPool p → holder p.events n ≡ Some c → deleted n p ≡ deleted_from (Some c) n p
deleted_within p n c s h =
    let es = change p.events c (without_sub n) in
    let rising : IsRising (keys_of es) = rising_change p.events c (without_sub n) s.events.ordered in
    let d = drops es n rising in
    let k : is_composite (lookup c es) ≡ true = removed_composite p.events c n (ap is_composite (owned p.events n c s.events.ordered h).found) in
    let a : is_atomic (lookup n es) ≡ true = left_atomic p.events c n s.events h n ∙ sub_atomic p n c s h in
    let q : Pool = record { events = without n es; entries = dropped p.entries n; last = p.last } in
    ap (λ o. settled p.events (record { events = without n (parted n o p.events); entries = dropped p.entries n; last = p.last })) h
    ∙ settled_one p.events q c (rising_without es n rising)
    (ap is_composite (kept_out es (without n es) n c d (composite_apart (same n c) es n c a k refl)) ∙ k)
    (λ x e. turns_by p.events (without n es) x
    (λ b f.
    let i : lookup x es ≡ Some (composite b) = (kept_by (same n x) (lookup x es) b (sym (d.found x) ∙ f)).1 in
    let j : lookup x p.events ≡ Some (composite b) = sym (other_there p.events c x (without_sub n) e) ∙ i in
    let free : has b.subs n ≡ false = not_listed (has b.subs n) p.events n c x b (s.events.composites x b j) h e refl in
    drop_held es (without n es) n x b d f (λ m w. differs b.subs n m free w)
    ∙ held_same p.events es x b j i (λ m w. read-change is_fired_atomic p.events c m (without_sub n) (leave_fired n))))

deleted_by : (p : Pool) (n : Name) (o : Option Name) → holder p.events n ≡ o → IsSoundPool p → deleted n p ≡ deleted_from o n p
deleted_by p n None h s = deleted_alone p n s h
deleted_by p n (Some c) h s = deleted_within p n c s h

pub deleted_at : (p : Pool) (n : Name) → IsSoundPool p → deleted n p ≡ deleted_from (holder p.events n) n p
deleted_at p n s = deleted_by p n (holder p.events n) refl s

calm_by : (es : Events) (b : Composite) (o : Option Event) → o ≡ Some (composite b) → delete_refusal_of es o ≡ None → list_any (λ s. is_fired_atomic (lookup s es)) b.subs ≡ false
calm_by es b None e r = cc
calm_by es b (Some (atomic a)) e r = cc
calm_by es b (Some (composite k)) e r = let g : k ≡ b = cc in subst (λ x. list_any (λ s. is_fired_atomic (lookup s es)) x.subs ≡ false) g (not_when (list_any (λ s. is_fired_atomic (lookup s es)) k.subs) reason.Fired r)

missing_not : (es : Events) (o : Option Event) → delete_refusal_of es o ≡ None → o ≡ None → ⊥
missing_not es None r e = cc
missing_not es (Some v) r e = cc

pub delete_sound : (p : Pool) (n : Name) → IsSoundPool p → delete_refusal n p.events ≡ None → IsSoundPool (deleted n p)
delete_sound p n s r =
    subst IsSoundPool (sym (deleted_at p n s))
    (deleted_from_sound p n s (λ b e. calm_by p.events b (lookup n p.events) e r) (λ e. missing_not p.events (lookup n p.events) r e))

no_composite : (o : Option Event) (b : Composite) → is_composite o ≡ false → o ≡ Some (composite b) → ⊥
no_composite None b h e = cc
no_composite (Some (atomic a)) b h e = cc
no_composite (Some (composite k)) b h e = cc

pub remove_sound : (p : Pool) (n : Name) → IsSoundPool p → is_composite (lookup n p.events) ≡ false → is_some (lookup n p.events) ≡ true → IsSoundPool (deleted n p)
remove_sound p n s a t =
    subst IsSoundPool (sym (deleted_at p n s))
    (deleted_from_sound p n s (λ b e. absurd (no_composite (lookup n p.events) b a e)) (λ e. none_some (lookup n p.events) e t))
  where
    none_some : (o : Option Event) → o ≡ None → is_some o ≡ true → ⊥
    none_some None e t = cc
    none_some (Some v) e t = cc

removed_by : (p : Pool) (n : Name) (o : Option Event) → is_some o ≡ true → deleted n p ≡ removed_at o n p
removed_by p n None h = cc
removed_by p n (Some e) h = refl

pub removed_there : (p : Pool) (n : Name) → is_some (lookup n p.events) ≡ true → deleted n p ≡ removed n p
removed_there p n h = removed_by p n (lookup n p.events) h

removed_none_by : (p : Pool) (n : Name) (o : Option Event) → is_some o ≡ false → p ≡ removed_at o n p
removed_none_by p n None h = refl
removed_none_by p n (Some e) h = cc

pub removed_absent : (p : Pool) (n : Name) → is_some (lookup n p.events) ≡ false → p ≡ removed n p
removed_absent p n h = removed_none_by p n (lookup n p.events) h

-- ---- sub-events

pub left_alone : (p : Pool) (c s : Name) → IsSoundPool p → is_composite (lookup c p.events) ≡ true → subevent_removed c s p ≡ settled_at (held_at p.events c) c (sub_left p c s)
left_alone p c s o k =
    settled_one p.events (sub_left p c s) c (rising_change p.events c (without_sub s) o.events.ordered) (removed_composite p.events c s k)
    (λ x d. change_turns p.events c x (without_sub s) (leave_fired s) d)

pub leave_sound : (p : Pool) (c s : Name) → IsSoundPool p → leave_refusal c s p.events ≡ None → IsSoundPool (subevent_removed c s p)
leave_sound p c s o r =
    let m = may_leave p.events c s (lookup c p.events) refl r in
    subst IsSoundPool (sym (left_alone p c s o (ap is_composite m.found))) (sub_left_sound p c s o r)

pub left_step : (p r : Pool) (c s : Name) (b : Bool) (es : Events) (entries : List Entry) → IsSoundPool p → leave_refusal c s p.events ≡ None
    → b ≡ held_at p.events c → es ≡ change p.events c (without_sub s) → entries ≡ p.entries
    → (let q : Pool = record { events = es; entries = entries; last = p.last } in settled_at b c q ≡ r) → r ≡ subevent_removed c s p
left_step p r c s b es entries o w v e k g =
    let m = may_leave p.events c s (lookup c p.events) refl w in
    removed_step p r c s b es entries v e k g ∙ sym (left_alone p c s o (ap is_composite m.found))

-- the composite that a sub-event joins
join_turns : (es : Events) (c s : Name) (b : Composite) → lookup c es ≡ Some (composite b) → is_fired_atomic (lookup s es) ≡ false → turns es (change es c (with_sub s)) c ≡ false
join_turns es c s b e f =
    let fs = change es c (with_sub s) in
    let k : Composite = record { all = b.all; subs = b.subs ++ s ∷ []; queued = b.queued } in
    let here : lookup c fs ≡ Some (composite k) = lookup-change_here es c (with_sub s) ∙ ap (option_map (with_sub s)) e in
    let after : held_at fs c ≡ holds es k =
    ap (value_of fs) here ∙ holds_by (λ n. is_fired_atomic (lookup n fs)) (λ n. is_fired_atomic (lookup n es)) k.all k.subs (λ n m. read-change is_fired_atomic es c n (with_sub s) (join_fired s)) in
    let before : held_at es c ≡ holds es b = ap (value_of es) e in
    ap (λ v. is_composite (lookup c fs) && v && not (held_at es c)) after
    ∙ ap (λ v. is_composite (lookup c fs) && holds es k && not v) before
    ∙ ap (λ o. is_composite o && holds es k && not (holds es b)) here
    ∙ push_kind b.all (λ n. is_fired_atomic (lookup n es)) b.subs s f

join_turns_at : (t : Bool) (es : Events) (c s x : Name) (b : Composite) → same c x ≡ t → lookup c es ≡ Some (composite b) → is_fired_atomic (lookup s es) ≡ false → turns es (change es c (with_sub s)) x ≡ false
join_turns_at true es c s x b g e f = subst (λ m. turns es (change es c (with_sub s)) m ≡ false) (same_exact c x g) (join_turns es c s b e f)
join_turns_at false es c s x b g e f = change_turns es c x (with_sub s) (join_fired s) g

-- the sub-event s has joined c
abbrev pub sub_joined : Pool → Name → Name → Pool
sub_joined p c s = record { events = change p.events c (with_sub s); entries = p.entries; last = p.last }

added_by : (p : Pool) (c s : Name) (e : Option Event) → lookup c p.events ≡ e → not_composite e ≡ None → sub_refusal p.events [] s ≡ None → subevent_added c s p ≡ sub_joined p c s
added_by p c s None g h r = cc
added_by p c s (Some (atomic a)) g h r = cc
added_by p c s (Some (composite b)) g h r =
    settled_none p.events (sub_joined p c s) (λ x. join_turns_at (same c x) p.events c s x b refl g (sub_ok p.events [] s r).unfired)

pub added_calm : (p : Pool) (c s : Name) → add_refusal c s p.events ≡ None → subevent_added c s p ≡ sub_joined p c s
added_calm p c s r =
    let z = or_none (not_composite (lookup c p.events)) _ r in
    let y = or_none (sub_refusal p.events [] s) (when (is_full_composite (lookup c p.events)) reason.Limit) z.1 in
    added_by p c s (lookup c p.events) refl z.0 y.0

-- ---- new events

-- a new name stands among the events
abbrev pub with_event : Pool → Name → Event → Pool
with_event p n v = record { events = in_order n v p.events; entries = p.entries; last = p.last }

new_turns : (t : Bool) (es fs : Events) (n x : Name) (v : Event) → same n x ≡ t → AreSoundEvents es → Puts es fs n v
    → ((k : Composite) → v ≡ composite k → holds fs k ≡ false) → turns es fs x ≡ false
new_turns true es fs n x v g s u h =
    let here : lookup x fs ≡ Some v = u.found x ∙ ap (λ t. cond t (Some v) (lookup x es)) g in
    ap (λ o. is_composite o && value_of fs o && not (held_at es x)) here ∙ calm v h
  where
    calm : (w : Event) → ((k : Composite) → w ≡ composite k → holds fs k ≡ false) → (is_composite (Some w) && value_of fs (Some w) && not (held_at es x)) ≡ false
    calm (atomic a) i = refl
    calm (composite k) i = ap (λ b. b && not (held_at es x)) (i k refl)
new_turns false es fs n x v g s u h = turns_by es fs x (λ k f. put_held es fs n x v k s u g f)

pub defined_calm : (p : Pool) (n : Name) (v : Event) → IsSoundPool p → Puts p.events (in_order n v p.events) n v
    → ((k : Composite) → v ≡ composite k → holds (in_order n v p.events) k ≡ false) → defined n v p ≡ with_event p n v
defined_calm p n v s u h = settled_none p.events (with_event p n v) (λ x. new_turns (same n x) p.events (in_order n v p.events) n x v refl s.events u h)

pub define_allowed : (n : Name) (es : Events) → define_refusal n es ≡ None → (lookup n es ≡ None) × (length es < 256)
define_allowed n es r =
    let z = or_none (when (is_there n es) reason.Taken) (when (is_full es) reason.Limit) r in
    (none_from (lookup n es) (not_when (is_there n es) reason.Taken z.0), leb-false 256 (length es) (not_when (is_full es) reason.Limit z.1))

pub puts_atomic : (p : Pool) (n : Name) (trigger : Trigger) → IsSoundPool p → define_refusal n p.events ≡ None → Puts p.events (in_order n (new_atomic trigger) p.events) n (new_atomic trigger)
puts_atomic p n trigger s r = let a = define_allowed n p.events r in puts p.events n (new_atomic trigger) s.events.ordered a.0 a.1

pub atomic_defined : (p : Pool) (n : Name) (trigger : Trigger) → IsSoundPool p → define_refusal n p.events ≡ None → defined n (new_atomic trigger) p ≡ with_event p n (new_atomic trigger)
atomic_defined p n trigger s r = defined_calm p n (new_atomic trigger) s (puts_atomic p n trigger s r) (λ k e. cc)

pub define_sound : (p : Pool) (n : Name) (trigger : Trigger) → IsSoundPool p → define_refusal n p.events ≡ None → same n initial_name ≡ false → IsSoundPool (defined n (new_atomic trigger) p)
define_sound p n trigger s r i =
    subst IsSoundPool (sym (atomic_defined p n trigger s r))
    (defined_sound p (in_order n (new_atomic trigger) p.events) n trigger s (puts_atomic p n trigger s r) i)

pub composite_allowed : (n : Name) (subs : List Name) (es : Events) → composite_refusal n subs es ≡ None → (lookup n es ≡ None) × (subs_refusal es [] subs ≡ None) × (length es < 256)
composite_allowed n subs es r =
    let z = or_none (when (is_there n es) reason.Taken) _ r in
    let y = or_none (subs_refusal es [] subs) (when (is_full es) reason.Limit) z.1 in
    (none_from (lookup n es) (not_when (is_there n es) reason.Taken z.0), y.0, leb-false 256 (length es) (not_when (is_full es) reason.Limit y.1))

module _ (p : Pool) (n : Name) (all : Bool) (subs : List Name) (s : IsSoundPool p) (r : composite_refusal n subs p.events ≡ None) where
  pub puts_new : Puts p.events (in_order n (new_composite all subs) p.events) n (new_composite all subs)
  puts_new = let a = composite_allowed n subs p.events r in puts p.events n (new_composite all subs) s.events.ordered a.0 a.2

  quiet : (k : Composite) → new_composite all subs ≡ composite k → holds (in_order n (new_composite all subs) p.events) k ≡ false
  quiet k e =
      let fs = in_order n (new_composite all subs) p.events in
      let m : Composite = record { all = all; subs = subs; queued = [] } in
      let g : m ≡ k = cc in
      let a = composite_allowed n subs p.events r in
      subst (λ x. holds fs x ≡ false) g
      (calm_holds fs m
      (λ x i. let o = subs_all p.events [] subs a.1 x i in ap is_fired_atomic (kept_in p.events fs n (new_composite all subs) x puts_new o.is_one) ∙ o.unfired))

  pub composite_defined : defined n (new_composite all subs) p ≡ with_event p n (new_composite all subs)
  composite_defined = defined_calm p n (new_composite all subs) s puts_new quiet

  pub composite_define_sound : same n initial_name ≡ false → length subs ≤ 8 → IsSoundPool (defined n (new_composite all subs) p)
  composite_define_sound i short =
      let a = composite_allowed n subs p.events r in
      subst IsSoundPool (sym composite_defined) (composite_sound p (in_order n (new_composite all subs) p.events) n all subs s puts_new i short a.1)

-- the steps of the code
pub define_step : (p : Pool) (n : Name) (trigger : Trigger) (fs : Events) → IsSoundPool p → define_refusal n p.events ≡ None → fs ≡ in_order n (new_atomic trigger) p.events
    → (let q : Pool = record { events = fs; entries = p.entries; last = p.last } in q ≡ defined n (new_atomic trigger) p)
define_step p n trigger fs s r e =
    ap (λ (xs : Events). let q : Pool = record { events = xs; entries = p.entries; last = p.last } in q) e ∙ sym (atomic_defined p n trigger s r)

pub composite_step : (p : Pool) (n : Name) (all : Bool) (subs : List Name) (k : Composite) (fs : Events) → IsSoundPool p → composite_refusal n subs p.events ≡ None
    → (let m : Composite = record { all = all; subs = subs; queued = [] } in k ≡ m) → fs ≡ in_order n (composite k) p.events
    → (let q : Pool = record { events = fs; entries = p.entries; last = p.last } in q ≡ defined n (new_composite all subs) p)
composite_step p n all subs k fs s r g e =
    ap (λ (xs : Events). let q : Pool = record { events = xs; entries = p.entries; last = p.last } in q) (e ∙ ap (λ x. in_order n (composite x) p.events) g)
    ∙ sym (composite_defined p n all subs s r)

pub added_step : (p : Pool) (c s : Name) (fs : Events) → add_refusal c s p.events ≡ None → fs ≡ change p.events c (with_sub s)
    → (let q : Pool = record { events = fs; entries = p.entries; last = p.last } in q ≡ subevent_added c s p)
added_step p c s fs r e = ap (λ (xs : Events). let q : Pool = record { events = xs; entries = p.entries; last = p.last } in q) e ∙ sym (added_calm p c s r)

pub added_sound_at : (p : Pool) (c s : Name) → IsSoundPool p → add_refusal c s p.events ≡ None → IsSoundPool (subevent_added c s p)
added_sound_at p c s o r = subst IsSoundPool (sym (added_calm p c s r)) (add_sound p c s o r)

pub erased_step : (p r : Pool) (n : Name) (entries : List Entry) → IsSoundPool p → entries ≡ p.entries
    → (let q : Pool = record { events = p.events; entries = entries; last = p.last } in deleted_from (holder p.events n) n q ≡ r) → r ≡ deleted n p
erased_step p r n entries s e g =
    sym g
    ∙ ap (λ (xs : List Entry). let q : Pool = record { events = p.events; entries = xs; last = p.last } in deleted_from (holder p.events n) n q) e
    ∙ sym (deleted_at p n s)
