-- Soundness of a new composite.
use Rattle.std.proofs.Common.{◌≡◌, ℕ, ◌+◌, ◌≤◌, Bool, true, false, cond, ◌&&◌, ◌||◌, List, [], ◌∷◌, ◌++◌, length, Option, Some, None, refl, ap, sym, subst, ◌∙◌, arith}
use Rattle.bts_event.specs.declared.event.Event.{Event}
use Rattle.bts_event.specs.declared.event.Event.TheVariants.{Atomic as atomic, Composite as composite}
use Rattle.bts_names.specs.declared.reply.Reason.{Reason}
use Rattle.bts_names.specs.declared.reply.Reason.TheVariants as reason
use Rattle.bts_event.proofs.Bits.{adopt, not_when, queue_kept}
use Rattle.bts_event.proofs.Defines.{Puts, absent_at, holder-put, unnamed_put}
use Rattle.bts_event.proofs.Subs.{before}
use Rattle.bts_event.specs.Composites.{Composite}
use Rattle.bts_event.specs.Events.{Events, has, holder, is_atomic, is_fired_atomic, new_composite}
use Rattle.bts_event.specs.Pool.{Pool}
use Rattle.bts_event.specs.Refusals.{or_else, sub_refusal, sub_refusal_of, subs_refusal}
use Rattle.bts_event.specs.Sound.{EntriesFit, IsSoundComposite, IsSoundPool, entries_of, one_if, times}
use Rattle.bts_names.specs.Named.{lookup}
use Rattle.bts_names.specs.Names.{Name, initial_name, same, same_exact}

pub or_none : (a b : Option Reason) → or_else a b ≡ None → (a ≡ None) × (b ≡ None)
or_none (Some r) b h = cc
or_none None b h = (refl, h)

pub or_false : (a b : Bool) → (a || b) ≡ false → (a ≡ false) × (b ≡ false)
or_false true b h = cc
or_false false b h = (refl, h)

pub has_push : (xs : List Name) (s n : Name) → has (xs ++ s ∷ []) n ≡ (has xs n || same s n)
has_push [] s n = last_of (same s n)
  where
    last_of : (b : Bool) → (b || false) ≡ b
    last_of true = refl
    last_of false = refl
has_push (x ∷ xs) s n = first_of (same x n) (has (xs ++ s ∷ []) n) (has xs n) (same s n) (has_push xs s n)
  where
    first_of : (a b c d : Bool) → b ≡ (c || d) → (a || b) ≡ ((a || c) || d)
    first_of true b c d h = refl
    first_of false b c d h = h

-- a name that may become a sub-event
pub record SubOk (es : Events) (before : List Name) (n : Name) : Type 0 where
  pub is_one : is_atomic (lookup n es) ≡ true
  pub unfired : is_fired_atomic (lookup n es) ≡ false
  pub unheld : holder es n ≡ None
  pub fresh : has before n ≡ false

allowed : (o : Option Event) (stood : Bool) (h : Option Name) → sub_refusal_of o stood h ≡ None → (is_atomic o ≡ true) × (is_fired_atomic o ≡ false) × (h ≡ None) × (stood ≡ false)
allowed None stood h g = cc
allowed (Some (composite k)) stood h g = cc
allowed (Some (atomic a)) true h g = cc
allowed (Some (atomic a)) false (Some c) g = cc
allowed (Some (atomic a)) false None g = (refl, not_when a.fired reason.Fired g, refl, refl)

pub sub_ok : (es : Events) (before : List Name) (s : Name) → sub_refusal es before s ≡ None → SubOk es before s
sub_ok es before s h = let a = allowed (lookup s es) (has before s) (holder es s) h in record { is_one = a.0; unfired = a.1; unheld = a.2; fresh = a.3 }

all_case : (t : Bool) (es : Events) (before ss : List Name) (s n : Name) → same s n ≡ t → SubOk es before s
    → (has ss n ≡ true → SubOk es (before ++ s ∷ []) n) → (t || has ss n) ≡ true → SubOk es before n
all_case true es before ss s n e o ih h = subst (SubOk es before) (same_exact s n e) o
all_case false es before ss s n e o ih h =
    let i = ih h in
    record { is_one = i.is_one; unfired = i.unfired; unheld = i.unheld; fresh = (or_false (has before n) (same s n) (sym (has_push before s n) ∙ i.fresh)).0 }

pub subs_all : (es : Events) (before ss : List Name) → subs_refusal es before ss ≡ None → (n : Name) → has ss n ≡ true → SubOk es before n
subs_all es before [] r n h = cc
subs_all es before (s ∷ ss) r n h =
    let z = or_none (sub_refusal es before s) (subs_refusal es (before ++ s ∷ []) ss) r in
    all_case (same s n) es before ss s n refl (sub_ok es before s z.0) (subs_all es (before ++ s ∷ []) ss z.1 n) h

once_case : (t h : Bool) (many : ℕ) → (h ≡ true → t ≡ false) → many ≡ one_if h → one_if t + many ≡ one_if (t || h)
once_case true true many f g = let x : true ≡ false = f refl in cc
once_case true false many f g = omega (arith, g)
once_case false h many f g = let x : 0 + many ≡ many = omega arith in x ∙ g

pub subs_once : (es : Events) (before ss : List Name) → subs_refusal es before ss ≡ None → (n : Name) → times n ss ≡ one_if (has ss n)
subs_once es before [] r n = refl
subs_once es before (s ∷ ss) r n =
    let z = or_none (sub_refusal es before s) (subs_refusal es (before ++ s ∷ []) ss) r in
    once_case (same s n) (has ss n) (times n ss)
    (λ h. (or_false (has before n) (same s n) (sym (has_push before s n) ∙ (subs_all es (before ++ s ∷ []) ss z.1 n h).fresh)).1)
    (subs_once es (before ++ s ∷ []) ss z.1 n)

-- an absent name differs from an atomic event's
apart_by : (t : Bool) (es : Events) (name n : Name) → lookup name es ≡ None → is_atomic (lookup n es) ≡ true → same name n ≡ t → same name n ≡ false
apart_by true es name n h a e = let x : lookup n es ≡ None = absent_at es name n h e in let y : is_atomic (lookup n es) ≡ false = ap is_atomic x in cc
apart_by false es name n h a e = e

pub absent_apart : (es : Events) (name n : Name) → lookup name es ≡ None → is_atomic (lookup n es) ≡ true → same name n ≡ false
absent_apart es name n h a = apart_by (same name n) es name n h a refl

-- reading an atomic event of before
pub kept_in : (es fs : Events) (name : Name) (v : Event) (n : Name) → Puts es fs name v → is_atomic (lookup n es) ≡ true → lookup n fs ≡ lookup n es
kept_in es fs name v n u a = u.found n ∙ ap (λ t. cond t (Some v) (lookup n es)) (absent_apart es name n u.absent a)

not_sub_by : (t : Bool) (es : Events) (subs : List Name) (n c : Name) → subs_refusal es [] subs ≡ None → holder es n ≡ Some c → has subs n ≡ t → has subs n ≡ false
not_sub_by true es subs n c r h g = let x : holder es n ≡ None = (subs_all es [] subs r n g).unheld in cc
not_sub_by false es subs n c r h g = g

zero_queue : (t : Bool) (es fs : Events) (subs : List Name) (n : Name) → has subs n ≡ t → (has subs n ≡ true → is_fired_atomic (lookup n fs) ≡ false)
    → 0 ≡ one_if (t && is_fired_atomic (lookup n fs))
zero_queue true es fs subs n e f = sym (ap one_if (f e))
zero_queue false es fs subs n e f = refl

module _ (p : Pool) (fs : Events) (name : Name) (all : Bool) (subs : List Name) (s : IsSoundPool p)
    (u : Puts p.events fs name (new_composite all subs)) (i : same name initial_name ≡ false) (short : length subs ≤ 8) (r : subs_refusal p.events [] subs ≡ None) where
  holders : (n : Name) → holder fs n ≡ cond (has subs n) (Some name) (holder p.events n)
  holders n = ap (λ x. holder x n) u.is_put ∙ holder-put p.events name (new_composite all subs) n u.absent (λ h. (subs_all p.events [] subs r n h).unheld)

  old_one : (c : Name) (k : Composite) → IsSoundComposite p.events c k → IsSoundComposite fs c k
  old_one c k o = record {
    few = o.few;
    once = o.once;
    atomics = λ n h. ap is_atomic (kept_in p.events fs name _ n u (o.atomics n h)) ∙ o.atomics n h;
    alone = λ n h. holders n ∙ ap (λ t. cond t (Some name) (holder p.events n)) (not_sub_by (has subs n) p.events subs n c r (o.alone n h) refl) ∙ o.alone n h;
    queue = λ n. o.queue n ∙ ap one_if (queue_kept (has k.subs n) p.events fs k n refl (λ h. kept_in p.events fs name _ n u (o.atomics n h)));
  }

  new_one : IsSoundComposite fs name (record { all = all; subs = subs; queued = [] })
  new_one = record {
    few = omega (arith, short);
    once = subs_once p.events [] subs r;
    atomics = λ n h. let o = subs_all p.events [] subs r n h in ap is_atomic (kept_in p.events fs name _ n u o.is_one) ∙ o.is_one;
    alone = λ n h. holders n ∙ ap (λ t. cond t (Some name) (holder p.events n)) h;
    queue = λ n. zero_queue (has subs n) p.events fs subs n refl
        (λ h. let o = subs_all p.events [] subs r n h in ap is_fired_atomic (kept_in p.events fs name _ n u o.is_one) ∙ o.unfired);
  }

  each_by : (t : Bool) (c : Name) (k : Composite) → same name c ≡ t → cond t (Some (new_composite all subs)) (lookup c p.events) ≡ Some (composite k) → IsSoundComposite fs c k
  each_by true c k e f =
      let m : Composite = record { all = all; subs = subs; queued = [] } in
      let g : m ≡ k = cc in
      subst (λ x. IsSoundComposite fs c x) g (subst (λ x. IsSoundComposite fs x m) (same_exact name c e) new_one)
  each_by false c k e f = old_one c k (s.events.composites c k f)

  fit_by : (t h : Bool) (n : Name) (o : Option Event) (many : ℕ) → (h ≡ true → (is_atomic o ≡ true) × (is_fired_atomic o ≡ false) × (holder p.events n ≡ None))
      → EntriesFit n o (holder p.events n) many → EntriesFit n (cond t (Some (new_composite all subs)) o) (cond h (Some name) (holder p.events n)) many
  fit_by true h n o many f g = tt
  fit_by false false n o many f g = g
  fit_by false true n o many f g = let a = f refl in adopt n name o many a.0 a.1 (subst (λ x. EntriesFit n o x many) a.2 g)

  pub composite_sound : (let q : Pool = record { events = fs; entries = p.entries; last = p.last } in IsSoundPool q)
  composite_sound = record {
    events = record {
      ordered = u.ordered;
      few = u.few;
      unnamed = unnamed_put p.events fs name (new_composite all subs) s.events u i;
      composites = λ c k f. each_by (same name c) c k refl (sym (u.found c) ∙ f);
    };
    entries = λ n.
        subst (λ x. EntriesFit n x (holder fs n) (entries_of n p.entries)) (sym (u.found n))
        (subst (λ h. EntriesFit n (cond (same name n) (Some (new_composite all subs)) (lookup n p.events)) h (entries_of n p.entries)) (sym (holders n))
        (fit_by (same name n) (has subs n) n (lookup n p.events) (entries_of n p.entries)
        (λ h. let o = subs_all p.events [] subs r n h in (o.is_one, o.unfired, o.unheld)) (s.entries n)));
    numbers = s.numbers;
  }
