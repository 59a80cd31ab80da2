-- Soundness under a new event.
use Rattle.std.proofs.Common.{◌≡◌, ℕ, ◌<◌, ◌≤◌, Bool, true, false, cond, ◌&&◌, List, [], ◌∷◌, length, Option, Some, None, is_some, Ordering, refl, ap, sym, subst, ◌∙◌, arith}
use Rattle.std.specs.declared.cmp.Ordering.TheVariants.{Less, Equal, Greater}
use Rattle.std.specs.Map.{keys_of}
use Rattle.std.specs.List.Sorted.{IsStrictlySortedBy}
use Rattle.std.specs.Ordering.{nat_cmp, is_eq, match_ordering}
use Rattle.std.specs.Cmp.Lexicographic.{slice_cmp}
use Rattle.bts_event.specs.declared.event.Event.{Event}
use Rattle.bts_event.specs.declared.event.Event.TheVariants.{Composite as composite}
use Rattle.bts_event.specs.declared.event.Trigger.{Trigger}
use Rattle.bts_event.proofs.Orders.{length-in_order, lookup-in_order, rising_in_order}
use Rattle.bts_event.proofs.Readings.{head_none}
use Rattle.bts_event.specs.Composites.{Composite}
use Rattle.bts_event.specs.Events.{Events, has, holder, is_atomic, is_fired_atomic, lists, new_atomic}
use Rattle.bts_event.specs.Pool.{Pool}
use Rattle.bts_event.specs.Sound.{AreSoundEvents, EntriesFit, IsSoundComposite, IsSoundPool, entries_of, one_if}
use Rattle.bts_names.specs.Named.{in_order, lookup}
use Rattle.bts_names.specs.Names.{Name, initial_name, same, same_exact}

-- ---- the composite of each name behind a new event

behind : (t : Bool) (b : Bool) (k name : Name) (h o : Option Name) → (t ≡ true → cond b (Some k) o ≡ None) → h ≡ cond t (Some name) o
    → cond b (Some k) h ≡ cond t (Some name) (cond b (Some k) o)
behind true b k name h o g e = let z = head_none b k o (g refl) in ap (λ x. cond x (Some k) h) z.0 ∙ e
behind false b k name h o g e = ap (cond b (Some k)) e

put_case : (r : Ordering) (e : List ℕ × Event) (es fs : Events) (name : Name) (v : Event) (n : Name)
    → cond (is_eq r) (Some e.1) (lookup name es) ≡ None
    → (lists v n ≡ true → holder (e ∷ es) n ≡ None)
    → (lookup name es ≡ None → (lists v n ≡ true → holder es n ≡ None) → holder fs n ≡ cond (lists v n) (Some name) (holder es n))
    → holder (match_ordering r ((name, v) ∷ e ∷ es) ((e.0, v) ∷ es) (e ∷ fs)) n ≡ cond (lists v n) (Some name) (holder (e ∷ es) n)
put_case Less e es fs name v n f g ih = refl
put_case Equal e es fs name v n f g ih = cc
put_case Greater e es fs name v n f g ih =
    behind (lists v n) (lists e.1 n) e.0 name (holder fs n) (holder es n) g
    (ih f (λ x. (head_none (lists e.1 n) e.0 (holder es n) (g x)).1))

pub holder-put : (es : Events) (name : Name) (v : Event) (n : Name) → lookup name es ≡ None → (lists v n ≡ true → holder es n ≡ None)
    → holder (in_order name v es) n ≡ cond (lists v n) (Some name) (holder es n)
holder-put [] name v n f g = refl
holder-put (e ∷ es) name v n f g = put_case (slice_cmp nat_cmp name e.0) e es (in_order name v es) name v n f g (holder-put es name v n)

-- ---- a new atomic event

old_composite : (t : Bool) (trigger : Trigger) (o : Option Event) (k : Composite) → cond t (Some (new_atomic trigger)) o ≡ Some (composite k) → o ≡ Some (composite k)
old_composite true trigger o k h = cc
old_composite false trigger o k h = h

stays_atomic : (t : Bool) (trigger : Trigger) (o : Option Event) → is_atomic o ≡ true → is_atomic (cond t (Some (new_atomic trigger)) o) ≡ true
stays_atomic true trigger o h = refl
stays_atomic false trigger o h = h

pub absent_at : (es : Events) (name n : Name) → lookup name es ≡ None → same name n ≡ true → lookup n es ≡ None
absent_at es name n h e = subst (λ m. lookup m es ≡ None) (same_exact name n e) h

new_fired : (t : Bool) (trigger : Trigger) (o : Option Event) → (t ≡ true → o ≡ None) → is_fired_atomic (cond t (Some (new_atomic trigger)) o) ≡ is_fired_atomic o
new_fired true trigger o h = sym (ap is_fired_atomic (h refl))
new_fired false trigger o h = refl

new_fit : (t : Bool) (n : Name) (trigger : Trigger) (o : Option Event) (h : Option Name) (many : ℕ) → (t ≡ true → o ≡ None) → (t ≡ true → same n initial_name ≡ false)
    → EntriesFit n o h many → EntriesFit n (cond t (Some (new_atomic trigger)) o) h many
new_fit true n trigger o None many f g s = let old : EntriesFit n None None many = subst (λ x. EntriesFit n x None many) (f refl) s in old (g refl)
new_fit true n trigger o (Some c) many f g s = let old : EntriesFit n None (Some c) many = subst (λ x. EntriesFit n x (Some c) many) (f refl) s in old (g refl)
new_fit false n trigger o h many f g s = s

-- what std says of a map with a new key
pub record Puts (es fs : Events) (name : Name) (v : Event) : Type 0 where
  pub absent : lookup name es ≡ None
  pub is_put : fs ≡ in_order name v es
  pub found : (q : Name) → lookup q fs ≡ cond (same name q) (Some v) (lookup q es)
  pub ordered : IsStrictlySortedBy (slice_cmp nat_cmp) (keys_of fs)
  pub few : length fs ≤ 256

pub unnamed_put : (es fs : Events) (name : Name) (v : Event) → AreSoundEvents es → Puts es fs name v → same name initial_name ≡ false → lookup initial_name fs ≡ None
unnamed_put es fs name v s u i = u.found initial_name ∙ ap (λ t. cond t (Some v) (lookup initial_name es)) i ∙ s.unnamed

atomic_composite : (es fs : Events) (name : Name) (trigger : Trigger) (c : Name) (k : Composite)
    → Puts es fs name (new_atomic trigger) → ((n : Name) → holder fs n ≡ holder es n) → IsSoundComposite es c k → IsSoundComposite fs c k
atomic_composite es fs name trigger c k u m s = record {
  few = s.few;
  once = s.once;
  atomics = λ n h. ap is_atomic (u.found n) ∙ stays_atomic (same name n) trigger (lookup n es) (s.atomics n h);
  alone = λ n h. m n ∙ s.alone n h;
  queue = λ n. s.queue n ∙ sym (ap (λ x. one_if (has k.subs n && x)) (ap is_fired_atomic (u.found n) ∙ new_fired (same name n) trigger (lookup n es) (absent_at es name n u.absent)));
}

pub defined_sound : (p : Pool) (fs : Events) (name : Name) (trigger : Trigger) → IsSoundPool p → Puts p.events fs name (new_atomic trigger) → same name initial_name ≡ false
    → (let r : Pool = record { events = fs; entries = p.entries; last = p.last } in IsSoundPool r)
defined_sound p fs name trigger s u i =
    let m : (n : Name) → holder fs n ≡ holder p.events n = λ n. ap (λ x. holder x n) u.is_put ∙ holder-put p.events name (new_atomic trigger) n u.absent (λ x. cc) in
    record {
      events = record {
        ordered = u.ordered;
        few = u.few;
        unnamed = unnamed_put p.events fs name (new_atomic trigger) s.events u i;
        composites = λ c k f.
            atomic_composite p.events fs name trigger c k u m (s.events.composites c k (old_composite (same name c) trigger (lookup c p.events) k (sym (u.found c) ∙ f)));
      };
      entries = λ n.
          subst (λ x. EntriesFit n x (holder fs n) (entries_of n p.entries)) (sym (u.found n))
          (subst (λ h. EntriesFit n (cond (same name n) (Some (new_atomic trigger)) (lookup n p.events)) h (entries_of n p.entries)) (sym (m n))
          (new_fit (same name n) n trigger (lookup n p.events) (holder p.events n) (entries_of n p.entries)
          (absent_at p.events name n u.absent) (λ e. ap (λ x. same x initial_name) (sym (same_exact name n e)) ∙ i) (s.entries n)));
      numbers = s.numbers;
    }

-- a new name put into events in order
pub puts : (es : Events) (name : Name) (v : Event) → IsStrictlySortedBy (slice_cmp nat_cmp) (keys_of es) → lookup name es ≡ None → length es < 256 → Puts es (in_order name v es) name v
puts es name v s a l = record {
  absent = a;
  is_put = refl;
  found = λ q. lookup-in_order es name v q;
  ordered = rising_in_order es name v s;
  few = omega (arith, l, length-in_order es name v);
}

pub none_from : (o : Option Event) → is_some o ≡ false → o ≡ None
none_from None h = refl
none_from (Some e) h = cc
