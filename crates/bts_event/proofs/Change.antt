-- What a change of one event leaves.
use Rattle.std.proofs.Common.{◌≡◌, ℕ, Bool, true, false, cond, List, [], ◌∷◌, Option, Some, None, Result, Ok, Err, refl, ap, sym}
use Rattle.std.specs.Map.{set_value}
use Rattle.std.specs.BTreeMap.{is_at}
use Rattle.std.specs.Ordering.{nat_cmp}
use Rattle.std.specs.Cmp.Lexicographic.{slice_cmp}
use Rattle.std.specs.Result.{OnOk, OnErr}
use Rattle.bts_event.specs.declared.event.Event.{Event}
use Rattle.bts_event.specs.Events.{Events, change}
use Rattle.bts_names.specs.Named.{lookup}
use Rattle.bts_names.specs.Names.{Name}

found_step : (b : Bool) (e : List ℕ × Event) (f : Event → Event) (v : Event) (es t u : Events) (o : Option Event)
    → cond b (Some e.1) o ≡ Some v → (o ≡ Some v → t ≡ u)
    → cond b ((e.0, f v) ∷ es) (e ∷ t) ≡ cond b ((e.0, f e.1) ∷ es) (e ∷ u)
found_step true e f v es t u o h ih = let g : e.1 ≡ v = cc in ap (λ x. (e.0, f x) ∷ es) (sym g)
found_step false e f v es t u o h ih = ap (λ z. e ∷ z) (ih h)

-- a value written at a key that is there
pub change-found : (es : Events) (name : Name) (f : Event → Event) (v : Event)
    → lookup name es ≡ Some v → set_value (is_at (slice_cmp nat_cmp name)) es (f v) ≡ change es name f
change-found [] name f v h = refl
change-found (e ∷ es) name f v h = found_step (is_at (slice_cmp nat_cmp name) e.0) e f v es _ _ (lookup name es) h (change-found es name f v)

none_step : (b : Bool) (e : List ℕ × Event) (x : Event) (es u : Events) (o : Option Event)
    → cond b (Some e.1) o ≡ None → (o ≡ None → u ≡ es)
    → cond b ((e.0, x) ∷ es) (e ∷ u) ≡ e ∷ es
none_step true e x es u o h ih = cc
none_step false e x es u o h ih = ap (λ z. e ∷ z) (ih h)

-- nothing changes where the name is absent
pub change-none : (es : Events) (name : Name) (f : Event → Event) → lookup name es ≡ None → change es name f ≡ es
change-none [] name f h = refl
change-none (e ∷ es) name f h = none_step (is_at (slice_cmp nat_cmp name) e.0) e (f e.1) es _ (lookup name es) h (change-none es name f)

same_step : (b : Bool) (e : List ℕ × Event) (v : Event) (es t : Events) (o : Option Event)
    → cond b (Some e.1) o ≡ Some v → (o ≡ Some v → t ≡ es)
    → cond b ((e.0, v) ∷ es) (e ∷ t) ≡ e ∷ es
same_step true e v es t o h ih = let g : e.1 ≡ v = cc in ap (λ x. (e.0, x) ∷ es) (sym g)
same_step false e v es t o h ih = ap (λ z. e ∷ z) (ih h)

-- the value that was there, written back
pub written_same : (es : Events) (name : Name) (v : Event)
    → lookup name es ≡ Some v → set_value (is_at (slice_cmp nat_cmp name)) es v ≡ es
written_same [] name v h = refl
written_same (e ∷ es) name v h = same_step (is_at (slice_cmp nat_cmp name) e.0) e v es _ (lookup name es) h (written_same es name v)

pub OnOk_both : {T E P Q : Type 0} (r : Result T E) → OnOk r P → (P → Q) → OnOk r Q
OnOk_both (Ok x) p f = f p
OnOk_both (Err x) p f = p

pub OnErr_both : {T E P Q : Type 0} (r : Result T E) → OnErr r P → (P → Q) → OnErr r Q
OnErr_both (Ok x) p f = p
OnErr_both (Err x) p f = f p
