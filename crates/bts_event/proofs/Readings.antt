-- What is read of a pool after a change.
use Rattle.std.proofs.Common.{◌≡◌, ℕ, Bool, true, false, cond, List, [], ◌∷◌, Option, Some, None, length, refl, ap, sym, ◌∙◌, arith}
use Rattle.std.specs.Option.{option_map}
use Rattle.std.specs.Map.{keys_of}
use Rattle.bts_event.specs.declared.event.Event.{Event}
use Rattle.bts_event.proofs.Same.{apart}
use Rattle.bts_event.specs.Events.{Events, change, holder, lists}
use Rattle.bts_names.specs.Named.{lookup}
use Rattle.bts_names.specs.Names.{Name, same, same_exact}

here_step : (b : Bool) (f : Event → Event) (x : Event) (t o : Option Event) → t ≡ option_map f o
    → cond b (Some (f x)) t ≡ option_map f (cond b (Some x) o)
here_step true f x t o h = refl
here_step false f x t o h = h

change_cond : (b : Bool) (n : Name) (x y : List ℕ × Event) (es fs : Events)
    → lookup n (cond b (x ∷ es) (y ∷ fs)) ≡ cond b (lookup n (x ∷ es)) (lookup n (y ∷ fs))
change_cond true n x y es fs = refl
change_cond false n x y es fs = refl

here_case : (b : Bool) (c : Name) (f : Event → Event) (e : List ℕ × Event) (es fs : Events) → same c e.0 ≡ b → lookup c fs ≡ option_map f (lookup c es)
    → lookup c (cond b ((e.0, f e.1) ∷ es) (e ∷ fs)) ≡ option_map f (cond b (Some e.1) (lookup c es))
here_case true c f e es fs h ih = ap (λ b. cond b (Some (f e.1)) (lookup c es)) h
here_case false c f e es fs h ih = ap (λ b. cond b (Some e.1) (lookup c fs)) h ∙ ih

-- the event of that name
pub lookup-change_here : (es : Events) (c : Name) (f : Event → Event) → lookup c (change es c f) ≡ option_map f (lookup c es)
lookup-change_here [] c f = refl
lookup-change_here (e ∷ es) c f = here_case (same c e.0) c f e es (change es c f) refl (lookup-change_here es c f)

other_case : (b : Bool) (c n : Name) (f : Event → Event) (e : List ℕ × Event) (es fs : Events) → same c e.0 ≡ b → same c n ≡ false → lookup n fs ≡ lookup n es
    → lookup n (cond b ((e.0, f e.1) ∷ es) (e ∷ fs)) ≡ cond (same n e.0) (Some e.1) (lookup n es)
other_case true c n f e es fs h d ih = let g : same n e.0 ≡ false = apart c n e.0 h d in
    ap (λ b. cond b (Some (f e.1)) (lookup n es)) g ∙ sym (ap (λ b. cond b (Some e.1) (lookup n es)) g)
other_case false c n f e es fs h d ih = ap (cond (same n e.0) (Some e.1)) ih

-- another event
pub lookup-change_other : (es : Events) (c n : Name) (f : Event → Event) → same c n ≡ false → lookup n (change es c f) ≡ lookup n es
lookup-change_other [] c n f d = refl
lookup-change_other (e ∷ es) c n f d = other_case (same c e.0) c n f e es (change es c f) refl d (lookup-change_other es c n f d)

holder_case : (b : Bool) (n : Name) (f : Event → Event) (e : List ℕ × Event) (es fs : Events) → lists (f e.1) n ≡ lists e.1 n → holder fs n ≡ holder es n
    → holder (cond b ((e.0, f e.1) ∷ es) (e ∷ fs)) n ≡ cond (lists e.1 n) (Some e.0) (holder es n)
holder_case true n f e es fs h ih = ap (λ b. cond b (Some e.0) (holder es n)) h
holder_case false n f e es fs h ih = ap (cond (lists e.1 n) (Some e.0)) ih

-- a change of sub-events at other names
pub holder-change : (es : Events) (c n : Name) (f : Event → Event) → ((e : Event) → lists (f e) n ≡ lists e n) → holder (change es c f) n ≡ holder es n
holder-change [] c n f h = refl
holder-change (e ∷ es) c n f h = holder_case (same c e.0) n f e es (change es c f) (h e.1) (holder-change es c n f h)

keys_case : (b : Bool) (x : Event) (e : List ℕ × Event) (es fs : Events) → keys_of fs ≡ keys_of es
    → keys_of (cond b ((e.0, x) ∷ es) (e ∷ fs)) ≡ e.0 ∷ keys_of es
keys_case true x e es fs h = refl
keys_case false x e es fs h = ap (λ ks. e.0 ∷ ks) h

-- the names stay
pub keys-change : (es : Events) (c : Name) (f : Event → Event) → keys_of (change es c f) ≡ keys_of es
keys-change [] c f = refl
keys-change (e ∷ es) c f = keys_case (same c e.0) (f e.1) e es (change es c f) (keys-change es c f)

lookup_change_by : (b : Bool) (es : Events) (c n : Name) (f : Event → Event) → same c n ≡ b
    → lookup n (change es c f) ≡ cond b (option_map f (lookup n es)) (lookup n es)
lookup_change_by true es c n f h =
    ap (λ m. lookup m (change es c f)) (sym (same_exact c n h)) ∙ lookup-change_here es c f ∙ ap (λ m. option_map f (lookup m es)) (same_exact c n h)
lookup_change_by false es c n f h = lookup-change_other es c n f h

pub lookup-change : (es : Events) (c n : Name) (f : Event → Event)
    → lookup n (change es c f) ≡ cond (same c n) (option_map f (lookup n es)) (lookup n es)
lookup-change es c n f = lookup_change_by (same c n) es c n f refl

same_read : {A : Type 0} (g : Option Event → A) (b : Bool) (x y : Option Event) → g x ≡ g y → g (cond b x y) ≡ g y
same_read g true x y h = h
same_read g false x y h = refl

-- what f leaves of each event is left of the event of each name
pub read-change : {A : Type 0} (g : Option Event → A) (es : Events) (c n : Name) (f : Event → Event)
    → ((o : Option Event) → g (option_map f o) ≡ g o) → g (lookup n (change es c f)) ≡ g (lookup n es)
read-change g es c n f h = ap g (lookup-change es c n f) ∙ same_read g (same c n) _ _ (h (lookup n es))

length_case : (b : Bool) (x : Event) (e : List ℕ × Event) (es fs : Events) → length fs ≡ length es
    → length (cond b ((e.0, x) ∷ es) (e ∷ fs)) ≡ length (e ∷ es)
length_case true x e es fs h = refl
length_case false x e es fs h = omega (arith, h)

pub length-change : (es : Events) (c : Name) (f : Event → Event) → length (change es c f) ≡ length es
length-change [] c f = refl
length-change (e ∷ es) c f = length_case (same c e.0) (f e.1) e es (change es c f) (length-change es c f)

pub head_none : (t : Bool) (k : Name) (o : Option Name) → cond t (Some k) o ≡ None → (t ≡ false) × (o ≡ None)
head_none true k o h = cc
head_none false k o h = (refl, h)
