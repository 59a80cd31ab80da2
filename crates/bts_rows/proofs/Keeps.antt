-- Which events a change leaves with what fires them, and unfired where they were so.
use Rattle.std.proofs.Common.{◌≡◌, Bool, true, false, cond, not, List, [], ◌∷◌, Option, Some, None, option_map, is_some, fold, refl, sym, ap, subst, ◌∙◌, true≢false}
use Rattle.std.specs.List.{filter}
use Rattle.std.specs.Map.{keys_of}
use Rattle.bts_names.specs.Names.{Name, same, same_exact}
use Rattle.bts_names.specs.Named.{lookup, in_order, without}
use Rattle.bts_event.specs.declared.event.Event.{Event}
use Rattle.bts_event.specs.declared.event.Event.TheVariants.{Atomic as atomic, Composite as composite}
use Rattle.bts_event.specs.declared.event.Trigger.{Trigger}
use Rattle.bts_event.specs.Events.{Events, change, is_fired_atomic, is_input, set_bit, with_bit}
use Rattle.bts_event.specs.Pool.{Pool, entered, settled, turns}
use Rattle.bts_event.proofs.Orders.{IsRising, lookup-in_order, lookup-without}
use Rattle.bts_event.proofs.Readings.{lookup-change}

-- what fires an atomic event, where a test picks it
abbrev pub picked : (Trigger → Bool) → Option Event → Option Trigger
picked test None = None
picked test (Some (composite c)) = None
picked test (Some (atomic a)) = cond (test a.trigger) (Some a.trigger) None

-- the events of children and timers
abbrev pub is_owned : Trigger → Bool
is_owned t = not (is_input t)

abbrev pub is_picked : (Trigger → Bool) → Option Event → Bool
is_picked test o = is_some (picked test o)

-- the events that a test picks by what fires them are the same, and those that weren't fired still aren't
pub record Keeps (test : Trigger → Bool) (es fs : Events) : Type 0 where
  pub triggers : (n : Name) → picked test (lookup n fs) ≡ picked test (lookup n es)
  pub unfired : (n : Name) → is_picked test (lookup n es) ≡ true → is_fired_atomic (lookup n es) ≡ false → is_fired_atomic (lookup n fs) ≡ false

pub cleared_bit : (o : Option Event) → is_fired_atomic (option_map (with_bit false) o) ≡ false
cleared_bit None = refl
cleared_bit (Some (atomic a)) = refl
cleared_bit (Some (composite c)) = refl

module _ (test : Trigger → Bool) where
  pub keeps_same : (es : Events) → Keeps test es es
  keeps_same es = record { triggers = λ n. refl; unfired = λ n p u. u }

  pub keeps_both : (es fs gs : Events) → Keeps test es fs → Keeps test fs gs → Keeps test es gs
  keeps_both es fs gs a b = record {
    triggers = λ n. b.triggers n ∙ a.triggers n;
    unfired = λ n p u. b.unfired n (ap is_some (a.triggers n) ∙ p) (a.unfired n p u);
  }

  pub keeps_equal : (es fs gs : Events) → gs ≡ fs → Keeps test es fs → Keeps test es gs
  keeps_equal es fs gs e k = subst (Keeps test es) (sym e) k

  -- ---- one event changes

  module _ (f : Event → Event) where
    changed_picked : (b : Bool) (o : Option Event) → ((o : Option Event) → picked test (option_map f o) ≡ picked test o) → picked test (cond b (option_map f o) o) ≡ picked test o
    changed_picked true o h = h o
    changed_picked false o h = refl

    changed_fired : (b : Bool) (o : Option Event) → ((o : Option Event) → is_fired_atomic o ≡ false → is_fired_atomic (option_map f o) ≡ false) → is_fired_atomic o ≡ false
        → is_fired_atomic (cond b (option_map f o) o) ≡ false
    changed_fired true o h u = h o u
    changed_fired false o h u = u

    pub keeps_change : (es : Events) (c : Name) → ((o : Option Event) → picked test (option_map f o) ≡ picked test o)
        → ((o : Option Event) → is_fired_atomic o ≡ false → is_fired_atomic (option_map f o) ≡ false) → Keeps test es (change es c f)
    keeps_change es c h g = record {
      triggers = λ n. ap (picked test) (lookup-change es c n f) ∙ changed_picked (same c n) (lookup n es) h;
      unfired = λ n p u. ap is_fired_atomic (lookup-change es c n f) ∙ changed_fired (same c n) (lookup n es) g u;
    }

  picked_bit : (b : Bool) (o : Option Event) → picked test (option_map (with_bit b) o) ≡ picked test o
  picked_bit b None = refl
  picked_bit b (Some (atomic a)) = refl
  picked_bit b (Some (composite c)) = refl

  -- a firing that is taken away
  pub keeps_cleared : (es : Events) (n : Name) → Keeps test es (set_bit es n false)
  keeps_cleared es n = keeps_change (with_bit false) es n (picked_bit false) (λ o u. cleared_bit o)

  fired_case : (b : Bool) (o : Option Event) → (b ≡ true → is_picked test o ≡ false) → is_picked test o ≡ true → is_fired_atomic o ≡ false → is_fired_atomic (cond b (option_map (with_bit true) o) o) ≡ false
  fired_case true o h p u = absurd (true≢false (sym p ∙ h refl))
  fired_case false o h p u = u

  fired_picked : (b : Bool) (o : Option Event) → picked test (cond b (option_map (with_bit true) o) o) ≡ picked test o
  fired_picked true o = picked_bit true o
  fired_picked false o = refl

  -- a firing leaves what fires each event
  pub picked-fired : (es : Events) (c n : Name) → picked test (lookup n (set_bit es c true)) ≡ picked test (lookup n es)
  picked-fired es c n = ap (picked test) (lookup-change es c n (with_bit true)) ∙ fired_picked (same c n) (lookup n es)

  -- the firing of an event that isn't picked
  pub keeps_fired : (es : Events) (c : Name) → is_picked test (lookup c es) ≡ false → Keeps test es (set_bit es c true)
  keeps_fired es c h = record {
    triggers = picked-fired es c;
    unfired = λ n p u. ap is_fired_atomic (lookup-change es c n (with_bit true))
        ∙ fired_case (same c n) (lookup n es) (λ e. subst (λ m. is_picked test (lookup m es) ≡ false) (same_exact c n e) h) p u;
  }

  -- ---- one event more, and one less

  none_from : (o : Option Trigger) → is_some o ≡ false → o ≡ None
  none_from None h = refl
  none_from (Some t) h = cc

  put_picked : (b : Bool) (v : Event) (o : Option Event) → is_picked test (Some v) ≡ false → (b ≡ true → o ≡ None) → picked test (cond b (Some v) o) ≡ picked test o
  put_picked true v o h g = none_from (picked test (Some v)) h ∙ sym (ap (picked test) (g refl))
  put_picked false v o h g = refl

  put_fired : (b : Bool) (v : Event) (o : Option Event) → (b ≡ true → o ≡ None) → is_picked test o ≡ true → is_fired_atomic o ≡ false → is_fired_atomic (cond b (Some v) o) ≡ false
  put_fired true v o g p u = absurd (true≢false (sym p ∙ ap (is_picked test) (g refl)))
  put_fired false v o g p u = u

  -- a new event that isn't picked
  pub keeps_put : (es : Events) (name : Name) (v : Event) → lookup name es ≡ None → is_picked test (Some v) ≡ false → Keeps test es (in_order name v es)
  keeps_put es name v absent h = record {
    triggers = λ n. ap (picked test) (lookup-in_order es name v n) ∙ put_picked (same name n) v (lookup n es) h (gone n);
    unfired = λ n p u. ap is_fired_atomic (lookup-in_order es name v n) ∙ put_fired (same name n) v (lookup n es) (gone n) p u;
  }
    where
      gone : (n : Name) → same name n ≡ true → lookup n es ≡ None
      gone n e = subst (λ m. lookup m es ≡ None) (same_exact name n e) absent

  drop_picked : (b : Bool) (o : Option Event) → (b ≡ true → is_picked test o ≡ false) → picked test (cond b None o) ≡ picked test o
  drop_picked true o h = sym (none_from (picked test o) (h refl))
  drop_picked false o h = refl

  drop_fired : (b : Bool) (o : Option Event) → is_fired_atomic o ≡ false → is_fired_atomic (cond b None o) ≡ false
  drop_fired true o u = refl
  drop_fired false o u = u

  -- an event that isn't picked goes
  pub keeps_without : (es : Events) (name : Name) → IsRising (keys_of es) → is_picked test (lookup name es) ≡ false → Keeps test es (without name es)
  keeps_without es name s h = record {
    triggers = λ n. ap (picked test) (lookup-without es name n s) ∙ drop_picked (same name n) (lookup n es) (λ e. subst (λ m. is_picked test (lookup m es) ≡ false) (same_exact name n e) h);
    unfired = λ n p u. ap is_fired_atomic (lookup-without es name n s) ∙ drop_fired (same name n) (lookup n es) u;
  }

-- ---- a test that picks less

module _ (test less : Trigger → Bool) (h : (t : Trigger) → less t ≡ true → test t ≡ true) where
  narrowed : Option Trigger → Option Trigger
  narrowed None = None
  narrowed (Some t) = cond (less t) (Some t) None

  narrow_case : (a b : Bool) (t : Trigger) → test t ≡ a → less t ≡ b → cond b (Some t) None ≡ narrowed (cond a (Some t) None)
  unfolding narrowed
  narrow_case true b t e d = rw d
  narrow_case false true t e d = absurd (true≢false (sym (h t d) ∙ e))
  narrow_case false false t e d = refl

  narrow : (o : Option Event) → picked less o ≡ narrowed (picked test o)
  unfolding narrowed
  narrow None = refl
  narrow (Some (composite c)) = refl
  narrow (Some (atomic a)) = narrow_case (test a.trigger) (less a.trigger) a.trigger refl refl

  wide_case : (o : Option Trigger) → is_some (narrowed o) ≡ true → is_some o ≡ true
  unfolding narrowed
  wide_case None p = p
  wide_case (Some t) p = refl

  pub keeps_less : (es fs : Events) → Keeps test es fs → Keeps less es fs
  keeps_less es fs k = record {
    triggers = λ n. narrow (lookup n fs) ∙ ap narrowed (k.triggers n) ∙ sym (narrow (lookup n es));
    unfired = λ n p u. k.unfired n (wide_case (picked test (lookup n es)) (sym (ap is_some (narrow (lookup n es))) ∙ p)) u;
  }

-- ---- entries

entered_events : (cs : List Name) (p : Pool) → (fold (λ q c. entered c q) p cs).events ≡ p.events
entered_events [] p = refl
entered_events (c ∷ cs) p = entered_events cs (entered c p)

-- the entries that composites make leave the events
pub settled-events : (before : Events) (p : Pool) → (settled before p).events ≡ p.events
unfolding settled
settled-events before p = entered_events (filter (turns before p.events) (keys_of p.events)) p
