-- Timers and their events still fit together behind the commands.
use Rattle.std.proofs.Common.{◌≡◌, Bool, true, false, cond, not, [], ◌∷◌, Option, Some, None, is_some, refl, sym, ap, subst, ◌∙◌}
use Rattle.std.specs.Map.{keys_of}
use Rattle.std.specs.Ordering.{nat_cmp}
use Rattle.std.specs.Cmp.Lexicographic.{slice_cmp}
use Rattle.std.proofs.lemmas.Map.Keys.{sorted_tail}
use Rattle.bts_names.specs.Names.{Name, same, same_exact}
use Rattle.bts_names.specs.Named.{lookup, is_there}
use Rattle.bts_event.specs.declared.event.Event.{Event}
use Rattle.bts_event.specs.declared.event.Event.TheVariants.{Atomic as atomic, Composite as composite}
use Rattle.bts_event.specs.declared.event.Trigger.{Trigger}
use Rattle.bts_event.specs.declared.event.Trigger.TheVariants.{Input, Completion, Timer}
use Rattle.bts_event.specs.Events.{Events, first_where, is_fired_atomic}
use Rattle.bts_event.proofs.Orders.{IsRising}
use Rattle.bts_event.proofs.Same.{same_refl, same_sym}
use Rattle.bts_timer.specs.declared.timer.Timer.{Timer as OneTimer}
use Rattle.bts_timer.specs.Due.{is_unexpired}
use Rattle.bts_timer.specs.Timers.{Timers}
use Rattle.bts_rows.proofs.Entries.{behind_first}
use Rattle.bts_rows.proofs.Keeps.{Keeps, picked}
use Rattle.bts_rows.proofs.TimerEvents.{HasEvent, TimersFit, trigger_at}

-- ---- what fires an event, and what a test picks

cond_some : (b : Bool) (t u : Trigger) → cond b (Some t) None ≡ Some u → t ≡ u
cond_some true t u h = cc
cond_some false t u h = cc

module _ (test : Trigger → Bool) where
  pub picked_from : (o : Option Event) (t : Trigger) → trigger_at o ≡ Some t → test t ≡ true → picked test o ≡ Some t
  picked_from None t h p = cc
  picked_from (Some (composite c)) t h p = cc
  picked_from (Some (atomic a)) t h p = let e : a.trigger ≡ t = cc in ap (λ x. cond (test x) (Some x) None) e ∙ ap (λ b. cond b (Some t) None) p

  pub trigger_from : (o : Option Event) (t : Trigger) → picked test o ≡ Some t → trigger_at o ≡ Some t
  trigger_from None t h = cc
  trigger_from (Some (composite c)) t h = cc
  trigger_from (Some (atomic a)) t h = ap Some (cond_some (test a.trigger) a.trigger t h)

  module _ (es fs : Events) (k : Keeps test es fs) (n : Name) (t : Trigger) (p : test t ≡ true) where
    pub kept_trigger : trigger_at (lookup n es) ≡ Some t → trigger_at (lookup n fs) ≡ Some t
    kept_trigger h = trigger_from (lookup n fs) t (k.triggers n ∙ picked_from (lookup n es) t h p)

    pub old_trigger : trigger_at (lookup n fs) ≡ Some t → trigger_at (lookup n es) ≡ Some t
    old_trigger h = trigger_from (lookup n es) t (sym (k.triggers n) ∙ picked_from (lookup n fs) t h p)

    pub kept_unfired : trigger_at (lookup n es) ≡ Some t → is_fired_atomic (lookup n es) ≡ false → is_fired_atomic (lookup n fs) ≡ false
    kept_unfired h u = k.unfired n (ap is_some (picked_from (lookup n es) t h p)) u

-- ---- where the timers stay

module _ (test : Trigger → Bool) (picks : (t : Name) → test (Timer t) ≡ true) where
  pub fit_keeps : (timers : Timers) (es fs : Events) → Keeps test es fs → TimersFit timers es → TimersFit timers fs
  fit_keeps timers es fs k f = record {
    has_event = λ t x h. let e = f.has_event t x h in record { name = e.name; fires = kept_trigger test es fs k e.name (Timer t) (picks t) e.fires };
    one_event = λ n m t h g. f.one_event n m t (old_trigger test es fs k n (Timer t) (picks t) h) (old_trigger test es fs k m (Timer t) (picks t) g);
    has_timer = λ n t h. f.has_timer n t (old_trigger test es fs k n (Timer t) (picks t) h);
    unexpired = λ n t x h g u. let o = old_trigger test es fs k n (Timer t) (picks t) h in kept_unfired test es fs k n (Timer t) (picks t) o (f.unexpired n t x o g u);
  }

-- ---- where one timer changes

-- the events of children, and of all timers but one
abbrev pub others : Name → Trigger → Bool
others t tr = elim tr [ Input ↦ false | Completion n ↦ true | Timer u ↦ not (same u t) ]

-- what holds of the one timer, or of its want, and the events that it fires
pub record OwnFit (t : Name) (new : Option OneTimer) (es : Events) : Type 0 where
  pub has_event : (x : OneTimer) → new ≡ Some x → HasEvent t es
  pub one_event : (n m : Name) → trigger_at (lookup n es) ≡ Some (Timer t) → trigger_at (lookup m es) ≡ Some (Timer t) → n ≡ m
  pub has_timer : (n : Name) → trigger_at (lookup n es) ≡ Some (Timer t) → is_some new ≡ true
  pub unexpired : (n : Name) (x : OneTimer) → trigger_at (lookup n es) ≡ Some (Timer t) → new ≡ Some x → is_unexpired x ≡ true → is_fired_atomic (lookup n es) ≡ false

either : (P : Type 0) (b : Bool) → (b ≡ true → P) → (b ≡ false → P) → P
either P true f g = f refl
either P false f g = g refl

module _ (timers after : Timers) (es fs : Events) (t : Name) (new : Option OneTimer)
    (found : (u : Name) → lookup u after ≡ cond (same t u) new (lookup u timers)) (k : Keeps (others t) es fs) (f : TimersFit timers es) (own : OwnFit t new fs) where
  here : (u : Name) → same t u ≡ true → lookup u after ≡ new
  here u e = found u ∙ ap (λ b. cond b new (lookup u timers)) e

  elsewhere : (u : Name) → same t u ≡ false → lookup u after ≡ lookup u timers
  elsewhere u e = found u ∙ ap (λ b. cond b new (lookup u timers)) e

  is_other : (u : Name) → same t u ≡ false → others t (Timer u) ≡ true
  is_other u e = ap not (same_sym u t ∙ e)

  at_own : (n u : Name) → same t u ≡ true → trigger_at (lookup n fs) ≡ Some (Timer u) → trigger_at (lookup n fs) ≡ Some (Timer t)
  at_own n u e h = h ∙ ap (λ x. Some (Timer x)) (sym (same_exact t u e))

  old : (n u : Name) → same t u ≡ false → trigger_at (lookup n fs) ≡ Some (Timer u) → trigger_at (lookup n es) ≡ Some (Timer u)
  old n u e h = old_trigger (others t) es fs k n (Timer u) (is_other u e) h

  pub fit_but : TimersFit after fs
  fit_but = record {
    has_event = λ u x h. either (HasEvent u fs) (same t u)
        (λ e. subst (λ z. HasEvent z fs) (same_exact t u e) (own.has_event x (sym (here u e) ∙ h)))
        (λ e. let v = f.has_event u x (sym (elsewhere u e) ∙ h) in record { name = v.name; fires = kept_trigger (others t) es fs k v.name (Timer u) (is_other u e) v.fires });
    one_event = λ n m u h g. either (n ≡ m) (same t u)
        (λ e. own.one_event n m (at_own n u e h) (at_own m u e g))
        (λ e. f.one_event n m u (old n u e h) (old m u e g));
    has_timer = λ n u h. either (is_there u after ≡ true) (same t u)
        (λ e. ap is_some (here u e) ∙ own.has_timer n (at_own n u e h))
        (λ e. ap is_some (elsewhere u e) ∙ f.has_timer n u (old n u e h));
    unexpired = λ n u x h g v. either (is_fired_atomic (lookup n fs) ≡ false) (same t u)
        (λ e. own.unexpired n x (at_own n u e h) (sym (here u e) ∙ g) v)
        (λ e. let o = old n u e h in kept_unfired (others t) es fs k n (Timer u) (is_other u e) o (f.unexpired n u x o (sym (elsewhere u e) ∙ g) v));
  }

-- ---- the first event that a test finds

pub record First (test : Event → Bool) (es : Events) (n : Name) : Type 0 where
  pub value : Event
  pub found : lookup n es ≡ Some value
  pub passed : test value ≡ true

module _ (test : Event → Bool) where
  first_case : (b : Bool) (e : Name × Event) (es : Events) (n : Name) → test e.1 ≡ b → IsRising (keys_of (e ∷ es)) → cond b (Some e.0) (first_where test es) ≡ Some n
      → (first_where test es ≡ Some n → First test es n) → First test (e ∷ es) n
  first_case true e es n d s h i =
      let q : e.0 ≡ n = cc in
      record { value = e.1; found = ap (λ b. cond b (Some e.1) (lookup n es)) (ap (same n) q ∙ same_refl n); passed = d }
  first_case false e es n d s h i = let f = i h in record { value = f.value; found = behind_first e es n f.value s f.found; passed = f.passed }

  pub first_at : (es : Events) (n : Name) → IsRising (keys_of es) → first_where test es ≡ Some n → First test es n
  first_at [] n s h = cc
  first_at (e ∷ es) n s h = first_case (test e.1) e es n refl s h (first_at es n (tail_of e es s))
    where
      tail_of : (e : Name × Event) (es : Events) → IsRising (keys_of (e ∷ es)) → IsRising (keys_of es)
      tail_of e es s = sorted_tail (slice_cmp nat_cmp) e.0 (keys_of es) s

  none_case : (b c : Bool) (e : Name × Event) (n : Name) (v : Event) (o : Option Event) (r : Option Name) → test e.1 ≡ b → same n e.0 ≡ c → cond b (Some e.0) r ≡ None → cond c (Some e.1) o ≡ Some v
      → (r ≡ None → o ≡ Some v → test v ≡ false) → test v ≡ false
  none_case true c e n v o r d g h k i = cc
  none_case false true e n v o r d g h k i = let q : v ≡ e.1 = cc in ap test q ∙ d
  none_case false false e n v o r d g h k i = i h k

  -- where none is found, none passes
  pub first_none : (es : Events) (n : Name) (v : Event) → first_where test es ≡ None → lookup n es ≡ Some v → test v ≡ false
  first_none [] n v h k = cc
  first_none (e ∷ es) n v h k = none_case (test e.1) (same n e.0) e n v (lookup n es) (first_where test es) refl refl h k (first_none es n v)
