-- The calls of a pool that leave the events of children and timers as they are.
use Rattle.std.proofs.Common.{◌≡◌, Bool, true, false, cond, not, List, [], ◌∷◌, Option, Some, None, Result, Ok, Err, option_map, is_some, refl, sym, ap, subst, ◌∙◌}
use Rattle.std.specs.Map.{keys_of}
use Rattle.bts_names.specs.Names.{Name}
use Rattle.bts_names.specs.Named.{lookup, is_there}
use Rattle.bts_names.specs.declared.reply.Reason.{Reason}
use Rattle.bts_names.specs.declared.reply.Reason.TheVariants as reason
use Rattle.bts_names.specs.declared.state.EventKind.{EventKind}
use Rattle.bts_event.specs.declared.event.Event.{Event}
use Rattle.bts_event.specs.declared.event.Event.TheVariants.{Atomic as atomic, Composite as composite}
use Rattle.bts_event.specs.declared.event.Trigger.{Trigger}
use Rattle.bts_event.specs.declared.queue.Entry.{Entry}
use Rattle.bts_event.specs.Events.{Events, change, holder, is_fired_atomic, is_input, with_queued, with_rest, with_sub, without_sub}
use Rattle.bts_event.specs.Pool.{Pool, defined, deleted, fired, first_taken, next_subevent, parted, placed, retrieved, subevent_added, subevent_removed, subevent_retrieved, subevent_taken}
use Rattle.bts_event.specs.Refusals.{composite_refusal, define_refusal, delete_refusal, delete_refusal_of}
use Rattle.bts_event.proofs.Bits.{not_when}
use Rattle.bts_event.proofs.Defines.{none_from}
use Rattle.bts_event.proofs.NewComposites.{or_none}
use Rattle.bts_event.proofs.Orders.{IsRising}
use Rattle.bts_event.proofs.Readings.{keys-change}
use Rattle.bts_rows.proofs.Keeps.{Keeps, is_owned, is_picked, keeps_both, keeps_change, keeps_cleared, keeps_equal, keeps_fired, keeps_put, keeps_same, keeps_without, picked, picked-fired, settled-events}

-- ---- what a change of a composite leaves

module _ (test : Trigger → Bool) where
  with_sub_picked : (s : Name) (o : Option Event) → picked test (option_map (with_sub s) o) ≡ picked test o
  with_sub_picked s None = refl
  with_sub_picked s (Some (atomic a)) = refl
  with_sub_picked s (Some (composite c)) = refl

  with_sub_fired : (s : Name) (o : Option Event) → is_fired_atomic o ≡ false → is_fired_atomic (option_map (with_sub s) o) ≡ false
  with_sub_fired s None u = u
  with_sub_fired s (Some (atomic a)) u = u
  with_sub_fired s (Some (composite c)) u = u

  without_sub_picked : (s : Name) (o : Option Event) → picked test (option_map (without_sub s) o) ≡ picked test o
  without_sub_picked s None = refl
  without_sub_picked s (Some (atomic a)) = refl
  without_sub_picked s (Some (composite c)) = refl

  without_sub_fired : (s : Name) (o : Option Event) → is_fired_atomic o ≡ false → is_fired_atomic (option_map (without_sub s) o) ≡ false
  without_sub_fired s None u = u
  without_sub_fired s (Some (atomic a)) u = u
  without_sub_fired s (Some (composite c)) u = u

  with_rest_picked : (o : Option Event) → picked test (option_map with_rest o) ≡ picked test o
  with_rest_picked None = refl
  with_rest_picked (Some (atomic a)) = refl
  with_rest_picked (Some (composite c)) = refl

  with_rest_fired : (o : Option Event) → is_fired_atomic o ≡ false → is_fired_atomic (option_map with_rest o) ≡ false
  with_rest_fired None u = u
  with_rest_fired (Some (atomic a)) u = u
  with_rest_fired (Some (composite c)) u = u

  with_queued_picked : (s : Name) (o : Option Event) → picked test (option_map (with_queued s) o) ≡ picked test o
  with_queued_picked s None = refl
  with_queued_picked s (Some (atomic a)) = refl
  with_queued_picked s (Some (composite c)) = refl

  with_queued_fired : (s : Name) (o : Option Event) → is_fired_atomic o ≡ false → is_fired_atomic (option_map (with_queued s) o) ≡ false
  with_queued_fired s None u = u
  with_queued_fired s (Some (atomic a)) u = u
  with_queued_fired s (Some (composite c)) u = u

  -- ---- the calls

  -- a new event that isn't picked, under a name that is free
  pub keeps_defined : (n : Name) (e : Event) (p : Pool) → lookup n p.events ≡ None → is_picked test (Some e) ≡ false → Keeps test p.events (defined n e p).events
  keeps_defined n e p absent h = keeps_equal test p.events _ _ (settled-events p.events _) (keeps_put test p.events n e absent h)

  pub keeps_added : (c s : Name) (p : Pool) → Keeps test p.events (subevent_added c s p).events
  keeps_added c s p = keeps_equal test p.events _ _ (settled-events p.events _) (keeps_change test (with_sub s) p.events c (with_sub_picked s) (with_sub_fired s))

  pub keeps_removed : (c s : Name) (p : Pool) → Keeps test p.events (subevent_removed c s p).events
  keeps_removed c s p = keeps_equal test p.events _ _ (settled-events p.events _) (keeps_change test (without_sub s) p.events c (without_sub_picked s) (without_sub_fired s))

  pub parted_keeps : (n : Name) (o : Option Name) (es : Events) → Keeps test es (parted n o es)
  parted_keeps n None es = keeps_same test es
  parted_keeps n (Some c) es = keeps_change test (without_sub n) es c (without_sub_picked n) (without_sub_fired n)

  pub parted_rising : (n : Name) (o : Option Name) (es : Events) → IsRising (keys_of es) → IsRising (keys_of (parted n o es))
  parted_rising n None es s = s
  parted_rising n (Some c) es s = subst IsRising (sym (keys-change es c (without_sub n))) s

  -- an event that isn't picked goes
  pub keeps_deleted : (n : Name) (p : Pool) → IsRising (keys_of p.events) → is_picked test (lookup n p.events) ≡ false → Keeps test p.events (deleted n p).events
  keeps_deleted n p s h =
      let es : Events = parted n (holder p.events n) p.events in
      let k : Keeps test p.events es = parted_keeps n (holder p.events n) p.events in
      keeps_equal test p.events _ _ (settled-events p.events _)
      (keeps_both test p.events es _ k (keeps_without test es n (parted_rising n (holder p.events n) p.events s) (ap is_some (k.triggers n) ∙ h)))

  pub placed_keeps : (n : Name) (o : Option Name) (p : Pool) → Keeps test p.events (placed n o p).events
  placed_keeps n None p = keeps_same test p.events
  placed_keeps n (Some c) p = keeps_change test (with_queued n) p.events c (with_queued_picked n) (with_queued_fired n)

  -- an event that isn't picked fires
  pub keeps_firing : (n : Name) (p : Pool) → is_picked test (lookup n p.events) ≡ false → Keeps test p.events (fired n p).events
  keeps_firing n p h =
      let es : Events = (placed n (holder p.events n) p).events in
      let k : Keeps test p.events es = placed_keeps n (holder p.events n) p in
      keeps_equal test p.events _ _ (settled-events p.events _) (keeps_both test p.events es _ k (keeps_fired test es n (ap is_some (k.triggers n) ∙ h)))

  -- a firing leaves what fires each event
  pub picked-firing : (n : Name) (p : Pool) (m : Name) → picked test (lookup m (fired n p).events) ≡ picked test (lookup m p.events)
  picked-firing n p m =
      let es : Events = (placed n (holder p.events n) p).events in
      ap (λ fs. picked test (lookup m fs)) (settled-events p.events _) ∙ picked-fired test es n m ∙ (placed_keeps n (holder p.events n) p).triggers m

  first_keeps : (entries : List Entry) (p : Pool) → Keeps test p.events (first_taken entries p).events
  first_keeps [] p = keeps_same test p.events
  first_keeps (e ∷ es) p = keeps_cleared test p.events e.name

  pub keeps_retrieved : (p : Pool) → Keeps test p.events (retrieved p).events
  keeps_retrieved p = first_keeps p.entries p

  taken_keeps : (o : Result (Name × EventKind) Reason) (c : Name) (p : Pool) → Keeps test p.events (subevent_taken o c p).events
  taken_keeps (Err r) c p = keeps_same test p.events
  taken_keeps (Ok (s, k)) c p =
      keeps_both test p.events (change p.events c with_rest) _ (keeps_change test with_rest p.events c with_rest_picked with_rest_fired) (keeps_cleared test (change p.events c with_rest) s)

  pub keeps_subevent_retrieved : (c : Name) (p : Pool) → Keeps test p.events (subevent_retrieved c p).events
  keeps_subevent_retrieved c p = taken_keeps (next_subevent c p) c p

-- ---- what isn't refused

-- an event is defined under a name that is free
pub define_free : (n : Name) (es : Events) → define_refusal n es ≡ None → lookup n es ≡ None
define_free n es h = none_from (lookup n es) (not_when (is_there n es) reason.Taken (or_none _ _ h).0)

pub composite_free : (n : Name) (subs : List Name) (es : Events) → composite_refusal n subs es ≡ None → lookup n es ≡ None
composite_free n subs es h = none_from (lookup n es) (not_when (is_there n es) reason.Taken (or_none _ _ h).0)

input_case : (b : Bool) (t : Trigger) → cond b None (Some reason.Kind) ≡ None → is_some (cond (not b) (Some t) None) ≡ false
input_case true t h = refl
input_case false t h = cc

deleted_case : (es : Events) (o : Option Event) → delete_refusal_of es o ≡ None → is_picked is_owned o ≡ false
deleted_case es None h = refl
deleted_case es (Some (atomic a)) h = input_case (is_input a.trigger) a.trigger h
deleted_case es (Some (composite c)) h = refl

-- a program deletes no event of a child or a timer
pub delete_unowned : (n : Name) (es : Events) → delete_refusal n es ≡ None → is_picked is_owned (lookup n es) ≡ false
delete_unowned n es h = deleted_case es (lookup n es) h
