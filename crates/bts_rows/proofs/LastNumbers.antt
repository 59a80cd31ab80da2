-- What a command does to a pool raises its last entry number by one at most.
use Rattle.std.proofs.Common.{◌≡◌, ◌+◌, ◌≤◌, Bool, true, false, cond, not, ◌&&◌, List, Option, Some, None, refl, sym, ap, subst, arith}
use Rattle.bts_names.specs.Names.{Name}
use Rattle.bts_names.specs.Named.{lookup}
use Rattle.bts_event.specs.declared.event.Event.{Event}
use Rattle.bts_event.specs.declared.event.Trigger.{Trigger}
use Rattle.bts_event.specs.declared.queue.Entry.{Entry}
use Rattle.bts_event.specs.Calls as calls
use Rattle.bts_event.specs.Calls.{Call, CallerOwes, after, kept}
use Rattle.bts_event.specs.Events.{held_at, holder, new_atomic, new_composite}
use Rattle.bts_event.specs.Pool.{Pool, defined, deleted, deleted_from, entered, fired, removed_at, settled_at, subevent_added, subevent_removed}
use Rattle.bts_event.specs.Refusals as refusals
use Rattle.bts_event.specs.Sound.{IsSoundPool}
use Rattle.bts_event.proofs.Accounts.{Gains, gains, nothing, one}
use Rattle.bts_event.proofs.Settling.{atomic_defined, composite_defined, deleted_at, fired_alone, fired_within}
use Rattle.bts_event.proofs.SubCalls.{sub_fired}
use Rattle.bts_rows.specs.Timing.{fired_if, removed_if}
use Rattle.bts_rows.specs.Signals.{signalled}
use Rattle.bts_rows.proofs.Fits.{unless_none}

-- the second pool's last number is that of the first, or the next one
abbrev pub IsNext : Pool → Pool → Type 0
IsNext p q = q.last ≤ p.last + 1

pub next_same : (p q : Pool) → q.last ≡ p.last → IsNext p q
next_same p q e = omega arith

next_gained : (p q : Pool) (keeps : List Entry) → Gains p keeps q → IsNext p q
next_gained p q keeps (nothing e l) = next_same p q l
next_gained p q keeps (one c e l) = omega arith

pub next_by_call : (call : Call) (p : Pool) → CallerOwes call p → IsSoundPool p → IsNext p (after call p)
next_by_call call p o s = next_gained p (after call p) (kept call p) (gains call p o s)

-- ---- one composite may turn

entered_if : (t : Bool) (c : Name) (p q : Pool) → q.last ≡ p.last → IsNext p (cond t (entered c q) q)
entered_if true c p q e = omega arith
entered_if false c p q e = next_same p q e

next_settled : (before : Bool) (c : Name) (p q : Pool) → q.last ≡ p.last → IsNext p (settled_at before c q)
next_settled before c p q e = entered_if (not before && held_at q.events c) c p q e

-- ---- firing

fired_by : (o : Option Name) (n : Name) (p : Pool) → holder p.events n ≡ o → IsSoundPool p → IsNext p (fired n p)
fired_by None n p h s = subst (IsNext p) (sym (fired_alone p n s h)) (omega arith)
fired_by (Some c) n p h s = subst (IsNext p) (sym (fired_within p n c s h)) (next_settled (held_at p.events c) c p (sub_fired p n c) refl)

pub next_fired : (n : Name) (p : Pool) → IsSoundPool p → IsNext p (fired n p)
next_fired n p s = fired_by (holder p.events n) n p refl s

pub next_fired_if : (o : Option Name) (p : Pool) → IsSoundPool p → IsNext p (fired_if o p)
next_fired_if None p s = next_same p p refl
next_fired_if (Some n) p s = next_fired n p s

-- ---- deleting

deleted_by : (o : Option Name) (n : Name) (p : Pool) → IsNext p (deleted_from o n p)
deleted_by None n p = omega arith
deleted_by (Some c) n p = next_settled (held_at p.events c) c p _ refl

pub next_deleted : (n : Name) (p : Pool) → IsSoundPool p → IsNext p (deleted n p)
next_deleted n p s = subst (IsNext p) (sym (deleted_at p n s)) (deleted_by (holder p.events n) n p)

removed_by : (o : Option Event) (n : Name) (p : Pool) → IsSoundPool p → IsNext p (removed_at o n p)
removed_by None n p s = next_same p p refl
removed_by (Some e) n p s = next_deleted n p s

pub next_removed_if : (o : Option Name) (p : Pool) → IsSoundPool p → IsNext p (removed_if o p)
next_removed_if None p s = next_same p p refl
next_removed_if (Some n) p s = removed_by (lookup n p.events) n p s

-- ---- calls that aren't refused

pub next_defined : (n : Name) (t : Trigger) (p : Pool) → IsSoundPool p → refusals.define_refusal n p.events ≡ None → IsNext p (defined n (new_atomic t) p)
next_defined n t p s r = next_same p (defined n (new_atomic t) p) (ap (λ q. q.last) (atomic_defined p n t s r))

pub next_composite : (n : Name) (all : Bool) (subs : List Name) (p : Pool) → IsSoundPool p → refusals.composite_refusal n subs p.events ≡ None → IsNext p (defined n (new_composite all subs) p)
next_composite n all subs p s r = next_same p (defined n (new_composite all subs) p) (ap (λ q. q.last) (composite_defined p n all subs s r))

pub next_added : (c n : Name) (p : Pool) → IsSoundPool p → refusals.add_refusal c n p.events ≡ None → IsNext p (subevent_added c n p)
next_added c n p s r = subst (IsNext p) (unless_none (refusals.add_refusal c n p.events) _ p r) (next_by_call (calls.add_subevent c n) p tt s)

pub next_left : (c n : Name) (p : Pool) → IsSoundPool p → refusals.leave_refusal c n p.events ≡ None → IsNext p (subevent_removed c n p)
next_left c n p s r = subst (IsNext p) (unless_none (refusals.leave_refusal c n p.events) _ p r) (next_by_call (calls.remove_subevent c n) p tt s)

-- ---- the signal by which an activity is run

pub next_signal : (event : Option Name) (p : Pool) → IsSoundPool p → IsNext p (signalled event p)
next_signal None p s = next_by_call calls.start p tt s
next_signal (Some e) p s = next_fired e p s
