-- What a call of a disk in memory does to its images, now and since a moment.
use Rattle.std.proofs.Common.{◌≡◌, inl, inr, ⊎_elim, ℕ, Bool, true, false, List, [], ◌∷◌, ◌++◌, ◌≤◌, length, refl, ap, sym, ◌∙◌, subst, arith, length-append, not, Some, Result, Ok, Err, OnOk, OnErr}
use Rattle.std.proofs.lemmas.List.{take_all, take-append-le}
use Rattle.std.proofs.lemmas.Bool.{cases_lt}
use Rattle.bts_names.specs.Names.{Bytes}
use Rattle.bts_disk.specs.Disks.{written, Torn, Follows, Only, SameImages, Elapses}
use Rattle.bts_disk.specs.Memory.{Recorded, content_behind, content_of, StartWithin, StartsWithin, Leave, IsOrHas, IsImage, moment_of, WasImage, with_call, sync_call, Records}
use Rattle.bts_disk.specs.MemoryLaws.{Torn-none, Torn-written, leave-last, leave-more, content-last, within-last, shows_image}
use Rattle.bts_disk.specs.declared.device_call.DeviceCall.{DeviceCall}
use Rattle.bts_disk.specs.declared.device_call.DeviceCall.TheVariants.{Idle, Write, Sync}

module _ (r : Recorded) where
  elapses-none : Elapses (moment_of r) (moment_of r) (WasImage r) (WasImage r) (IsImage r) (IsImage r)
  elapses-none = record {
    later = omega arith;
    during = λ i w. inl (subst (λ (xs : List DeviceCall). Leave r.first r.first xs i) (take_all w.0 r.calls w.1) w.3);
    earlier = λ t i le w. inl w;
    kept = λ t i le w. w;
  }

  module _ (x : DeviceCall) where
    Taken : Bytes → List DeviceCall → Type 0
    Taken i xs = Leave r.first r.first xs i

    elapses-call : Elapses (moment_of r) (moment_of (with_call x r)) (WasImage r) (WasImage (with_call x r)) (IsImage r) (IsImage (with_call x r))
    unfolding Taken
    elapses-call = record {
      later = omega (arith, length-append r.calls (x ∷ []));
      during = λ i w. elim (cases_lt (length r.calls) w.0) [
        | inl past ↦ inr (subst (Taken i) (take_all w.0 (r.calls ++ x ∷ []) (omega (arith, past, length-append r.calls (x ∷ [])))) w.3)
        | inr within ↦ inl (subst (Taken i) (take-append-le w.0 r.calls (x ∷ []) within ∙ take_all w.0 r.calls w.1) w.3)
      ];
      earlier = λ t i le w. elim (cases_lt (length r.calls) w.0) [
        | inl past ↦ inr (w.0, omega (arith, past), w.2, w.3)
        | inr within ↦ inl (w.0, w.1, within, subst (Taken i) (take-append-le w.0 r.calls (x ∷ []) within) w.3)
      ];
      kept = λ t i le w. (
        w.0,
        w.1,
        omega (arith, w.2, length-append r.calls (x ∷ [])),
        subst (Taken i) (sym (take-append-le w.0 r.calls (x ∷ []) w.2)) w.3,
      );
    }

pub is_or_has : {T E : Type 0} (listed : Bool) (x : DeviceCall) (old new : Recorded) (result : Result T E) → Records listed x old new result → IsOrHas x old new
is_or_has listed x old new (Ok v) so = inr so.1
is_or_has listed x old new (Err e) (inl same) = inl same
is_or_has listed x old new (Err e) (inr has) = inr has.1

module _ (x : DeviceCall) (old new : Recorded) (so : IsOrHas x old new) where
  by_both : (P : Recorded → Type 0) → P old → P (with_call x old) → P new
  by_both P same more = ⊎_elim (λ e. subst P (sym e) same) (λ e. subst P (sym e) more) so

  pub elapses : Elapses (moment_of old) (moment_of new) (WasImage old) (WasImage new) (IsImage old) (IsImage new)
  elapses =
      by_both (λ (r : Recorded). Elapses (moment_of old) (moment_of r) (WasImage old) (WasImage r) (IsImage old) (IsImage r)) (elapses-none old) (elapses-call old x)

  pub within : StartWithin old.first old.calls → StartsWithin (content_of old) x → StartWithin new.first new.calls
  within all last = by_both (λ (r : Recorded). StartWithin r.first r.calls) all (within-last old.first old.calls x all last)

pub content_same : (old new : Recorded) → IsOrHas Idle old new → content_of new ≡ content_of old
content_same old new so = by_both Idle old new so (λ (r : Recorded). content_of r ≡ content_of old) refl (content-last old.first old.calls Idle)

pub within_idle : (old new : Recorded) → IsOrHas Idle old new → StartWithin old.first old.calls → StartWithin new.first new.calls
within_idle old new so all = within Idle old new so all tt

idle-same : (r : Recorded) → SameImages (IsImage r) (IsImage (with_call Idle r))
idle-same r i = (leave-more r.first r.first r.calls Idle i, leave-last r.first r.first r.calls Idle i)

pub idle_same : (old new : Recorded) → IsOrHas Idle old new → SameImages (IsImage old) (IsImage new)
idle_same old new so = by_both Idle old new so (λ (r : Recorded). SameImages (IsImage old) (IsImage r)) (λ i. (λ l. l, λ l. l)) (idle-same old)

pub write_follows : (done : Bool) (at : ℕ) (bytes : Bytes) (old new : Recorded) → IsOrHas (Write done at bytes) old new → Follows (Torn at (length bytes)) (IsImage old) (IsImage new)
write_follows done at bytes old new so =
    by_both (Write done at bytes) old new so
    (λ (r : Recorded). Follows (Torn at (length bytes)) (IsImage old) (IsImage r))
    (λ i left. (i, left, Torn-none at (length bytes) i))
    (λ i left. leave-last old.first old.first old.calls (Write done at bytes) i left)

-- what a write leaves of the content, done or not
behind_torn : (done : Bool) (at : ℕ) (bytes c : Bytes) → at ≤ length c → Torn at (length bytes) c (content_behind c (Write done at bytes))
behind_torn true at bytes c fits = Torn-written at bytes c fits
behind_torn false at bytes c fits = Torn-none at (length bytes) c

pub write_torn : (done : Bool) (at : ℕ) (bytes : Bytes) (old new : Recorded) → IsOrHas (Write done at bytes) old new → at ≤ length (content_of old) → Torn at (length bytes) (content_of old) (content_of new)
write_torn done at bytes old new so fits =
    let before = content_of old in
    by_both (Write done at bytes) old new so
    (λ (r : Recorded). Torn at (length bytes) before (content_of r))
    (Torn-none at (length bytes) before)
    (subst (λ (c : Bytes). Torn at (length bytes) before c) (sym (content-last old.first old.calls (Write done at bytes))) (behind_torn done at bytes before fits))

sync_only : (r : Recorded) → Only (content_of r) (IsImage (with_call Sync r))
sync_only r i left = leave-last r.first r.first r.calls Sync i left

sync_fewer : (r : Recorded) → StartWithin r.first r.calls → (i : Bytes) → IsImage (with_call Sync r) i → IsImage r i
sync_fewer r all i left = subst (IsImage r) (sym (sync_only r i left)) (shows_image r all)

-- ---- by the answer

pub write_content : {T E : Type 0} (listed : Bool) (at : ℕ) (bytes : Bytes) (old new : Recorded) (result : Result T E) → Records listed (Write (not listed) at bytes) old new result → OnOk result (Some (content_of new) ≡ Some (written at bytes (content_of old)))
write_content true at bytes old new (Ok v) so = cc
write_content false at bytes old new (Ok v) so =
    ap Some (ap content_of so.1 ∙ content-last old.first old.calls (Write true at bytes))
write_content listed at bytes old new (Err e) so = tt

pub sync_durable : {T E : Type 0} (listed : Bool) (old new : Recorded) (result : Result T E) → Records listed (sync_call listed) old new result → OnOk result (Only (content_of old) (IsImage new))
sync_durable true old new (Ok v) so = cc
sync_durable false old new (Ok v) so = subst (λ (r : Recorded). Only (content_of old) (IsImage r)) (sym so.1) (sync_only old)
sync_durable listed old new (Err e) so = tt

sync-listed : (old new : Recorded) (listed : Bool) → listed ≡ true → new ≡ with_call (sync_call listed) old → SameImages (IsImage old) (IsImage new)
sync-listed old new true is so = idle_same old new (inr so)
sync-listed old new false is so = cc

pub sync_failed : {T E : Type 0} (listed : Bool) (old new : Recorded) (result : Result T E) → Records listed (sync_call listed) old new result → OnErr result (SameImages (IsImage old) (IsImage new))
sync_failed listed old new (Ok v) so = tt
sync_failed listed old new (Err e) (inl same) = idle_same old new (inl same)
sync_failed listed old new (Err e) (inr has) = sync-listed old new listed has.0 has.1

pub as_sync : (listed : Bool) (x : DeviceCall) (old new : Recorded) → x ≡ sync_call listed → IsOrHas x old new → IsOrHas (sync_call listed) old new
as_sync listed x old new is so = subst (λ (y : DeviceCall). IsOrHas y old new) is so

pub sync_content : (listed : Bool) (old new : Recorded) → IsOrHas (sync_call listed) old new → content_of new ≡ content_of old
sync_content true old new so = content_same old new so
sync_content false old new so = by_both Sync old new so (λ (r : Recorded). content_of r ≡ content_of old) refl (content-last old.first old.calls Sync)

pub sync_images : (listed : Bool) (old new : Recorded) → StartWithin old.first old.calls → IsOrHas (sync_call listed) old new → (i : Bytes) → IsImage new i → IsImage old i
sync_images true old new all so = λ i. (idle_same old new so i).1
sync_images false old new all so =
    by_both Sync old new so (λ (r : Recorded). (i : Bytes) → IsImage r i → IsImage old i) (λ i left. left) (sync_fewer old all)

pub sync_within : (listed : Bool) (old new : Recorded) → IsOrHas (sync_call listed) old new → StartWithin old.first old.calls → StartWithin new.first new.calls
sync_within true old new so all = within Idle old new so all tt
sync_within false old new so all = within Sync old new so all tt
