-- A disk in memory: its first bytes, and all calls since.
use Rattle.std.specs.Prelude.{◌≡◌, ◌⊎◌, ℕ, ◌≤◌, Bool, true, false, cond, List, [], ◌∷◌, ◌++◌, length, take, drop, replicate, Option, Some, None, Result, Ok, Err}
use Rattle.bts_names.specs.Names.{Bytes}
use Rattle.bts_disk.specs.Disks.{written, Torn}
use Rattle.bts_disk.specs.declared.device_call.DeviceCall.{DeviceCall}
use Rattle.bts_disk.specs.declared.device_call.DeviceCall.TheVariants.{Idle, Write, Sync}
use Rattle.bts_disk.specs.declared.pick.Pick.{Pick}
use Rattle.bts_disk.specs.declared.pick.Pick.TheVariants.{Old, New, Filled}

pub record Recorded : Type 0 where
  pub first : Bytes
  pub calls : List DeviceCall

-- ---- what a read gives

-- the content behind a call: a write that wasn't done changes nothing
abbrev pub content_behind : Bytes → DeviceCall → Bytes
content_behind c Idle = c
content_behind c (Write done at bytes) = cond done (written at bytes c) c
content_behind c Sync = c

abbrev pub content_after : Bytes → List DeviceCall → Bytes
content_after c [] = c
content_after c (x ∷ xs) = content_after (content_behind c x) xs

abbrev pub content_of : Recorded → Bytes
content_of r = content_after r.first r.calls

-- it isn't a write
abbrev pub IsQuiet : DeviceCall → Type 0
IsQuiet Idle = Unit {0}
IsQuiet (Write done at bytes) = ⊥
IsQuiet Sync = Unit {0}

-- each write begins within the content, or at its end
abbrev pub StartsWithin : Bytes → DeviceCall → Type 0
StartsWithin c Idle = Unit {0}
StartsWithin c (Write done at bytes) = at ≤ length c
StartsWithin c Sync = Unit {0}

abbrev pub StartWithin : Bytes → List DeviceCall → Type 0
StartWithin c [] = Unit {0}
StartWithin c (x ∷ xs) = StartsWithin c x × StartWithin (content_behind c x) xs

-- ---- what a crash may leave

-- From a content c and an image d, these calls lead to this image. A write, done or not, may be torn, and behind a sync
-- the content is the image.
abbrev pub Leave : Bytes → Bytes → List DeviceCall → Bytes → Type 0
Leave c d [] image = image ≡ d
Leave c d (Idle ∷ xs) image = Leave c d xs image
Leave c d (Write done at bytes ∷ xs) image = (e : Bytes) × Torn at (length bytes) d e × Leave (content_behind c (Write done at bytes)) e xs image
Leave c d (Sync ∷ xs) image = Leave c c xs image

abbrev pub IsImage : Recorded → Bytes → Type 0
IsImage r image = Leave r.first r.first r.calls image

-- ---- moments: how many calls there were

abbrev pub moment_of : Recorded → ℕ
moment_of r = length r.calls

-- the disk as it was behind its first n calls
abbrev pub behind : ℕ → Recorded → Recorded
behind n r = record { first = r.first; calls = take n r.calls }

-- an image at some moment from t on
abbrev pub WasImage : Recorded → ℕ → Bytes → Type 0
WasImage r t image = (n : ℕ) × (t ≤ n) × (n ≤ moment_of r) × IsImage (behind n r) image

-- ---- the image that a pick names

abbrev pub picked_write : Pick → ℕ → Bytes → Bytes → Bytes
picked_write Old at bytes d = d
picked_write New at bytes d = written at bytes d
picked_write (Filled b) at bytes d = written at (replicate (length bytes) b) d

abbrev pub picked_call : Pick → Bytes → DeviceCall → Bytes
picked_call p d Idle = d
picked_call p d (Write done at bytes) = picked_write p at bytes d
picked_call p d Sync = d

-- From a content c and an image d: Old leaves out what wasn't synced, New has it all, also a write that failed, and
-- Filled has this byte in its places.
abbrev pub picked_from : Pick → Bytes → Bytes → List DeviceCall → Bytes
picked_from p c d [] = d
picked_from p c d (Idle ∷ xs) = picked_from p c d xs
picked_from p c d (Write done at bytes ∷ xs) = picked_from p (content_behind c (Write done at bytes)) (picked_write p at bytes d) xs
picked_from p c d (Sync ∷ xs) = picked_from p c c xs

abbrev pub picked : Pick → Recorded → Bytes
picked p r = picked_from p r.first r.first r.calls

-- the same where none of the calls is a sync
abbrev pub picked_calls : Pick → Bytes → List DeviceCall → Bytes
picked_calls p d [] = d
picked_calls p d (x ∷ xs) = picked_calls p (picked_call p d x) xs

-- behind so many of the calls none is a sync, and what is picked stands on the content behind these
abbrev pub IsBehindSyncs : List DeviceCall → ℕ → Type 0
IsBehindSyncs xs n = (p : Pick) (c : Bytes) → picked_from p c c xs ≡ picked_calls p (content_after c (take n xs)) (drop n xs)

-- ---- what a call adds

abbrev pub new_disk : Bytes → Recorded
new_disk bytes = record { first = bytes; calls = [] }

abbrev pub with_call : DeviceCall → Recorded → Recorded
with_call x r = record { first = r.first; calls = r.calls ++ x ∷ [] }

-- nothing was recorded, or this call
abbrev pub IsOrHas : DeviceCall → Recorded → Recorded → Type 0
IsOrHas x old new = (new ≡ old) ⊎ (new ≡ with_call x old)

-- what a sync is recorded as, where its number is listed or isn't
abbrev pub sync_call : Bool → DeviceCall
sync_call true = Idle
sync_call false = Sync

-- The call is recorded, as failed where its number is listed; one that finds no memory isn't recorded at all.
abbrev pub Records : {T E : Type 0} → Bool → DeviceCall → Recorded → Recorded → Result T E → Type 0
Records listed call old new (Ok x) = (listed ≡ false) × (new ≡ with_call call old)
Records listed call old new (Err e) = (new ≡ old) ⊎ ((listed ≡ true) × (new ≡ with_call call old))

-- ---- how the content is kept

-- the first bytes are kept beside the content once these differ
abbrev pub first_of : Option Bytes → Bytes → Bytes
first_of None content = content
first_of (Some first) content = first
