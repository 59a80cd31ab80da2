-- What the calls of a disk do to its content, and what a crash may leave.
use Rattle.std.specs.Prelude.{◌≡◌, ◌⊎◌, ◌↔◌, ℕ, ◌+◌, ◌≤◌, min, max, ◌++◌, length, take, drop, Option, is_some, Result, IsErr, OnOk}
use Rattle.bts_names.specs.Names.{Bytes}
use Rattle.bts_io.specs.Faults.{last_count}

-- the content with these bytes at this offset, grown where they reach past its end
abbrev pub written : ℕ → Bytes → Bytes → Bytes
written at bytes content = take at content ++ bytes ++ drop (at + length bytes) content

-- An image behind a write of n bytes at an offset, from an image before it: any bytes stand in the range and past the
-- old end, some length between, and what was there outside the range stays. A write that failed leaves the content so.
pub record Torn (at n : ℕ) (old new : Bytes) : Type 0 where
  pub before : take (min at (length old)) new ≡ take at old
  pub after : drop (at + n) (take (length old) new) ≡ drop (at + n) old
  pub no_shorter : length old ≤ length new
  pub no_longer : length new ≤ max (length old) (at + n)

-- each of these images is one of those before, after a step
abbrev pub Follows : (Bytes → Bytes → Type 0) → (Bytes → Type 0) → (Bytes → Type 0) → Type 0
Follows step old new = (c : Bytes) → new c → (d : Bytes) × old d × step d c

-- there is no other image than this
abbrev pub Only : Bytes → (Bytes → Type 0) → Type 0
Only content images = (c : Bytes) → images c → c ≡ content

abbrev pub SameImages : (Bytes → Type 0) → (Bytes → Type 0) → Type 0
SameImages old new = (c : Bytes) → old c ↔ new c

-- The moment doesn't fall. An image since the call's beginning is one before the call or one behind it. One since an
-- earlier moment was one before the call, or is one since its beginning; and what was an image since then stays one.
pub record Elapses (before now : ℕ) (past since : ℕ → Bytes → Type 0) (old new : Bytes → Type 0) : Type 0 where
  pub later : before ≤ now
  pub during : (c : Bytes) → since before c → old c ⊎ new c
  pub earlier : (t : ℕ) (c : Bytes) → t ≤ before → since t c → past t c ⊎ since before c
  pub kept : (t : ℕ) (c : Bytes) → t ≤ before → past t c → since t c

-- at the last moment a call fails, the count of faults is the last, and the moment stays
pub record IsOver {T E : Type 0} (moment faults : ℕ) (result : Result T E) : Type 0 where
  pub fails : IsErr result
  pub count : faults ≡ last_count
  pub stays : moment ≡ last_count

abbrev pub EndsAtLast : {T E : Type 0} → ℕ → ℕ → ℕ → Result T E → Type 0
EndsAtLast before now faults result = before ≡ last_count → IsOver now faults result

-- ---- counts

-- the count behind so many calls more
abbrev pub behind_calls : ℕ → ℕ → ℕ
behind_calls n count = min (count + n) last_count

-- so many calls were made where it answers Ok, and never more
pub record MakesCalls {T E : Type 0} (n before now : ℕ) (result : Result T E) : Type 0 where
  pub most : now ≤ behind_calls n before
  pub all : OnOk result (now ≡ behind_calls n before)

-- a disk that tells its content goes on to do so, and one that doesn't won't
abbrev pub TellsAsBefore : Option Bytes → Option Bytes → Type 0
TellsAsBefore old new = is_some new ≡ is_some old

-- ---- over several calls

-- Each image since the beginning has P, and one since an earlier moment has P or was one before the beginning.
pub record LeavesOnly {D : Type 0} (moment : D → ℕ) (left_since : D → ℕ → Bytes → Type 0) (old new : D) (P : Bytes → Type 0) : Type 0 where
  pub later : moment old ≤ moment new
  pub each : (c : Bytes) → left_since new (moment old) c → P c
  pub before : (t : ℕ) (c : Bytes) → t ≤ moment old → left_since new t c → left_since old t c ⊎ P c

-- it tells what it told, and what a crash leaves behind it, or has left since the beginning, it left before
pub record IsUntouched {D : Type 0} (content : D → Option Bytes) (may_leave : D → Bytes → Type 0) (moment : D → ℕ) (left_since : D → ℕ → Bytes → Type 0) (old new : D) : Type 0 where
  pub told : content new ≡ content old
  pub images : SameImages (may_leave old) (may_leave new)
  pub since : LeavesOnly moment left_since old new (may_leave old)
