-- The bytes of a file: its header, its gates, and the records behind open gates.
use Rattle.std.specs.Prelude.{not, ◌||◌, is_some, ◌≡◌, ℕ, Bool, false, cond, ◌+◌, ◌<◌, nat_eq, nat_lt, nat_le, List, [], ◌∷◌, ◌++◌, length, take, drop, replicate, codes, Option, Some, None, IsTrue}
use Rattle.std.specs.Int.{w32, to_be_bytes, from_be_bytes}
use Rattle.bts_names.specs.Names.{Bytes, same}

abbrev pub open_gate : ℕ
open_gate = 0xA5

abbrev pub closed_gate : ℕ
closed_gate = 0

-- every byte but one is a closed gate
abbrev pub is_open : ℕ → Bool
is_open = nat_eq open_gate

abbrev pub signature : Bytes
signature = codes "BTSREP01"

-- the offset of the first gate: behind the signature and two slots of 28 bytes
abbrev pub first_gate : ℕ
first_gate = 64

-- a new file
abbrev pub fresh : Bytes
fresh = signature ++ replicate 56 0 ++ closed_gate ∷ []

abbrev pub is_repository : Bytes → Bool
is_repository bytes = cond (nat_lt (length bytes) first_gate) false (same (take 8 bytes) signature)

-- ---- records

-- the first n bytes, and what stands behind them
abbrev pub split : ℕ → Bytes → Option (Bytes × Bytes)
split n bytes = cond (nat_lt (length bytes) n) None (Some (take n bytes, drop n bytes))

-- behind four bytes of length, the highest first: so many bytes, and what stands behind them
abbrev pub payload_at : Bytes → Option (Bytes × Bytes)
payload_at (a ∷ b ∷ c ∷ d ∷ bytes) = split (from_be_bytes w32 (a ∷ b ∷ c ∷ d ∷ [])) bytes
payload_at _ = None

-- the payload behind an open gate, and what stands behind it
abbrev pub record_at : Bytes → Option (Bytes × Bytes)
record_at [] = None
record_at (gate ∷ bytes) = cond (is_open gate) (payload_at bytes) None

-- records of these payloads, and what stands behind the last of them
abbrev pub AreRecords : Bytes → List Bytes → Bytes → Type 0
AreRecords bytes [] rest = rest ≡ bytes
AreRecords bytes (p ∷ ps) rest = (more : Bytes) × (record_at bytes ≡ Some (p, more)) × AreRecords more ps rest

-- the bytes of a record are its gate, four bytes of length and its payload
abbrev pub record_length : Bytes → ℕ
record_length p = 5 + length p

abbrev pub records_length : List Bytes → ℕ
records_length [] = 0
records_length (p ∷ ps) = record_length p + records_length ps

-- the offsets of the gates of records, of which the first stands at this one
abbrev pub gates_from : ℕ → List Bytes → List ℕ
gates_from at [] = []
gates_from at (p ∷ ps) = at ∷ gates_from (at + record_length p) ps

abbrev pub is_closed : Bytes → Bool
is_closed [] = false
is_closed (gate ∷ bytes) = not (is_open gate)

-- a gate stands at the front, and behind an open one a whole record
abbrev pub goes_on : Bytes → Bool
goes_on bytes = is_closed bytes || is_some (record_at bytes)

-- the same of so many bytes, told by their first five
abbrev pub goes_on_within : ℕ → Bytes → Bool
goes_on_within len (gate ∷ a ∷ b ∷ c ∷ d ∷ bytes) = not (is_open gate) || nat_le (from_be_bytes w32 (a ∷ b ∷ c ∷ d ∷ []) + 5) len
goes_on_within len _ = false

-- A whole file: the signature, from the first gate on records of these payloads, and at its end a closed gate. The
-- bytes of the slots, and those behind the last gate, are free.
pub record Holds (bytes : Bytes) (payloads : List Bytes) (end : ℕ) : Type 0 where
  pub repository : IsTrue (is_repository bytes)
  pub rest : Bytes
  pub records : AreRecords (drop first_gate bytes) payloads rest
  pub closed : IsTrue (is_closed rest)
  pub ends : end ≡ first_gate + records_length payloads

-- the last gate, where the content is told, stands within it
abbrev pub HasGate : Option Bytes → ℕ → Type 0
HasGate None end = Unit {0}
HasGate (Some c) end = end < length c

-- ---- an append

-- what is written behind a closed gate
abbrev pub frame : Bytes → Bytes
frame payload = to_be_bytes w32 (length payload) ++ payload ++ closed_gate ∷ []

-- the room that a payload of so many bytes needs
abbrev pub frame_length : ℕ → ℕ
frame_length n = n + 5
