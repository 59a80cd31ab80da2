-- What a scan finds in a file, and why it finds none.
use Rattle.std.specs.Prelude.{◌≡◌, ◌⊎◌, ℕ, false, cond, nat_le, List, [], ◌∷◌, ◌++◌, length, map, drop, Option, Some, Result, Ok, Err, IsTrue}
use Rattle.bts_names.specs.Names.{Bytes}
use Rattle.bts_command.specs.declared.ended.Ended.{Ended}
use Rattle.bts_disk.specs.Disks.{Only}
use Rattle.bts_journal.specs.Gates.{first_gate, is_repository, goes_on, gates_from, AreRecords, Holds}
use Rattle.bts_journal.specs.Journals.{State}
use Rattle.bts_journal.specs.Units.{IsNext, AreUnits, HoldsUnits, IsFirstBad}
use Rattle.bts_journal.specs.declared.found.Found.{Found}
use Rattle.bts_journal.specs.declared.found.OpenError.{OpenError}
use Rattle.bts_journal.specs.declared.found.OpenError.TheVariants as error

abbrev pub units_of : List Found → List Ended
units_of = map (λ f. f.unit)

-- a whole file holds these units, each behind its gate, and its last gate stands here
pub record Scans (bytes : Bytes) (founds : List Found) (end : ℕ) : Type 0 where
  pub payloads : List Bytes
  pub holds : Holds bytes payloads end
  pub are : AreUnits 0 payloads (units_of founds)
  pub gates : map (λ f. f.gate) founds ≡ gates_from first_gate payloads

-- some units stand in a repository, and behind them a closed gate or a whole record: where memory runs out, nothing
-- that is told without it is a refusal
pub record GoesOn (bytes : Bytes) : Type 0 where
  pub repository : IsTrue (is_repository bytes)
  pub payloads : List Bytes
  pub units : List Ended
  pub rest : Bytes
  pub records : AreRecords (drop first_gate bytes) payloads rest
  pub are : AreUnits 0 payloads units
  pub next : IsTrue (goes_on rest)

-- why bytes aren't scanned; a disk that failed says nothing of them
abbrev pub WhyNotScanned : OpenError → Bytes → Type 0
WhyNotScanned error.DiskFault bytes = Unit {0}
WhyNotScanned error.NotRepository bytes = is_repository bytes ≡ false
WhyNotScanned (error.BadRecord offset) bytes = IsFirstBad bytes offset
WhyNotScanned error.NoMemory bytes = GoesOn bytes

-- how many bytes are read before memory is asked for
abbrev pub at_hand : ℕ
at_hand = 4096

-- The device calls of a scan that reads all units: a sync, the length, and a read of all bytes. A file that is longer
-- than what is read without memory is read twice.
abbrev pub scan_calls : ℕ → ℕ
scan_calls n = cond (nat_le n at_hand) 3 4

-- ---- one unit more

-- the content is told, holds these units up to the journal's end, and is the one image
pub record StandsWith {D : Type 0} (content : D → Option Bytes) (may_leave : D → Bytes → Type 0) (journal : State D) (units : List Ended) : Type 0 where
  pub bytes : Bytes
  pub told : content journal.disk ≡ Some bytes
  pub holds : HoldsUnits bytes units journal.end
  pub durable : Only bytes (may_leave journal.disk)

-- the file holds these units, wherever its last gate stands
abbrev pub HasUnits : List Ended → Bytes → Type 0
HasUnits units bytes = (end : ℕ) × HoldsUnits bytes units end

-- it holds these, or one more
abbrev pub HasUnitsOrOneMore : List Ended → Ended → Bytes → Type 0
HasUnitsOrOneMore units e bytes = HasUnits units bytes ⊎ HasUnits (units ++ e ∷ []) bytes

-- a unit was found next and put behind the others, or why none was
abbrev pub FindsNext : {T : Type 0} → Result T OpenError → List Found → List Found → Bytes → ℕ → Type 0
FindsNext (Ok x) old new payload gate = (e : Ended) × IsNext (length old) payload e × (new ≡ old ++ record { unit = e; gate = gate } ∷ [])
FindsNext (Err error.DiskFault) old new payload gate = ⊥
FindsNext (Err error.NotRepository) old new payload gate = ⊥
FindsNext (Err (error.BadRecord offset)) old new payload gate = (offset ≡ gate) × ((e : Ended) → IsNext (length old) payload e → ⊥)
FindsNext (Err error.NoMemory) old new payload gate = Unit {0}
