-- The records of a file that were read so far.
use Rattle.std.proofs.Common.{◌≡◌, ◌⊎◌, inl, inr, ℕ, ◌+◌, ◌≤◌, ◌<◌, Bool, true, false, not, ◌||◌, is_some, cond, nat_lt, List, [], ◌∷◌, ◌++◌, length, map, drop, refl, ap, sym, ◌∙◌, subst, arith, length-append, length-drop, Option, Some, None, Err, IsTrue, IfSome}
use Rattle.std.proofs.lemmas.List.{map-append, length-map}
use Rattle.bts_names.specs.Names.{Bytes}
use Rattle.bts_command.specs.declared.ended.Ended.{Ended}
use Rattle.bts_journal.specs.Gates.{is_open, first_gate, is_repository, is_closed, payload_at, record_at, AreRecords, record_length, records_length, gates_from, HasGate}
use Rattle.bts_journal.specs.Units.{IsNext, AreUnits, HasNoNext, IsBad, IsFirstBad}
use Rattle.bts_disk.specs.Disks.{Only}
use Rattle.bts_journal.specs.Journals.{State}
use Rattle.bts_journal.specs.Scans.{units_of, Scans, WhyNotScanned, FindsNext, StandsWith}
use Rattle.bts_journal.specs.declared.found.OpenError.{OpenError}
use Rattle.bts_journal.specs.declared.found.OpenError.TheVariants as error
use Rattle.bts_journal.specs.declared.found.Found.{Found}
use Rattle.bts_journal.proofs.Fronts.{front_of, fronts_of, records_more, length_more}
use Rattle.bts_journal.proofs.Parts.{repository-long}

gates_of : List Found → List ℕ
gates_of = map (λ f. f.gate)

-- these units stand in front of the rest, which begins at this offset
pub record SoFar (bytes rest : Bytes) (founds : List Found) (offset : ℕ) : Type 0 where
  pub payloads : List Bytes
  pub records : AreRecords (drop first_gate bytes) payloads rest
  pub are : AreUnits 0 payloads (units_of founds)
  pub gates : map (λ f. f.gate) founds ≡ gates_from first_gate payloads
  pub stands : offset ≡ first_gate + records_length payloads

pub none_yet : (bytes rest : Bytes) → rest ≡ drop first_gate bytes → SoFar bytes rest [] first_gate
none_yet bytes rest is = record { payloads = []; records = is; are = tt; gates = refl; stands = refl }

-- ---- one more

pub units-more : (n : ℕ) (ps : List Bytes) (us : List Ended) (p : Bytes) (e : Ended) → AreUnits n ps us → IsNext (n + length us) p e → AreUnits n (ps ++ p ∷ []) (us ++ e ∷ [])
units-more n [] [] p e are next = (subst (λ (k : ℕ). IsNext k p e) (omega arith) next, tt)
units-more n [] (u ∷ us) p e are next = absurd are
units-more n (q ∷ ps) [] p e are next = absurd are
units-more n (q ∷ ps) (u ∷ us) p e are next =
    let place : n + length (u ∷ us) ≡ n + 1 + length us = omega arith in
    (are.0, units-more (n + 1) ps us p e are.1 (subst (λ (k : ℕ). IsNext k p e) place next))

gates-more : (at : ℕ) (ps : List Bytes) (p : Bytes) → gates_from at (ps ++ p ∷ []) ≡ gates_from at ps ++ (at + records_length ps) ∷ []
gates-more at [] p = ap (λ (k : ℕ). k ∷ []) (omega arith)
gates-more at (q ∷ ps) p =
    let place : at + record_length q + records_length ps ≡ at + records_length (q ∷ ps) = omega arith in
    ap (λ (l : List ℕ). at ∷ l) (gates-more (at + record_length q) ps p ∙ ap (λ (k : ℕ). gates_from (at + record_length q) ps ++ k ∷ []) place)

pub one_more : (bytes rest more p : Bytes) (founds founds' : List Found) (offset offset' : ℕ) (e : Ended)
    → SoFar bytes rest founds offset → record_at rest ≡ Some (p, more) → IsNext (length founds) p e
    → founds' ≡ founds ++ record { unit = e; gate = offset } ∷ [] → offset' ≡ offset + record_length p → SoFar bytes more founds' offset'
one_more bytes rest more p founds founds' offset offset' e so read next grown behind =
    let f : Found = record { unit = e; gate = offset } in
    let count : length founds ≡ 0 + length (units_of founds) = omega (arith, length-map founds (λ (x : Found). x.unit)) in
    let units : units_of founds' ≡ units_of founds ++ e ∷ [] = ap units_of grown ∙ map-append (λ (x : Found). x.unit) founds (f ∷ []) in
    let gates : map (λ (x : Found). x.gate) founds' ≡ map (λ (x : Found). x.gate) founds ++ offset ∷ [] =
    ap (λ (l : List Found). map (λ (x : Found). x.gate) l) grown ∙ map-append (λ (x : Found). x.gate) founds (f ∷ []) in
    record {
      payloads = so.payloads ++ p ∷ [];
      records = records_more (drop first_gate bytes) so.payloads rest p more so.records read;
      are =
          subst (λ (us : List Ended). AreUnits 0 (so.payloads ++ p ∷ []) us) (sym units)
          (units-more 0 so.payloads (units_of founds) p e so.are (subst (λ (k : ℕ). IsNext k p e) count next));
      gates =
          gates
          ∙ ap (λ (l : List ℕ). l ++ offset ∷ []) so.gates
          ∙ ap (λ (k : ℕ). gates_from first_gate so.payloads ++ k ∷ []) so.stands
          ∙ sym (gates-more first_gate so.payloads p);
      stands = omega (arith, behind, so.stands, length_more so.payloads p);
    }

-- ---- how far

pub repository_long : (bytes : Bytes) → IsTrue (is_repository bytes) → first_gate ≤ length bytes
repository_long bytes is = (repository-long bytes (nat_lt (length bytes) first_gate) refl is).0

-- the offset and the rest make up the bytes
pub reaches : (bytes rest : Bytes) (founds : List Found) (offset : ℕ) → first_gate ≤ length bytes → SoFar bytes rest founds offset → offset + length rest ≡ length bytes
reaches bytes rest founds offset long so =
    let fronts = fronts_of (drop first_gate bytes) so.payloads rest so.records in
    omega (arith, so.stands, fronts.long, ap length fronts.whole, length-append fronts.front rest, length-drop first_gate bytes)

pub record_long : (rest p more : Bytes) → record_at rest ≡ Some (p, more) → length rest ≡ record_length p + length more
record_long rest p more read =
    let front = front_of rest p more read in
    omega (arith, front.long, ap length front.whole, length-append front.front more)

-- ---- the end

pub scans : (bytes rest : Bytes) (founds : List Found) (offset : ℕ) → IsTrue (is_repository bytes) → SoFar bytes rest founds offset → is_closed rest ≡ true → Scans bytes founds offset
scans bytes rest founds offset is so shut = record {
  payloads = so.payloads;
  holds = record { repository = is; rest = rest; records = so.records; closed = shut; ends = so.stands };
  are = so.are;
  gates = so.gates;
}

first-bad : (bytes rest : Bytes) (founds : List Found) (offset : ℕ) → IsTrue (is_repository bytes) → SoFar bytes rest founds offset → IsBad (length founds) rest → IsFirstBad bytes offset
first-bad bytes rest founds offset is so bad = record {
  repository = is;
  payloads = so.payloads;
  units = units_of founds;
  rest = rest;
  records = so.records;
  are = so.are;
  stands = so.stands;
  bad = subst (λ (k : ℕ). IsBad k rest) (sym (length-map founds (λ (x : Found). x.unit))) bad;
}

bad-open : (n gate : ℕ) (bytes : Bytes) (t : Bool) → is_open gate ≡ t → (found : Option (Bytes × Bytes)) → record_at (gate ∷ bytes) ≡ found → (not t ≡ false ⊎ (found ≡ None → ⊥)) → HasNoNext n found → IsBad n (gate ∷ bytes)
bad-open n gate bytes true is found read why none = (is, subst (λ (o : Option (Bytes × Bytes)). HasNoNext n o) (sym read) none)
bad-open n gate bytes false is found read (inl shut) none = cc
bad-open n gate bytes false is found read (inr there) none =
    absurd (there (sym read ∙ ap (λ (t : Bool). cond t (payload_at bytes) None) is))

-- there is no whole record, and no closed gate
pub no_record : (bytes rest : Bytes) (founds : List Found) (offset : ℕ) → IsTrue (is_repository bytes) → SoFar bytes rest founds offset → record_at rest ≡ None → is_closed rest ≡ false → IsFirstBad bytes offset
no_record bytes [] founds offset is so none shut = first-bad bytes [] founds offset is so tt
no_record bytes (gate ∷ rest) founds offset is so none shut =
    first-bad bytes (gate ∷ rest) founds offset is so (bad-open (length founds) gate rest (is_open gate) refl None none (inl shut) tt)

-- the record isn't that of the next unit
pub no_next : (bytes rest p more : Bytes) (founds : List Found) (offset : ℕ) → IsTrue (is_repository bytes) → SoFar bytes rest founds offset → record_at rest ≡ Some (p, more) → ((e : Ended) → IsNext (length founds) p e → ⊥) → IsFirstBad bytes offset
no_next bytes [] p more founds offset is so read none = cc
no_next bytes (gate ∷ rest) p more founds offset is so read none =
    first-bad bytes (gate ∷ rest) founds offset is so (bad-open (length founds) gate rest (is_open gate) refl (Some (p, more)) read (inr (λ e. cc)) none)

-- ---- a scanned file has its last gate

gate-inside : (rest : Bytes) → is_closed rest ≡ true → 0 < length rest
gate-inside [] shut = cc
gate-inside (gate ∷ rest) shut = omega arith

scans-inside : (bytes : Bytes) (founds : List Found) (end : ℕ) → Scans bytes founds end → end < length bytes
scans-inside bytes founds end s =
    let h = s.holds in
    let fronts = fronts_of (drop first_gate bytes) s.payloads h.rest h.records in
    let some = gate-inside h.rest h.closed in
    omega (arith, some, h.ends, fronts.long, ap length fronts.whole, length-append fronts.front h.rest, length-drop first_gate bytes)

has_gate : (content : Option Bytes) (founds : List Found) (end : ℕ) → IfSome content (λ c. Scans c founds end) → HasGate content end
has_gate None founds end s = tt
has_gate (Some c) founds end s = scans-inside c founds end s

-- ---- where the content is told

if_told : (o : Option Bytes) (P : Bytes → Type 0) → ((c : Bytes) → o ≡ Some c → P c) → IfSome o P
if_told None P f = tt
if_told (Some c) P f = f c refl

pub gate_scanned : (old new : Option Bytes) (founds : List Found) (end : ℕ) → new ≡ old → ((c : Bytes) → old ≡ Some c → Scans c founds end) → HasGate new end
gate_scanned old new founds end same scanned = subst (λ (o : Option Bytes). HasGate o end) (sym same) (has_gate old founds end (if_told old (λ c. Scans c founds end) scanned))

pub stands_scanned : {D : Type 0} (content : D → Option Bytes) (may_leave : D → Bytes → Type 0) (journal : State D) (old : Option Bytes) (founds : List Found) → content journal.disk ≡ old
    → ((c : Bytes) → old ≡ Some c → Scans c founds journal.end) → ((c : Bytes) → old ≡ Some c → Only c (may_leave journal.disk)) → IfSome old (λ _. StandsWith content may_leave journal (units_of founds))
stands_scanned content may_leave journal old founds same scanned only =
    if_told old (λ _. StandsWith content may_leave journal (units_of founds)) (λ c told.
    let s = scanned c told in
    record { bytes = c; told = same ∙ told; holds = record { payloads = s.payloads; holds = s.holds; are = s.are }; durable = only c told })

-- ---- why it stops at a record

or-true : (t : Bool) → t || true ≡ true
or-true true = refl
or-true false = refl

pub stops : (why : OpenError) (bytes rest p more : Bytes) (founds founds' : List Found) (offset : ℕ) → IsTrue (is_repository bytes) → SoFar bytes rest founds offset → record_at rest ≡ Some (p, more)
    → FindsNext {T = Unit {0}} (Err why) founds founds' p offset → WhyNotScanned why bytes
stops error.DiskFault bytes rest p more founds founds' offset is so read finds = tt
stops error.NotRepository bytes rest p more founds founds' offset is so read finds = absurd finds
stops (error.BadRecord at) bytes rest p more founds founds' offset is so read finds =
    subst (λ (k : ℕ). IsFirstBad bytes k) (sym finds.0) (no_next bytes rest p more founds offset is so read finds.1)
stops error.NoMemory bytes rest p more founds founds' offset is so read finds = record {
  repository = is;
  payloads = so.payloads;
  units = units_of founds;
  rest = rest;
  records = so.records;
  are = so.are;
  next = ap (λ (o : Option (Bytes × Bytes)). is_closed rest || is_some o) read ∙ or-true (is_closed rest);
}
