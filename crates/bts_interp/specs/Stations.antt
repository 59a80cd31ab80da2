-- What a station tells of the work that it gives out and takes back.
use Rattle.std.specs.Prelude.{◌≡◌, ℕ, ◌<◌, ◌≤◌, Bool, true, false, not, nat_eq, List, [], ◌∷◌, ◌++◌, length, Option, Some, None, Result, Ok, Err}
use Rattle.std.specs.List.{filter, list_any}
use Rattle.bts_command.specs.declared.ended.Ended.{Ended}
use Rattle.bts_command.specs.declared.ended.UnitKind.{UnitKind}
use Rattle.bts_interp.specs.Jobs as jobs
use Rattle.bts_interp.specs.declared.station.FinishError.{FinishError}
use Rattle.bts_interp.specs.declared.station.FinishError.TheVariants as failure
use Rattle.bts_interp.specs.declared.station.Refused.{Refused}
use Rattle.bts_interp.specs.declared.station.Refused.TheVariants as refused
use Rattle.bts_interp.specs.declared.station.Work.{Work}
use Rattle.bts_interp.specs.declared.station.Work.TheVariants as work

-- a unit that is out, with its ticket
abbrev pub Out : Type 0
Out = ℕ × UnitKind

abbrev pub has_ticket : ℕ → List Out → Bool
has_ticket ticket out = list_any (λ o. nat_eq o.0 ticket) out

-- those that are out but for a ticket's
abbrev pub without : ℕ → List Out → List Out
without ticket out = filter (λ o. not (nat_eq o.0 ticket)) out

-- ---- the answers for which there is a test

-- all is done, or the count of activations has reached the limit
pub data Answer : Type 0 where
  all_done : Answer
  limit_met : ℕ → Answer

abbrev pub answer_of : {J : Type 0} → Result (Work J) Refused → Option Answer
answer_of (Ok work.Done) = Some all_done
answer_of (Ok (work.Limit count)) = Some (limit_met count)
answer_of _ = None

abbrev pub is_no_memory : {J : Type 0} → Result (Work J) Refused → Bool
is_no_memory (Err refused.NoMemory) = true
is_no_memory (Ok x) = false

-- ---- what a call did to the ended units and to the rest

-- one unit stands behind those that had ended, and the rest fell
pub record PutsOne (before now : List Ended) (rest rest' : ℕ) : Type 0 where
  pub one : (e : Ended) × (now ≡ before ++ e ∷ [])
  pub falls : rest' < rest

-- the ended units are as they were, and the rest rose no more
pub record PutsNone (before now : List Ended) (rest rest' : ℕ) : Type 0 where
  pub same : now ≡ before
  pub stays : rest' ≤ rest

-- take_work: a unit went out under a ticket that wasn't out, or an item was ended, or nothing changed; what must come
-- back first is out
abbrev pub Takes : {J : Type 0} → (J → jobs.Job) → List Ended → List Ended → ℕ → ℕ → List Out → List Out → Result (Work J) Refused → Type 0
Takes job before now r r' out out' (Ok (work.Job j)) = PutsNone before now r r' × (has_ticket (job j).ticket out ≡ false) × (out' ≡ out ++ ((job j).ticket, (job j).unit) ∷ [])
Takes job before now r r' out out' (Ok (work.Ended place)) = PutsOne before now r r' × (place ≡ length now) × (out' ≡ out)
Takes job before now r r' out out' (Ok work.Wait) = PutsNone before now r r' × (out ≡ [] → ⊥) × (out' ≡ out)
Takes job before now r r' out out' _ = PutsNone before now r r' × (out' ≡ out)

-- finish: the ticket's unit ended at the place that is answered, or it isn't out, or memory ran out; what was handed in
-- comes back
abbrev pub Finishes : {D : Type 0} → (D → jobs.Done) → List Ended → List Ended → ℕ → ℕ → List Out → List Out → D → Result ℕ (FinishError × D) → Type 0
Finishes done before now r r' out out' d (Ok place) = PutsOne before now r r' × (place ≡ length now) × (has_ticket (done d).job.ticket out ≡ true) × (out' ≡ without (done d).job.ticket out)
Finishes done before now r r' out out' d (Err (failure.NotOut t, e)) = PutsNone before now r r' × (t ≡ (done d).job.ticket) × (has_ticket t out ≡ false) × (out' ≡ out) × (e ≡ d)
Finishes done before now r r' out out' d (Err (failure.NoMemory, e)) = PutsNone before now r r' × (has_ticket (done d).job.ticket out ≡ true) × (out' ≡ out) × (e ≡ d)
