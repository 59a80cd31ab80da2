-- What the calls of a region answer, and the region behind them.
use Rattle.std.specs.Prelude.{◌≡◌, ℕ, ◌+◌, true, false, nat_eq, max, List, [], ◌∷◌, ◌++◌, length, Option, Some, None, Result, Ok, Err}
use Rattle.std.specs.List.{find}
use Rattle.std.specs.Option.{option_map}
use Rattle.bts_names.specs.declared.key.Key.{Key}
use Rattle.bts_command.specs.declared.ended.End.TheVariants.{Commit}
use Rattle.bts_command.specs.declared.ended.Ended.{Ended}
use Rattle.bts_command.specs.declared.ended.UnitKind.{UnitKind}
use Rattle.bts_interp.specs.Items.{item_done, texts_of}
use Rattle.bts_interp.specs.Jobs as jobs
use Rattle.bts_interp.specs.Names.{Named}
use Rattle.bts_interp.specs.Stations.{Out, has_ticket, without}
use Rattle.bts_interp.specs.declared.station.FinishError.{FinishError}
use Rattle.bts_interp.specs.declared.station.FinishError.TheVariants as failure
use Rattle.bts_interp.specs.declared.station.Refused.{Refused}
use Rattle.bts_interp.specs.declared.station.Work.{Work}
use Rattle.bts_interp.specs.declared.station.Work.TheVariants as work
use Rattle.bts_region.specs.Fitting.{job_of}
use Rattle.bts_region.specs.declared.finishing.Due.{Due}
use Rattle.bts_region.specs.Histories.{IsNext}
use Rattle.bts_region.specs.Items.{clock_in, rows_in}
use Rattle.bts_command.specs.Kinds.{key_of}
use Rattle.bts_region.specs.Positions.{behind_all, opened_at}
use Rattle.bts_region.specs.Regions.{IsNextTicket, Offer, RegionState, all_done, limit_met, offer, position_of, wait}
use Rattle.bts_region.specs.Regions as regions
use Rattle.bts_tree.specs.Processes.{Process}
use Rattle.bts_tree.specs.Repositories.{process_at}

-- ---- the beginning

-- nothing has ended and nothing is out
abbrev pub begun : Named → RegionState
begun name =
    record {
      session = name.session;
      limit = name.limit;
      opening = opened_at name.opening;
      moment = name.opening.moment;
      history = [];
      out = [];
    }

-- ---- what a call makes of a region

abbrev pub with_out : List Out → RegionState → RegionState
with_out out r = record r { out = out }

abbrev pub with_ended : Ended → RegionState → RegionState
with_ended e r = record r { history = r.history ++ e ∷ [] }

abbrev pub with_moment : ℕ → RegionState → RegionState
with_moment now r = record r { moment = max r.moment now }

-- ---- taking work

-- one unit is out at a time: while one is, it must come back first
abbrev pub offer_alone : RegionState → List Out → Offer
offer_alone r [] = offer r
offer_alone r (o ∷ os) = wait

-- an item that holds no process, ended where it stands
abbrev pub ended_at_once : UnitKind → RegionState → Ended
ended_at_once u r =
    record {
      unit = u;
      moment = max r.moment (clock_in (item_done r.session u));
      end = Commit;
      calls = [];
      rows = rows_in (item_done r.session u) (position_of r).processes;
      seq = 0;
    }

-- a unit that goes out, with the process of its key and the region's moment
pub record IsJobFor (r : RegionState) (u : UnitKind) (key : Key) (j : jobs.Job) : Type 0 where
  pub ticket : IsNextTicket r j.ticket
  pub unit : j.unit ≡ u
  pub base : j.base ≡ process_at key (position_of r).processes
  pub moment : j.moment ≡ r.moment
  pub texts : j.texts ≡ texts_of r.session u

-- a unit that holds a process goes out, and one that holds none is ended; or there is no memory
abbrev pub Takes : RegionState → RegionState → UnitKind → Option Key → Result (Work jobs.Job) Refused → Type 0
Takes old new u (Some key) (Ok (work.Job j)) = IsJobFor old u key j × (new ≡ with_out (old.out ++ (j.ticket, u) ∷ []) old)
Takes old new u None (Ok (work.Ended place)) = (new ≡ with_moment (ended_at_once u old).moment (with_ended (ended_at_once u old) old)) × (place ≡ length new.history)
Takes old new u key (Err x) = new ≡ old
Takes old new u key _ = ⊥

-- what is on offer is done
abbrev pub TakesOffer : RegionState → RegionState → Offer → Result (Work jobs.Job) Refused → Type 0
TakesOffer old new (regions.work u) r = Takes old new u (key_of u) r
TakesOffer old new wait r = (r ≡ Ok work.Wait) × (new ≡ old)
TakesOffer old new (limit_met count) r = (r ≡ Ok (work.Limit count)) × (new ≡ old)
TakesOffer old new all_done r = (r ≡ Ok work.Done) × (new ≡ old)

-- ---- ending

-- what is out under a ticket
abbrev pub unit_out : ℕ → List Out → Option UnitKind
unit_out ticket out = option_map (λ o. o.1) (find (λ o. nat_eq o.0 ticket) out)

-- the ticket's unit ended, at the region's moment, as the texts allow it there
abbrev pub Ends : RegionState → RegionState → jobs.Done → ℕ → Type 0
Ends old new d place =
    (e : Ended)
    × (new ≡ with_out (without d.job.ticket old.out) (with_ended e old))
    × IsNext old.session (behind_all old.opening old.history) e
    × (e.moment ≡ old.moment)
    × (unit_out d.job.ticket old.out ≡ Some e.unit)
    × (place ≡ length new.history)

-- the unit that is out under a ticket, with its key and the region's moment
pub record IsDueUnder (ticket : ℕ) (r : RegionState) (d : Due) : Type 0 where
  pub out : unit_out ticket r.out ≡ Some d.unit
  pub process : key_of d.unit ≡ Some d.key
  pub moment : d.moment ≡ r.moment

-- a ticket isn't ended exactly where it isn't out, but for want of memory
abbrev pub Refuses : RegionState → jobs.Done → FinishError → Type 0
Refuses old d (failure.NotOut ticket) = (ticket ≡ d.job.ticket) × (has_ticket ticket old.out ≡ false)
Refuses old d failure.NoMemory = has_ticket d.job.ticket old.out ≡ true

-- a result that can be taken over: it is that of the ticket's unit, from the process and at the moment that stand now
pub record Fits (r : RegionState) (d : jobs.Done) : Type 0 where
  pub unit : unit_out d.job.ticket r.out ≡ Some d.job.unit
  pub base : (key : Key) → key_of d.job.unit ≡ Some key → d.job.base ≡ process_at key (position_of r).processes
  pub moment : d.job.moment ≡ r.moment

-- the statements that a unit executes which ended there, from that process
abbrev pub executed_from : RegionState → Process → Ended → ℕ
executed_from r base e = jobs.executed (record { job = job_of 0 r.session e.unit base r.moment; calls = e.calls; after = base; end = e.end })

-- one unit ended, and its statements were counted
pub record CountsLast (old new : RegionState) (before now : ℕ) : Type 0 where
  pub key : Key
  pub ended : Ended
  pub process : key_of ended.unit ≡ Some key
  pub history : new.history ≡ old.history ++ ended ∷ []
  pub counted : now ≡ before + executed_from old (process_at key (position_of old).processes) ended
