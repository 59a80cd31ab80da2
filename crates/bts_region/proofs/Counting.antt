-- The statements that a result's unit executed are those of the unit that ended with it.
use Rattle.std.proofs.Common.{◌≡◌, ◌+◌, ℕ, Some, refl, sym, ap, ◌∙◌, subst}
use Rattle.bts_command.specs.declared.ended.UnitKind.{UnitKind}
use Rattle.bts_command.specs.declared.ended.UnitKind.TheVariants as unit
use Rattle.bts_command.specs.Kinds.{key_of}
use Rattle.bts_interp.specs.Jobs as jobs
use Rattle.bts_interp.specs.Names.{Named}
use Rattle.bts_names.specs.declared.key.Key.{Key}
use Rattle.bts_region.specs.Answers.{CountsLast, Fits, executed_from, unit_out}
use Rattle.bts_region.specs.Fitting.{IsOfDue, due_here, job_of}
use Rattle.bts_region.specs.Keeps.{Keeps, out_of, state_of}
use Rattle.bts_region.specs.Regions.{RegionState, position_of}
use Rattle.bts_region.specs.declared.finishing.Due.{Due}
use Rattle.bts_region.specs.declared.region.Region.TheInside.{Inside}
use Rattle.bts_region.proofs.Finished.{IsOut, IsResult, Tells, ended_by}
use Rattle.bts_session.specs.declared.session.Session.{Session}
use Rattle.bts_tree.specs.Processes.{Process}
use Rattle.bts_tree.specs.Repositories.{Processes, process_at}

-- the ticket, and what is left, make no difference
executed_is : (d : jobs.Done) (session : Session) (u : UnitKind) (base : Process) (moment : ℕ)
    → jobs.executed (record d { job = job_of d.job.ticket session u base moment }) ≡ jobs.executed (record { job = job_of 0 session u base moment; calls = d.calls; after = base; end = d.end })
executed_is d session (unit.Request n key) base moment = refl
executed_is d session (unit.Activation key path) base moment = refl
executed_is d session (unit.Notice key path) base moment = refl
executed_is d session (unit.Expiry key path timer) base moment = refl
executed_is d session (unit.Clock n) base moment = refl
executed_is d session (unit.Settle n) base moment = refl
executed_is d session (unit.Browse n) base moment = refl

module _ {N : Type 0} (name : Named) (r : Inside N) (k : Keeps name r) (u : UnitKind) (key : Key) where
  executed_of : (d : jobs.Done) → IsResult r u key d → jobs.executed d ≡ executed_from (state_of name r) (process_at key (position_of (state_of name r)).processes) (ended_by u r.moment d r.units)
  executed_of d f =
      ap (λ (j : jobs.Job). jobs.executed (record d { job = j })) f.from
      ∙ executed_is d r.session.value u (process_at key r.repository.processes) r.moment
      ∙ ap (λ (repo : Processes). executed_from (state_of name r) (process_at key repo) (ended_by u r.moment d r.units)) k.processes

  -- where the unit was run again, its statements were counted
  pub counts_last : (d : jobs.Done) → IsResult r u key d → (s : Inside N) → Tells r s u d → (before now : ℕ) → now ≡ before + jobs.executed d → CountsLast (state_of name r) (state_of name s) before now
  counts_last d f s t before now counted = record {
    key = key;
    ended = ended_by u r.moment d r.units;
    process = f.process;
    history = t.history;
    counted = counted ∙ ap (λ n. before + n) (executed_of d f);
  }

  -- what is due fits
  pub fits_due : r.out ≡ Some u → key_of u ≡ Some key → (done : jobs.Done) → done.job.ticket ≡ 0 → IsOfDue done.job (record { unit = u; base = process_at key r.repository.processes; moment = r.moment }) → Fits (state_of name r) done
  fits_due out process done ticket due = record {
    unit = ap (λ n. unit_out n (out_of r.out)) ticket ∙ ap (λ o. unit_out 0 (out_of o)) out ∙ ap (λ v. Some v) (sym due.unit);
    base = λ other e.
        let same : key ≡ other = same_key_in key other (sym process ∙ ap key_of (sym due.unit) ∙ e) in
        due.from ∙ ap (process_at key) k.processes ∙ ap (λ z. process_at z (position_of (state_of name r)).processes) same;
    moment = due.at;
  }
    where
      same_key_in : (a b : Key) → Some a ≡ Some b → a ≡ b
      same_key_in a b e = cc

pub where_due : {N : Type 0} (name : Named) (r : Inside N) (k : Keeps name r) (now : RegionState) → state_of name r ≡ now → (due : Due) (done : jobs.Done) → IsOut r done.job.ticket due
    → IsOfDue done.job (due_here due r.repository.processes) → Fits now done
where_due name r k now view due done o h =
    subst (λ (z : RegionState). Fits z done) view
    (fits_due name r k due.unit due.key o.out o.process done o.first
    (subst (λ m. IsOfDue done.job (record { unit = due.unit; base = process_at due.key r.repository.processes; moment = m })) o.now h))
