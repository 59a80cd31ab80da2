-- Results that can be taken over.
use Rattle.std.specs.Prelude.{◌≡◌, ℕ}
use Rattle.bts_command.specs.declared.ended.UnitKind.{UnitKind}
use Rattle.bts_interp.specs.Items.{texts_of}
use Rattle.bts_interp.specs.Jobs as jobs
use Rattle.bts_interp.specs.Ready.{IsRunnable}
use Rattle.bts_region.specs.declared.finishing.Due.{Due}
use Rattle.bts_session.specs.declared.session.Session.{Session}
use Rattle.bts_tree.specs.Processes.{Process}
use Rattle.bts_tree.specs.Repositories.{Processes, process_at}

-- a session's job
abbrev pub job_of : ℕ → Session → UnitKind → Process → ℕ → jobs.Job
job_of ticket session u base moment = record { ticket = ticket; unit = u; base = base; moment = moment; texts = texts_of session u }

-- the unit that is to end, what stands under the key of its process, and the moment at which it ends
pub record DueHere : Type 0 where
  pub unit : UnitKind
  pub base : Process
  pub moment : ℕ

abbrev pub due_here : Due → Processes → DueHere
due_here d repo = record { unit = d.unit; base = process_at d.key repo; moment = d.moment }

-- a job is that of the unit, from that process and at that moment
pub record IsOfDue (j : jobs.Job) (here : DueHere) : Type 0 where
  pub unit : j.unit ≡ here.unit
  pub from : j.base ≡ here.base
  pub at : j.moment ≡ here.moment

abbrev pub job_here : ℕ → Session → DueHere → jobs.Job
job_here ticket session here = job_of ticket session here.unit here.base here.moment

abbrev pub IsRunnableHere : Session → DueHere → Type 0
IsRunnableHere session here = IsRunnable here.unit here.base (texts_of session here.unit)
