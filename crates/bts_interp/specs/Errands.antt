-- Jobs from their process and the rest of them.
use Rattle.bts_tree.specs.Processes.{Process}
use Rattle.bts_interp.specs.Items.{texts_of}
use Rattle.bts_interp.specs.Jobs.{Job}
use Rattle.bts_interp.specs.declared.job.Errand.{Errand}

abbrev pub job_from : Errand → Process → Job
job_from e base = record { ticket = e.ticket; unit = e.unit; base = base; moment = e.moment; texts = texts_of e.session.value e.unit }
