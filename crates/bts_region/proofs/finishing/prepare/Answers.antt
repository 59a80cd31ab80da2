use Rattle.std.proofs.Common.{sym, ap, ◌∙◌, subst}
use Rattle.bts_region.specs.Awake.{AreAwake}
use Rattle.bts_region.specs.Fitting.{IsOfDue, IsRunnableHere, due_here, job_here}
use Rattle.bts_region.proofs.Finished.{where_err, where_ok}
use Rattle.bts_region.proofs.Rousing.{all_awake}
use Rattle.bts_region.proofs.finishing.prepare.Goals as goal
use Rattle.bts_tree.specs.Repositories.{Processes, Stored}

pub fitting-requires-clause-runnable : goal.fitting-requires-clause-runnable
fitting-requires-clause-runnable g c =
    subst (λ (repo : Processes). IsRunnableHere c.args.session.now.value (due_here c.args.due.now repo)) (sym c.reserve_for_one.ensures.processes) c.requires.runnable

pub returns-then-is_err-clause-awake : goal.returns-then-is_err-clause-awake
returns-then-is_err-clause-awake g c = λ awake. subst AreAwake (sym (where_err c.reserve_for_one.result _ (sym c.is_err.ensures.value ∙ c.if-is_err.true) c.reserve_for_one.ensures.err)) awake

-- ---- what fits is there

pub returns-in-Ok-clause-ok : goal.returns-in-Ok-clause-ok
returns-in-Ok-clause-ok g c =
    c.in-Ok.ensures.ok
    ∙ ap (λ (repo : Processes). job_here c.in-Ok.fitted.job.ticket c.args.session.now.value (due_here c.args.due.now repo)) c.reserve_for_one.ensures.processes

pub returns-in-Ok-clause-taken : goal.returns-in-Ok-clause-taken
returns-in-Ok-clause-taken g c = λ due. (c.fitting.ensures.taken (subst (λ (repo : Processes). IsOfDue c.args.done.job (due_here c.args.due.now repo)) (sym c.reserve_for_one.ensures.processes) due)).1

pub returns-in-Ok-clause-again : goal.returns-in-Ok-clause-again
returns-in-Ok-clause-again g c = λ other. c.in-Ok.ensures.again (λ due. other (subst (λ (repo : Processes). IsOfDue c.args.done.job (due_here c.args.due.now repo)) c.reserve_for_one.ensures.processes due))

pub returns-in-Ok-clause-place : goal.returns-in-Ok-clause-place
returns-in-Ok-clause-place g c = where_ok c.reserve_for_one.result _ (sym c.is_err.ensures.value ∙ c.if-is_err.false) c.reserve_for_one.ensures.place

pub returns-in-Ok-clause-room : goal.returns-in-Ok-clause-room
returns-in-Ok-clause-room g c = where_ok c.reserve_for_one.result _ (sym c.is_err.ensures.value ∙ c.if-is_err.false) c.reserve_for_one.ensures.room

pub returns-in-Ok-clause-others : goal.returns-in-Ok-clause-others
returns-in-Ok-clause-others g c = λ awake. where_ok c.reserve_for_one.result _ (sym c.is_err.ensures.value ∙ c.if-is_err.false) (c.reserve_for_one.ensures.others awake)

-- ---- there was no memory

pub returns-in-Err-clause-taken : goal.returns-in-Err-clause-taken
returns-in-Err-clause-taken g c = λ due. (c.fitting.ensures.taken (subst (λ (repo : Processes). IsOfDue c.args.done.job (due_here c.args.due.now repo)) (sym c.reserve_for_one.ensures.processes) due)).1

pub returns-in-Err-clause-awake : goal.returns-in-Err-clause-awake
returns-in-Err-clause-awake g c = λ awake.
    all_awake c.args.due.now.key c.reserve_for_one.new.repository c.forget_idle.new.self
    (where_ok c.reserve_for_one.result _ (sym c.is_err.ensures.value ∙ c.if-is_err.false) (c.reserve_for_one.ensures.others awake)) (ap (λ (r : Stored). r.processes) c.forget_idle.ensures.done) c.forget_idle.ensures.keys
