use Rattle.std.proofs.Common.{◌≡◌, ◌+◌, sym, ap, subst, ◌∙◌}
use Rattle.bts_interp.specs.Errands.{job_from}
use Rattle.bts_interp.specs.Jobs.{Done, IsDone, executed}
use Rattle.bts_interp.proofs.Finished.{all_executed, is_done, with_job}
use Rattle.bts_interp.proofs.running.run_unit.Goals as goal

pub new-requires : goal.new-requires
new-requires g c =
    let d : Done = with_job (job_from c.args.errand c.args.unit.base) c.end-base.result.calls c.end-base.result.after.process c.end-base.result.end in
    subst (λ j. IsDone (with_job j c.end-base.result.calls c.end-base.result.after.process c.end-base.result.end))
    (sym (c.from_base.ensures ∙ ap (job_from c.args.errand) (c.end-base.ensures.base ∙ c.play_texts.ensures.base)))
    (is_done d c.play_texts.new.unit c.args.unit c.args.steps.now c.play_texts.new.steps c.requires.begun.runnable.begins c.requires.begun.begun c.in-Ok.ensures.played c.end-base.ensures.calls c.end-base.ensures.after c.end-base.ensures.end)

pub returns-in-Ok-clause-steps : goal.returns-in-Ok-clause-steps
returns-in-Ok-clause-steps g c =
    let d : Done = with_job (job_from c.args.errand c.args.unit.base) c.end-base.result.calls c.end-base.result.after.process c.end-base.result.end in
    let job : c.from_base.result ≡ d.job = c.from_base.ensures ∙ ap (job_from c.args.errand) (c.end-base.ensures.base ∙ c.play_texts.ensures.base) in
    let filled : with_job c.from_base.result c.end-base.result.calls c.end-base.result.after.process c.end-base.result.end ≡ d =
    ap (λ j. with_job j c.end-base.result.calls c.end-base.result.after.process c.end-base.result.end) job in
    let same : c.new.result ≡ d = ◌∙◌ {b = with_job c.from_base.result c.end-base.result.calls c.end-base.result.after.process c.end-base.result.end} c.new.ensures filled in
    subst (λ x. c.play_texts.new.steps ≡ c.args.steps.now + executed x) (sym same)
    (all_executed d c.play_texts.new.unit c.args.unit c.args.steps.now c.play_texts.new.steps c.requires.begun.runnable.begins c.requires.begun.begun c.in-Ok.ensures.played c.end-base.ensures.calls c.end-base.ensures.after c.end-base.ensures.end)
