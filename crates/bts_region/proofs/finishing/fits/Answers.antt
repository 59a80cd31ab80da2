use Rattle.std.proofs.Common.{◌≡◌, ◌↔◌, true, false, not, IsTrue, sym, ap, subst, ◌∙◌}
use Rattle.std.proofs.lemmas.Bool.{eqb-true}
use Rattle.bts_interp.specs.Jobs as jobs
use Rattle.bts_names.proofs.Sameness.{keys_same_where_equal}
use Rattle.bts_region.proofs.Sameness.{fits_not, fits_so, not_not}
use Rattle.bts_tree.specs.Processes.{Process}
use Rattle.bts_tree.specs.Repositories.{process_at}
use Rattle.bts_region.proofs.finishing.fits.Goals as goal

pub returns-then-ne-2 : goal.returns-then-ne-2
returns-then-ne-2 g c =
    let base : c.base-base.result.now.process ≡ c.args.done.now.job.base = c.base-base.ensures ∙ ap (λ (j : jobs.Job). j.base) c.job.ensures in
    let key : c.key.result ≡ c.args.done.now.job.base.key = c.key.ensures ∙ ap (λ (s : Process). s.key) base in
    fits_not c.args.done.now.job c.args.due.now.unit c.args.due.now.key c.args.repository.now.processes c.args.due.now.moment
    (λ e. let clash : true ≡ false = sym c.if-ne-2.true ∙ c.ne-2.ensures ∙ ap not ((keys_same_where_equal c.key.result c.args.due.now.key).1 (key ∙ e)) in cc)

pub returns : goal.returns
returns g c =
    let base : c.base-base.result.now.process ≡ c.args.done.now.job.base = c.base-base.ensures ∙ ap (λ (j : jobs.Job). j.base) c.job.ensures in
    let key : c.key.result ≡ c.args.done.now.job.base.key = c.key.ensures ∙ ap (λ (s : Process). s.key) base in
    fits_so c.args.done.now.job c.args.due.now.unit c.args.due.now.key c.args.repository.now.processes c.args.due.now.moment c.same.result
    (sym c.moment.ensures ∙ eqb-true c.moment.result c.args.due.now.moment (not_not (sym c.ne.ensures ∙ c.if-ne.false)))
    (sym c.unit.ensures ∙ c.is_same.ensures.0 c.if-not-is_same.false)
    (sym key ∙ (keys_same_where_equal c.key.result c.args.due.now.key).0 (not_not (sym c.ne-2.ensures ∙ c.if-ne-2.false)))
    (subst (λ (s : Process). IsTrue c.same.result ↔ (process_at s.key c.args.repository.now.processes ≡ s)) base c.same.ensures)
