use Rattle.std.proofs.Common.{◌≡◌, ◌+◌, ◌-◌, ◌<◌, ◌≤◌, length, Some, refl, sym, ap, subst, ◌∙◌, arith}
use Rattle.bts_unit.specs.Ends.{abended_whole}
use Rattle.bts_interp.specs.Budgets.{call_limit}
use Rattle.bts_interp.specs.Reaching.{reached_of}
use Rattle.bts_interp.specs.Steps.{next, statement_limit}
use Rattle.bts_interp.proofs.Alone.{open_end}
use Rattle.bts_interp.proofs.Places.{count_within}
use Rattle.bts_interp.proofs.Turning.{by_calls, by_data, by_statements}
use Rattle.bts_interp.specs.Running.{point_of}
use Rattle.bts_interp.proofs.playing.next_command.Goals as goal

pub returns-then-progress-gt-DATA_LIMIT-clause-next : goal.returns-then-progress-gt-DATA_LIMIT-clause-next
returns-then-progress-gt-DATA_LIMIT-clause-next g c =
    by_data c.args.script.now c.args.unit.now (point_of c.args.progress c.args.steps.now) (open_end _ c.requires.open) c.requires.can.frame c.abend_all.new.self
    c.if-progress-gt-DATA_LIMIT.true (c.abend_all.ensures.done ∙ ap (λ k. abended_whole k c.args.unit.now) c.too_much_data.ensures)

pub returns-in_default-clause-next : goal.returns-in_default-clause-next
returns-in_default-clause-next g c =
    by_statements c.args.script.now c.args.unit.now (point_of c.args.progress c.args.steps.now) (open_end _ c.requires.open) c.requires.can.frame c.abend_all-in_default.new.self
    c.requires.used c.if-progress-gt-DATA_LIMIT.false c.run_to_command.new.steps
    (c.in_default.ensures.reached ∙ ap (λ k. next (statement_limit - c.args.progress.used) c.args.script.now k c.args.progress.place.now) c.calls.ensures)
    c.in_default.ensures.steps
    (c.abend_all-in_default.ensures.done ∙ ap (λ k. abended_whole k c.args.unit.now) c.too_many_statements.ensures)

pub returns-then-calls-ge-CALL_LIMIT-clause-next : goal.returns-then-calls-ge-CALL_LIMIT-clause-next
returns-then-calls-ge-CALL_LIMIT-clause-next g c =
    by_calls c.args.script.now c.args.unit.now (point_of c.args.progress c.args.steps.now) (open_end _ c.requires.open) c.requires.can.frame c.abend_all-then-calls-ge-CALL_LIMIT.new.self
    c.requires.used c.if-progress-gt-DATA_LIMIT.false c.run_to_command.new.steps (reached_of c.args.unit.now.calls c.in-Some.reach)
    (subst (λ k. Some (reached_of k c.in-Some.reach) ≡ next (statement_limit - c.args.progress.used) c.args.script.now k c.args.progress.place.now) c.calls.ensures c.in-Some.ensures.reached)
    c.in-Some.ensures.steps
    (subst (λ k. call_limit ≤ length k) c.calls-2.ensures c.if-calls-ge-CALL_LIMIT.true)
    (c.abend_all-then-calls-ge-CALL_LIMIT.ensures.done ∙ ap (λ k. abended_whole k c.args.unit.now) c.too_many_calls.ensures)

pub returns-clause-next : goal.returns-clause-next
returns-clause-next g c =
    let reached : Some (reached_of c.args.unit.now.calls c.in-Some.reach) ≡ next (statement_limit - c.args.progress.used) c.args.script.now c.args.unit.now.calls c.args.progress.place.now =
    subst (λ k. Some (reached_of k c.in-Some.reach) ≡ next (statement_limit - c.args.progress.used) c.args.script.now k c.args.progress.place.now) c.calls.ensures c.in-Some.ensures.reached in
    let counts : (c.in-Some.reach.count ≤ statement_limit - c.args.progress.used) × (1 ≤ c.in-Some.reach.count) =
    count_within c.args.script.now c.args.unit.now.calls (statement_limit - c.args.progress.used) c.args.progress.place.now (reached_of c.args.unit.now.calls c.in-Some.reach) (sym reached) in
    let one : 1 ≤ c.in-Some.reach.count = counts.1 in
    let passed : c.run_to_command.new.steps ≡ c.args.steps.now + (c.in-Some.reach.count - 1) = c.in-Some.ensures.steps in (
      refl,
      record { next_is = sym reached; calls_left = subst (λ k. length k < call_limit) c.calls-2.ensures c.if-calls-ge-CALL_LIMIT.false; bytes_fit = c.if-progress-gt-DATA_LIMIT.false },
      omega (arith, one, passed),
    )
