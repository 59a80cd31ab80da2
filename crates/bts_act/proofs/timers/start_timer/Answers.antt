use Rattle.std.proofs.Common.{sym, ◌∙◌}
use Rattle.bts_act.proofs.Undone.{timer_undone, err_from, ok_from}
use Rattle.bts_act.proofs.timers.start_timer.Goals as goal

pub returns-then-is_err-2-clause-err : goal.returns-then-is_err-2-clause-err
returns-then-is_err-2-clause-err c =
    let pool = err_from c.define_timer_event.result c.define_timer_event.ensures.err (sym c.is_err-2.ensures.value ∙ c.if-is_err-2.true) in
    let started = ok_from c.define.result c.define.ensures.ok (sym c.is_err.ensures.value ∙ c.if-is_err.false) in
    let timers = timer_undone c.args.timer c.args.due c.args.activity.now.timers c.define.new.self c.delete.new.self c.delete.result c.requires.free started c.delete.ensures.why c.delete.ensures.ok in
    λ i. record c.args.activity.now { pool = pool i; timers = timers i }
