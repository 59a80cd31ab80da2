use Rattle.std.proofs.Common.{◌≡◌, ◌≤◌, ◌+◌, ◌++◌, drop, subst, arith}
use Rattle.std.proofs.lemmas.Grind.{common_steps}
use Rattle.std.specs.List.{flat_map}
use Rattle.bts_report.specs.Reports.{call_line}
use Rattle.bts_report.specs.Writing.{IsHeldBack}
use Rattle.bts_report.proofs.Held.{front_of, goes_on, stops}
use Rattle.bts_report.proofs.writing.Writer.write_calls.Goals as goal

pub loop-call-preserved : goal.loop-call-preserved
loop-call-preserved g c =
    let held = g.K.Sink.held in
    let behind = flat_map call_line (drop (c.loop-call.call-index + 1) c.args.calls.now) in
    let cut : flat_map call_line (drop c.loop-call.call-index c.args.calls.now) ≡ call_line c.call-item.result ++ behind = grind (arith, common_steps) in
    let given = subst (λ l. IsHeldBack (held c.args.sink.now) (held c.loop-call.sink) (c.loop-call.self ++ l) (c.args.self.now ++ flat_map call_line c.args.calls.now)) cut c.loop-call.invariant.given in
    let later : g.K.Sink.faults c.loop-call.sink ≤ g.K.Sink.faults c.write_call.new.sink = c.write_call.ensures.later in
    record {
      given = goes_on _ _ _ c.loop-call.self (call_line c.call-item.result) behind c.write_call.new.self _ given c.in_ok-write_call.ensures.ok;
      later = omega (arith, c.loop-call.invariant.later, later);
    }

pub returns-in_err-write_call-clause-front : goal.returns-in_err-write_call-clause-front
returns-in_err-write_call-clause-front g c =
    let held = g.K.Sink.held in
    let behind = flat_map call_line (drop (c.loop-call.call-index + 1) c.args.calls.now) in
    let cut : flat_map call_line (drop c.loop-call.call-index c.args.calls.now) ≡ call_line c.call-item.result ++ behind = grind (arith, common_steps) in
    let given = subst (λ l. IsHeldBack (held c.args.sink.now) (held c.loop-call.sink) (c.loop-call.self ++ l) (c.args.self.now ++ flat_map call_line c.args.calls.now)) cut c.loop-call.invariant.given in
    stops _ _ (held c.write_call.new.sink) c.loop-call.self (call_line c.call-item.result) behind _ given c.write_call.ensures.front

pub returns-clause-front : goal.returns-clause-front
returns-clause-front g c = front_of _ _ _ _ c.loop-call.invariant.given
