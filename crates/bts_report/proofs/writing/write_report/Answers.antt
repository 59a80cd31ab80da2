use Rattle.std.proofs.Common.{◌≡◌, [], ◌+◌, ◌++◌, drop, subst, arith}
use Rattle.std.proofs.lemmas.List.{append-nil}
use Rattle.std.proofs.lemmas.Grind.{common_steps}
use Rattle.std.specs.List.{flat_map, enumerate_from}
use Rattle.bts_report.specs.Reports.{report, unit_text}
use Rattle.bts_report.specs.Writing.{IsHeldBack}
use Rattle.bts_report.proofs.Held.{goes_on, stops, stops_last}
use Rattle.bts_report.proofs.writing.write_report.Goals as goal

pub loop-ended-preserved : goal.loop-ended-preserved
loop-ended-preserved g c =
    let held = g.K.Sink.held in
    let n = c.loop-ended.n in
    let behind = flat_map unit_text (enumerate_from (n + 1) (drop (c.loop-ended.ended-index + 1) c.args.history.now)) in
    let cut : flat_map unit_text (enumerate_from n (drop c.loop-ended.ended-index c.args.history.now)) ≡ unit_text (n, c.ended-item.result) ++ behind = grind (arith, common_steps) in
    let given = subst (λ l. IsHeldBack (held c.args.sink.now) (held c.loop-ended.sink) (c.loop-ended.writer ++ l) (report c.args.history.now)) cut c.loop-ended.invariant.given in
    record {
      place = omega (arith, c.loop-ended.invariant.place);
      given = goes_on _ _ _ c.loop-ended.writer (unit_text (n, c.ended-item.result)) behind c.write_unit.new.self _ given c.in_ok-write_unit.ensures.ok;
      later = omega (arith, c.loop-ended.invariant.later, c.write_unit.ensures.later);
    }

pub returns-in_err-write_unit-clause-front : goal.returns-in_err-write_unit-clause-front
returns-in_err-write_unit-clause-front g c =
    let held = g.K.Sink.held in
    let n = c.loop-ended.n in
    let behind = flat_map unit_text (enumerate_from (n + 1) (drop (c.loop-ended.ended-index + 1) c.args.history.now)) in
    let cut : flat_map unit_text (enumerate_from n (drop c.loop-ended.ended-index c.args.history.now)) ≡ unit_text (n, c.ended-item.result) ++ behind = grind (arith, common_steps) in
    let given = subst (λ l. IsHeldBack (held c.args.sink.now) (held c.loop-ended.sink) (c.loop-ended.writer ++ l) (report c.args.history.now)) cut c.loop-ended.invariant.given in
    stops _ _ (held c.write_unit.new.sink) c.loop-ended.writer (unit_text (n, c.ended-item.result)) behind _ given c.write_unit.ensures.front

pub returns-clause-front : goal.returns-clause-front
returns-clause-front g c =
    let held = g.K.Sink.held in
    let none : flat_map unit_text (enumerate_from c.loop-ended.n (drop c.loop-ended.ended-index c.args.history.now)) ≡ [] = grind (arith, common_steps) in
    let given = subst (λ l. IsHeldBack (held c.args.sink.now) (held c.loop-ended.sink) (c.loop-ended.writer ++ l) (report c.args.history.now)) none c.loop-ended.invariant.given in
    let all = subst (λ l. IsHeldBack (held c.args.sink.now) (held c.loop-ended.sink) l (report c.args.history.now)) (append-nil c.loop-ended.writer) given in
    stops_last _ _ (held c.write_out.new.sink) [] c.loop-ended.writer _ all c.write_out.ensures.front
