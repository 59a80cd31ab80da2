use Rattle.std.proofs.Common.{◌≡◌, ◌≤◌, ◌+◌, ◌++◌, drop, subst, arith}
use Rattle.std.proofs.lemmas.Grind.{common_steps}
use Rattle.std.specs.List.{flat_map}
use Rattle.bts_report.specs.Reports.{row_line}
use Rattle.bts_report.specs.Writing.{IsHeldBack}
use Rattle.bts_report.proofs.Held.{front_of, goes_on, stops}
use Rattle.bts_report.proofs.writing.Writer.write_rows.Goals as goal

pub loop-row-preserved : goal.loop-row-preserved
loop-row-preserved g c =
    let held = g.K.Sink.held in
    let behind = flat_map row_line (drop (c.loop-row.row-index + 1) c.args.rows.now) in
    let cut : flat_map row_line (drop c.loop-row.row-index c.args.rows.now) ≡ row_line c.row-item.result ++ behind = grind (arith, common_steps) in
    let given = subst (λ l. IsHeldBack (held c.args.sink.now) (held c.loop-row.sink) (c.loop-row.self ++ l) (c.args.self.now ++ flat_map row_line c.args.rows.now)) cut c.loop-row.invariant.given in
    let later : g.K.Sink.faults c.loop-row.sink ≤ g.K.Sink.faults c.write_row.new.sink = c.write_row.ensures.later in
    record {
      given = goes_on _ _ _ c.loop-row.self (row_line c.row-item.result) behind c.write_row.new.self _ given c.in_ok-write_row.ensures.ok;
      later = omega (arith, c.loop-row.invariant.later, later);
    }

pub returns-in_err-write_row-clause-front : goal.returns-in_err-write_row-clause-front
returns-in_err-write_row-clause-front g c =
    let held = g.K.Sink.held in
    let behind = flat_map row_line (drop (c.loop-row.row-index + 1) c.args.rows.now) in
    let cut : flat_map row_line (drop c.loop-row.row-index c.args.rows.now) ≡ row_line c.row-item.result ++ behind = grind (arith, common_steps) in
    let given = subst (λ l. IsHeldBack (held c.args.sink.now) (held c.loop-row.sink) (c.loop-row.self ++ l) (c.args.self.now ++ flat_map row_line c.args.rows.now)) cut c.loop-row.invariant.given in
    stops _ _ (held c.write_row.new.sink) c.loop-row.self (row_line c.row-item.result) behind _ given c.write_row.ensures.front

pub returns-clause-front : goal.returns-clause-front
returns-clause-front g c = front_of _ _ _ _ c.loop-row.invariant.given
