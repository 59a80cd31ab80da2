use Rattle.std.proofs.Common.{◌++◌, Option, subst, append_assoc}
use Rattle.std.proofs.lemmas.Result.{on_ok_weaker}
use Rattle.std.specs.List.{flat_map}
use Rattle.bts_names.specs.Names.{Bytes}
use Rattle.bts_report.specs.Reports.{call_line, row_line, unit_line, unit_text}
use Rattle.bts_report.specs.Writing.{IsHeldBack}
use Rattle.bts_report.proofs.Held.{all_held_back, goes_last, goes_on, stops, stops_last}
use Rattle.bts_report.proofs.writing.Writer.write_unit.Goals as goal

-- a unit's lines, from its own on
begins : (a : Option Bytes) (held line calls rows : Bytes) → IsHeldBack a a (held ++ (line ++ (calls ++ rows))) (held ++ ((line ++ calls) ++ rows))
begins a held line calls rows = subst (λ l. IsHeldBack a a (held ++ l) (held ++ ((line ++ calls) ++ rows))) (append_assoc line calls rows) (all_held_back a (held ++ ((line ++ calls) ++ rows)))

pub returns-in_err-write_unit_line-clause-front : goal.returns-in_err-write_unit_line-clause-front
unfolding unit_text
returns-in_err-write_unit_line-clause-front g c =
    let line = unit_line c.args.n c.args.ended.now in
    let calls = flat_map call_line c.args.ended.now.calls in
    let rows = flat_map row_line c.args.ended.now.rows in
    stops _ _ (g.K.Sink.held c.write_unit_line.new.sink) c.args.self.now line (calls ++ rows) _
    (begins (g.K.Sink.held c.args.sink.now) c.args.self.now line calls rows) c.write_unit_line.ensures.front

pub returns-in_err-write_calls-clause-front : goal.returns-in_err-write_calls-clause-front
unfolding unit_text
returns-in_err-write_calls-clause-front g c =
    let line = unit_line c.args.n c.args.ended.now in
    let calls = flat_map call_line c.args.ended.now.calls in
    let rows = flat_map row_line c.args.ended.now.rows in
    let behind_line = goes_on _ _ (g.K.Sink.held c.write_unit_line.new.sink) c.args.self.now line (calls ++ rows) c.write_unit_line.new.self _
    (begins (g.K.Sink.held c.args.sink.now) c.args.self.now line calls rows) c.in_ok-write_unit_line.ensures.ok in
    stops _ _ (g.K.Sink.held c.write_calls.new.sink) c.write_unit_line.new.self calls rows _ behind_line (rw c.as_slice.ensures at c.write_calls.ensures.front)

pub returns-clause-front : goal.returns-clause-front
unfolding unit_text
returns-clause-front g c =
    let line = unit_line c.args.n c.args.ended.now in
    let calls = flat_map call_line c.args.ended.now.calls in
    let rows = flat_map row_line c.args.ended.now.rows in
    let behind_line = goes_on _ _ (g.K.Sink.held c.write_unit_line.new.sink) c.args.self.now line (calls ++ rows) c.write_unit_line.new.self _
    (begins (g.K.Sink.held c.args.sink.now) c.args.self.now line calls rows) c.in_ok-write_unit_line.ensures.ok in
    let behind_calls = goes_on _ _ (g.K.Sink.held c.write_calls.new.sink) c.write_unit_line.new.self calls rows c.write_calls.new.self _ behind_line (rw c.as_slice.ensures at c.in_ok-write_calls.ensures.ok) in
    stops_last _ _ (g.K.Sink.held c.write_rows.new.sink) c.write_calls.new.self rows _ behind_calls (rw c.as_slice-2.ensures at c.write_rows.ensures.front)

pub returns-clause-ok : goal.returns-clause-ok
unfolding unit_text
returns-clause-ok g c =
    let line = unit_line c.args.n c.args.ended.now in
    let calls = flat_map call_line c.args.ended.now.calls in
    let rows = flat_map row_line c.args.ended.now.rows in
    let behind_line = goes_on _ _ (g.K.Sink.held c.write_unit_line.new.sink) c.args.self.now line (calls ++ rows) c.write_unit_line.new.self _
    (begins (g.K.Sink.held c.args.sink.now) c.args.self.now line calls rows) c.in_ok-write_unit_line.ensures.ok in
    let behind_calls = goes_on _ _ (g.K.Sink.held c.write_calls.new.sink) c.write_unit_line.new.self calls rows c.write_calls.new.self _ behind_line (rw c.as_slice.ensures at c.in_ok-write_calls.ensures.ok) in
    on_ok_weaker c.write_rows.result (λ given. goes_last _ _ (g.K.Sink.held c.write_rows.new.sink) c.write_calls.new.self rows c.write_rows.new.self _ behind_calls given) (rw c.as_slice-2.ensures at c.write_rows.ensures.ok)
