use Rattle.std.proofs.Common.{refl}
use Rattle.bts_report.specs.Reports.{report}
use Rattle.bts_tool.specs.Causes.{stop_line, stop_status}
use Rattle.bts_tool.proofs.Cut.{behind, cut}
use Rattle.bts_tool.proofs.top_call.tell_ran.Goals as goal

pub returns-in-Ok-clause-told : goal.returns-in-Ok-clause-told
returns-in-Ok-clause-told g c =
    let held = g.K.Sink.held in
    let ran = c.args.ran in
    let written = rw c.as_slice.ensures at c.in-Ok.ensures.ok in
    record {
      history = c.tell_stop.ensures.history;
      text = behind (held c.args.sink.now) (held c.write_report.new.sink) (held c.tell_stop.new.sink) (report ran.history) (stop_line ran.history ran.stop) (stop_status ran.stop) c.tell_stop.result.status written c.tell_stop.ensures.told;
    }

pub returns-in-Err-Sink-clause-told : goal.returns-in-Err-Sink-clause-told
returns-in-Err-Sink-clause-told g c =
    let held = g.K.Sink.held in
    let ran = c.args.ran in
    record {
      history = refl;
      text = cut (held c.args.sink.now) (held c.write_report.new.sink) (report ran.history) (stop_line ran.history ran.stop) (stop_status ran.stop) 5 refl (rw c.as_slice.ensures at c.write_report.ensures.front);
    }

pub returns-in-Err-NoMemory-clause-told : goal.returns-in-Err-NoMemory-clause-told
returns-in-Err-NoMemory-clause-told g c =
    let held = g.K.Sink.held in
    let ran = c.args.ran in
    record {
      history = refl;
      text = cut (held c.args.sink.now) (held c.write_report.new.sink) (report ran.history) (stop_line ran.history ran.stop) (stop_status ran.stop) 8 refl (rw c.as_slice.ensures at c.write_report.ensures.front);
    }
