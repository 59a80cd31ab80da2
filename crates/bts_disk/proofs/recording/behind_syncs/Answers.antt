use Rattle.std.proofs.Common.{inl, inr}
use Rattle.bts_disk.proofs.Picks.{syncs-step}
use Rattle.bts_disk.proofs.recording.behind_syncs.Goals.{in-Sync, in_default}
use Rattle.bts_disk.proofs.recording.behind_syncs.Goals as goal

pub loop-i-preserved : goal.loop-i-preserved
loop-i-preserved c =
    let before = c.loop-i.invariant in
    let step = syncs-step c.args.calls.now c.loop-i.i c.loop-i.place c.match-call.place c.index-calls-i.result c.loop-i-test.true c.index-calls-i.is before.within before.behind in
    elim c.match-call.branch [
      | in-Sync w ↦ let r = step (inl (w.in-Sync.is, w.place-is)) in record { within = r.0; behind = r.1 }
      | in_default w ↦ let r = step (inr (w.in_default.not-Sync, w.place-is)) in record { within = r.0; behind = r.1 }
    ]
