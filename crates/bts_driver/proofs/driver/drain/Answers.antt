use Rattle.bts_driver.proofs.OneOut.{more_behind, none_put}
use Rattle.bts_driver.proofs.driver.drain.Goals as goal

pub loop-job-preserved : goal.loop-job-preserved
loop-job-preserved g c =
    record {
      nothing_out = c.take_turn.ensures.out;
      order = λ h. c.take_turn.ensures.order (c.in-Ok-Job.ensures.order c.loop-job.invariant.nothing_out (c.loop-job.invariant.order h));
      bound = λ b h. c.take_turn.ensures.bound b (c.in-Ok-Job.ensures.bound b (c.loop-job.invariant.bound b h));
      more = more_behind _ _ _ _ c.loop-job.invariant.more (none_put g.S.Station.job _ _ _ _ _ _ c.in-Ok-Job.field-0 c.in-Ok-Job.job c.in-Ok-Job.field-0-is c.in-Ok-Job.ensures.takes) c.take_turn.ensures.grows.more;
    }
