use Rattle.bts_disk.proofs.Moments.{content_same, idle_same, elapses, within_idle}
use Rattle.bts_disk.proofs.memory_disk.MemoryDisk.idle.Goals as goal

pub invariant_of-self-clause-within : goal.invariant_of-self-clause-within
invariant_of-self-clause-within c = within_idle _ _ c.add-recorded.ensures.kept c.args.self.now.within

pub returns-clause-content : goal.returns-clause-content
returns-clause-content c = content_same _ _ c.add-recorded.ensures.kept

pub returns-clause-images : goal.returns-clause-images
returns-clause-images c = idle_same _ _ c.add-recorded.ensures.kept

pub returns-clause-time : goal.returns-clause-time
returns-clause-time c = elapses _ _ _ c.add-recorded.ensures.kept
