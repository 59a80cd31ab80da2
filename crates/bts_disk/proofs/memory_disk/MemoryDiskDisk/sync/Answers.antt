use Rattle.std.proofs.Common.{ap, Some, rules}
use Rattle.bts_io.specs.Plan.{is_next_failing}
use Rattle.bts_disk.specs.Memory.{Records, sync_call}
use Rattle.bts_disk.proofs.Moments.{as_sync, sync_within, sync_durable, sync_failed, sync_content, sync_images}
use Rattle.bts_disk.proofs.memory_disk.MemoryDiskDisk.sync.Goals as goal

recorded : (c : goal.After-self-1) → let listed = is_next_failing c.args.self.now.plan in Records listed (sync_call listed) c.args.self.now.recording c.add-recorded.new.self c.ended.result
recorded c = search rules

pub invariant_of-self-clause-within : goal.invariant_of-self-clause-within
invariant_of-self-clause-within c = sync_within _ _ _ (as_sync _ _ _ _ c.sync_call.ensures c.add-recorded.ensures.kept) c.args.self.now.within

pub returns-clause-durable : goal.returns-clause-durable
returns-clause-durable c = sync_durable _ _ _ _ (recorded c)

pub returns-clause-failed : goal.returns-clause-failed
returns-clause-failed c = sync_failed _ _ _ _ (recorded c)

pub returns-clause-content : goal.returns-clause-content
returns-clause-content c = ap Some (sync_content _ _ _ (as_sync _ _ _ _ c.sync_call.ensures c.add-recorded.ensures.kept))

pub returns-clause-images : goal.returns-clause-images
returns-clause-images c = sync_images _ _ _ c.args.self.now.within (as_sync _ _ _ _ c.sync_call.ensures c.add-recorded.ensures.kept)
