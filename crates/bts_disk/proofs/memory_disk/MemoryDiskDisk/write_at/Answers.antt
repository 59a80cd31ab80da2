use Rattle.std.proofs.Common.{not, rules}
use Rattle.bts_io.specs.Plan.{is_next_failing}
use Rattle.bts_disk.specs.Memory.{Records}
use Rattle.bts_disk.specs.declared.device_call.DeviceCall.TheVariants.{Write}
use Rattle.bts_disk.proofs.Moments.{write_content, write_follows, write_torn, elapses, within}
use Rattle.bts_disk.proofs.memory_disk.MemoryDiskDisk.write_at.Goals as goal

pub invariant_of-self-clause-within : goal.invariant_of-self-clause-within
invariant_of-self-clause-within c = within _ _ _ c.write-recorded.ensures.kept c.args.self.now.within c.requires.place

pub returns-clause-written : goal.returns-clause-written
returns-clause-written c =
    let listed = is_next_failing c.args.self.now.plan in
    let recorded : Records listed (Write (not listed) c.args.at c.args.bytes.now) c.args.self.now.recording c.write-recorded.new.self c.ended.result = search rules in
    write_content listed c.args.at c.args.bytes.now _ _ c.ended.result recorded

pub returns-clause-images : goal.returns-clause-images
returns-clause-images c = write_follows _ _ _ _ _ c.write-recorded.ensures.kept

pub returns-clause-time : goal.returns-clause-time
returns-clause-time c = elapses _ _ _ c.write-recorded.ensures.kept

pub returns-clause-torn : goal.returns-clause-torn
returns-clause-torn c = write_torn _ _ _ _ _ c.write-recorded.ensures.kept c.requires.place
