use Rattle.bts_disk.specs.MemoryLaws.{picked_is_image}
use Rattle.bts_disk.proofs.memory_disk.MemoryDisk.crashed.Goals as goal

pub returns-clause-image : goal.returns-clause-image
returns-clause-image c = picked_is_image c.args.pick c.args.self.now.recording c.args.self.now.within

pub returns-in_err-image-clause-image : goal.returns-in_err-image-clause-image
returns-in_err-image-clause-image c = picked_is_image c.args.pick c.args.self.now.recording c.args.self.now.within
