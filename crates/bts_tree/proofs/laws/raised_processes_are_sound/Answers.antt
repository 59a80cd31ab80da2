use Rattle.bts_tree.proofs.Raised.{processes_raised}
use Rattle.bts_tree.proofs.laws.raised_processes_are_sound.Goals as goal

pub returns : goal.returns
returns c = processes_raised
