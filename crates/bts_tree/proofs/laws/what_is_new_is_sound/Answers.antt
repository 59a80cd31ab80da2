use Rattle.bts_tree.proofs.New.{new_process_is_sound, nothing_is_sound}
use Rattle.bts_tree.proofs.laws.what_is_new_is_sound.Goals as goal

pub returns-clause-process : goal.returns-clause-process
returns-clause-process c = λ f key transid program. new_process_is_sound f key transid program

pub returns-clause-repository : goal.returns-clause-repository
returns-clause-repository c = nothing_is_sound
