use Rattle.std.proofs.Common.{length}
use Rattle.bts_tree.specs.Scopes.{marked}
use Rattle.bts_tree.proofs.Behind.{back_to_mark}
use Rattle.bts_request.proofs.Steps.{are_steps}
use Rattle.bts_request.proofs.laws.back_to_undoes_all_commands.Goals as goal

pub returns : goal.returns
returns c h left follow = back_to_mark h left (are_steps (length h.marks) (marked h) left follow)
