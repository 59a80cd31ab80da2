use Rattle.bts_tree.proofs.Behind.{back_to_mark}
use Rattle.bts_tree.proofs.laws.back_to_gives_what_was_marked.Goals as goal

pub returns : goal.returns
returns c = back_to_mark
