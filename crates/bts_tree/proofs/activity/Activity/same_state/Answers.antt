use Rattle.std.proofs.lemmas.Bool.Decides.{Decides-at}
use Rattle.bts_tree.proofs.Alike.{state-Decides}
use Rattle.bts_tree.proofs.activity.Activity.same_state.Goals as goal

pub returns : goal.returns
returns c = Decides-at _ _ c.eq.ensures (state-Decides c.args.self.now c.args.other.now)
