use Rattle.std.proofs.lemmas.Bool.Decides.{Decides-at}
use Rattle.bts_tree.proofs.Alike.{names-Decides}
use Rattle.bts_tree.proofs.activity.Activity.same_names.Goals as goal

pub returns : goal.returns
returns c = Decides-at _ _ c.eq.ensures (names-Decides c.args.self.now c.args.other.now)
