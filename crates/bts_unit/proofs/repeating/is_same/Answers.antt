use Rattle.std.proofs.lemmas.Bool.Decides.{Decides-at}
use Rattle.bts_unit.proofs.Alike.{reply-Decides}
use Rattle.bts_unit.proofs.repeating.is_same.Goals as goal

pub returns : goal.returns
returns c = Decides-at _ _ c.eq.ensures (reply-Decides c.args.a.now c.args.b.now)
