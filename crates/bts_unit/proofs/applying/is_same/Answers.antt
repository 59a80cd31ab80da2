use Rattle.std.proofs.lemmas.Bool.Decides.{Decides-at}
use Rattle.bts_unit.proofs.Alike.{end-Decides}
use Rattle.bts_unit.proofs.applying.is_same.Goals as goal

pub returns : goal.returns
returns c = Decides-at _ _ c.eq.ensures (end-Decides c.args.a.now c.args.b.now)
