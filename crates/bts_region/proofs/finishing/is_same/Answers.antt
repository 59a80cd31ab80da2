use Rattle.std.proofs.lemmas.Bool.Decides.{Decides-at}
use Rattle.bts_region.proofs.Sameness.{units-Decides}
use Rattle.bts_region.proofs.finishing.is_same.Goals as goal

pub returns : goal.returns
returns c = Decides-at _ _ c.eq.ensures (units-Decides c.args.a.now c.args.b.now)
