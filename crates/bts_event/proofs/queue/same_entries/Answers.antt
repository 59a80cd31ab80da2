use Rattle.std.proofs.lemmas.Slice.Eq.{slice_eq-Decides}
use Rattle.bts_event.proofs.Alike.{entry-Decides}
use Rattle.bts_event.proofs.queue.same_entries.Goals as goal

pub returns : goal.returns
returns c = slice_eq-Decides entry-Decides c.args.a.now.items c.args.b.now.items c.eq.result c.eq.ensures
