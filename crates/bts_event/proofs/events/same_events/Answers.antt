use Rattle.std.proofs.lemmas.Map.Lookups.{btree_map_eq-Decides}
use Rattle.bts_names.proofs.Sameness.{same_where_equal}
use Rattle.bts_event.proofs.Alike.{event-Decides}
use Rattle.bts_event.proofs.events.same_events.Goals as goal

pub returns : goal.returns
returns c = btree_map_eq-Decides same_where_equal event-Decides c.args.a.now c.args.b.now c.eq.result c.eq.ensures
