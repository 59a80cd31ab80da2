use Rattle.bts_names.proofs.Sameness.{same_where_equal}
use Rattle.bts_names.proofs.comparisons.names_compare_by_bytes.Goals as goal

pub returns-clause-equal : goal.returns-clause-equal
returns-clause-equal g c = same_where_equal c.args.a.now c.args.b.now
