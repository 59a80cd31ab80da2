use Rattle.bts_names.proofs.Sameness.{same_where_equal}
use Rattle.bts_names.proofs.comparisons.paths_compare_by_numbers.Goals as goal

pub returns-clause-equal : goal.returns-clause-equal
returns-clause-equal c = same_where_equal c.args.a.now c.args.b.now
