use Rattle.bts_names.proofs.Sameness.{keys_same_where_equal}
use Rattle.bts_names.proofs.comparisons.keys_compare_by_type_and_name.Goals as goal

pub returns-clause-equal : goal.returns-clause-equal
returns-clause-equal c = keys_same_where_equal c.args.a.now c.args.b.now
