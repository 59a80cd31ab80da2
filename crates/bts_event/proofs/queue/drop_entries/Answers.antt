use Rattle.std.proofs.Common.{rules, not}
use Rattle.std.proofs.lemmas.Fn.{filter_same}
use Rattle.bts_event.proofs.queue.drop_entries.Goals as goal
use Rattle.bts_names.specs.Names.{same}

pub returns-clause-entries : goal.returns-clause-entries
returns-clause-entries c = filter_same _ (λ e. not (same e.name c.args.name.now)) _ (λ x b f h. search rules) _ _ c.retain.ensures.filtered
