use Rattle.std.proofs.Common.{rules, not}
use Rattle.std.proofs.lemmas.Fn.{filter_same}
use Rattle.bts_event.proofs.composite.forget.Goals as goal
use Rattle.bts_names.specs.Names.{same}

pub returns : goal.returns
returns c = filter_same _ (λ x. not (same x c.args.name.now)) _ (λ x b f h. search rules) _ _ c.retain.ensures.filtered
