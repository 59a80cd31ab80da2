use Rattle.std.proofs.Common.{rules}
use Rattle.std.proofs.lemmas.Fn.{filter_same}
use Rattle.bts_tree.proofs.index.forget_all_idle.Goals as goal
use Rattle.bts_tree.specs.Indexes.{is_slot_awake}
use Rattle.bts_tree.specs.Keeping.{kept_at}

pub returns : goal.returns
returns c = filter_same _ (λ k. is_slot_awake k (kept_at k c.args.map.now.entries)) _ (λ k b f t. search rules) _ _ c.retain.ensures.filtered
