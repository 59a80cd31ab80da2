use Rattle.std.proofs.Common.{rules}
use Rattle.bts_tree.proofs.Retained.{written_from_retain}
use Rattle.bts_tree.proofs.changes.raise_all.Goals as goal
use Rattle.bts_tree.specs.Slots as slots

pub returns : goal.returns
returns c = written_from_retain _ slots.raised_slot _ (λ k v b w f t. search rules) _ _ c.retain.ensures.filtered
