use Rattle.std.proofs.Common.{rules}
use Rattle.bts_tree.proofs.Retained.{written_from_retain}
use Rattle.bts_tree.proofs.changes.empty_below.Goals as goal
use Rattle.bts_tree.specs.Slots as slots

pub returns : goal.returns
returns c =
    written_from_retain _ (slots.emptied_slot c.args.path.now c.args.itself) _ (λ k v b w f t. search rules) _ _ c.retain.ensures.filtered
