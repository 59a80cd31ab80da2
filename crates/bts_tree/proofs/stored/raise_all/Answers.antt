use Rattle.std.proofs.Common.{rules}
use Rattle.std.specs.Option.{option_map}
use Rattle.bts_tree.proofs.Retained.{written_from_retain}
use Rattle.bts_tree.proofs.stored.raise_all.Goals as goal
use Rattle.bts_tree.specs.Keeping as keeping

pub returns : goal.returns
returns c = written_from_retain _ (λ k slot. option_map keeping.raised_kept slot) _ (λ k v b w f t. search rules) _ _ c.retain.ensures.filtered
