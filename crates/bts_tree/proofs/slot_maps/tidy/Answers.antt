use Rattle.std.proofs.Common.{rules, is_some}
use Rattle.std.proofs.lemmas.Map.Made.{filter_same_pairs}
use Rattle.bts_tree.proofs.slot_maps.tidy.Goals as goal

pub returns : goal.returns
returns c = filter_same_pairs _ (λ e. is_some e.1) _ (λ k v b w f t. search rules) _ _ c.retain.ensures.filtered
