use Rattle.std.proofs.Common.{rules, ◌≡◌, [], ◌∷◌, nat_cmp, sym, subst}
use Rattle.std.specs.Cmp.Lexicographic.{slice_cmp}
use Rattle.std.specs.List.Sorted.{IsStrictlySortedBy}
use Rattle.std.specs.Map.{keys_of}
use Rattle.bts_tree.proofs.New.{sorted_one}
use Rattle.bts_tree.proofs.tests.of_parts.Goals as goal

pub from_parts-requires : goal.from_parts-requires
from_parts-requires c =
    let items : c.push.new.self.items ≡ (c.root.result, c.in_ok-activity.activity) ∷ [] = search rules in
    subst (λ es. IsStrictlySortedBy (slice_cmp nat_cmp) (keys_of es)) (sym items) (sorted_one (slice_cmp nat_cmp) c.root.result)
