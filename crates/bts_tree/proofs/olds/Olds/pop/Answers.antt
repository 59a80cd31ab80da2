use Rattle.std.proofs.Common.{◌≡◌, ◌∷◌, ◌++◌, [], ◌∙◌, ap, option_to_list, subst}
use Rattle.bts_tree.proofs.Newest.{newest_there, numbered_less}
use Rattle.bts_tree.proofs.olds.Olds.pop.Goals as goal
use Rattle.bts_tree.specs.Newest.{AreNumbered}

pub put_number-requires : goal.put_number-requires
put_number-requires c =
    let places = c.self.inside.newest.entries in
    let left = c.pop.new.self.items in
    let items : c.self.inside.entries.items ≡ left ++ c.in-Some.entry ∷ [] = c.pop.ensures.items ∙ ap (λ o. left ++ option_to_list o) c.in-Some.is in
    newest_there places left c.in-Some.entry (subst (AreNumbered places) items c.self.invariant)

pub invariant_of-self-2 : goal.invariant_of-self-2
invariant_of-self-2 c =
    let places = c.self.inside.newest.entries in
    let left = c.pop.new.self.items in
    let items : c.self.inside.entries.items ≡ left ++ c.in-Some.entry ∷ [] = c.pop.ensures.items ∙ ap (λ o. left ++ option_to_list o) c.in-Some.is in
    numbered_less places c.put_number.new.newest.entries left c.in-Some.entry (subst (AreNumbered places) items c.self.invariant) c.put_number.ensures
