use Rattle.std.proofs.Common.{rules, ◌≡◌, ◌+◌, ◌∷◌, ◌++◌, [], ◌∙◌, ap, length, length-append, subst, sym}
use Rattle.bts_tree.proofs.Newest.{numbered_more}
use Rattle.bts_tree.proofs.olds.Olds.push.Goals as goal
use Rattle.bts_tree.specs.Newest.{AreNumbered, HasNumber}
use Rattle.bts_tree.specs.declared.olds.Entry.{Entry}

pub invariant_of-self-in_default : goal.invariant_of-self-in_default
invariant_of-self-in_default c =
    let entry : Entry = record { old = c.args.old; former = c.number_of-former.result } in
    let places = c.self.inside.newest.entries in
    let items : c.push.new.self.items ≡ c.self.inside.entries.items ++ entry ∷ [] = c.in_ok-push.ensures.items in
    let long : c.len-place.result ≡ length c.push.new.self.items = search rules in
    let place : c.len-place.result ≡ length c.self.inside.entries.items + 1 = long ∙ ap length items ∙ length-append c.self.inside.entries.items (entry ∷ []) in
    subst (AreNumbered c.give_number.new.newest.entries) (sym items)
    (numbered_more places c.give_number.new.newest.entries c.self.inside.entries.items entry c.self.invariant c.number_of-former.ensures
    (subst (λ n. HasNumber c.args.old.path n places c.give_number.new.newest.entries) place c.in_default.ensures.ok))
