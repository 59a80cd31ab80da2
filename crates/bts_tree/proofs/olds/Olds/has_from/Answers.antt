use Rattle.std.proofs.Common.{◌∙◌, ap, drop, nat_lt, sym}
use Rattle.bts_tree.proofs.Newest.{has_from}
use Rattle.bts_tree.proofs.olds.Olds.has_from.Goals as goal
use Rattle.bts_tree.specs.Olds.{has_old}

pub returns : goal.returns
returns c =
    ap (nat_lt c.args.place) (c.number_of.ensures ∙ c.self.invariant.newest c.args.path.now)
    ∙ sym (has_from c.args.place c.args.path.now c.self.inside.entries.items)
    ∙ ap (λ os. has_old c.args.path.now (drop c.args.place os)) c.self.view_is
