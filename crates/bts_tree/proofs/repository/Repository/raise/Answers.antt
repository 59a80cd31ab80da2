use Rattle.std.proofs.Common.{sym, ap, subst, ◌∙◌}
use Rattle.bts_container.specs.declared.format.Format.TheVariants as format
use Rattle.bts_tree.proofs.Awake.{raised_index}
use Rattle.bts_tree.proofs.Seen.{seen_raised}
use Rattle.bts_tree.proofs.repository.Repository.raise.Goals as goal
use Rattle.bts_tree.specs.Indexes.{IsIndex}
use Rattle.bts_tree.specs.Repositories as repo

pub invariant_of-self : goal.invariant_of-self
invariant_of-self c =
    subst (IsIndex format.Two c.self.inside.awake.keys) (sym c.raise_all.ensures)
    (raised_index c.self.inside.format c.self.inside.awake.keys c.self.inside.map.entries c.self.invariant c.len.ensures.ordered)

pub returns : goal.returns
returns c =
    seen_raised c.self.inside.format c.self.inside.awake.keys c.self.inside.map.entries c.raise_all.new.map.entries c.raise_all.ensures
    ∙ ap (λ (r : repo.Stored). record r { processes = repo.raised_all r.processes }) c.self.view_is
