use Rattle.std.proofs.Common.{ap, ◌∙◌}
use Rattle.bts_tree.proofs.Found.{ready_by_keys}
use Rattle.bts_tree.proofs.repository.Repository.next_ready.Goals as goal
use Rattle.bts_tree.specs.Repositories as repo

pub returns : goal.returns
returns c =
    c.next_among.ensures
    ∙ ap (repo.first_behind repo.place_cmp c.args.after)
    (ready_by_keys c.self.inside.format c.self.inside.awake.keys c.self.inside.map.entries c.self.invariant c.len-2.ensures.ordered c.len.ensures.ordered
    ∙ ap (λ (r : repo.Stored). repo.ready_in r.processes) c.self.view_is)
