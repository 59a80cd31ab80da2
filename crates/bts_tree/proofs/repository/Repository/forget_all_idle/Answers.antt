use Rattle.std.proofs.Common.{sym, ap, subst, ◌∙◌}
use Rattle.bts_tree.proofs.Awake.{awake_alone, less_idle}
use Rattle.bts_tree.proofs.repository.Repository.forget_all_idle.Goals as goal
use Rattle.bts_tree.specs.Indexes.{IsIndex, has_key}

pub invariant_of-self : goal.invariant_of-self
invariant_of-self c =
    subst (λ ks. IsIndex c.self.inside.format ks c.self.inside.map.entries) (sym c.forget_all_idle.ensures)
    (less_idle c.self.inside.format c.self.inside.awake.keys c.self.inside.map.entries c.self.invariant c.len.ensures.ordered)

pub returns-clause-keys : goal.returns-clause-keys
returns-clause-keys c = λ key.
    ap (has_key key) c.forget_all_idle.ensures
    ∙ awake_alone c.self.inside.format c.self.inside.awake.keys c.self.inside.map.entries c.self.invariant c.len.ensures.ordered key
