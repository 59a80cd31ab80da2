use Rattle.std.proofs.Common.{sym, ap, ◌∙◌, subst}
use Rattle.bts_region.specs.Awake.{AreOthersAwake}
use Rattle.bts_region.proofs.Rousing.{all_awake, others_still}
use Rattle.bts_region.proofs.finishing.put_back.Goals as goal
use Rattle.bts_region.proofs.finishing.put_back.Goals.{then-not-is_rollback, else-not-is_rollback}
use Rattle.bts_tree.specs.Repositories.{Stored}

pub returns-clause-awake : goal.returns-clause-awake
returns-clause-awake c = λ others.
    let key = c.args.after.process.key in
    all_awake c.key-key.result c.if-not-is_rollback.repository c.forget_idle.new.self
    (subst (λ k. AreOthersAwake k c.if-not-is_rollback.repository) (sym c.key-key.ensures)
    (elim c.if-not-is_rollback.branch [
      | then-not-is_rollback w ↦ subst (AreOthersAwake key) (sym (w.repository-is ∙ w.put_scope.ensures)) (others_still c.args.after.process c.args.repository.now others)
      | else-not-is_rollback w ↦ subst (AreOthersAwake key) (sym w.repository-is) others
    ]))
    (ap (λ (r : Stored). r.processes) c.forget_idle.ensures.done) c.forget_idle.ensures.keys
