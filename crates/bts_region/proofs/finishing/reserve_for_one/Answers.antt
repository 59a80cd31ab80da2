use Rattle.std.proofs.Common.{sym, subst}
use Rattle.bts_region.specs.Awake.{AreOthersAwake}
use Rattle.bts_region.proofs.Rousing.{on_ok, others_awake}
use Rattle.bts_region.proofs.finishing.reserve_for_one.Goals as goal

pub returns-clause-others : goal.returns-clause-others
returns-clause-others c = λ awake.
    on_ok c.reserve_for.result (λ same. subst (AreOthersAwake c.args.key.now) (sym same) (others_awake c.args.key.now c.args.repository.now awake)) c.reserve_for.ensures.ok
