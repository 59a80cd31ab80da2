use Rattle.std.proofs.Common.{◌≡◌, ◌∙◌, Option, Some, None, Bor, refl, sym, ap, subst}
use Rattle.std.specs.Option.{is_some, option_copied}
use Rattle.bts_tree.proofs.Slots.{found_at, defined_at}
use Rattle.bts_tree.proofs.repository.Repository.kept.Goals as goal
use Rattle.bts_tree.specs.Keeping as keeping
use Rattle.bts_tree.specs.Repositories as repo

copied_some : {A : Type 0} (o : Option (Bor A)) → is_some o ≡ is_some (option_copied o)
copied_some None = refl
copied_some (Some r) = refl

pub returns-clause-there : goal.returns-clause-there
returns-clause-there c =
    subst (λ (r : repo.Stored). is_some c.look_up.result ≡ repo.is_defined c.args.key.now r.processes) c.self.view_is
    (copied_some c.look_up.result ∙ ap is_some c.look_up.ensures.value ∙ sym (defined_at c.self.inside.format c.args.key.now c.self.inside.map.entries c.look_up.ensures.rising))

pub returns-clause-process : goal.returns-clause-process
returns-clause-process c =
    subst (λ (r : repo.Stored). keeping.process_or_none r.processes.format c.args.key.now (option_copied c.look_up.result) ≡ repo.process_at c.args.key.now r.processes) c.self.view_is
    (ap (keeping.process_or_none c.self.inside.format c.args.key.now) c.look_up.ensures.value ∙ sym (found_at c.self.inside.format c.args.key.now c.self.inside.map.entries c.look_up.ensures.rising))
