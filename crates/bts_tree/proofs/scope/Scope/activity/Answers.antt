use Rattle.std.proofs.Common.{rules, ap, ◌∙◌, ◌≡◌, true}
use Rattle.bts_tree.specs.Scopes.{HeldProcess}
use Rattle.bts_tree.specs.Processes as process
use Rattle.bts_tree.proofs.Changed.{read_planted}
use Rattle.bts_tree.proofs.scope.Scope.activity.Goals as goal

pub returns : goal.returns
returns c =
    let t : c.self.inside.own.planted ≡ true = search rules in
    c.read_slot.ensures.value
    ∙ read_planted c.self.inside.key c.self.inside.own c.self.inside.slots.entries c.args.path.now c.read_slot.ensures.rising t
    ∙ ap (λ (h : HeldProcess). process.activity_at c.args.path.now h.process) c.self.view_is
