use Rattle.std.proofs.Common.{sym, ap, ◌∙◌}
use Rattle.bts_tree.specs.Processes.{edited, with_pool}
use Rattle.bts_tree.specs.Scopes.{HeldProcess}
use Rattle.bts_rows.specs.Completions.{without_child}
use Rattle.bts_rows.specs.OnFamily as family
use Rattle.bts_act.proofs.Saving.{still_saved}
use Rattle.bts_act.proofs.families.tell.Goals as goal

pub forget_child-requires-clause-saved : goal.forget_child-requires-clause-saved
forget_child-requires-clause-saved c = still_saved c.args.at.now c.save.new.self c.save-2.new.self c.save-2.ensures.leaves c.in_ok-save.ensures.saved

pub returns-clause-ok : goal.returns-clause-ok
returns-clause-ok c =
    let p = c.args.path.now in
    let back = ap (λ (h : HeldProcess). h.process) c.in_ok-save-2.ensures.ok ∙ ap (λ (h : HeldProcess). h.process) c.in_ok-save.ensures.ok in
    ap (λ (h : HeldProcess). h.process) c.set_told.ensures
    ∙ ap (λ (h : HeldProcess). edited p family.as_told h.process) c.in_ok-forget_child.ensures.ok
    ∙ ap (λ s. edited p family.as_told (with_pool c.args.at.now (without_child c.last_number.result) s)) back
    ∙ (λ i. edited p family.as_told (with_pool (sym c.requires.parent i) (without_child (c.last_number.ensures i)) c.args.scope.now.process))
