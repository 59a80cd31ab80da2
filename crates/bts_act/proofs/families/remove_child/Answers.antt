use Rattle.std.proofs.Common.{◌≡◌, true, is_some, sym, ap, subst, ◌∙◌}
use Rattle.bts_tree.specs.Processes.{activity_at, removed, with_pool}
use Rattle.bts_tree.specs.Scopes.{HeldProcess}
use Rattle.bts_rows.specs.Completions.{without_child}
use Rattle.bts_act.proofs.Children.{child_removed, there_edited}
use Rattle.bts_act.proofs.Saving.{below_still_saved, still_saved}
use Rattle.bts_act.proofs.families.remove_child.Goals as goal

pub forget_child-requires-clause-saved : goal.forget_child-requires-clause-saved
forget_child-requires-clause-saved c = still_saved c.args.at.now c.save.new.self c.save-2.new.self c.save-2.ensures.leaves c.in_ok-save.ensures.saved

pub remove_below-requires-clause-there : goal.remove_below-requires-clause-there
remove_below-requires-clause-there c =
    let back = ap (λ (h : HeldProcess). h.process) c.in_ok-save-2.ensures.ok ∙ ap (λ (h : HeldProcess). h.process) c.in_ok-save.ensures.ok in
    subst (λ (h : HeldProcess). is_some (activity_at c.args.path.now h.process) ≡ true) (sym c.in_ok-forget_child.ensures.ok)
    (subst (λ s. is_some (activity_at c.args.path.now (with_pool c.args.at.now (without_child c.last_number.result) s)) ≡ true) (sym back)
    (there_edited c.args.at.now c.args.path.now (λ a. record a { pool = without_child c.last_number.result a.pool }) c.args.scope.now.process c.requires.there))

pub remove_below-requires-clause-saved : goal.remove_below-requires-clause-saved
remove_below-requires-clause-saved c =
    below_still_saved c.args.path.now c.args.at.now (λ a. record a { pool = without_child c.last_number.result a.pool }) c.save-2.new.self c.forget_child.new.scope c.in_ok-forget_child.ensures.ok c.in_ok-save-2.ensures.saved

pub returns-clause-ok : goal.returns-clause-ok
returns-clause-ok c =
    let p = c.args.path.now in
    let q = c.args.at.now in
    let back = ap (λ (h : HeldProcess). h.process) c.in_ok-save-2.ensures.ok ∙ ap (λ (h : HeldProcess). h.process) c.in_ok-save.ensures.ok in
    ap (λ (h : HeldProcess). h.process) c.remove_below.ensures
    ∙ ap (λ (h : HeldProcess). removed p true h.process) c.in_ok-forget_child.ensures.ok
    ∙ ap (λ s. removed p true (with_pool q (without_child c.last_number.result) s)) back
    ∙ ap (λ n. removed p true (with_pool q (without_child n) c.args.scope.now.process)) c.last_number.ensures
    ∙ child_removed q p c.args.scope.now.process c.requires.child
