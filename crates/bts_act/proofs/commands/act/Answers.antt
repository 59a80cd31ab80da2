use Rattle.std.proofs.Common.{sym, subst, ◌∙◌, true≢false}
use Rattle.std.proofs.lemmas.Bool.{and_parts}
use Rattle.bts_tree.specs.Soundness.{IsSoundInFrames}
use Rattle.bts_rows.specs.Rows.{act_at}
use Rattle.bts_rows.specs.declared.places.Here.TheVariants as here
use Rattle.bts_rows.proofs.Frames.{row_on_whole}
use Rattle.bts_rows.proofs.Tables.{act_at_sound}
use Rattle.bts_act.specs.Does.{Does}
use Rattle.bts_act.proofs.Kept.{keeps, order_of}
use Rattle.bts_act.proofs.Unread.{depth_unread, no_family, no_rearming}
use Rattle.bts_act.proofs.commands.act.Goals as goal

pub returns-clause-row : goal.returns-clause-row
returns-clause-row c depth =
    let s = c.args.scope.now.process in
    let p = c.args.at.now in
    let later = (and_parts _ _ c.requires.number).0 in
    subst (Does c.perform.result s c.perform.new.scope.process)
    (depth_unread 0 depth c.args.moment (here.Activity p) s c.args.command.now later ∙ sym (row_on_whole p depth c.args.moment s c.args.command.now (order_of s.tree c.facts.ensures.rising))) c.perform.ensures.row

pub returns-clause-kept : goal.returns-clause-kept
returns-clause-kept c frames sound =
    let s = c.args.scope.now.process in
    let p = c.args.at.now in
    let later = (and_parts _ _ c.requires.number).0 in
    keeps (IsSoundInFrames frames) c.perform.result s c.perform.new.scope.process (act_at p 0 c.args.moment s c.args.command.now) (returns-clause-row c 0)
    (act_at_sound frames p 0 c.args.moment s c.args.command.now c.requires.there c.requires.given (λ f. absurd (true≢false (sym f ∙ no_family c.args.command.now later)))
    (λ r. absurd (true≢false (sym r ∙ no_rearming p c.args.command.now later))) sound) sound
