use Rattle.std.proofs.Common.{[], sym, ◌∙◌, true≢false}
use Rattle.bts_tree.specs.Soundness.{IsSoundInFrames}
use Rattle.bts_act.proofs.Kept.{keeps}
use Rattle.bts_rows.specs.Rows.{request_in}
use Rattle.bts_rows.proofs.Tables.{request_in_sound}
use Rattle.bts_request.proofs.commands.request.Goals as goal

pub returns-clause-kept : goal.returns-clause-kept
returns-clause-kept c sound =
    let s = c.args.scope.now.process in
    let h = c.args.held.now in
    keeps (λ x. IsSoundInFrames [] x.0) c.do_command.result (s, h) (c.do_command.new.scope.process, c.do_command.new.held)
    (request_in h c.args.depth c.args.moment s c.args.command.now) c.do_command.ensures.row
    (request_in_sound s h c.args.depth c.args.moment c.args.command.now sound c.requires.given (λ r. absurd (true≢false (sym r ∙ c.requires.today)))) sound
