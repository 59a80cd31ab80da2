use Rattle.std.proofs.Common.{◌≡◌, true, [], ◌∷◌, option_to_list, sym, subst}
use Rattle.bts_act.proofs.Kept.{keeps, order_of}
use Rattle.bts_act.specs.Does.{Does}
use Rattle.bts_rows.specs.Rows.{act_at, answer}
use Rattle.bts_tree.specs.Soundness.{IsSoundInFrames}
use Rattle.bts_unit.specs.Frames.{here, is_there_at}
use Rattle.bts_unit.specs.OneFrame.{is_of_one_frame}
use Rattle.bts_unit.proofs.InFrames.{built, does_in_frame, does_in_part, none_resets, sound_in_frame}
use Rattle.bts_unit.proofs.rows.do_row.Goals as goal

pub request-requires-clause-today : goal.request-requires-clause-today
request-requires-clause-today c = none_resets c.args.command.now (subst (λ at. is_of_one_frame at c.args.command.now ≡ true) c.in-None.is c.requires.one_frame)

pub returns-in-None-clause-row : goal.returns-in-None-clause-row
unfolding answer
returns-in-None-clause-row c =
    subst (λ at. Does c.request.result (c.args.scope.now.process, c.args.held.now) (c.request.new.scope.process, c.request.new.held) (answer (here c.args.held.now at) c.args.held.now 1 c.args.moment c.args.scope.now.process c.args.command.now)) (sym c.in-None.is) c.request.ensures.row

pub perform-requires-clause-built : goal.perform-requires-clause-built
perform-requires-clause-built c = built c.in-Some.path c.args.command.now (subst (λ at. is_of_one_frame at c.args.command.now ≡ true) c.in-Some.is c.requires.one_frame)

in_part : (c : goal.After-perform) → Does c.perform.result c.args.scope.now.process c.perform.new.scope.process (act_at c.in-Some.path 1 c.args.moment c.args.scope.now.process c.args.command.now)
in_part c =
    does_in_part c.in-Some.path 1 c.args.moment c.args.scope.now.process c.args.command.now (order_of c.args.scope.now.process.tree c.facts.ensures.rising)
    c.perform.result c.perform.new.scope.process c.perform.ensures.row

pub returns-in-Some-clause-row : goal.returns-in-Some-clause-row
returns-in-Some-clause-row c =
    let s = c.args.scope.now.process in
    let h = c.args.held.now in
    subst (λ at. Does c.perform.result (s, h) (c.perform.new.scope.process, h) (answer (here h at) h 1 c.args.moment s c.args.command.now)) (sym c.in-Some.is)
    (does_in_frame c.in-Some.path 1 c.args.moment s h c.args.command.now c.perform.result c.perform.new.scope.process (in_part c))

pub returns-in-Some-clause-kept : goal.returns-in-Some-clause-kept
returns-in-Some-clause-kept c =
    let s = c.args.scope.now.process in
    let p = c.in-Some.path in
    subst (λ at. IsSoundInFrames (option_to_list at) s → IsSoundInFrames (option_to_list at) c.perform.new.scope.process) (sym c.in-Some.is)
    (λ sound. keeps (IsSoundInFrames (p ∷ [])) c.perform.result s c.perform.new.scope.process (act_at p 1 c.args.moment s c.args.command.now) (in_part c)
    (sound_in_frame p 1 c.args.moment s c.args.command.now (subst (λ at. is_of_one_frame at c.args.command.now ≡ true) c.in-Some.is c.requires.one_frame) c.requires.given
    (subst (λ at. is_there_at at s ≡ true) c.in-Some.is c.requires.there) sound) sound)
