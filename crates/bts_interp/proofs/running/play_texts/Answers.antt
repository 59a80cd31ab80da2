use Rattle.std.proofs.Common.{ap, ◌∙◌}
use Rattle.bts_unit.specs.Frames.{path_of}
use Rattle.bts_interp.specs.Items.{texts_of}
use Rattle.bts_interp.specs.Texts.{script_in}
use Rattle.bts_interp.proofs.Beginning.{can_begin, first_under_way}
use Rattle.bts_interp.proofs.Finished.{on_ok}
use Rattle.bts_interp.proofs.running.play_texts.Goals as goal

pub play-requires : goal.play-requires
play-requires g c = record {
  can =
      can_begin c.args.errand.now.unit c.args.errand.now.moment (texts_of c.args.errand.now.session.value c.args.errand.now.unit) c.args.unit.now c.requires c.script_of-script.result.now c.program_in-program.result
      c.program_in-program.ensures
      (
      c.script_of-script.ensures
      ∙ ap (λ s. script_in (texts_of s c.unit.result) (path_of c.unit.result) c.program_in-program.result) c.session.ensures
      ∙ ap (λ k. script_in (texts_of c.args.errand.now.session.value k) (path_of k) c.program_in-program.result) c.unit.ensures
      );
}

pub returns-clause-played : goal.returns-clause-played
returns-clause-played g c =
    on_ok c.play.result
    (
    λ played.
    played (texts_of c.args.errand.now.session.value c.args.errand.now.unit) c.args.unit.now c.args.steps.now
    (
    first_under_way c.args.errand.now.unit c.args.errand.now.moment (texts_of c.args.errand.now.session.value c.args.errand.now.unit) c.args.unit.now c.requires c.script_of-script.result.now
    c.program_in-program.result c.program_in-program.ensures
    (
    c.script_of-script.ensures
    ∙ ap (λ s. script_in (texts_of s c.unit.result) (path_of c.unit.result) c.program_in-program.result) c.session.ensures
    ∙ ap (λ k. script_in (texts_of c.args.errand.now.session.value k) (path_of k) c.program_in-program.result) c.unit.ensures
    )
    c.args.steps.now
    )
    )
    c.play.ensures.played
