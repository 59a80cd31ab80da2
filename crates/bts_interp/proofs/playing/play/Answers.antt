use Rattle.std.proofs.Common.{◌∙◌, refl, subst, lit≤, arith}
use Rattle.bts_interp.specs.Running.{IsRunBy, first_point, point_of}
use Rattle.bts_interp.proofs.Alone.{open_where}
use Rattle.bts_interp.proofs.Turning.{played_by, run_by}
use Rattle.bts_interp.proofs.playing.play.Goals as goal

pub loop-progress-init : goal.loop-progress-init
loop-progress-init g c = record {
  can = λ h. c.requires.can;
  used_fits = lit≤ tt;
  base = refl;
  later = omega arith;
  run = λ texts begun before w. run_by texts c.args.script.now begun before c.args.unit.now (first_point c.args.script.now c.args.steps.now) w c.args.unit.now.end refl;
}

pub loop-progress-preserved : goal.loop-progress-preserved
loop-progress-preserved g c = record {
  can = c.in_ok-progress.ensures.can.1;
  used_fits = c.in_ok-progress.ensures.can.0;
  base = c.advance.ensures.base ∙ c.loop-progress.invariant.base;
  later = omega arith;
  run = λ texts begun before w.
      c.in_ok-progress.ensures.goes_on texts begun before
      (
      subst
      (IsRunBy texts c.args.script.now begun before c.loop-progress.unit (point_of c.loop-progress.progress c.loop-progress.steps))
      (open_where c.loop-progress.unit.end c.loop-progress-test.ensures)
      (c.loop-progress.invariant.run texts begun before w)
      );
}

pub returns-clause-played : goal.returns-clause-played
returns-clause-played g c = λ texts begun before w.
    played_by texts c.args.script.now begun before c.loop-progress.unit (point_of c.loop-progress.progress c.loop-progress.steps) c.loop-progress.unit.end
    (c.loop-progress.invariant.run texts begun before w)
