use Rattle.std.proofs.Common.{◌≡◌, length}
use Rattle.bts_forms.specs.Texts.{without_spaces}
use Rattle.bts_forms.proofs.pieces.without_spaces.Given as goal

abbrev pub invariant-loop-rest : goal.invariant-loop-rest
invariant-loop-rest l = without_spaces l.rest ≡ without_spaces l.fn.line

abbrev pub decreases-loop-rest : goal.decreases-loop-rest
decreases-loop-rest l = length l.rest
