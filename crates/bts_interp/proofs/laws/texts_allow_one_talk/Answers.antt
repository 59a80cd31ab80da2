use Rattle.std.proofs.Common.{refl}
use Rattle.bts_unit.specs.Frames.{start}
use Rattle.bts_interp.proofs.laws.texts_allow_one_talk.Goals as goal
use Rattle.bts_interp.proofs.OneTalk.{talks_agree}

pub returns : goal.returns
returns c = λ texts kind moment s a b e f. talks_agree texts (start kind moment s) refl refl e f a b
