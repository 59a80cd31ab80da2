use Rattle.bts_interp.proofs.ShortCalls.{carries_little, texts_short}
use Rattle.bts_interp.proofs.laws.what_a_unit_carries_is_short.Goals as goal

pub returns-clause-of_texts : goal.returns-clause-of_texts
returns-clause-of_texts c = carries_little

pub returns-clause-of_a_session : goal.returns-clause-of_a_session
returns-clause-of_a_session c = texts_short
