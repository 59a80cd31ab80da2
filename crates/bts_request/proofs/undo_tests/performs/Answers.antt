use Rattle.bts_request.proofs.undo_tests.performs.Goals as goal

pub perform-requires-clause-built : goal.perform-requires-clause-built
perform-requires-clause-built c = c.in-Some.ensures.built c.root.result
