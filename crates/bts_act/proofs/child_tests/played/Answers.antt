use Rattle.bts_act.proofs.child_tests.played.Goals as goal

pub perform-requires-clause-built : goal.perform-requires-clause-built
perform-requires-clause-built c = c.in-Some-command_of.ensures.built c.root.result
