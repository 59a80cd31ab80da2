use Rattle.bts_region.proofs.tests.holds.Given as goal

abbrev pub ghosts-tell-N-Naming : goal.ghosts-tell-N-Naming
ghosts-tell-N-Naming a = record { name = record { session = a.session; opening = a.opening; limit = 4 } }

abbrev pub ghosts-tell-L-Ledger : goal.ghosts-tell-L-Ledger
ghosts-tell-L-Ledger a = record { name = a.blank.name; parts = a.blank.parts }
