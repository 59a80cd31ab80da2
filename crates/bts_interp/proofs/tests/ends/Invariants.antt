use Rattle.bts_interp.proofs.tests.ends.Given as goal
use Rattle.bts_interp.specs.Names.{nowhere}

abbrev pub ghosts-run_counted-N-Naming : goal.ghosts-run_counted-N-Naming
ghosts-run_counted-N-Naming a = record { name = record { session = a.session; opening = nowhere; limit = 0 } }

abbrev pub ghosts-run_counted-L-Ledger : goal.ghosts-run_counted-L-Ledger
ghosts-run_counted-L-Ledger a = record { name = a.blank.name; parts = a.blank.parts }
