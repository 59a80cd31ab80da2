use Rattle.bts_tool.proofs.session.do_session.Given as goal

abbrev pub ghosts-do_named-N-Naming : goal.ghosts-do_named-N-Naming
ghosts-do_named-N-Naming a = record { name = record { session = a.session; opening = a.opening; limit = a.limit } }

abbrev pub ghosts-do_named-L-Ledger : goal.ghosts-do_named-L-Ledger
ghosts-do_named-L-Ledger a = record { name = a.blank.name; parts = a.blank.parts }
