use Rattle.bts_report.proofs.number.+add_number.Given as goal

abbrev pub decreases-add_number : goal.decreases-add_number
decreases-add_number a = a.n
