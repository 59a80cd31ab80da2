use Rattle.bts_forms.proofs.arguments.+steps_in.Given as goal

abbrev pub decreases-steps_in : goal.decreases-steps_in
decreases-steps_in l = l.most
