use Rattle.bts_forms.proofs.event_lines.+sub_names.Given as goal

abbrev pub decreases-sub_names : goal.decreases-sub_names
decreases-sub_names l = l.most
