use Rattle.bts_report.proofs.unit_words.add_unit_kind.Goals as goal

pub returns-in-Activation : goal.returns-in-Activation
returns-in-Activation c = rw c.in-Activation.is c.add_activity.ensures
