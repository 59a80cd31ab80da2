use Rattle.bts_rows.proofs.Leading.{cancel_leads, forced_leads, reset_leads}
use Rattle.bts_rows.proofs.laws.rows_lead_from_the_modes_of_their_table.Goals as goal

pub returns-clause-cancel : goal.returns-clause-cancel
returns-clause-cancel c =
    λ frames h depth now s target p a sound named there closed normal.
    cancel_leads h depth now s target p a named there frames sound closed normal

pub returns-clause-below : goal.returns-clause-below
returns-clause-below c = forced_leads

pub returns-clause-reset : goal.returns-clause-reset
returns-clause-reset c = reset_leads
