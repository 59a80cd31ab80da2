use Rattle.bts_rows.proofs.laws.a_refused_command_changes_nothing.Goals as goal
use Rattle.bts_rows.specs.Rows.{answer}
use Rattle.bts_rows.proofs.Replies.{refused_leaves}

pub returns : goal.returns
returns c = λ h held depth now s command no. refused_leaves (s, held) (answer h held depth now s command) no
