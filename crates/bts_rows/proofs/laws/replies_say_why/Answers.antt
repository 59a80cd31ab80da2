use Rattle.bts_rows.proofs.laws.replies_say_why.Goals as goal
use Rattle.bts_rows.specs.Rows.{answer}
use Rattle.bts_rows.proofs.Replies.{proper, why_answer}

pub returns : goal.returns
returns c = λ h held depth now s command. proper (answer h held depth now s command) (why_answer h held depth now s command)
