-- The reply of each command says why it was refused, or that it was done; and where it was refused, nothing changed.
use Rattle.std.proofs.Common.{◌≡◌, ℕ, false, refl, sym, ◌∙◌}
use Rattle.bts_names.specs.Answer.{Answer, refused, done, left_by, reply_of}
use Rattle.bts_command.specs.declared.command.Command.{Command}
use Rattle.bts_tree.specs.Processes.{Process, join, part}
use Rattle.bts_rows.specs.declared.places.Held.{Held}
use Rattle.bts_rows.specs.declared.places.Here.{Here}
use Rattle.bts_rows.specs.declared.places.Here.TheVariants as here
use Rattle.bts_rows.specs.Replies.{IsProper, is_normal}
use Rattle.bts_rows.specs.Rows.{act_at, answer, thing_row}
use Rattle.bts_rows.proofs.Acquiring.{Acquires}
use Rattle.bts_rows.proofs.Keeping.{row_says}
use Rattle.bts_rows.proofs.Tables.{request_tells}
use Rattle.bts_rows.proofs.Telling.{SaysWhy, tells_mapped}

pub acquires_any : (h : Held) (s : Process) → Acquires (λ x. Unit {0}) h s
acquires_any h s = record { planted = λ transid program a. tt; acquired = λ g a. tt; purged = tt }

pub why_answer : (h : Here) (held : Held) (depth now : ℕ) (s : Process) (c : Command) → SaysWhy (answer h held depth now s c)
unfolding answer
why_answer (here.Request h) held depth now s c =
    request_tells (λ x. Unit {0}) s h depth now c (acquires_any h s)
    (row_says (here.Request h) depth now s c)
why_answer (here.Activity p) held depth now s c =
    tells_mapped (λ v x. Unit {0}) (λ t. (t, held)) (act_at p depth now s c)
    (tells_mapped (λ v x. Unit {0}) (join p s) (thing_row (here.Activity p) depth now (part p s) c)
    (row_says (here.Activity p) depth now (part p s) c))

module _ {S : Type 0} where
  pub proper : (x : Answer S) → SaysWhy x → IsProper (reply_of x)
  proper (refused r why) s = record { reason = s.1 ∙ sym s.0; value = λ h. refl }
  proper (done v x) s = record { reason = refl; value = λ h. cc }

  -- what a reply that isn't NORMAL leaves
  pub refused_leaves : (before : S) (x : Answer S) → is_normal (reply_of x).resp ≡ false → left_by before x ≡ before
  refused_leaves before (refused r why) h = refl
  refused_leaves before (done v x) h = cc
