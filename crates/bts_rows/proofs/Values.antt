-- The bytes that a command is answered are those of a container.
use Rattle.std.proofs.Common.{◌≡◌, ℕ, ◌≤◌, Bool, true, false, cond, nat_le, List, arith}
use Rattle.bts_names.specs.Names.{ActivityPath}
use Rattle.bts_names.specs.Answer.{Answer, refused, done, reply_of}
use Rattle.bts_command.specs.Numbers.{command_number}
use Rattle.bts_command.specs.Sizes.{got_bytes}
use Rattle.bts_command.specs.declared.command.Command.{Command}
use Rattle.bts_tree.specs.Processes.{Process, join, part, format_of}
use Rattle.bts_tree.specs.Soundness.{IsSoundInFrames}
use Rattle.bts_rows.specs.declared.places.Held.{Held}
use Rattle.bts_rows.specs.declared.places.Here.{Here}
use Rattle.bts_rows.specs.declared.places.Here.TheVariants as here
use Rattle.bts_rows.specs.RequestRows.{request_row}
use Rattle.bts_rows.specs.Rows.{act_at, answer, keeping, thing_row}
use Rattle.bts_rows.proofs.Acquiring.{acquiring_gives}
use Rattle.bts_rows.proofs.Keeping.{says}
use Rattle.bts_rows.proofs.Lifting.{ShortIn, row_gives}
use Rattle.bts_rows.proofs.Replies.{acquires_any}
use Rattle.bts_rows.proofs.Short.{HoldsShort, part_short, sound_is_short}
use Rattle.bts_rows.proofs.Telling.{TellsWith, tells_mapped, tells_more}
use Rattle.bts_container.specs.Formats.{size_limit}

module _ (m : ℕ) where
  abbrev GivesAtMost : {S : Type 0} → Answer S → Type 0
  GivesAtMost = TellsWith (λ v x. got_bytes v ≤ m)

  of_row : (h : Here) (depth now : ℕ) (s : Process) (c : Command) → HoldsShort m s → GivesAtMost (thing_row h depth now s c)
  of_row h depth now s c short =
      tells_more (λ v t. ShortIn s v × Unit {0}) (λ v t. got_bytes v ≤ m) (thing_row h depth now s c) (λ v t k. k.0 m short)
      (row_gives (λ t. Unit {0}) h s c (says h s c) depth now)

  of_answer : (h : Here) (held : Held) (depth now : ℕ) (s : Process) (c : Command) → HoldsShort m s
      → GivesAtMost (answer h held depth now s c)
  unfolding answer
  of_answer (here.Request h) held depth now s c short = by (nat_le (command_number c) 4)
    where
      by : (b : Bool) → GivesAtMost (cond b (request_row h s c) (keeping h (thing_row (here.Request h) depth now s c)))
      by true =
          tells_more (λ v x. (got_bytes v ≡ 0) × Unit {0}) (λ v x. got_bytes v ≤ m) (request_row h s c) (λ v x k. omega (arith, k.0))
          (acquiring_gives (λ x. Unit {0}) h s (acquires_any h s) c)
      by false =
          tells_mapped (λ v x. got_bytes v ≤ m) (λ t. (t, h)) (thing_row (here.Request h) depth now s c)
          (of_row (here.Request h) depth now s c short)
  of_answer (here.Activity p) held depth now s c short =
      tells_mapped (λ v x. got_bytes v ≤ m) (λ t. (t, held)) (act_at p depth now s c)
      (tells_mapped (λ v x. got_bytes v ≤ m) (join p s) (thing_row (here.Activity p) depth now (part p s) c)
      (of_row (here.Activity p) depth now (part p s) c (part_short m p s short)))

  replied : {S : Type 0} (x : Answer S) → GivesAtMost x → got_bytes (reply_of x).value ≤ m
  replied (refused r why) h = omega arith
  replied (done v x) h = h

-- what a command is answered on a sound process
pub answered_short : (frames : List ActivityPath) (h : Here) (held : Held) (depth now : ℕ) (s : Process) (c : Command)
    → IsSoundInFrames frames s
    → got_bytes (reply_of (answer h held depth now s c)).value ≤ size_limit (format_of s)
answered_short frames h held depth now s c sound =
    replied (size_limit (format_of s)) (answer h held depth now s c) (of_answer (size_limit (format_of s)) h held depth now s c (sound_is_short frames s sound))
