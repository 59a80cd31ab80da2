-- The row of a command is the one on the thing that is found.
use Rattle.std.proofs.Common.{◌≡◌, ℕ, Some, Ok, Err, Result, refl, sym, subst}
use Rattle.bts_names.specs.Names.{ActivityPath}
use Rattle.bts_names.specs.Answer.{at_some, mapped}
use Rattle.bts_names.specs.declared.reply.Resp.TheVariants as resp
use Rattle.bts_names.specs.declared.reply.Reason.TheVariants as reason
use Rattle.bts_names.specs.declared.reply.Reply.{Reply}
use Rattle.bts_names.specs.declared.memory.NoMemory.{NoMemory}
use Rattle.bts_command.specs.declared.command.Command.{Command}
use Rattle.bts_tree.specs.declared.activity.Activity.{Activity}
use Rattle.bts_tree.specs.Processes.{Process, activity_at, written}
use Rattle.bts_act.specs.Does.{Does}
use Rattle.bts_act.specs.Replies.{refusal}
use Rattle.bts_act.proofs.Lifts.{lift_does, unchanged}
use Rattle.bts_rows.specs.declared.places.Here.{Here}
use Rattle.bts_rows.specs.declared.places.Thing.{Thing}
use Rattle.bts_rows.specs.declared.places.Thing.TheVariants as thing
use Rattle.bts_rows.specs.declared.places.Unfound.{Unfound}
use Rattle.bts_rows.specs.Places.{about_of, at_found, find, reason_of, resp_of}
use Rattle.bts_rows.specs.OnActivity.{on_activity}
use Rattle.bts_rows.specs.Rows.{on_thing, thing_row}

module _ (h : Here) (depth now : ℕ) (s : Process) (c : Command) where
  pub found_does : (x : Thing) (r : Result Reply NoMemory) (new : Process) → find h s (about_of c) ≡ Ok x → Does r s new (on_thing x depth now s c) → Does r s new (thing_row h depth now s c)
  unfolding thing_row
  found_does x r new e d = subst (λ o. Does r s new (at_found o (λ y. on_thing y depth now s c))) (sym e) d

  pub unfound_does : (why : Unfound) (r : Reply) → find h s (about_of c) ≡ Err why → r ≡ refusal (resp_of why) (reason_of why) → Does (Ok r) s s (thing_row h depth now s c)
  unfolding thing_row
  unfound_does why r e d = subst (λ o. Does (Ok r) s s (at_found o (λ y. on_thing y depth now s c))) (sym e) (d, refl)

-- what is done to an activity is done to the process
pub activity_does : (depth now : ℕ) (s : Process) (c : Command) (p : ActivityPath) (a : Activity) → activity_at p s ≡ Some a → (r : Result Reply NoMemory) (new : Activity) → Does r a new (on_activity depth now c a)
    → Does r s (written p new s) (on_thing (thing.Activity p) depth now s c)
activity_does depth now s c p a h r new d =
    subst (λ o. Does r s (written p new s) (at_some resp.Activityerr reason.Missing o (λ b. mapped (λ x. written p x s) (on_activity depth now c b)))) (sym h)
    (lift_does (λ b. written p b s) r a new s (on_activity depth now c a) (unchanged p s a h) d)

-- what is only read of it leaves the process
pub activity_reads : (depth now : ℕ) (s : Process) (c : Command) (p : ActivityPath) (a : Activity) → activity_at p s ≡ Some a → (r : Result Reply NoMemory) → Does r a a (on_activity depth now c a)
    → Does r s s (on_thing (thing.Activity p) depth now s c)
activity_reads depth now s c p a h r d = subst (λ x. Does r s x (on_thing (thing.Activity p) depth now s c)) (unchanged p s a h) (activity_does depth now s c p a h r a d)
