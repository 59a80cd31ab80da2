-- What a command on containers, events or timers doesn't read: how many frames are open, and what stands outside its activity.
use Rattle.std.proofs.Common.{◌≡◌, ℕ, true, false, nat_le, refl}
use Rattle.bts_names.specs.Names.{ActivityPath}
use Rattle.bts_names.specs.Answer.{mapped}
use Rattle.bts_command.specs.declared.command.Command.{Command}
use Rattle.bts_command.specs.declared.command.Command.TheVariants as command
use Rattle.bts_command.specs.Numbers.{command_number}
use Rattle.bts_tree.specs.declared.activity.Activity.{Activity}
use Rattle.bts_tree.specs.Processes.{Process, written}
use Rattle.bts_rows.specs.declared.places.Here.{Here}
use Rattle.bts_rows.specs.declared.places.Here.TheVariants as here
use Rattle.bts_rows.specs.declared.places.Thing.{Thing}
use Rattle.bts_rows.specs.declared.places.Thing.TheVariants as thing
use Rattle.bts_rows.specs.Families.{rearms}
use Rattle.bts_rows.specs.OnActivity.{on_activity}
use Rattle.bts_rows.specs.Places.{about_of, at_found, find, is_family}
use Rattle.bts_rows.specs.Rows.{at_path, on_thing, thing_row}

pub no_family : (c : Command) → nat_le 14 (command_number c) ≡ true → is_family (about_of c) ≡ false
no_family (command.DefineActivity a e transid program) h = cc
no_family (command.DeleteActivity a) h = cc
no_family (command.Check target) h = cc
no_family (command.Cancel target) h = cc
no_family (command.Reset target) h = cc
no_family _ h = refl

pub no_rearming : (p : ActivityPath) (c : Command) → nat_le 14 (command_number c) ≡ true → rearms (here.Activity p) c ≡ false
no_rearming p (command.Reset target) h = cc
no_rearming p _ h = refl

module _ (depth other now : ℕ) where
  on_one : (c : Command) (a : Activity) → nat_le 14 (command_number c) ≡ true → on_activity depth now c a ≡ on_activity other now c a
  unfolding on_activity
  on_one (command.Run target synchronous e) a h = cc
  on_one (command.Link target e) a h = cc
  on_one _ a h = refl

  on_any : (x : Thing) (s : Process) (c : Command) → nat_le 14 (command_number c) ≡ true → on_thing x depth now s c ≡ on_thing x other now s c
  on_any (thing.Activity p) s c h = λ i. at_path p s (λ a. mapped (λ b. written p b s) (on_one c a h i))
  on_any (thing.Family p) s c h = refl
  on_any thing.Shown s c h = refl
  on_any thing.Containers s c h = refl

  pub depth_unread : (k : Here) (s : Process) (c : Command) → nat_le 14 (command_number c) ≡ true → thing_row k depth now s c ≡ thing_row k other now s c
  unfolding thing_row
  depth_unread k s c h = λ i. at_found (find k s (about_of c)) (λ x. on_any x s c h i)
