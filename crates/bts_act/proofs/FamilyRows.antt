-- The rows on a process from an activity on, and those that are none.
use Rattle.std.proofs.Common.{◌≡◌, true, Some, is_some, Ok, Result, Option, None, refl, ap}
use Rattle.bts_names.specs.Names.{ActivityPath}
use Rattle.bts_names.specs.Answer.{Answer, at_some, mapped, refused}
use Rattle.bts_names.specs.declared.reply.Resp.TheVariants as resp
use Rattle.bts_names.specs.declared.reply.Reason.TheVariants as reason
use Rattle.bts_names.specs.declared.reply.Reply.{Reply}
use Rattle.bts_names.specs.declared.memory.NoMemory.{NoMemory}
use Rattle.bts_command.specs.declared.command.Command.{Command}
use Rattle.bts_command.specs.declared.command.Command.TheVariants as command
use Rattle.bts_command.specs.declared.command.Target.{Target}
use Rattle.bts_command.specs.declared.command.Target.TheVariants as of
use Rattle.bts_tree.specs.declared.activity.Activity.{Activity}
use Rattle.bts_tree.specs.Processes.{Process, activity_at}
use Rattle.bts_act.specs.Does.{Does}
use Rattle.bts_act.specs.Replies.{refusal}
use Rattle.bts_act.proofs.Lifts.{refuses}
use Rattle.bts_rows.specs.declared.places.Here.{Here}
use Rattle.bts_rows.specs.declared.places.Here.TheVariants as here
use Rattle.bts_rows.specs.declared.places.Thing.TheVariants as thing
use Rattle.bts_rows.specs.Places.{about_of, find}
use Rattle.bts_rows.specs.OnFamily.{on_family}
use Rattle.bts_rows.specs.Rows.{at_path}
use Rattle.bts_names.specs.Names.{Name}
use Rattle.bts_act.specs.Built.{is_built}

module _ (s : Process) (p : ActivityPath) where
  -- the others aren't about a family
  other : (h : Here) (c : Command) (a : Activity) → is_built h c ≡ true → find h s (about_of c) ≡ Ok (thing.Family p)
      → ((target : Target) → c ≡ command.Check target → ⊥) → ((target : Target) → c ≡ command.Cancel target → ⊥) → ((name : Name) → c ≡ command.DeleteActivity name → ⊥) → on_family c p a s ≡ refused resp.Invreq reason.Place
  unfolding on_family
  other (here.Activity q) (command.DefineActivity n e transid program) a b f i j k = cc
  other (here.Request r) (command.DefineActivity n e transid program) a b f i j k = cc
  other (here.Activity q) (command.Reset (of.Activity n)) a b f i j k = cc
  other (here.Activity q) (command.Reset of.AcqProcess) a b f i j k = cc
  other (here.Activity q) (command.Reset of.AcqActivity) a b f i j k = cc
  other (here.Request r) (command.Reset (of.Activity n)) a b f i j k = cc
  other (here.Request r) (command.Reset of.AcqProcess) a b f i j k = cc
  other (here.Request r) (command.Reset of.AcqActivity) a b f i j k = cc
  other h (command.DeleteActivity n) a b f i j k = absurd (k n refl)
  other h (command.Check target) a b f i j k = absurd (i target refl)
  other h (command.Cancel target) a b f i j k = absurd (j target refl)
  other h _ a b f i j k = refl

  there : (c : Command) (o : Option Activity) → activity_at p s ≡ o → is_some o ≡ true → ((a : Activity) → on_family c p a s ≡ refused resp.Invreq reason.Place) → at_some resp.Activityerr reason.Missing o (λ a. mapped (λ change. change s) (on_family c p a s)) ≡ refused resp.Invreq reason.Place
  there c None e h f = cc
  there c (Some a) e h f = ap (mapped (λ change. change s)) (f a)

  pub other_does : (h : Here) (c : Command) (r : Reply) → is_built h c ≡ true → find h s (about_of c) ≡ Ok (thing.Family p) → is_some (activity_at p s) ≡ true
      → ((target : Target) → c ≡ command.Check target → ⊥) → ((target : Target) → c ≡ command.Cancel target → ⊥) → ((name : Name) → c ≡ command.DeleteActivity name → ⊥) → r ≡ refusal resp.Invreq reason.Place → Does (Ok r) s s (at_path p s (λ a. mapped (λ change. change s) (on_family c p a s)))
  other_does h c r t f is i j k d =
      refuses r s _ _ (there c (activity_at p s) refl is (λ a. other h c a t f i j k)) d refl

  -- a row that doesn't read the activity itself
  pub at_path_does : (o : Option Activity) → activity_at p s ≡ o → is_some o ≡ true → (r : Result Reply NoMemory) (new : Process) (row : Answer Process) → Does r s new row → Does r s new (at_some resp.Activityerr reason.Missing o (λ a. row))
  at_path_does None e h r new row d = cc
  at_path_does (Some a) e h r new row d = d
