-- Commands by their rows in the frame of an activity: read on the whole process, and what they leave of it.
use Rattle.std.proofs.Common.{◌≡◌, ℕ, Bool, true, false, not, ◌&&◌, ◌||◌, [], ◌∷◌, Option, None, Some, Result, is_none, is_some, refl, sym, ap, ◌∙◌, subst}
use Rattle.std.proofs.lemmas.Bool.{and_parts}
use Rattle.bts_event.proofs.Same.{same_sym}
use Rattle.bts_names.specs.Names.{ActivityPath}
use Rattle.bts_names.specs.Answer.{refused, left_by}
use Rattle.bts_names.specs.declared.memory.NoMemory.{NoMemory}
use Rattle.bts_names.specs.declared.reply.Reply.{Reply}
use Rattle.bts_names.specs.declared.reply.Resp.TheVariants as resp
use Rattle.bts_names.specs.declared.reply.Reason.TheVariants as reason
use Rattle.bts_command.specs.Given.{IsGiven}
use Rattle.bts_command.specs.declared.command.Command.{Command}
use Rattle.bts_command.specs.declared.command.Command.TheVariants as command
use Rattle.bts_command.specs.declared.command.Target.TheVariants as of
use Rattle.bts_tree.specs.Processes.{Process, activity_at}
use Rattle.bts_tree.specs.Soundness.{IsSoundInFrames}
use Rattle.bts_rows.specs.declared.places.Held.{Held}
use Rattle.bts_rows.specs.declared.places.Held.TheVariants as held
use Rattle.bts_rows.specs.declared.places.Here.TheVariants as stands
use Rattle.bts_rows.specs.Families.{IsTop, rearms, resets}
use Rattle.bts_rows.specs.Rows.{act_at, answer, thing_row}
use Rattle.bts_rows.proofs.Edits.{HasOrder}
use Rattle.bts_rows.proofs.Frames.{row_on_whole}
use Rattle.bts_rows.proofs.Tables.{act_at_sound}
use Rattle.bts_act.specs.Built.{is_built}
use Rattle.bts_act.specs.Does.{Does}
use Rattle.bts_act.proofs.Lifts.{lift_does}
use Rattle.bts_unit.specs.Calls.{opens_on}
use Rattle.bts_unit.specs.Frames.{here}
use Rattle.bts_unit.specs.OneFrame.{is_of_one_frame}

-- a command of one frame opens none, and in a request's first one it isn't RESET of what is acquired
pub none_opens : (at : Option ActivityPath) (c : Command) → is_of_one_frame at c ≡ true → is_none (opens_on c) ≡ true
none_opens at c i = (and_parts (is_none (opens_on c)) (is_built (here held.Never at) c) i).0

no_reset : (a b : Bool) → (a && not b) ≡ true → b ≡ false
no_reset true true h = cc
no_reset true false h = refl
no_reset false b h = cc

pub none_resets : (c : Command) → is_of_one_frame None c ≡ true → resets c ≡ false
none_resets c i = no_reset (is_none (opens_on c)) (resets c) i

module _ (p : ActivityPath) where
  pub built : (c : Command) → is_of_one_frame (Some p) c ≡ true → is_built (stands.Activity p) c ≡ true
  built c i = (and_parts (is_none (opens_on c)) (is_built (stands.Activity p) c) i).1

  -- no frame is open below the only one
  is_top : IsTop (p ∷ []) (stands.Activity p)
  is_top r l h = ap (λ b. b || false) (same_sym r p ∙ h)

  module _ (depth now : ℕ) (s : Process) where
    -- what is done to the whole process is done to the part, and joined
    pub does_in_part : (c : Command) → HasOrder s.tree → (r : Result Reply NoMemory) (new : Process) → Does r s new (thing_row (stands.Activity p) depth now s c) → Does r s new (act_at p depth now s c)
    does_in_part c ordered r new d = subst (Does r s new) (sym (row_on_whole p depth now s c ordered)) d

    pub does_in_frame : (h : Held) (c : Command) (r : Result Reply NoMemory) (new : Process) → Does r s new (act_at p depth now s c) → Does r (s, h) (new, h) (answer (stands.Activity p) h depth now s c)
    unfolding answer
    does_in_frame h c r new d = lift_does (λ x. (x, h)) r s new (s, h) (act_at p depth now s c) refl d

    -- what was acquired is reset in a request's first frame alone
    resets_none : (c : Command) → resets c ≡ true → act_at p depth now s c ≡ refused resp.Invreq reason.Place
    unfolding thing_row
    resets_none (command.Reset of.AcqProcess) e = refl
    resets_none (command.Reset of.AcqActivity) e = refl
    resets_none _ e = cc

    rearms_none : (c : Command) → is_built (stands.Activity p) c ≡ true → resets c ≡ false → rearms (stands.Activity p) c ≡ false
    rearms_none (command.Reset target) i e = cc
    rearms_none _ i e = refl

    -- a sound process stays sound
    pub sound_in_frame : (c : Command) → is_of_one_frame (Some p) c ≡ true → IsGiven c → is_some (activity_at p s) ≡ true → IsSoundInFrames (p ∷ []) s
        → IsSoundInFrames (p ∷ []) (left_by s (act_at p depth now s c))
    sound_in_frame c i given there sound = by (resets c) refl
      where
        by : (b : Bool) → resets c ≡ b → IsSoundInFrames (p ∷ []) (left_by s (act_at p depth now s c))
        by true e = subst (λ x. IsSoundInFrames (p ∷ []) (left_by s x)) (sym (resets_none c e)) sound
        by false e = act_at_sound (p ∷ []) p depth now s c there given (λ f. is_top) (λ f. let g = rearms_none c (built c i) e in cc) sound
