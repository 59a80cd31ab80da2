-- The changes of modes lead from the modes that the table of the modes has.
use Rattle.std.proofs.Common.{◌≡◌, ℕ, Bool, true, false, not, ◌||◌, List, Some, Ok, refl, sym, ap, ◌∙◌, true≢false}
use Rattle.std.specs.List.{list_any}
use Rattle.bts_names.specs.Answer.{Answer, refused, done, at_some, mapped, refuse◌because◌when◌otherwise◌, reply_of}
use Rattle.bts_names.specs.Names.{ActivityPath, same}
use Rattle.bts_names.specs.declared.reply.Reason.{Reason}
use Rattle.bts_names.specs.declared.reply.Reason.TheVariants as reason
use Rattle.bts_names.specs.declared.reply.Resp.{Resp}
use Rattle.bts_names.specs.declared.reply.Resp.TheVariants as resp
use Rattle.bts_names.specs.declared.state.Mode.{Mode}
use Rattle.bts_names.specs.declared.state.Mode.TheVariants as mode
use Rattle.bts_command.specs.declared.command.Command.{Command}
use Rattle.bts_command.specs.declared.command.Command.TheVariants as command
use Rattle.bts_command.specs.declared.command.Target.{Target}
use Rattle.bts_tree.specs.declared.activity.Activity.{Activity}
use Rattle.bts_tree.specs.Activities.{is_at_rest, is_complete}
use Rattle.bts_tree.specs.Leading.{leads_from}
use Rattle.bts_tree.specs.Modes.{abends, finishes, frame_opens, is_forced, is_mode_active, is_mode_complete, is_mode_dormant, is_mode_initial, is_reset, waits}
use Rattle.bts_tree.specs.Processes.{Process, activity_at}
use Rattle.bts_tree.specs.Soundness.{IsSoundInFrames}
use Rattle.bts_rows.specs.declared.places.About.TheVariants as about
use Rattle.bts_rows.specs.declared.places.Here.{Here}
use Rattle.bts_rows.specs.OnFamily.{on_family}
use Rattle.bts_rows.specs.Places.{a_family, about_of, at_found, find, find_target}
use Rattle.bts_rows.specs.Replies.{is_normal}
use Rattle.bts_rows.specs.Rows.{on_thing, thing_row}
use Rattle.bts_rows.proofs.Allowed.{not_missing}
use Rattle.bts_rows.proofs.Active.{active_at, is_active}

-- ---- what is said of one mode

pub opens_from : (m : Mode) → (is_mode_initial m || is_mode_dormant m) ≡ true → leads_from frame_opens m ≡ true
opens_from mode.Initial h = refl
opens_from mode.Active h = cc
opens_from mode.Dormant h = refl
opens_from mode.Complete h = cc

pub waits_from : (m : Mode) → is_mode_active m ≡ true → leads_from waits m ≡ true
waits_from mode.Active h = refl
waits_from mode.Initial h = cc
waits_from mode.Dormant h = cc
waits_from mode.Complete h = cc

pub finishes_from : (m : Mode) → is_mode_active m ≡ true → leads_from finishes m ≡ true
finishes_from mode.Active h = refl
finishes_from mode.Initial h = cc
finishes_from mode.Dormant h = cc
finishes_from mode.Complete h = cc

pub abends_from : (m : Mode) → is_mode_active m ≡ true → leads_from abends m ≡ true
abends_from mode.Active h = refl
abends_from mode.Initial h = cc
abends_from mode.Dormant h = cc
abends_from mode.Complete h = cc

forced_from : (m : Mode) → is_mode_active m ≡ false → is_mode_complete m ≡ false → leads_from is_forced m ≡ true
forced_from mode.Initial a c = refl
forced_from mode.Dormant a c = refl
forced_from mode.Active a c = cc
forced_from mode.Complete a c = cc

reset_from : (m : Mode) → (is_mode_initial m || is_mode_complete m) ≡ true → leads_from is_reset m ≡ true
reset_from mode.Initial h = refl
reset_from mode.Complete h = refl
reset_from mode.Active h = cc
reset_from mode.Dormant h = cc

-- ---- an activity that has no open frame

-- so it is forced from a mode of the table, unless it is COMPLETE
pub forced_leads : (frames : List ActivityPath) (s : Process) (p : ActivityPath) (a : Activity) → IsSoundInFrames frames s
    → activity_at p s ≡ Some a → list_any (same p) frames ≡ false → is_complete a ≡ false
    → leads_from is_forced a.mode ≡ true
forced_leads frames s p a sound there closed goes_on =
    forced_from a.mode (sym (ap is_active there) ∙ active_at frames s sound p ∙ closed) goes_on

-- ---- rows

abbrev normal : {S : Type 0} → Answer S → Bool
normal x = is_normal (reply_of x).resp

passes : {S : Type 0} (r : Resp) (why : Reason) (b : Bool) (rest : Answer S) → is_normal r ≡ false
    → normal (refuse r because why when b otherwise rest) ≡ true → b ≡ false
passes r why true rest n h = absurd (true≢false (sym h ∙ n))
passes r why false rest n h = refl

normal_mapped : {S T : Type 0} (f : S → T) (x : Answer S) → normal (mapped f x) ≡ normal x
normal_mapped f (refused r why) = refl
normal_mapped f (done v y) = refl

module _ (h : Here) (depth now : ℕ) (s : Process) (target : Target) (p : ActivityPath) (a : Activity)
    (named : find_target h s target ≡ Ok p) (there : activity_at p s ≡ Some a) where
  -- the row of a command on a family is that at what its target names
  at_it : (c : Command) → about_of c ≡ about.Family (Some target) → normal (thing_row h depth now s c) ≡ normal (on_family c p a s)
  unfolding thing_row
  at_it c e =
      ap (λ ab. normal (at_found (find h s ab) (λ x. on_thing x depth now s c))) e
      ∙ ap (λ r. normal (at_found (a_family r) (λ x. on_thing x depth now s c))) named
      ∙ ap
      (λ o. normal (at_some resp.Activityerr reason.Missing o (λ b. mapped (λ (change : Process → Process). change s) (on_family c p b s))))
      there
      ∙ normal_mapped (λ (change : Process → Process). change s) (on_family c p a s)

  -- CANCEL isn't answered NORMAL where the target is COMPLETE
  cancelled : normal (on_family (command.Cancel target) p a s) ≡ true → is_complete a ≡ false
  unfolding on_family
  cancelled n = passes resp.Activityerr reason.Mode (is_complete a) _ refl n

  pub cancel_leads : (frames : List ActivityPath) → IsSoundInFrames frames s → list_any (same p) frames ≡ false
      → normal (thing_row h depth now s (command.Cancel target)) ≡ true → leads_from is_forced a.mode ≡ true
  cancel_leads frames sound closed n =
      forced_leads frames s p a sound there closed (cancelled (sym (at_it (command.Cancel target) refl) ∙ n))

  -- nor RESET where it is neither INITIAL nor COMPLETE
  at_rest : normal (on_family (command.Reset target) p a s) ≡ true → is_at_rest a ≡ true
  unfolding on_family
  at_rest n = not_missing (is_at_rest a) (passes resp.Activityerr reason.Mode (not (is_at_rest a)) _ refl n)

  pub reset_leads : normal (thing_row h depth now s (command.Reset target)) ≡ true → leads_from is_reset a.mode ≡ true
  reset_leads n = reset_from a.mode (at_rest (sym (at_it (command.Reset target) refl) ∙ n))
