-- What the tables keep: in an activity's frame, and in a request's first frame with what it acquires.
use Rattle.std.proofs.Common.{◌≡◌, ℕ, Bool, true, false, cond, nat_le, List, [], is_some, refl, sym, subst, arith}
use Rattle.bts_names.specs.Names.{ActivityPath}
use Rattle.bts_names.specs.Answer.{left_by}
use Rattle.bts_command.specs.Given.{IsGiven}
use Rattle.bts_command.specs.Numbers.{command_number}
use Rattle.bts_command.specs.declared.command.Command.{Command}
use Rattle.bts_tree.specs.Processes.{Process, activity_at}
use Rattle.bts_tree.specs.Soundness.{IsSoundInFrames}
use Rattle.bts_rows.specs.declared.places.Held.{Held}
use Rattle.bts_rows.specs.declared.places.Here.TheVariants as here
use Rattle.bts_rows.specs.Bounds.{makes_more}
use Rattle.bts_rows.specs.Families.{AreUsual, IsTop, rearms, resets}
use Rattle.bts_rows.specs.Places.{about_of, is_family}
use Rattle.bts_rows.specs.RequestRows.{request_row}
use Rattle.bts_rows.specs.Rows.{act_at, keeping, request_in, thing_row}
use Rattle.bts_rows.proofs.Active.{order_case}
use Rattle.bts_rows.proofs.Acquiring.{Acquires, GrowsHolding, acquires_grows, acquires_sound, acquires_usual, acquiring_tells, holding}
use Rattle.bts_rows.proofs.Frames.{row_in_order}
use Rattle.bts_rows.proofs.Grows.{Grows, grows_same}
use Rattle.bts_rows.proofs.Keeping.{request_grows, row_grows, row_sound}
use Rattle.bts_rows.proofs.Telling.{Tells, left_so, tells_mapped, tells_more}
use Rattle.bts_rows.proofs.Usual.{row_usual}

-- ---- in a frame

module _ (frames : List ActivityPath) (s : Process) (sound : IsSoundInFrames frames s) (p : ActivityPath) (depth now : ℕ)
    (c : Command) where
  at_frame : (P : Process → Type 0) → P s → Tells P (thing_row (here.Activity p) depth now s c) → P (left_by s (act_at p depth now s c))
  at_frame P still f =
      subst (λ x. P (left_by s x)) (sym (row_in_order p depth now s c (order_case s s.tree sound.tree)))
      (left_so P s (thing_row (here.Activity p) depth now s c) still f)

  pub act_at_grows : Grows 0 1 (makes_more c) s (left_by s (act_at p depth now s c))
  act_at_grows =
      at_frame (Grows 0 1 (makes_more c) s) (grows_same 1 (makes_more c) s)
      (row_grows (makes_more c) frames (here.Activity p) s c sound refl depth now)

  pub act_at_usual : IsGiven c → AreUsual s → AreUsual (left_by s (act_at p depth now s c))
  act_at_usual g usual = at_frame AreUsual usual (row_usual frames (here.Activity p) s c sound g usual depth now)

pub act_at_sound : (frames : List ActivityPath) (p : ActivityPath) (depth now : ℕ) (s : Process) (c : Command)
    → is_some (activity_at p s) ≡ true → IsGiven c
    → (is_family (about_of c) ≡ true → IsTop frames (here.Activity p)) → (rearms (here.Activity p) c ≡ true → AreUsual s)
    → IsSoundInFrames frames s
    → IsSoundInFrames frames (left_by s (act_at p depth now s c))
act_at_sound frames p depth now s c i g top usual sound =
    at_frame frames s sound p depth now c (IsSoundInFrames frames) sound
    (row_sound frames (here.Activity p) s c sound g i top usual depth now)

-- ---- in a request's first frame

module _ (P : Process × Held → Type 0) (s : Process) (held : Held) (depth now : ℕ) (c : Command) where
  pub request_tells : Acquires P held s → Tells (λ t. P (t, held)) (thing_row (here.Request held) depth now s c)
      → Tells P (request_in held depth now s c)
  request_tells l f = by (nat_le (command_number c) 4)
    where
      by : (b : Bool) → Tells P (cond b (request_row held s c) (keeping held (thing_row (here.Request held) depth now s c)))
      by true = acquiring_tells P held s l c
      by false = tells_mapped (λ v. P) (λ t. (t, held)) (thing_row (here.Request held) depth now s c) f

  left_in : P (s, held) → Acquires P held s → Tells (λ t. P (t, held)) (thing_row (here.Request held) depth now s c)
      → P (left_by (s, held) (request_in held depth now s c))
  left_in still l f = left_so P (s, held) (request_in held depth now s c) still (request_tells l f)

-- what it acquired, whatever frames are open beside it
pub acquired_sound : (frames : List ActivityPath) (held : Held) (depth now : ℕ) (s : Process) (c : Command) → IsGiven c
    → (is_family (about_of c) ≡ true → IsTop frames (here.Request held)) → (resets c ≡ true → AreUsual s)
    → IsSoundInFrames frames s → IsSoundInFrames frames (left_by s (thing_row (here.Request held) depth now s c))
acquired_sound frames held depth now s c g top usual sound =
    left_so (IsSoundInFrames frames) s (thing_row (here.Request held) depth now s c) sound
    (row_sound frames (here.Request held) s c sound g tt top usual depth now)

pub request_in_sound : (s : Process) (held : Held) (depth now : ℕ) (c : Command) → IsSoundInFrames [] s → IsGiven c
    → (resets c ≡ true → AreUsual s) → IsSoundInFrames [] (left_by (s, held) (request_in held depth now s c)).0
request_in_sound s held depth now c sound g usual =
    left_in (λ x. IsSoundInFrames [] x.0) s held depth now c sound (acquires_sound held s sound)
    (row_sound [] (here.Request held) s c sound g tt (λ f r. refl) usual depth now)

module _ (frames : List ActivityPath) (s : Process) (sound : IsSoundInFrames frames s) (held : Held) (depth now : ℕ) (c : Command) where
  pub request_in_grows : GrowsHolding false s held (left_by (s, held) (request_in held depth now s c))
  request_in_grows =
      left_in (GrowsHolding false s held) s held depth now c (kept s (grows_same 1 false s)) (acquires_grows false held s)
      (tells_more (λ v. Grows 0 1 false s) (λ v t. GrowsHolding false s held (t, held)) (thing_row (here.Request held) depth now s c)
      (λ v. kept)
      (request_grows frames held s c sound depth now))
    where
      kept : (t : Process) → Grows 0 1 false s t → GrowsHolding false s held (t, held)
      kept t f = holding false s held t held f (λ n. omega arith)

  pub request_in_usual : IsGiven c → AreUsual s → AreUsual (left_by (s, held) (request_in held depth now s c)).0
  request_in_usual g usual =
      left_in (λ x. AreUsual x.0) s held depth now c usual (acquires_usual held s usual)
      (row_usual frames (here.Request held) s c sound g usual depth now)
