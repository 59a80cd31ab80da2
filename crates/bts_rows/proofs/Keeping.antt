-- What all commands keep: each property of a process by what it asks of the things that commands change.
use Rattle.std.proofs.Common.{◌≡◌, ℕ, Bool, true, false, List, Option, Some, None, is_some, Ok, refl, subst, sym}
use Rattle.bts_names.specs.Names.{ActivityPath}
use Rattle.bts_command.specs.Given.{IsGiven}
use Rattle.bts_command.specs.declared.command.Command.{Command}
use Rattle.bts_command.specs.declared.command.Command.TheVariants as command
use Rattle.bts_container.specs.Containers.{Containers}
use Rattle.bts_tree.specs.declared.activity.Activity.{Activity}
use Rattle.bts_tree.specs.Activities.{Activities}
use Rattle.bts_tree.specs.Processes.{Process, activity_at, written, activities}
use Rattle.bts_tree.specs.Soundness.{IsSoundInFrames, IsSoundUnder}
use Rattle.bts_rows.specs.Bounds.{makes_more}
use Rattle.bts_rows.specs.declared.places.Held.{Held}
use Rattle.bts_rows.proofs.InPlace.{edited_keeps_soundness, own_sound}
use Rattle.bts_rows.proofs.Grows.{Grows, GrowsIn, grows_at, grows_containers, grows_same}
use Rattle.bts_rows.specs.declared.places.Here.{Here}
use Rattle.bts_rows.specs.declared.places.Here.TheVariants as here
use Rattle.bts_rows.specs.declared.places.Thing.TheVariants as thing
use Rattle.bts_rows.specs.Places.{about_of, find, is_family}
use Rattle.bts_rows.specs.Families.{AreUsual, IsTop, rearms}
use Rattle.bts_rows.specs.OnFamily.{on_family}
use Rattle.bts_rows.specs.Rows.{thing_row}
use Rattle.bts_rows.proofs.Facts.{KeepsActivity}
use Rattle.bts_rows.proofs.FamilyParts.{IsOfPart, of_part}
use Rattle.bts_rows.proofs.FamilyGrows.{family_grows}
use Rattle.bts_rows.proofs.FamilyLifts.{family_sound}
use Rattle.bts_rows.proofs.Lifting.{IsInPlace, Lifts, none_of_family, row_tells}
use Rattle.bts_rows.proofs.Telling.{SaysWhy, Tells, tells_more}
use Rattle.bts_rows.proofs.Writing.{edit_writes}
use Rattle.bts_rows.proofs.OneFormat.{AreIn}

-- ---- replies

pub says : (h : Here) (s : Process) (c : Command) → Lifts (λ x. Unit {0}) h s c
says h s c = record {
  same = tt;
  activity = λ p a b e k. tt;
  containers = λ x t k. tt;
  family = λ p a f e. tells_more (λ v. IsOfPart c p) (λ v change. Unit {0}) (on_family c p a s) (λ v change l. tt) (of_part p a s c);
}

pub row_says : (h : Here) (depth now : ℕ) (s : Process) (c : Command) → SaysWhy (thing_row h depth now s c)
row_says h depth now s c = row_tells (λ x. Unit {0}) h s c (says h s c) depth now

-- ---- a request's first frame

-- nothing is made there
makes_none : (P : Process → Type 0) (held : Held) (depth now : ℕ) (s : Process) (c : Command) → makes_more c ≡ true
    → Tells P (thing_row (here.Request held) depth now s c)
unfolding thing_row
makes_none P held depth now s (command.DefineActivity name e transid program) m = (refl, refl)
makes_none P held depth now s (command.DefineTimer t e due) m = (refl, refl)
makes_none P held depth now s _ m = cc

-- ---- soundness

process_case : (s : Process) (o : Option Activities) (x : Containers) → is_some o ≡ true → IsSoundUnder s o
    → let t : Process = record s { containers = x } in IsSoundUnder t o
process_case s None x h u = cc
process_case s (Some t) x h u = u

module _ (frames : List ActivityPath) (h : Here) (s : Process) (c : Command) (sound : IsSoundInFrames frames s) (given : IsGiven c)
    (there : IsInPlace h s)
    (top : is_family (about_of c) ≡ true → IsTop frames h) (usual : rearms h c ≡ true → AreUsual s) where
  abbrev Sound : Process → Type 0
  Sound = IsSoundInFrames frames

  sound_written : (p : ActivityPath) (a b : Activity) → activity_at p s ≡ Some a → KeepsActivity c a b → Sound (written p b s)
  sound_written p a b e k =
      subst Sound (edit_writes p s a e (λ x. b))
      (edited_keeps_soundness frames s p (λ x. b) a sound e ((k (own_sound frames s sound p a e)).fits given))

  sound_family : (p : ActivityPath) (a : Activity) → find h s (about_of c) ≡ Ok (thing.Family p) → activity_at p s ≡ Some a
      → Tells (λ change. Sound (change s)) (on_family c p a s)
  sound_family p a f e = by (is_family (about_of c)) refl
    where
      by : (b : Bool) → is_family (about_of c) ≡ b → Tells (λ change. Sound (change s)) (on_family c p a s)
      by true o =
          tells_more _ (λ v change. Sound (change s)) (on_family c p a s) (λ v change k. k given f usual)
          (family_sound frames s sound p a e h (top o) c)
      by false o = absurd (none_of_family h s (about_of c) p o f)

  sound_lifts : Lifts Sound h s c
  sound_lifts = record {
    same = sound;
    activity = sound_written;
    containers =
        λ x t k.
        record {
          tree = process_case s s.tree x (t there) sound.tree;
          containers = k.0 sound.containers;
          formats = subst (λ f. AreIn f (activities s)) (sym k.1) sound.formats;
          active = sound.active;
        };
    family = sound_family;
  }

  -- each command, in whatever frame; one on a family where no frame is open below
  pub row_sound : (depth now : ℕ) → Tells Sound (thing_row h depth now s c)
  row_sound = row_tells Sound h s c sound_lifts

-- ---- numbers

module _ (more : Bool) (frames : List ActivityPath) (h : Here) (s : Process) (c : Command) (sound : IsSoundInFrames frames s) where
  grows_written : makes_more c ≡ more → (p : ActivityPath) (a b : Activity) → activity_at p s ≡ Some a → KeepsActivity c a b
      → Grows 0 1 more s (written p b s)
  grows_written m p a b e k =
      subst (Grows 0 1 more s) (edit_writes p s a e (λ x. b))
      (grows_at 1 more p (λ x. b) s a e (subst (λ m. GrowsIn 1 m a b) m (k (own_sound frames s sound p a e)).grows))

  grows_lifts : makes_more c ≡ more → Lifts (Grows 0 1 more s) h s c
  grows_lifts m = record {
    same = grows_same 1 more s;
    activity = grows_written m;
    containers = λ x t k. grows_containers 1 more s x;
    family = λ p a f e. subst (λ z. Tells (λ change. Grows 0 1 z s (change s)) (on_family c p a s)) m (family_grows frames s sound p a e c);
  }

  pub row_grows : makes_more c ≡ more → (depth now : ℕ) → Tells (Grows 0 1 more s) (thing_row h depth now s c)
  row_grows m = row_tells (Grows 0 1 more s) h s c (grows_lifts m)

-- in a request's first frame nothing is made
pub request_grows : (frames : List ActivityPath) (held : Held) (s : Process) (c : Command) → IsSoundInFrames frames s → (depth now : ℕ)
    → Tells (Grows 0 1 false s) (thing_row (here.Request held) depth now s c)
request_grows frames held s c sound depth now = by (makes_more c) refl
  where
    by : (b : Bool) → makes_more c ≡ b → Tells (Grows 0 1 false s) (thing_row (here.Request held) depth now s c)
    by true m = makes_none (Grows 0 1 false s) held depth now s c m
    by false m = row_grows false frames (here.Request held) s c sound m depth now
