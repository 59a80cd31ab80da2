-- From a row on its thing to the process: one lemma for all rows, and for each property of a process what it asks of the things.
use Rattle.std.proofs.Common.{◌≡◌, ℕ, Bool, true, false, cond, Option, Some, None, is_some, unwrap_or, [], Result, Ok, Err, refl, ◌≤◌, arith}
use Rattle.bts_names.specs.Names.{ActivityPath}
use Rattle.bts_names.specs.Named.{lookup}
use Rattle.bts_names.specs.declared.reply.Resp.TheVariants.{Activityerr}
use Rattle.bts_names.specs.declared.reply.Reason.TheVariants.{Missing}
use Rattle.bts_names.specs.declared.reply.Value.{Value}
use Rattle.bts_command.specs.Sizes.{got_bytes}
use Rattle.bts_command.specs.declared.command.Command.{Command}
use Rattle.bts_command.specs.declared.command.Target.TheVariants as of
use Rattle.bts_command.specs.declared.command.Spot.{Spot}
use Rattle.bts_command.specs.declared.command.Spot.TheVariants as spot
use Rattle.bts_container.specs.Containers.{Containers}
use Rattle.bts_tree.specs.declared.activity.Activity.{Activity}
use Rattle.bts_tree.specs.Activities.{Activities}
use Rattle.bts_tree.specs.Processes.{Process, activities, activity_at, has_tree, with_containers, written}
use Rattle.bts_rows.specs.declared.places.About.{About}
use Rattle.bts_rows.specs.declared.places.About.TheVariants as about
use Rattle.bts_rows.specs.declared.places.Here.{Here}
use Rattle.bts_rows.specs.declared.places.Here.TheVariants as here
use Rattle.bts_rows.specs.declared.places.Thing.{Thing}
use Rattle.bts_rows.specs.declared.places.Thing.TheVariants as thing
use Rattle.bts_rows.specs.declared.places.Unfound.{Unfound}
use Rattle.bts_rows.specs.declared.places.Unfound.TheVariants as unfound
use Rattle.bts_rows.specs.Places.{a_family, a_process, about_of, an_activity, find, find_activity, find_place, find_target, is_family, is_read_only, own_path}
use Rattle.bts_rows.specs.OnActivity.{on_activity}
use Rattle.bts_rows.specs.OnContainers.{on_containers, on_shown}
use Rattle.bts_rows.specs.OnFamily.{on_family}
use Rattle.bts_rows.specs.Rows.{on_thing, thing_row}
use Rattle.bts_rows.proofs.Facts.{GivesActivity, GivesPool, IsShort, KeepsActivity, KeepsPool, activity_tells, containers_tell, shown_tells}
use Rattle.bts_rows.proofs.FamilyRows.{family_silent}
use Rattle.bts_rows.proofs.Short.{AreShort, HoldsShort, found}
use Rattle.bts_rows.proofs.Telling.{Tells, TellsWith, tells_both, tells_found, tells_mapped, tells_more, tells_some}

-- the activity of an activity's frame is there
abbrev pub IsInPlace : Here → Process → Type 0
IsInPlace (here.Activity p) s = is_some (activity_at p s) ≡ true
IsInPlace (here.Request h) s = Unit {0}

-- ---- what is found

no_process : (r : Result ActivityPath Unfound) → an_activity r ≡ Ok thing.Containers → ⊥
no_process (Ok p) e = cc
no_process (Err why) e = cc

no_family : (r : Result ActivityPath Unfound) → a_family r ≡ Ok thing.Containers → ⊥
no_family (Ok p) e = cc
no_family (Err why) e = cc

pub not_a_family : (r : Result ActivityPath Unfound) (p : ActivityPath) → an_activity r ≡ Ok (thing.Family p) → ⊥
not_a_family (Ok q) p e = cc
not_a_family (Err why) p e = cc

tree_case : (o : Option Activities) (p : ActivityPath) → is_some (lookup p (unwrap_or o [])) ≡ true → is_some o ≡ true
tree_case None p h = cc
tree_case (Some t) p h = refl

module _ (s : Process) (x : Thing) where
  root_there : (r : Result ActivityPath Unfound) → a_process s x r ≡ Ok thing.Containers → has_tree s ≡ true
  root_there (Err why) e = cc
  root_there (Ok p) e = by (is_some (activity_at p s)) refl e
    where
      by : (b : Bool) → is_some (activity_at p s) ≡ b → cond b (Ok x) (Err unfound.Missing) ≡ Ok thing.Containers → has_tree s ≡ true
      by true h e = tree_case s.tree p h
      by false h e = cc

  place_there : (h : Here) (place : Spot) → IsInPlace h s → find_place h s x place ≡ Ok thing.Containers → has_tree s ≡ true
  place_there h spot.Own i e = absurd (no_process (own_path h) e)
  place_there (here.Activity p) spot.Process i e = tree_case s.tree p i
  place_there (here.Request h) spot.Process i e = cc
  place_there h (spot.Of (of.Activity a)) i e = absurd (no_process (find_target h s (of.Activity a)) e)
  place_there h (spot.Of of.AcqProcess) i e = root_there (find_target h s of.AcqProcess) e
  place_there h (spot.Of of.AcqActivity) i e = absurd (no_process (find_target h s of.AcqActivity) e)

written_there : (h : Here) (s : Process) (place : Spot) (b : Bool) → IsInPlace h s
    → cond b (Err unfound.ReadOnly) (find_place h s thing.Containers place) ≡ Ok thing.Containers → has_tree s ≡ true
written_there h s place true i e = cc
written_there h s place false i e = place_there s thing.Containers h place i e

-- a process whose containers are changed has a tree
tree_there : (h : Here) (s : Process) (ab : About) → IsInPlace h s → find h s ab ≡ Ok thing.Containers → has_tree s ≡ true
tree_there h s (about.Activity target) i e = absurd (no_process (find_activity h s target) e)
tree_there h s (about.Family target) i e = absurd (no_family (find_activity h s target) e)
tree_there h s (about.Reads place) i e = place_there s thing.Shown h place i e
tree_there h s (about.Writes place) i e = written_there h s place (is_read_only h place) i e
tree_there h s about.Nothing i e = cc

-- what isn't about a family finds none
no_place : (h : Here) (s : Process) (x : Thing) (p : ActivityPath) (place : Spot) → (x ≡ thing.Family p → ⊥)
    → find_place h s x place ≡ Ok (thing.Family p) → ⊥
no_place h s x p spot.Own n e = not_a_family (own_path h) p e
no_place (here.Activity q) s x p spot.Process n e = let i : x ≡ thing.Family p = cc in n i
no_place (here.Request k) s x p spot.Process n e = cc
no_place h s x p (spot.Of (of.Activity a)) n e = not_a_family (find_target h s (of.Activity a)) p e
no_place h s x p (spot.Of of.AcqProcess) n e = by (find_target h s of.AcqProcess) e
  where
    there : (b : Bool) → cond b (Ok x) (Err unfound.Missing) ≡ Ok (thing.Family p) → ⊥
    there true e = let i : x ≡ thing.Family p = cc in n i
    there false e = cc

    by : (r : Result ActivityPath Unfound) → a_process s x r ≡ Ok (thing.Family p) → ⊥
    by (Ok q) e = there (is_some (activity_at q s)) e
    by (Err why) e = cc
no_place h s x p (spot.Of of.AcqActivity) n e = not_a_family (find_target h s of.AcqActivity) p e

pub none_of_family : (h : Here) (s : Process) (ab : About) (p : ActivityPath) → is_family ab ≡ false → find h s ab ≡ Ok (thing.Family p) → ⊥
none_of_family h s (about.Activity target) p o e = not_a_family (find_activity h s target) p e
none_of_family h s (about.Family target) p o e = cc
none_of_family h s (about.Reads place) p o e = no_place h s thing.Shown p place (λ i. cc) e
none_of_family h s (about.Writes place) p o e = by (is_read_only h place) e
  where
    by : (b : Bool) → cond b (Err unfound.ReadOnly) (find_place h s thing.Containers place) ≡ Ok (thing.Family p) → ⊥
    by true e = cc
    by false e = no_place h s thing.Containers p place (λ i. cc) e
none_of_family h s about.Nothing p o e = cc

-- ---- the lemma

-- a process has a property behind each change of what a command is about
pub record Lifts (Good : Process → Type 0) (h : Here) (s : Process) (c : Command) : Type 0 where
  pub same : Good s
  pub activity : (p : ActivityPath) (a b : Activity) → activity_at p s ≡ Some a → KeepsActivity c a b → Good (written p b s)
  pub containers : (x : Containers) → (IsInPlace h s → has_tree s ≡ true) → KeepsPool s.containers x → Good (with_containers x s)
  pub family : (p : ActivityPath) (a : Activity) → find h s (about_of c) ≡ Ok (thing.Family p) → activity_at p s ≡ Some a
      → Tells (λ change. Good (change s)) (on_family c p a s)

-- what is answered has no more bytes than any container of the process
abbrev pub ShortIn : Process → Value → Type 0
ShortIn s v = (m : ℕ) → HoldsShort m s → got_bytes v ≤ m

short_at : (s : Process) (p : ActivityPath) (a : Activity) (v : Value) → activity_at p s ≡ Some a → IsShort a.containers v → ShortIn s v
short_at s p a v e short m holds = short m (found (λ (b : Activity). AreShort m b.containers) p a (activities s) holds.each e)

module _ (Good : Process → Type 0) (h : Here) (s : Process) (c : Command) (l : Lifts Good h s c) (depth now : ℕ) where
  abbrev Gives : Value → Process → Type 0
  Gives v t = ShortIn s v × Good t

  thing_gives : (x : Thing) → find h s (about_of c) ≡ Ok x → TellsWith Gives (on_thing x depth now s c)
  thing_gives (thing.Activity p) there =
      tells_some Gives Activityerr Missing (activity_at p s) _ refl refl λ a e.
      tells_mapped Gives (λ b. written p b s) (on_activity depth now c a)
      (tells_more (GivesActivity c a) (λ v b. Gives v (written p b s)) (on_activity depth now c a)
      (λ v b k. (short_at s p a v e k.0, l.activity p a b e k.1)) (activity_tells depth now c a))
  thing_gives (thing.Family p) there =
      tells_some Gives Activityerr Missing (activity_at p s) _ refl refl λ a e.
      tells_mapped Gives (λ change. change s) (on_family c p a s)
      (tells_more (λ v change. (got_bytes v ≡ 0) × Good (change s)) (λ v change. Gives v (change s)) (on_family c p a s)
      (λ v change k. (λ m short. omega (arith, k.0), k.1))
      (tells_both (λ v change. got_bytes v ≡ 0) (λ v change. Good (change s)) (on_family c p a s) (family_silent c p a s) (l.family p a there e)))
  thing_gives thing.Shown there =
      tells_mapped Gives (λ x. s) (on_shown c s.containers)
      (tells_more (GivesPool s.containers) (λ v x. Gives v s) (on_shown c s.containers)
      (λ v x k. (λ m short. k.0 m short.own, l.same)) (shown_tells c s.containers))
  thing_gives thing.Containers there =
      tells_mapped Gives (λ x. with_containers x s) (on_containers c s.containers)
      (tells_more (GivesPool s.containers) (λ v x. Gives v (with_containers x s)) (on_containers c s.containers)
      (λ v x k. (λ m short. k.0 m short.own, l.containers x (λ i. tree_there h s (about_of c) i there) k.1))
      (containers_tell c s.containers))

  pub row_gives : TellsWith Gives (thing_row h depth now s c)
  unfolding thing_row
  row_gives = tells_found Gives (find h s (about_of c)) _ thing_gives

  pub row_tells : Tells Good (thing_row h depth now s c)
  row_tells = tells_more Gives (λ v. Good) (thing_row h depth now s c) (λ v t k. k.1) row_gives
