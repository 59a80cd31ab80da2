-- A command in an activity's frame is read on the part at its path and joined: that is its row on the whole.
use Rattle.std.proofs.Common.{◌≡◌, ℕ, true, cond, [], ◌∷◌, Option, Some, None, Result, Ok, Err, refl, sym, ap, subst, ◌∙◌}
use Rattle.bts_names.specs.Names.{ActivityPath, Name}
use Rattle.bts_names.specs.Answer.{Answer, refused, done, at_some, mapped}
use Rattle.bts_names.specs.declared.reply.Resp.{Resp}
use Rattle.bts_names.specs.declared.reply.Reason.{Reason}
use Rattle.bts_names.specs.declared.reply.Resp.TheVariants as resp
use Rattle.bts_names.specs.declared.reply.Reason.TheVariants as reason
use Rattle.bts_command.specs.declared.command.Command.{Command}
use Rattle.bts_command.specs.declared.command.Command.TheVariants as command
use Rattle.bts_command.specs.declared.command.Target.{Target}
use Rattle.bts_command.specs.declared.command.Target.TheVariants as of
use Rattle.bts_command.specs.declared.command.Spot.{Spot}
use Rattle.bts_command.specs.declared.command.Spot.TheVariants as spot
use Rattle.bts_tree.specs.declared.activity.Activity.{Activity}
use Rattle.bts_tree.specs.Paths.{is_child_of, leads_to, parent_of}
use Rattle.bts_tree.specs.Processes.{Process, activities, activity_at, child_of, join, part, written, format_of}
use Rattle.bts_rows.proofs.Edits.{HasOrder, join_edited, join_part, ordered_case}
use Rattle.bts_rows.proofs.Paths.{child_is, child_leads, parent_is}
use Rattle.bts_rows.proofs.Local.{join_local}
use Rattle.bts_rows.proofs.Order.{IsInOrder, leads_own}
use Rattle.bts_rows.proofs.Parts.{activity_at-part, child_of-part, part_root}
use Rattle.bts_rows.specs.declared.places.About.{About}
use Rattle.bts_rows.specs.declared.places.About.TheVariants as about
use Rattle.bts_rows.specs.declared.places.Here.{Here}
use Rattle.bts_rows.specs.declared.places.Here.TheVariants as here
use Rattle.bts_rows.specs.declared.places.Thing.{Thing}
use Rattle.bts_rows.specs.declared.places.Thing.TheVariants as thing
use Rattle.bts_rows.specs.declared.places.Unfound.{Unfound}
use Rattle.bts_rows.specs.declared.places.Unfound.TheVariants as unfound
use Rattle.bts_rows.specs.Places.{a_family, about_of, an_activity, at_found, child_path, find, find_activity, find_place, find_target, is_read_only}
use Rattle.bts_rows.specs.OnActivity.{on_activity}
use Rattle.bts_rows.specs.OnContainers.{on_shown}
use Rattle.bts_rows.specs.OnFamily.{define_activity, delete_activity, on_family, reset}
use Rattle.bts_rows.specs.Rows.{act_at, on_thing, thing_row}
use Rattle.bts_rows.proofs.FamilyParts.{IsOfPart, IsUnder, of_part}
use Rattle.bts_rows.proofs.Telling.{mapped_told}
use Rattle.bts_rows.proofs.Writing.{edit_writes}

-- ---- answers

mapped_same : {A : Type 0} (f : A → A) → ((x : A) → f x ≡ x) → (row : Answer A) → mapped f row ≡ row
mapped_same f h (refused r why) = refl
mapped_same f h (done v x) = ap (done v) (h x)

mapped_some : {A B C : Type 0} (f : A → B) (r : Resp) (why : Reason) (o u : Option C) (x : C → Answer A) (y : C → Answer B) → o ≡ u
    → ((c : C) → u ≡ Some c → mapped f (x c) ≡ y c)
    → mapped f (at_some r why o x) ≡ at_some r why u y
mapped_some f r why o None x y e h = rw e
mapped_some f r why o (Some c) x y e h = rw e (h c refl)

mapped_twice : {A B C : Type 0} (f : A → B) (g : B → C) (h : A → C) → ((a : A) → g (f a) ≡ h a) → (x : Answer A)
    → mapped g (mapped f x) ≡ mapped h x
mapped_twice f g h e (refused r why) = refl
mapped_twice f g h e (done v a) = ap (done v) (e a)

mapped_found : {A B C : Type 0} (f : B → C) (o : Result A Unfound) (x : A → Answer B) (y : A → Answer C)
    → ((a : A) → o ≡ Ok a → mapped f (x a) ≡ y a) → mapped f (at_found o x) ≡ at_found o y
mapped_found f (Err why) x y h = refl
mapped_found f (Ok a) x y h = h a refl

-- ---- what is found in the part

module _ (p : ActivityPath) (s : Process) where
  abbrev own_part : Process
  own_part = part p s

  abbrev in_frame : Here
  in_frame = here.Activity p

  target_part : (t : Target) → find_target in_frame own_part t ≡ find_target in_frame s t
  target_part (of.Activity a) = ap child_path (child_of-part p p a s (leads_own p))
  target_part of.AcqProcess = refl
  target_part of.AcqActivity = refl

  activity_part : (t : Option Target) → find_activity in_frame own_part t ≡ find_activity in_frame s t
  activity_part None = refl
  activity_part (Some t) = target_part t

  place_part : (x : Thing) (place : Spot) → find_place in_frame own_part x place ≡ find_place in_frame s x place
  place_part x spot.Own = refl
  place_part x spot.Process = refl
  place_part x (spot.Of (of.Activity a)) = ap an_activity (target_part (of.Activity a))
  place_part x (spot.Of of.AcqProcess) = refl
  place_part x (spot.Of of.AcqActivity) = refl

  find_part : (ab : About) → find in_frame own_part ab ≡ find in_frame s ab
  find_part (about.Activity t) = ap an_activity (activity_part t)
  find_part (about.Family t) = ap a_family (activity_part t)
  find_part (about.Reads place) = place_part thing.Shown place
  find_part (about.Writes place) = ap (cond (is_read_only in_frame place) (Err unfound.ReadOnly)) (place_part thing.Containers place)
  find_part about.Nothing = refl

  -- ---- a target is a child

  child_case : (m : Name) (o : Option (ActivityPath × Activity)) (q : ActivityPath) → child_of p m s ≡ o → child_path o ≡ Ok q
      → is_child_of p q ≡ true
  child_case m None q e h = cc
  child_case m (Some x) q e h = let i : x.0 ≡ q = cc in subst (λ y. is_child_of p y ≡ true) i (child_is p m s x e)

  pub target_child : (t : Target) (q : ActivityPath) → find_target in_frame s t ≡ Ok q → is_child_of p q ≡ true
  target_child (of.Activity m) q h = child_case m (child_of p m s) q refl h
  target_child of.AcqProcess q h = cc
  target_child of.AcqActivity q h = cc

  activity_within : (t : Option Target) (q : ActivityPath) → find_activity in_frame s t ≡ Ok q → leads_to p q ≡ true
  activity_within None q h = let i : p ≡ q = cc in subst (λ y. leads_to p y ≡ true) i (leads_own p)
  activity_within (Some t) q h = child_leads p q (target_child t q h)

-- ---- below the root

abbrev IsWithin : ActivityPath → Thing → Type 0
IsWithin p (thing.Activity q) = leads_to p q ≡ true
IsWithin p (thing.Family q) = leads_to p q ≡ true
IsWithin p thing.Shown = Unit {0}
IsWithin p thing.Containers = ⊥

module _ (p : ActivityPath) (x : Thing) where
  activity_thing : (r : Result ActivityPath Unfound) → ((q : ActivityPath) → r ≡ Ok q → leads_to p q ≡ true) → an_activity r ≡ Ok x
      → IsWithin p x
  activity_thing (Err why) f e = cc
  activity_thing (Ok q) f e = let i : thing.Activity q ≡ x = cc in subst (IsWithin p) i (f q refl)

  family_thing : (r : Result ActivityPath Unfound) → ((q : ActivityPath) → r ≡ Ok q → leads_to p q ≡ true) → a_family r ≡ Ok x
      → IsWithin p x
  family_thing (Err why) f e = cc
  family_thing (Ok q) f e = let i : thing.Family q ≡ x = cc in subst (IsWithin p) i (f q refl)

pub is_family_at : (r : Result ActivityPath Unfound) (q : ActivityPath) → a_family r ≡ Ok (thing.Family q) → r ≡ Ok q
is_family_at (Err why) q e = cc
is_family_at (Ok r) q e = cc

module _ (n : ℕ) (p : ActivityPath) (s : Process) (order : HasOrder s.tree) where
  abbrev frame : Here
  frame = here.Activity (n ∷ p)

  abbrev whole : Process → Process
  whole = join (n ∷ p) s

  abbrev own : Process
  own = part (n ∷ p) s

  within_target : (x : Thing) (t : Option Target) → an_activity (find_activity frame s t) ≡ Ok x → IsWithin (n ∷ p) x
  within_target x t e = activity_thing (n ∷ p) x (find_activity frame s t) (activity_within (n ∷ p) s t) e

  found_within : (x : Thing) (ab : About) → find frame s ab ≡ Ok x → IsWithin (n ∷ p) x
  found_within x (about.Activity t) e = within_target x t e
  found_within x (about.Family t) e = family_thing (n ∷ p) x (find_activity frame s t) (activity_within (n ∷ p) s t) e
  found_within x (about.Reads spot.Own) e = within_target x None e
  found_within x (about.Reads spot.Process) e = let i : thing.Shown ≡ x = cc in subst (IsWithin (n ∷ p)) i tt
  found_within x (about.Reads (spot.Of (of.Activity a))) e = within_target x (Some (of.Activity a)) e
  found_within x (about.Reads (spot.Of of.AcqProcess)) e = cc
  found_within x (about.Reads (spot.Of of.AcqActivity)) e = cc
  found_within x (about.Writes spot.Own) e = within_target x None e
  found_within x (about.Writes spot.Process) e = cc
  found_within x (about.Writes (spot.Of (of.Activity a))) e = within_target x (Some (of.Activity a)) e
  found_within x (about.Writes (spot.Of of.AcqProcess)) e = cc
  found_within x (about.Writes (spot.Of of.AcqActivity)) e = cc
  found_within x about.Nothing e = cc

  -- ---- an activity, and the containers that are read

  join_written : (q : ActivityPath) (a b : Activity) → leads_to (n ∷ p) q ≡ true → activity_at q s ≡ Some a
      → whole (written q b own) ≡ written q b s
  join_written q a b l e =
      ap whole (sym (edit_writes q own a (activity_at-part (n ∷ p) q s l ∙ e) (λ x. b))) ∙ join_edited s order (n ∷ p) q (λ x. b) l
      ∙ edit_writes q s a e (λ x. b)

  -- ---- families

  child_at : (t : Target) (q : ActivityPath) → a_family (find_activity frame s (Some t)) ≡ Ok (thing.Family q)
      → is_child_of (n ∷ p) q ≡ true
  child_at t q e = target_child (n ∷ p) s t q (is_family_at (find_target frame s t) q e)

  under : (c : Command) (q : ActivityPath) → leads_to (n ∷ p) q ≡ true → find frame s (about_of c) ≡ Ok (thing.Family q)
      → IsUnder c (n ∷ p) q
  under (command.Check (of.Activity m)) q l f = child_at (of.Activity m) q f
  under (command.Check of.AcqProcess) q l f = cc
  under (command.Check of.AcqActivity) q l f = cc
  under (command.Reset target) q l f = child_at target q f
  under _ q l f = l

  -- what a row reads stands in the part
  reads_part : (c : Command) (q : ActivityPath) (a : Activity) → leads_to (n ∷ p) q ≡ true → IsUnder c (n ∷ p) q
      → on_family c q a own ≡ on_family c q a s
  unfolding on_family
  reads_part (command.DefineActivity name event transid program) q a l u =
      ap (define_activity (format_of s) name event transid program q a) (child_of-part (n ∷ p) q name s l)
  reads_part (command.DeleteActivity name) q a l u = ap delete_activity (child_of-part (n ∷ p) q name s l)
  reads_part (command.Reset target) q a l u =
      ap (reset q a) (activity_at-part (n ∷ p) (parent_of q) s (ap (leads_to (n ∷ p)) (parent_is (n ∷ p) q u) ∙ leads_own (n ∷ p)))
  reads_part _ q a l u = refl

  family_part : (c : Command) (q : ActivityPath) (a : Activity) → leads_to (n ∷ p) q ≡ true
      → find frame s (about_of c) ≡ Ok (thing.Family q)
      → mapped whole (mapped (λ change. change own) (on_family c q a own)) ≡ mapped (λ change. change s) (on_family c q a s)
  family_part c q a l f =
      let u = under c q l f in
      mapped_twice (λ (change : Process → Process). change own) whole (λ change. whole (change own)) (λ change. refl) (on_family c q a own)
      ∙ ap (mapped (λ change. whole (change own))) (reads_part c q a l u)
      ∙ mapped_told
      (IsOfPart c q)
      (λ change. whole (change own))
      (λ change. change s) (on_family c q a s) (λ change local. join_local n p change (local n p u) s order) (of_part q a s c)

  -- ---- all

  thing_part : (depth now : ℕ) (c : Command) (x : Thing) → IsWithin (n ∷ p) x → find frame s (about_of c) ≡ Ok x
      → mapped whole (on_thing x depth now own c) ≡ on_thing x depth now s c
  thing_part depth now c (thing.Activity q) w f =
      mapped_some whole resp.Activityerr reason.Missing (activity_at q own) (activity_at q s) _ _ (activity_at-part (n ∷ p) q s w) (λ a e.
      mapped_twice (λ b. written q b own) whole (λ b. written q b s) (λ b. join_written q a b w e) (on_activity depth now c a))
  thing_part depth now c (thing.Family q) w f =
      mapped_some whole resp.Activityerr reason.Missing (activity_at q own) (activity_at q s) _ _ (activity_at-part (n ∷ p) q s w)
      (λ a e. family_part c q a w f)
  thing_part depth now c thing.Shown w f = mapped_twice (λ x. own) whole (λ x. s) (λ x. join_part s order (n ∷ p)) (on_shown c s.containers)
  thing_part depth now c thing.Containers w f = absurd w

  row_part : (depth now : ℕ) (c : Command) → mapped whole (thing_row frame depth now own c) ≡ thing_row frame depth now s c
  unfolding thing_row
  row_part depth now c =
      ap (λ o. mapped whole (at_found o (λ x. on_thing x depth now own c))) (find_part (n ∷ p) s (about_of c))
      ∙ mapped_found whole (find frame s (about_of c)) _ _ (λ x f. thing_part depth now c x (found_within x (about_of c) f) f)

-- a command in its frame
pub row_on_whole : (p : ActivityPath) (depth now : ℕ) (s : Process) (c : Command) → HasOrder s.tree
    → act_at p depth now s c ≡ thing_row (here.Activity p) depth now s c
row_on_whole [] depth now s c order =
    mapped_same (join [] s) (λ x. refl) (thing_row (here.Activity []) depth now (part [] s) c)
    ∙ ap (λ z. thing_row (here.Activity []) depth now z c) (part_root s)
row_on_whole (n ∷ p) depth now s c order = row_part n p s order depth now c

pub row_in_order : (p : ActivityPath) (depth now : ℕ) (s : Process) (c : Command) → IsInOrder (activities s)
    → act_at p depth now s c ≡ thing_row (here.Activity p) depth now s c
row_in_order p depth now s c h = row_on_whole p depth now s c (ordered_case s.tree h)
