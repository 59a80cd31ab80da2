-- The rows on families keep a process sound, in a frame below which none is open, and in a request's first frame.
use Rattle.std.proofs.Common.{◌≡◌, ℕ, Bool, true, false, cond, ◌||◌, List, [], ◌∷◌, Option, Some, None, Ok, unwrap_or, refl, sym, ap, subst, ◌∙◌, true≢false}
use Rattle.std.specs.List.{list_any}
use Rattle.std.specs.Option.{option_to_list}
use Rattle.bts_names.specs.Names.{Name, ActivityPath, same, same_exact, initial_name, root_name}
use Rattle.bts_names.specs.declared.state.Status.TheVariants as status
use Rattle.bts_command.specs.Given.{IsGiven, is_systems}
use Rattle.bts_command.specs.declared.command.Command.{Command}
use Rattle.bts_command.specs.declared.command.Command.TheVariants as command
use Rattle.bts_command.specs.declared.command.Target.{Target}
use Rattle.bts_command.specs.declared.command.Target.TheVariants as of
use Rattle.bts_event.proofs.Same.{same_sym}
use Rattle.bts_tree.proofs.Paths.{parent_of_child}
use Rattle.bts_tree.specs.declared.activity.Activity.{Activity}
use Rattle.bts_tree.specs.Activities.{is_complete}
use Rattle.bts_tree.specs.Paths.{leads_to, number_of, parent_of}
use Rattle.bts_tree.specs.Processes.{complete, Process, activity_at, child_of, complete, removed}
use Rattle.bts_tree.specs.Soundness.{IsSoundInFrames}
use Rattle.bts_rows.specs.Completions.{without_completion}
use Rattle.bts_rows.proofs.EitherOrder.{edits_commute}
use Rattle.bts_rows.proofs.Allowed.{event_name}
use Rattle.bts_rows.proofs.Completing.{complete_keeps_soundness}
use Rattle.bts_rows.proofs.Paths.{child_is, leads_append, below, not_own, not_to_parent}
use Rattle.bts_rows.proofs.Order.{leads_on}
use Rattle.bts_rows.specs.declared.places.Here.{Here}
use Rattle.bts_rows.specs.declared.places.Here.TheVariants as here
use Rattle.bts_rows.specs.declared.places.Thing.TheVariants as thing
use Rattle.bts_rows.specs.Places.{a_family, about_of, child_path, find, find_target, own_path}
use Rattle.bts_rows.specs.Families.{AreUsual, IsTop, rearms}
use Rattle.bts_rows.specs.OnFamily as rows
use Rattle.bts_rows.specs.OnFamily.{Change, on_family}
use Rattle.bts_rows.proofs.DefineSound.{defined_sound}
use Rattle.bts_rows.proofs.FamilySound.{checked_sound, deleted_sound}
use Rattle.bts_rows.proofs.Gone.{gone_below}
use Rattle.bts_rows.proofs.Lifting.{not_a_family}
use Rattle.bts_rows.proofs.Paths as paths
use Rattle.bts_rows.proofs.ResetSound.{reset_sound}
use Rattle.bts_rows.proofs.FamilyRows.{family_tells}
use Rattle.bts_rows.proofs.Telling.{Tells}

-- ---- frames

record IsBelow (p : ActivityPath) : Type 0 where
  parent : ActivityPath
  number : ℕ
  is_it : p ≡ below parent number

module _ (frames : List ActivityPath) (s : Process) where
  abbrev Sound : Process → Type 0
  Sound = IsSoundInFrames frames

  abbrev Closed : ActivityPath → Type 0
  Closed p = (r : ActivityPath) → leads_to p r ≡ true → list_any (same r) frames ≡ false

  abbrev IsTopmost : ActivityPath → Type 0
  IsTopmost p = (r : ActivityPath) → leads_to p r ≡ true → same p r ≡ false → list_any (same r) frames ≡ false

  own_found : (h : Here) (p : ActivityPath) → a_family (own_path h) ≡ Ok (thing.Family p) → IsTop frames h → IsTopmost p
  own_found (here.Activity q) p e top = let i : q ≡ p = cc in subst IsTopmost i top
  own_found (here.Request k) p e top = cc

  child_closed : (q : ActivityPath) (k : ℕ) → IsTopmost q → Closed (below q k)
  child_closed q k top r l = top r (leads_on q (below q k) r (leads_append q (k ∷ [])) l) (by (same q r) refl)
    where
      by : (b : Bool) → same q r ≡ b → b ≡ false
      by true e = absurd (true≢false (sym (ap (leads_to (below q k)) (same_exact q r e) ∙ l) ∙ not_to_parent q k))
      by false e = refl

  below_of : (q x p : ActivityPath) → x ≡ p → x ≡ below q (number_of x) → IsBelow p
  below_of q x p e i = record { parent = q; number = number_of x; is_it = sym e ∙ i }

  child_found : (h : Here) (n : Name) (p : ActivityPath) → a_family (find_target h s (of.Activity n)) ≡ Ok (thing.Family p) → IsBelow p
  child_found (here.Request k) n p e = cc
  child_found (here.Activity q) n p e = by (child_of q n s) refl e
    where
      by : (o : Option (ActivityPath × Activity)) → child_of q n s ≡ o → a_family (child_path o) ≡ Ok (thing.Family p) → IsBelow p
      by None d e = cc
      by (Some x) d e = let i : x.0 ≡ p = cc in below_of q x.0 p i (paths.child_path q x.0 (child_is q n s x d))

  target_found : (h : Here) (target : Target) (p : ActivityPath) → a_family (find_target h s target) ≡ Ok (thing.Family p) → IsTop frames h
      → Closed p
  target_found (here.Request k) target p e top = λ r l. top r
  target_found (here.Activity q) of.AcqProcess p e top = cc
  target_found (here.Activity q) of.AcqActivity p e top = cc
  target_found (here.Activity q) (of.Activity n) p e top = by (child_of q n s) refl e
    where
      by : (o : Option (ActivityPath × Activity)) → child_of q n s ≡ o → a_family (child_path o) ≡ Ok (thing.Family p) → Closed p
      by None d e = cc
      by (Some x) d e =
          let i : x.0 ≡ p = cc in subst Closed (sym (paths.child_path q x.0 (child_is q n s x d)) ∙ i) (child_closed q (number_of x.0) top)

  -- ---- the rows

  users_root : (n : Name) (ns : List Name) → list_any is_systems (n ∷ ns) ≡ false → same n root_name ≡ false
  users_root n ns h = by (same n initial_name) (same n root_name) (list_any is_systems ns) h
    where
      by : (x y z : Bool) → ((x || y) || z) ≡ false → y ≡ false
      by true y z h = cc
      by false true z h = cc
      by false false z h = refl

  module _ (sound : Sound s) (p : ActivityPath) (a : Activity) (there : activity_at p s ≡ Some a) where
    told_sound : (q : ActivityPath) (k : ℕ) → activity_at (below q k) s ≡ Some a → is_complete a ≡ true → Sound (rows.told (below q k) s)
    told_sound q k h complete =
        subst Sound
        (sym
        (edits_commute (below q k) (parent_of (below q k)) rows.as_told _
        (ap (same (below q k)) (parent_of_child q k) ∙ same_sym (below q k) q ∙ not_own q k) s))
        (checked_sound frames s q k a sound h complete)

    check_sound : IsBelow p → Sound (cond (is_complete a) (rows.told p s) s)
    check_sound b = by (is_complete a) refl
      where
        by : (d : Bool) → is_complete a ≡ d → Sound (cond d (rows.told p s) s)
        by true e =
            subst (λ z. Sound (rows.told z s)) (sym b.is_it)
            (told_sound b.parent b.number (ap (λ z. activity_at z s) (sym b.is_it) ∙ there) e)
        by false e = sound

    cancel_sound : Closed p → is_complete a ≡ false → Sound (complete p status.Forced None s)
    cancel_sound closed running =
        complete_keeps_soundness frames p status.Forced None s a refl refl
        (λ q runs. outside q (leads_to p q) refl runs) sound there running
      where
        outside : (q : ActivityPath) (b : Bool) → leads_to p q ≡ b → list_any (same q) frames ≡ true → b ≡ false
        outside q true l o = absurd (true≢false (sym o ∙ closed q l))
        outside q false l o = refl

    -- ---- each, as it is found

    module _ (h : Here) (top : IsTop frames h) where
      abbrev Keeps : Command → Change → Type 0
      Keeps c change = IsGiven c → find h s (about_of c) ≡ Ok (thing.Family p) → (rearms h c ≡ true → AreUsual s) → Sound (change s)

      checked : (target : Target) → Keeps (command.Check target) (λ t. cond (is_complete a) (rows.told p t) t)
      checked (of.Activity n) g f usual = check_sound (child_found h n p f)
      checked of.AcqProcess g f usual = absurd (not_a_family (find_target h s of.AcqProcess) p f)
      checked of.AcqActivity g f usual = absurd (not_a_family (find_target h s of.AcqActivity) p f)

      -- RESET is done again only where names are usual
      usual_reset : (g : Here) (target : Target) → a_family (find_target g s target) ≡ Ok (thing.Family p)
          → (rearms g (command.Reset target) ≡ true → AreUsual s) → AreUsual s
      usual_reset (here.Request k) (of.Activity n) f usual = cc
      usual_reset (here.Request k) of.AcqProcess f usual = usual refl
      usual_reset (here.Request k) of.AcqActivity f usual = usual refl
      usual_reset (here.Activity q) target f usual = usual refl

      -- each row on a family
      pub family_sound : (c : Command) → Tells (Keeps c) (on_family c p a s)
      family_sound = family_tells Keeps p a s (record {
        defined = λ name e transid program no_child free shallow few g f usual.
            defined_sound frames s p a name transid program (unwrap_or e name) sound there no_child free
            (event_name name e g.names) (users_root name (option_to_list e) g.names) shallow few;
        deleted = λ name x e g f usual.
            subst (λ z. Sound (without_completion z (removed z true s))) (sym (paths.child_path p x.0 (child_is p name s x e)))
            (deleted_sound frames s p (number_of x.0) a sound there (child_closed p (number_of x.0) (own_found h p f top)));
        checked = checked;
        cancelled = λ target running g f usual. cancel_sound (target_found h target p f top) running;
        reset = λ target rest refusal g f usual.
            reset_sound frames s a sound rest (λ n. usual_reset h target f usual p a n there) p there
            (λ q l. target_found h target p f top q (gone_below p q false l)) refusal;
      })
