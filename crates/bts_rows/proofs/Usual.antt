-- No command gives a completion event the name that the system keeps for itself.
use Rattle.std.proofs.Common.{◌≡◌, ℕ, ◌+◌, Bool, true, false, cond, List, [], ◌∷◌, ◌++◌, Option, Some, None, is_none, option_map, unwrap_or, refl, sym, ap, subst, ◌∙◌}
use Rattle.bts_names.specs.Names.{Name, ActivityPath, same, initial_name}
use Rattle.bts_names.specs.Named.{in_order, lookup}
use Rattle.bts_names.specs.declared.key.Key.{Key}
use Rattle.bts_names.specs.declared.state.Status.{Status}
use Rattle.bts_names.specs.declared.state.Status.TheVariants as status
use Rattle.bts_command.specs.Given.{IsGiven}
use Rattle.bts_command.specs.declared.command.Command.{Command}
use Rattle.bts_tree.specs.declared.activity.Activity.{Activity}
use Rattle.bts_tree.specs.Activities.{Activities, changed_at, changed_by, completed_at, completed_one, ended_by, is_complete, new_activity}
use Rattle.bts_tree.specs.Modes.{is_reset}
use Rattle.bts_tree.specs.Paths.{parent_of}
use Rattle.bts_tree.specs.Processes.{Process, activity_at, added, complete, edited, no_process, removed, format_of}
use Rattle.bts_tree.specs.Soundness.{IsSoundInFrames}
use Rattle.bts_rows.specs.Completions.{with_child, with_completion, without_completion}
use Rattle.bts_rows.proofs.InPlace.{own_sound}
use Rattle.bts_rows.proofs.Allowed.{event_name}
use Rattle.bts_rows.proofs.Completing.{read_each, same_completion}
use Rattle.bts_rows.proofs.Ordered as ordered
use Rattle.bts_rows.specs.Families.{AreUsual}
use Rattle.bts_rows.specs.OnFamily as rows
use Rattle.bts_rows.specs.OnFamily.{on_family}
use Rattle.bts_rows.specs.Rows.{thing_row}
use Rattle.bts_rows.specs.declared.places.Here.{Here}
use Rattle.bts_rows.proofs.Cutting.{read_edited}
use Rattle.bts_rows.proofs.FamilyGrows.{left_found}
use Rattle.bts_rows.proofs.Lifting.{row_tells}
use Rattle.bts_rows.proofs.FamilyRows.{family_tells}
use Rattle.bts_rows.proofs.Telling.{Tells, tells_more}
use Rattle.bts_rows.proofs.Writing.{edit_writes}
use Rattle.bts_container.specs.declared.format.Format.{Format}

-- a process that was never defined has none
pub usual_none : (f : Format) (key : Key) → AreUsual (no_process f key)
usual_none f key p a n e = cc

-- ---- changes

module _ (p : ActivityPath) (f : Activity → Activity) (s : Process) (usual : AreUsual s) where
  usual_at : (a : Activity) → activity_at p s ≡ Some a → (f a).completion ≡ a.completion → AreUsual (edited p f s)
  usual_at a h k q b n e c = by (same p q) (sym (read_edited p f s a h q) ∙ e)
    where
      by : (d : Bool) → cond d (Some (f a)) (activity_at q s) ≡ Some b → same n initial_name ≡ false
      by true e = let i : f a ≡ b = cc in usual p a n h (sym k ∙ ap (λ (x : Activity). x.completion) i ∙ c)
      by false e = usual q b n e c

  pub usual_edited : ((a : Activity) → (f a).completion ≡ a.completion) → AreUsual (edited p f s)
  usual_edited k = by (activity_at p s) refl
    where
      none : (o : Option Activities) → lookup p (unwrap_or o []) ≡ None → (q : ActivityPath)
          → lookup q (unwrap_or (option_map (changed_at p f) o) []) ≡ lookup q (unwrap_or o [])
      none None h q = refl
      none (Some t) h q = ap (λ o. lookup q (changed_by p f o t)) h

      by : (o : Option Activity) → activity_at p s ≡ o → AreUsual (edited p f s)
      by None h = λ q b n e c. usual q b n (sym (none s.tree h q) ∙ e) c
      by (Some a) h = usual_at a h (k a)

usual_removed : (p : ActivityPath) (itself : Bool) (s : Process) → AreUsual s → AreUsual (removed p itself s)
usual_removed p itself s usual q b n e c = usual q b n (left_found true p itself s q b e) c

pub usual_complete : (p : ActivityPath) (st : Status) (code : Option Name) (s : Process) → AreUsual s → AreUsual (complete p st code s)
usual_complete p st code s usual q b n e c = by s.tree (λ a h k. usual q a n h k) e
  where
    one : (o : Option Activity) → ((a : Activity) → o ≡ Some a → a.completion ≡ Some n → same n initial_name ≡ false)
        → option_map (λ a. completed_one p st code (q, a)) o ≡ Some b → same n initial_name ≡ false
    one None u e = cc
    one (Some a) u e =
        let i : completed_one p st code (q, a) ≡ b = cc in
        u a refl (sym (same_completion p st code (q, a)) ∙ ap (λ (x : Activity). x.completion) i ∙ c)

    by : (o : Option Activities)
        → ((a : Activity) → lookup q (unwrap_or o []) ≡ Some a → a.completion ≡ Some n → same n initial_name ≡ false)
        → lookup q (unwrap_or (option_map (completed_at p st code) o) []) ≡ Some b → same n initial_name ≡ false
    by None u e = cc
    by (Some t) u e = one (lookup q t) u (sym (read_each (completed_one p st code) q t) ∙ e)

usual_added : (k : ActivityPath) (new : Activity) (s : Process) → ((n : Name) → new.completion ≡ Some n → same n initial_name ≡ false)
    → AreUsual s → AreUsual (added k new s)
usual_added k new s own usual q b n e c = by s.tree (λ h. usual q b n h c) e
  where
    one : (d : Bool) (o : Option Activity) → (o ≡ Some b → same n initial_name ≡ false) → cond d (Some new) o ≡ Some b
        → same n initial_name ≡ false
    one true o u e = let i : new ≡ b = cc in own n (ap (λ (x : Activity). x.completion) i ∙ c)
    one false o u e = u e

    by : (o : Option Activities) → (lookup q (unwrap_or o []) ≡ Some b → same n initial_name ≡ false)
        → lookup q (unwrap_or (option_map (in_order k new) o) []) ≡ Some b → same n initial_name ≡ false
    by None u e = cc
    by (Some t) u e = one (same k q) (lookup q t) u (sym (ordered.lookup-in_order t k new q) ∙ e)

-- ---- the rows

module _ (s : Process) (usual : AreUsual s) where
  usual_without : (p : ActivityPath) (t : Process) → AreUsual t → AreUsual (without_completion p t)
  usual_without p t u = usual_edited (parent_of p) _ t u (λ a. refl)

  usual_with : (p : ActivityPath) (o : Option Name) → AreUsual (with_completion p o s)
  usual_with p None = usual
  usual_with p (Some name) = usual_edited (parent_of p) _ s usual (λ a. refl)

  family_usual : (p : ActivityPath) (a : Activity) (c : Command) → Tells (λ change. IsGiven c → AreUsual (change s)) (on_family c p a s)
  family_usual p a = family_tells (λ c change. IsGiven c → AreUsual (change s)) p a s (record {
    defined = λ name e transid program no_child free shallow few g.
        let f : Activity → Activity = with_child (unwrap_or e name) (a.made + 1) in
        usual_added (p ++ (a.made + 1) ∷ []) (new_activity (format_of s) name transid program (Some (unwrap_or e name))) (edited p f s)
        (λ n i. let j : unwrap_or e name ≡ n = cc in ap (λ z. same z initial_name) (sym j) ∙ event_name name e g.names)
        (usual_edited p f s usual (λ b. refl));
    deleted = λ name x e g. usual_without x.0 (removed x.0 true s) (usual_removed x.0 true s usual);
    checked = λ target g. checked p (is_complete a);
    cancelled = λ target running g. usual_complete p status.Forced None s usual;
    reset = λ target rest r g.
        let t = with_completion p a.completion s in
        usual_edited p (ended_by is_reset None (is_none a.completion)) (removed p false t)
        (usual_removed p false t (usual_with p a.completion)) (λ b. refl);
  })
    where
      checked : (p : ActivityPath) (b : Bool) → AreUsual (cond b (rows.told p s) s)
      checked p true = usual_edited p rows.as_told (without_completion p s) (usual_without p s usual) (λ b. refl)
      checked p false = usual

-- each command, in whatever frame
pub row_usual : (frames : List ActivityPath) (h : Here) (s : Process) (c : Command) → IsSoundInFrames frames s → IsGiven c → AreUsual s
    → (depth now : ℕ) → Tells AreUsual (thing_row h depth now s c)
row_usual frames h s c sound g usual =
    row_tells AreUsual h s c (record {
      same = usual;
      activity =
          λ p a b e k.
          subst AreUsual (edit_writes p s a e (λ x. b))
          (usual_at p (λ x. b) s usual a e ((k (own_sound frames s sound p a e)).fits g).completion);
      containers = λ x t k. usual;
      family =
          λ p a f e. tells_more _ (λ v change. AreUsual (change s)) (on_family c p a s) (λ v change k. k g) (family_usual s usual p a c);
    })
