-- What is saved for a command stays saved while it is done.
use Rattle.std.proofs.Common.{◌≡◌, Bool, true, false, ◌&&◌, List, [], ◌∷◌, Option, Some, None, unwrap_or, option_map, refl, sym, ap, subst, ◌∙◌}
use Rattle.std.specs.List.{filter}
use Rattle.std.specs.Map.{keys_of}
use Rattle.bts_names.specs.Names.{ActivityPath}
use Rattle.bts_names.specs.Named.{lookup}
use Rattle.bts_tree.specs.declared.activity.Activity.{Activity}
use Rattle.bts_tree.specs.Activities.{Activities, changed_at, within}
use Rattle.bts_tree.specs.Paths.{leads_to}
use Rattle.bts_tree.specs.Processes.{edited}
use Rattle.bts_tree.specs.Scopes.{HeldProcess, AreAmong, IsSaved, LeavesMarks, among, holding}
use Rattle.bts_rows.proofs.OrderKept.{keys_changed, keys_passing}

-- ---- one path

and_true : (b : Bool) → (b && true) ≡ b
and_true true = refl
and_true false = refl

one_among : (p : ActivityPath) (o : Option (List ActivityPath)) → AreAmong (p ∷ []) o → elim o [ None ↦ true | Some xs ↦ among p xs ] ≡ true
one_among p None i = refl
one_among p (Some xs) i = sym (and_true (among p xs)) ∙ i

among_one : (p : ActivityPath) (o : Option (List ActivityPath)) → elim o [ None ↦ true | Some xs ↦ among p xs ] ≡ true → AreAmong (p ∷ []) o
among_one p None i = record {}
among_one p (Some xs) i = and_true (among p xs) ∙ i

pub still_saved : (p : ActivityPath) (before after : HeldProcess) → LeavesMarks before after → IsSaved p false before → IsSaved p false after
still_saved p before after l s = among_one p after.saved (l.saved p (one_among p before.saved s))

-- ---- a path and those below it

keys_within : (p q : ActivityPath) (f : Activity → Activity) (t : Activities) → keys_of (within p (changed_at q f t)) ≡ keys_of (within p t)
keys_within p q f t =
    keys_passing (leads_to p) (changed_at q f t) ∙ ap (filter (leads_to p)) (keys_changed q f (lookup q t) t) ∙ sym (keys_passing (leads_to p) t)

keys_edited : (p q : ActivityPath) (f : Activity → Activity) (o : Option Activities)
    → keys_of (within p (unwrap_or (option_map (changed_at q f) o) [])) ≡ keys_of (within p (unwrap_or o []))
keys_edited p q f None = refl
keys_edited p q f (Some t) = keys_within p q f t

-- a change of one activity leaves saved what is below another
pub below_still_saved : (p q : ActivityPath) (f : Activity → Activity) (h after : HeldProcess) → after ≡ holding (edited q f h.process) h → IsSaved p true h → IsSaved p true after
below_still_saved p q f h after e s =
    subst (IsSaved p true) (sym e) (subst (λ ks. AreAmong (p ∷ ks) h.saved) (sym (keys_edited p q f h.process.tree)) s)
