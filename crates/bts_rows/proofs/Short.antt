-- Processes whose containers are short, and what is then read of them.
use Rattle.std.proofs.Common.{◌≡◌, ℕ, ◌≤◌, Bool, true, false, cond, length, List, [], ◌∷◌, Option, Some, None, unwrap_or, ap, subst, refl}
use Rattle.std.specs.List.{AllByRecursion}
use Rattle.std.proofs.lemmas.Bool.{ltb-false}
use Rattle.bts_names.specs.Names.{Name, ActivityPath, same, Bytes}
use Rattle.bts_names.specs.Named.{lookup}
use Rattle.bts_container.specs.Containers.{Containers, is_long, IsPool}
use Rattle.bts_tree.specs.Activities.{Activities}
use Rattle.bts_tree.specs.Paths.{leads_to}
use Rattle.bts_tree.specs.Processes.{Process, activities, part, format_of}
use Rattle.bts_tree.specs.Soundness.{IsSoundActivity, IsSoundInFrames, IsSoundUnder}
use Rattle.bts_rows.proofs.Entries.{all_filtered}
use Rattle.bts_container.specs.Formats.{size_limit}
use Rattle.bts_container.specs.declared.format.Format.{Format}
use Rattle.bts_rows.proofs.OneFormat.{AreIn}

abbrev pub AreShort : ℕ → Containers → Type 0
AreShort m x = AllByRecursion (λ c. length c.1 ≤ m) x.items

pub record HoldsShort (m : ℕ) (s : Process) : Type 0 where
  pub own : AreShort m s.containers
  pub each : AllByRecursion (λ x. AreShort m x.1.containers) (activities s)

all_short : (f : Format) (cs : List (Name × Bytes)) → AllByRecursion (λ c. is_long c.1 f ≡ false) cs
    → AllByRecursion (λ c. length c.1 ≤ size_limit f) cs
all_short f [] h = tt
all_short f (c ∷ cs) h = (ltb-false (size_limit f) (length c.1) h.0, all_short f cs h.1)

pool_short : (f : Format) (x : Containers) → IsPool x → x.format ≡ f → AreShort (size_limit f) x
pool_short f x pool e = subst (λ g. AreShort (size_limit g) x) e (all_short x.format x.items pool.short)

tree_short : (f : Format) (tree : Activities) → AllByRecursion (λ x. IsSoundActivity x.1) tree → AreIn f tree
    → AllByRecursion (λ x. AreShort (size_limit f) x.1.containers) tree
tree_short f [] h e = tt
tree_short f (x ∷ xs) h e = (pool_short f x.1.containers h.0.containers e.0, tree_short f xs h.1 e.1)

-- a sound process is one, by the limit of its format
pub sound_is_short : (frames : List ActivityPath) (s : Process) → IsSoundInFrames frames s → HoldsShort (size_limit (format_of s)) s
sound_is_short frames s sound =
    record { own = pool_short (format_of s) s.containers sound.containers refl; each = go s.tree sound.tree sound.formats }
  where
    go : (tree : Option Activities) → IsSoundUnder s tree → AreIn (format_of s) (unwrap_or tree [])
        → AllByRecursion (λ x. AreShort (size_limit (format_of s)) x.1.containers) (activities (record s { tree = tree }))
    go None h e = tt
    go (Some tree) h e = tree_short (format_of s) tree h.0.activities e

-- and so is a part of it
pub part_short : (m : ℕ) (p : ActivityPath) (s : Process) → HoldsShort m s → HoldsShort m (part p s)
part_short m p s h = record { own = h.own; each = go s.tree h.each }
  where
    go : (tree : Option Activities) → AllByRecursion (λ x. AreShort m x.1.containers) (activities (record s { tree = tree }))
        → AllByRecursion (λ x. AreShort m x.1.containers) (activities (part p (record s { tree = tree })))
    go None k = tt
    go (Some tree) k = all_filtered (λ x. AreShort m x.1.containers) (λ x. leads_to p x.0) tree k

module _ {X : Type 0} (Q : X → Type 0) where
  found_case : (b : Bool) (v x : X) (o : Option X) → Q v → (o ≡ Some x → Q x) → cond b (Some v) o ≡ Some x → Q x
  found_case true v x o h k e = subst Q (ap (λ (y : Option X). unwrap_or y v) e) h
  found_case false v x o h k e = k e

  pub found : (n : Name) (x : X) (xs : List (Name × X)) → AllByRecursion (λ y. Q y.1) xs → lookup n xs ≡ Some x → Q x
  found n x [] h e = cc
  found n x (y ∷ ys) h e = found_case (same n y.0) y.1 x (lookup n ys) h.0 (found n x ys h.1) e
