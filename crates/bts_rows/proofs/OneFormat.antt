-- The format of all activities of a tree, through changes of it.
use Rattle.std.proofs.Common.{◌≡◌, Bool, true, false, cond, [], ◌∷◌, map, Ordering, Less, Equal, Greater, ◌∙◌}
use Rattle.std.specs.List.{AllByRecursion}
use Rattle.std.specs.Ordering.{match_ordering, nat_cmp}
use Rattle.std.specs.Cmp.Lexicographic.{slice_cmp}
use Rattle.bts_names.specs.Names.{ActivityPath, same}
use Rattle.bts_names.specs.Named.{in_order}
use Rattle.bts_container.specs.declared.format.Format.{Format}
use Rattle.bts_tree.specs.declared.activity.Activity.{Activity}
use Rattle.bts_tree.specs.Activities.{Activities, written_at}

-- all activities are in a format
abbrev pub AreIn : Format → Activities → Type 0
AreIn f = AllByRecursion (λ x. x.1.containers.format ≡ f)

module _ (f : Format) where
  pub in_written : (p : ActivityPath) (b : Activity) → b.containers.format ≡ f → (t : Activities) → AreIn f t → AreIn f (written_at p b t)
  in_written p b own [] h = tt
  in_written p b own (x ∷ t) h = by (same p x.0) (in_written p b own t h.1)
    where
      by : (c : Bool) → AreIn f (written_at p b t) → AreIn f (cond c ((x.0, b) ∷ t) (x ∷ written_at p b t))
      by true i = (own, h.1)
      by false i = (h.0, i)

  pub in_added : (p : ActivityPath) (b : Activity) → b.containers.format ≡ f → (t : Activities) → AreIn f t → AreIn f (in_order p b t)
  in_added p b own [] h = (own, tt)
  in_added p b own (x ∷ t) h = by (slice_cmp nat_cmp p x.0) (in_added p b own t h.1)
    where
      by : (o : Ordering) → AreIn f (in_order p b t)
          → AreIn f (match_ordering o ((p, b) ∷ x ∷ t) ((x.0, b) ∷ t) (x ∷ in_order p b t))
      by Less i = (own, h)
      by Equal i = (own, h.1)
      by Greater i = (h.0, i)

  pub in_mapped : (g : ActivityPath × Activity → Activity) → ((x : ActivityPath × Activity) → (g x).containers.format ≡ x.1.containers.format)
      → (t : Activities) → AreIn f t → AreIn f (map (λ x. (x.0, g x)) t)
  in_mapped g same [] h = tt
  in_mapped g same (x ∷ t) h = (same x ∙ h.0, in_mapped g same t h.1)
