-- What it is to write an activity at its path.
use Rattle.std.proofs.Common.{◌≡◌, [], Option, Some, None, option_map, unwrap_or, refl, ap}
use Rattle.bts_names.specs.Names.{ActivityPath}
use Rattle.bts_names.specs.Named.{lookup}
use Rattle.bts_tree.specs.declared.activity.Activity.{Activity}
use Rattle.bts_tree.specs.Activities.{Activities, changed_at, changed_by, written_at}
use Rattle.bts_tree.specs.Processes.{Process, activity_at, edited, written}

module _ (p : ActivityPath) (s : Process) (a : Activity) (h : activity_at p s ≡ Some a) where
  -- an activity that is changed is written as it is then
  pub edit_writes : (f : Activity → Activity) → edited p f s ≡ written p (f a) s
  edit_writes f = by s.tree h
    where
      by : (t : Option Activities) → lookup p (unwrap_or t []) ≡ Some a
          → record s { tree = option_map (changed_at p f) t } ≡ record s { tree = option_map (written_at p (f a)) t }
      by None h = refl
      by (Some t) h = ap (λ o. record s { tree = Some (changed_by p f o t) }) h
