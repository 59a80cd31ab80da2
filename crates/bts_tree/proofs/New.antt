-- What is new is sound.
use Rattle.std.proofs.Common.{[], ◌∷◌, refl, arith}
use Rattle.std.specs.Cmp.Lexicographic.{slice_cmp}
use Rattle.std.specs.List.{IsDistinct}
use Rattle.std.specs.List.Sorted.{IsStrictlySortedBy}
use Rattle.std.specs.Ordering.{nat_cmp}
use Rattle.std.specs.declared.cmp.Ordering.{Ordering}
use Rattle.bts_container.specs.Containers.{IsPool, no_containers}
use Rattle.bts_container.specs.declared.format.Format.{Format}
use Rattle.bts_event.specs.Pool.{empty_pool}
use Rattle.bts_event.specs.Sound.{IsSoundPool}
use Rattle.bts_names.specs.Keys.{key_cmp}
use Rattle.bts_names.specs.Names.{Name, same}
use Rattle.bts_names.specs.declared.key.Key.{Key}
use Rattle.bts_tree.specs.Activities.{new_root}
use Rattle.bts_tree.specs.Processes.{no_process, planted}
use Rattle.bts_tree.specs.Repositories.{no_processes}
use Rattle.bts_tree.specs.Soundness.{AreSound, IsSoundActivity, IsSoundInFrames, IsSoundTree}

module _ {X : Type 0} where
  sorted_none : (c : X → X → Ordering) → IsStrictlySortedBy c []
  unfolding IsStrictlySortedBy
  sorted_none c = tt

  pub sorted_one : (c : X → X → Ordering) (x : X) → IsStrictlySortedBy c (x ∷ [])
  unfolding IsStrictlySortedBy
  sorted_one c x = (tt, tt)

distinct_none : IsDistinct same []
unfolding IsDistinct
distinct_none = tt

pub nothing_kept : (f : Format) → IsPool (no_containers f)
nothing_kept f = record { few = omega arith; short = tt; distinct = distinct_none }

no_events : IsSoundPool empty_pool
no_events = record {
  events = record { ordered = sorted_none (slice_cmp nat_cmp); few = omega arith; unnamed = refl; composites = λ c k h. cc };
  entries = λ n h. refl;
  numbers = omega arith;
}

root_is_sound : (f : Format) (transid program : Name) → IsSoundActivity (new_root f transid program)
root_is_sound f transid program = record {
  status = refl;
  code = refl;
  pool = no_events;
  timers_rise = sorted_none (slice_cmp nat_cmp);
  timer_events = record { one_event_each = refl; timer_of_each = refl; unexpired = refl };
  containers = nothing_kept f;
  few_children = omega arith;
}

tree_is_sound : (f : Format) (transid program : Name) → IsSoundTree (([], new_root f transid program) ∷ [])
tree_is_sound f transid program = record {
  paths_rise = sorted_one (slice_cmp nat_cmp) [];
  root = refl;
  activities = (root_is_sound f transid program, tt);
  parents = (record { parent = refl; number = refl; name = refl; completion = refl; told = refl; event = refl; depth = omega arith }, tt);
  children = (record { distinct_names = distinct_none; events = refl }, tt);
}

pub new_process_is_sound : (f : Format) (key : Key) (transid program : Name) → IsSoundInFrames [] (planted (new_root f transid program) (no_process f key))
new_process_is_sound f key transid program = record {
  tree = (tree_is_sound f transid program, omega arith);
  containers = nothing_kept f;
  formats = (refl, tt);
  active = refl;
}

pub nothing_is_sound : (f : Format) → AreSound (no_processes f)
nothing_is_sound f = record { keys_rise = sorted_none key_cmp; defined = refl; formats = tt; each = tt }
