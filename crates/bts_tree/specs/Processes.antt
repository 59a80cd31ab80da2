-- A process: its tree and its containers, and the part of it at a path.
use Rattle.std.specs.Prelude.{ℕ, ◌+◌, Bool, cond, not, ◌&&◌, List, [], ◌∷◌, ◌++◌, map, Option, Some, None, is_some}
use Rattle.std.specs.List.{flat_map, filter}
use Rattle.std.specs.Ordering.{nat_cmp, is_lt, is_gt}
use Rattle.std.specs.Option.{option_map, unwrap_or}
use Rattle.std.specs.Cmp.Lexicographic.{slice_cmp}
use Rattle.bts_names.specs.Names.{Name, ActivityPath, same}
use Rattle.bts_names.specs.Named.{lookup, in_order}
use Rattle.bts_names.specs.declared.key.Key.{Key}
use Rattle.bts_names.specs.declared.state.Status.{Status}
use Rattle.bts_container.specs.Containers.{Containers, no_containers}
use Rattle.bts_container.specs.declared.format.Format.{Format}
use Rattle.bts_event.specs.Pool.{Pool}
use Rattle.bts_tree.specs.Activities.{Activities, changed_at, written_at, completed_at, without_below, within, child_in}
use Rattle.bts_tree.specs.Paths.{leads_to}
use Rattle.bts_tree.specs.declared.activity.Activity.{Activity}
use Rattle.bts_tree.specs.declared.mark.Mark.{Mark}

-- a process: how often its key was defined, its tree or none, and its own containers
pub record Process : Type 0 where
  pub key : Key
  pub generation : ℕ
  pub tree : Option Activities
  pub containers : Containers

-- its format is that of its own containers
abbrev pub format_of : Process → Format
format_of s = s.containers.format

-- the process of a key that was never defined
abbrev pub no_process : Format → Key → Process
no_process f key = record { key = key; generation = 0; tree = None; containers = no_containers f }

abbrev pub activities : Process → Activities
activities s = unwrap_or s.tree []

abbrev pub has_tree : Process → Bool
has_tree s = is_some s.tree

abbrev pub activity_at : ActivityPath → Process → Option Activity
activity_at p s = lookup p (activities s)

abbrev pub child_of : ActivityPath → Name → Process → Option (ActivityPath × Activity)
child_of p name s = child_in p name (activities s)

-- ---- changes

abbrev pub on_tree : (Activities → Activities) → Process → Process
on_tree f s = record { key = s.key; generation = s.generation; tree = option_map f s.tree; containers = s.containers }

-- the activity at a path is this one, where there was one
abbrev pub written : ActivityPath → Activity → Process → Process
written p a = on_tree (written_at p a)

-- the activity at a path is changed
abbrev pub edited : ActivityPath → (Activity → Activity) → Process → Process
edited p f = on_tree (changed_at p f)

-- the same for its events and entries alone
abbrev pub with_pool : ActivityPath → (Pool → Pool) → Process → Process
with_pool p f = edited p (λ a. record a { pool = f a.pool })

abbrev pub with_containers : Containers → Process → Process
with_containers containers s = record { key = s.key; generation = s.generation; tree = s.tree; containers = containers }

-- one activity more
abbrev pub added : ActivityPath → Activity → Process → Process
added p a = on_tree (in_order p a)

-- the next definition of the key
abbrev pub planted : Activity → Process → Process
planted root s = record { key = s.key; generation = s.generation + 1; tree = Some (([], root) ∷ []); containers = s.containers }

-- the tree and the process containers go
abbrev pub purged : Process → Process
purged s = record { key = s.key; generation = s.generation; tree = None; containers = no_containers (format_of s) }

-- the activities below a path go, and perhaps its own; with the root's all goes
abbrev pub removed : ActivityPath → Bool → Process → Process
removed p itself s = cond (itself && same p []) (purged s) (on_tree (without_below p itself) s)

-- the activity at a path becomes COMPLETE
abbrev pub complete : ActivityPath → Status → Option Name → Process → Process
complete p status code = on_tree (completed_at p status code)

-- ---- the part at a path

abbrev pub part : ActivityPath → Process → Process
part p = on_tree (within p)

-- the activities before a path, and those behind all that are at it and below it
abbrev pub before : ActivityPath → Activities → Activities
before p = filter (λ x. is_lt (slice_cmp nat_cmp x.0 p))

abbrev pub behind : ActivityPath → Activities → Activities
behind p = filter (λ x. is_gt (slice_cmp nat_cmp x.0 p) && not (leads_to p x.0))

-- the process with the other's activities in place of those at the path and below it
abbrev pub join : ActivityPath → Process → Process → Process
join [] s other = other
join (n ∷ p) s other = on_tree (λ t. before (n ∷ p) t ++ activities other ++ behind (n ∷ p) t) s

-- ---- the entries that stand in queues

abbrev pub marks_at : Key → ℕ → ActivityPath × Activity → List Mark
marks_at key generation x = map (λ e. record { key = key; generation = generation; path = x.0; number = e.number }) x.1.pool.entries

abbrev pub queued : Process → List Mark
queued s = flat_map (marks_at s.key s.generation) (activities s)
