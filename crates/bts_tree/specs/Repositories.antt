-- All processes, and what is enabled in them.
use Rattle.std.specs.Prelude.{◌≡◌, ℕ, Bool, true, false, cond, not, nat_eq, List, [], ◌∷◌, length, map, Option, Some, None}
use Rattle.std.specs.BTreeSet.{insert_key}
use Rattle.std.specs.List.{AllByRecursion, slice_get, filter, find, flat_map, list_any}
use Rattle.std.specs.Option.{option_map, unwrap_or}
use Rattle.std.specs.Ordering.{nat_cmp, ordering_then, is_lt, is_gt, eq_by_cmp, match_ordering}
use Rattle.std.specs.declared.cmp.Ordering.{Ordering}
use Rattle.std.specs.Cmp.Lexicographic.{slice_cmp}
use Rattle.bts_names.specs.Keys.{key_cmp}
use Rattle.bts_names.specs.Names.{Name, ActivityPath}
use Rattle.bts_names.specs.declared.key.Key.{Key}
use Rattle.bts_names.specs.declared.row.Row.{Row}
use Rattle.bts_container.specs.Containers.{raised}
use Rattle.bts_container.specs.declared.format.Format.{Format}
use Rattle.bts_container.specs.declared.format.Format.TheVariants as format
use Rattle.bts_timer.specs.Due.{is_due}
use Rattle.bts_timer.specs.Timers.{Timers}
use Rattle.bts_tree.specs.Activities.{Activities, is_ready, is_untold}
use Rattle.bts_tree.specs.Processes.{Process, no_process, with_containers, on_tree, activities, activity_at, queued}
use Rattle.bts_tree.specs.Scopes.{HeldProcess, held_whole}
use Rattle.bts_tree.specs.declared.activity.Activity.{Activity}
use Rattle.bts_tree.specs.declared.mark.Mark.{Mark}

-- processes by rising key, in one format
pub record Processes : Type 0 where
  pub format : Format
  pub items : List Process

abbrev pub no_processes : Format → Processes
no_processes f = record { format = f; items = [] }

-- the processes of a repository, and the keys for which it has room
pub record Stored : Type 0 where
  pub processes : Processes
  pub room : List Key

-- the repository that has nothing, in the first format
abbrev pub nothing_stored : Stored
nothing_stored = record { processes = no_processes format.One; room = [] }

abbrev pub keys_of_processes : Processes → List Key
keys_of_processes repo = map (λ s. s.key) repo.items

abbrev pub same_key : Key → Key → Bool
same_key = eq_by_cmp key_cmp

abbrev pub found_or : Process → Key → List Process → Process
found_or other key [] = other
found_or other key (s ∷ ss) = cond (same_key key s.key) s (found_or other key ss)

-- what stands under a key, or the process that was never defined
abbrev pub process_at : Key → Processes → Process
process_at key repo = found_or (no_process repo.format key) key repo.items

-- whether a process stands under a key
abbrev pub is_defined : Key → Processes → Bool
is_defined key repo = list_any (same_key key) (keys_of_processes repo)

-- the list with this process under its key
abbrev pub placed_by_key : Process → List Process → List Process
placed_by_key s [] = s ∷ []
placed_by_key s (t ∷ ts) = match_ordering (key_cmp s.key t.key) (s ∷ t ∷ ts) (s ∷ ts) (t ∷ placed_by_key s ts)

abbrev pub without_key : Key → List Process → List Process
without_key key = filter (λ t. not (same_key key t.key))

abbrev pub with_process : Process → List Process → List Process
with_process s ss = cond (nat_eq s.generation 0) (without_key s.key ss) (placed_by_key s ss)

-- replaces what stands under the process's key, and leaves the format; one that was never defined doesn't stand there
abbrev pub put : Process → Processes → Processes
put s repo = record { format = repo.format; items = with_process s repo.items }

-- the same activities and processes in the second format
abbrev pub raised_activity : Activity → Activity
raised_activity a = record a { containers = raised a.containers }

abbrev pub raised_tree : Activities → Activities
raised_tree = map (λ x. (x.0, raised_activity x.1))

abbrev pub raised_process : Process → Process
raised_process s = with_containers (raised s.containers) (on_tree raised_tree s)

abbrev pub raised_all : Processes → Processes
raised_all repo = record { format = format.Two; items = map raised_process repo.items }

-- ---- what a unit holds

abbrev pub held_at : Key → Processes → HeldProcess
held_at key repo = held_whole (process_at key repo)

-- the held process stands under its key
abbrev pub put_held : HeldProcess → Stored → Stored
put_held h r = record { processes = put h.process r.processes; room = r.room }

abbrev pub with_room : Key → Stored → Stored
with_room key r = record { processes = r.processes; room = insert_key key_cmp r.room key }

abbrev pub has_room : Key → Stored → Bool
has_room key r = list_any (same_key key) r.room

abbrev pub queued_in : Processes → List Mark
queued_in repo = flat_map queued repo.items

-- ---- rows

abbrev pub row_of : Key → ℕ → ActivityPath × Activity → Row
row_of key generation x =
    let a : Activity = x.1 in
    record {
      key = key;
      generation = generation;
      path = x.0;
      name = a.name;
      mode = a.mode;
      status = a.status;
      suspended = a.suspended;
      queued = length a.pool.entries;
      transid = a.transid;
      program = a.program;
    }

abbrev pub rows_of : Process → List Row
rows_of s = map (row_of s.key s.generation) (activities s)

abbrev pub rows : Processes → List Row
rows repo = flat_map rows_of repo.items

-- ---- what is enabled

-- an activity of a repository, and one of its timers
abbrev pub Place : Type 0
Place = Key × ActivityPath

abbrev pub TimerPlace : Type 0
TimerPlace = Key × ActivityPath × Name

-- places stand by key and then by path, and timers of one activity by name
abbrev pub place_cmp : Place → Place → Ordering
place_cmp a b = ordering_then (key_cmp a.0 b.0) (slice_cmp nat_cmp a.1 b.1)

abbrev pub timer_place_cmp : TimerPlace → TimerPlace → Ordering
timer_place_cmp a b = ordering_then (key_cmp a.0 b.0) (ordering_then (slice_cmp nat_cmp a.1 b.1) (slice_cmp nat_cmp a.2 b.2))

-- the activities that pass a test, by key and path
abbrev pub chosen_at : (Activity → Bool) → Key → Activities → List Place
chosen_at test key tree = map (λ x. (key, x.0)) (filter (λ x. test x.1) tree)

abbrev pub chosen_of : (Activity → Bool) → Process → List Place
chosen_of test s = chosen_at test s.key (activities s)

abbrev pub chosen : (Activity → Bool) → Processes → List Place
chosen test repo = flat_map (chosen_of test) repo.items

abbrev pub ready_in : Processes → List Place
ready_in = chosen is_ready

abbrev pub untold_in : Processes → List Place
untold_in = chosen is_untold

-- the timers that are UNEXPIRED and due, by key, path and name
abbrev pub due_at : ℕ → Key → ActivityPath → Timers → List TimerPlace
due_at now key p timers = map (λ t. (key, p, t.0)) (filter (λ t. is_due now t.1) timers)

abbrev pub due_among : ℕ → Key → Activities → List TimerPlace
due_among now key = flat_map (λ x. due_at now key x.0 x.1.timers)

abbrev pub due_of : ℕ → Process → List TimerPlace
due_of now s = due_among now s.key (activities s)

abbrev pub due_in : ℕ → Processes → List TimerPlace
due_in now repo = flat_map (due_of now) repo.items

abbrev pub is_ready_at : Key → ActivityPath → Processes → Bool
is_ready_at key p repo = unwrap_or (option_map is_ready (activity_at p (process_at key repo))) false

module _ {X : Type 0} (cmp : X → X → Ordering) where
  -- whether the second stands behind the first, or there is no first
  abbrev pub is_behind : Option X → X → Bool
  is_behind None x = true
  is_behind (Some a) x = is_lt (cmp a x)

  -- the first of a list that stands behind another
  abbrev pub first_behind : Option X → List X → Option X
  first_behind after xs = find (is_behind after) xs

-- one of a list that is behind another, and above none of the list that are
pub record IsLeastBehind {X : Type 0} (cmp : X → X → Ordering) (after : Option X) (x : X) (xs : List X) : Type 0 where
  pub one_of_them : (i : ℕ) × (slice_get xs i ≡ Some x)
  pub behind : is_behind cmp after x ≡ true
  pub least : AllByRecursion (λ y. is_behind cmp after y ≡ true → is_gt (cmp x y) ≡ false) xs

abbrev pub HasNoneBehind : {X : Type 0} → (X → X → Ordering) → Option X → List X → Type 0
HasNoneBehind cmp after xs = AllByRecursion (λ y. is_behind cmp after y ≡ false) xs
