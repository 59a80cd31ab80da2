-- A repository: what is enabled in it, in which order, and its rows.
use Rattle.std.proofs.Common.{◌≡◌, ℕ, [], ◌∷◌, Some, None, map, replicate, codes, refl}
use Rattle.std.specs.List.{flat_map}
use Rattle.bts_names.specs.Names.{Name, ActivityPath}
use Rattle.bts_names.specs.declared.state.Status.TheVariants as status
use Rattle.bts_names.specs.declared.state.TimerStatus.TheVariants as timer
use Rattle.bts_event.specs.Pool.{entered}
use Rattle.bts_container.specs.declared.format.Format.TheVariants as format
use Rattle.bts_tree.specs.Activities.{new_root}
use Rattle.bts_tree.specs.Processes.{Process, activities, format_of, no_process, planted, edited, complete, with_containers}
use Rattle.bts_tree.specs.Repositories.{Processes, Place, no_processes, process_at, put, raised_all, place_cmp, first_behind, ready_in, untold_in, due_in, rows}
use Rattle.bts_worked.proofs.Processes.{name, of_key, family}

abbrev waiting : ActivityPath → Process → Process
waiting p = edited p (λ a. record a { pool = entered name a.pool })

abbrev timed : ActivityPath → ℕ → Process → Process
timed p due = edited p (λ a. record a { timers = (name, record { due = due; status = timer.Unexpired }) ∷ [] })

-- P with its family, and Q alone
abbrev repo : Processes
repo =
    put (timed [] 7 (waiting [] (of_key (codes "Q"))))
    (put (timed (1 ∷ []) 9 (waiting (2 ∷ []) (waiting (1 ∷ 1 ∷ []) (complete (1 ∷ 1 ∷ []) status.Normal None (waiting (1 ∷ []) family))))) (no_processes format.One))

abbrev at : Name → ActivityPath → Place
at n p = (record { ptype = name; pname = n }, p)

in_order_of_keys : map (λ s. s.key.pname) repo.items ≡ codes "P" ∷ codes "Q" ∷ []
in_order_of_keys = refl

put_again : map (λ s. s.generation) (put (planted (new_root format.One name name) (of_key (codes "P"))) repo).items ≡ 2 ∷ 1 ∷ []
put_again = refl

never_defined : (put (no_process format.One (record { ptype = name; pname = codes "P" })) repo).items ≡ timed [] 7 (waiting [] (of_key (codes "Q"))) ∷ []
never_defined = refl

ready_now : ready_in repo ≡ at (codes "P") (1 ∷ []) ∷ at (codes "P") (2 ∷ []) ∷ at (codes "Q") [] ∷ []
ready_now = refl

untold_now : untold_in repo ≡ at (codes "P") (1 ∷ 1 ∷ []) ∷ []
untold_now = refl

behind_the_first : first_behind place_cmp (Some (at (codes "P") (1 ∷ []))) (ready_in repo) ≡ Some (at (codes "P") (2 ∷ []))
behind_the_first = refl

behind_the_last : first_behind place_cmp (Some (at (codes "Q") [])) (ready_in repo) ≡ None
behind_the_last = refl

due_at_its_second : map (λ x. x.1) (due_in 9 repo) ≡ (1 ∷ []) ∷ [] ∷ []
due_at_its_second = refl

not_due_a_second_early : map (λ x. x.1) (due_in 8 repo) ≡ [] ∷ []
not_due_a_second_early = refl

rows_in_order : map {B = Name × ActivityPath} (λ r. (r.key.pname, r.path)) (rows repo)
    ≡ (codes "P", []) ∷ (codes "P", 1 ∷ []) ∷ (codes "P", 1 ∷ 1 ∷ []) ∷ (codes "P", 2 ∷ []) ∷ (codes "Q", []) ∷ []
rows_in_order = refl

-- ---- formats

-- P with a container, and its family
abbrev with_a_container : Processes
with_a_container = put (with_containers (record { format = format.One; items = (codes "C", codes "x") ∷ [] }) family) repo

abbrev above : Processes
above = raised_all with_a_container

-- raised, all processes and activities are in the second format, and nothing else is another
raised_to_two : above.format ∷ map format_of above.items ≡ format.Two ∷ format.Two ∷ format.Two ∷ []
raised_to_two = refl

activities_raised : flat_map (λ s. map (λ x. x.1.containers.format) (activities s)) above.items ≡ replicate 5 format.Two
activities_raised = refl

containers_stay : map (λ s. s.containers.items) above.items ≡ map (λ s. s.containers.items) with_a_container.items
containers_stay = refl

rows_stay : rows above ≡ rows with_a_container
rows_stay = refl

ready_stay : ready_in above ≡ ready_in with_a_container
ready_stay = refl

-- a process that was never defined has the format of its repository
undefined_below : process_at (record { ptype = name; pname = codes "X" }) repo ≡ no_process format.One (record { ptype = name; pname = codes "X" })
undefined_below = refl

undefined_above : process_at (record { ptype = name; pname = codes "X" }) above ≡ no_process format.Two (record { ptype = name; pname = codes "X" })
undefined_above = refl
