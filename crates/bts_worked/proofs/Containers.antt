-- Containers: with the process, with an activity, and with its child.
use Rattle.std.proofs.Common.{List, [], ◌∷◌, Some, codes, refl}
use Rattle.bts_names.specs.Names.{Bytes, Name}
use Rattle.bts_names.specs.declared.reply.Reply.{Reply}
use Rattle.bts_names.specs.declared.reply.Resp.TheVariants as resp
use Rattle.bts_names.specs.declared.reply.Reason.TheVariants as reason
use Rattle.bts_names.specs.declared.reply.Value.TheVariants as value
use Rattle.bts_command.specs.declared.command.Command.TheVariants as command
use Rattle.bts_command.specs.declared.command.Spot.TheVariants as spot
use Rattle.bts_command.specs.declared.command.Target.TheVariants as of
use Rattle.bts_container.specs.Containers.{Containers}
use Rattle.bts_container.specs.declared.format.Format.TheVariants as format
use Rattle.bts_tree.specs.Activities.{new_activity}
use Rattle.bts_tree.specs.Processes.{Process, added, edited, with_containers}
use Rattle.bts_rows.specs.RequestRows.{request_row}
use Rattle.bts_rows.specs.declared.places.Here.{Here}
use Rattle.bts_rows.specs.declared.places.Here.TheVariants as stands
use Rattle.bts_rows.specs.Rows.{answer, thing_row}
use Rattle.bts_rows.specs.OnActivity.{on_activity}
use Rattle.bts_rows.specs.OnContainers.{on_containers, on_shown}
use Rattle.bts_worked.proofs.Tables.{◌answers◌, Plays, talk, ok, normal, refusal, root, request, undefined, new, active, with_root, define_process}

abbrev bytes : Bytes → Reply
bytes text = normal (value.Bytes text)

abbrev pool : List (Name × Bytes) → Containers
pool items = record { format = format.One; items = items }

abbrev none : Containers
none = pool []

-- ---- in a request's first frame

message : Plays request 0 undefined (
    (define_process answers ok)
    ∷ (command.PutContainer (codes "MSG") (spot.Of of.AcqProcess) (codes "hello") answers ok)
    ∷ (command.GetContainer (codes "MSG") (spot.Of of.AcqProcess) answers bytes (codes "hello"))
    ∷ [])
    (with_containers (pool ((codes "MSG", codes "hello") ∷ [])) new)
unfolding talk answer thing_row request_row on_activity on_containers on_shown
message = refl

-- a key that is in use isn't defined again
taken : Plays request 0 new ((define_process answers refusal resp.Processerr reason.Taken) ∷ []) new
unfolding talk answer thing_row request_row
taken = refl

not_acquired : Plays request 0 undefined (
    (command.AcquireProcess answers refusal resp.Processerr reason.Missing)
    ∷ (command.PutContainer (codes "MSG") (spot.Of of.AcqProcess) (codes "x") answers refusal resp.Invreq reason.NotAcquired)
    ∷ (command.GetContainer (codes "MSG") spot.Own answers refusal resp.Invreq reason.Place)
    ∷ (command.TestEvent (codes "E") answers refusal resp.Invreq reason.Place)
    ∷ [])
    undefined
unfolding talk answer thing_row request_row on_activity on_containers on_shown
not_acquired = refl

-- ---- in the frames of a root and of its child

-- a root with its child A: the containers of the process, of the root and of the child
abbrev holding : Containers → Containers → Containers → Process
holding of_process of_root of_child =
    with_containers of_process (edited (1 ∷ []) (λ a. record a { containers = of_child })
    (added (1 ∷ []) (new_activity format.One (codes "A") (codes "T1") (codes "KID") (Some (codes "A"))) (active (with_root (λ a. record a { containers = of_root }) new))))

abbrev one : Bytes → Containers
one text = pool ((codes "C", text) ∷ [])

abbrev child : Here
child = stands.Activity (1 ∷ [])

-- each place has its own containers
at_three_places : Plays root 0 (holding none none none) (
    (command.PutContainer (codes "C") spot.Process (codes "p") answers ok)
    ∷ (command.PutContainer (codes "C") spot.Own (codes "r") answers ok)
    ∷ (command.GetContainer (codes "C") (spot.Of (of.Activity (codes "A"))) answers refusal resp.Containererr reason.Missing)
    ∷ (command.PutContainer (codes "C") (spot.Of (of.Activity (codes "A"))) (codes "c") answers ok)
    ∷ (command.GetContainer (codes "C") spot.Process answers bytes (codes "p"))
    ∷ (command.GetContainer (codes "C") spot.Own answers bytes (codes "r"))
    ∷ (command.GetContainer (codes "C") (spot.Of of.AcqProcess) answers refusal resp.Invreq reason.Place)
    ∷ [])
    (holding (one (codes "p")) (one (codes "r")) (one (codes "c")))
unfolding talk answer thing_row on_activity on_containers on_shown
at_three_places = refl

-- a child reads the containers of the process and doesn't change them, and sees none of its parent's
in_the_child : Plays child 0 (holding (one (codes "p")) (one (codes "r")) none) (
    (command.GetContainer (codes "C") spot.Process answers bytes (codes "p"))
    ∷ (command.PutContainer (codes "C") spot.Process (codes "x") answers refusal resp.Invreq reason.ReadOnly)
    ∷ (command.DeleteContainer (codes "C") spot.Process answers refusal resp.Invreq reason.ReadOnly)
    ∷ (command.GetContainer (codes "C") spot.Own answers refusal resp.Containererr reason.Missing)
    ∷ (command.PutContainer (codes "C") spot.Own (codes "c") answers ok)
    ∷ (command.GetContainer (codes "C") (spot.Of (of.Activity (codes "B"))) answers refusal resp.Activityerr reason.Missing)
    ∷ [])
    (holding (one (codes "p")) (one (codes "r")) (one (codes "c")))
unfolding talk answer thing_row on_activity on_containers on_shown
in_the_child = refl

-- a put of a name that is there keeps its place, and what stood behind a deleted one closes up
in_order : Plays root 0 (holding none (pool ((codes "B", codes "1") ∷ (codes "A", codes "2") ∷ (codes "C", codes "3") ∷ [])) none) (
    (command.PutContainer (codes "B") spot.Own (codes "4") answers ok)
    ∷ (command.DeleteContainer (codes "A") spot.Own answers ok)
    ∷ (command.DeleteContainer (codes "A") spot.Own answers refusal resp.Containererr reason.Missing)
    ∷ (command.PutContainer (codes "A") spot.Own (codes "5") answers ok)
    ∷ [])
    (holding none (pool ((codes "B", codes "4") ∷ (codes "C", codes "3") ∷ (codes "A", codes "5") ∷ [])) none)
unfolding talk answer thing_row on_activity on_containers on_shown
in_order = refl
