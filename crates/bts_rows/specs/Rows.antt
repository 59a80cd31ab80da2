-- What each command answers and leaves, in the frame in which it stands.
use Rattle.std.specs.Prelude.{ℕ, cond, nat_le}
use Rattle.bts_names.specs.Names.{ActivityPath}
use Rattle.bts_names.specs.Answer.{Answer, at_some, mapped}
use Rattle.bts_names.specs.declared.reply.Resp.TheVariants.{Activityerr}
use Rattle.bts_names.specs.declared.reply.Reason.TheVariants.{Missing}
use Rattle.bts_command.specs.declared.command.Command.{Command}
use Rattle.bts_command.specs.Numbers.{command_number}
use Rattle.bts_tree.specs.declared.activity.Activity.{Activity}
use Rattle.bts_tree.specs.Processes.{Process, activity_at, join, part, with_containers, written}
use Rattle.bts_rows.specs.declared.places.Held.{Held}
use Rattle.bts_rows.specs.RequestRows.{request_row}
use Rattle.bts_rows.specs.declared.places.Here.{Here}
use Rattle.bts_rows.specs.declared.places.Here.TheVariants as here
use Rattle.bts_rows.specs.declared.places.Thing.{Thing}
use Rattle.bts_rows.specs.declared.places.Thing.TheVariants as thing
use Rattle.bts_rows.specs.Places.{about_of, at_found, find}
use Rattle.bts_rows.specs.OnActivity.{on_activity}
use Rattle.bts_rows.specs.OnContainers.{on_containers, on_shown}
use Rattle.bts_rows.specs.OnFamily.{on_family}

-- the rest of a row at the activity of a path
abbrev pub at_path : ActivityPath → Process → (Activity → Answer Process) → Answer Process
at_path p s = at_some Activityerr Missing (activity_at p s)

-- a command's row on the thing that it is about, in the process
abbrev pub on_thing : Thing → ℕ → ℕ → Process → Command → Answer Process
on_thing (thing.Activity p) depth now s c = at_path p s λ a. mapped (λ b. written p b s) (on_activity depth now c a)
on_thing (thing.Family p) depth now s c = at_path p s λ a. mapped (λ change. change s) (on_family c p a s)
on_thing thing.Shown depth now s c = mapped (λ x. s) (on_shown c s.containers)
on_thing thing.Containers depth now s c = mapped (λ x. with_containers x s) (on_containers c s.containers)

-- commands 5 to 28, found and done
unfoldable pub thing_row : Here → ℕ → ℕ → Process → Command → Answer Process
thing_row h depth now s c = at_found (find h s (about_of c)) λ x. on_thing x depth now s c

-- in an activity's frame a row is read on the part at its path, and joined
abbrev pub act_at : ActivityPath → ℕ → ℕ → Process → Command → Answer Process
act_at p depth now s c = mapped (join p s) (thing_row (here.Activity p) depth now (part p s) c)

-- a row that leaves what is acquired
abbrev pub keeping : Held → Answer Process → Answer (Process × Held)
keeping h = mapped (λ s. (s, h))

-- in a request's first frame it is read on the whole; commands 1 to 4 are the request's own
abbrev pub request_in : Held → ℕ → ℕ → Process → Command → Answer (Process × Held)
request_in h depth now s c = cond (nat_le (command_number c) 4) (request_row h s c) (keeping h (thing_row (here.Request h) depth now s c))

-- in whatever frame; RETURN, ABEND and ROLLBACK end frames, and have their rows with the units
unfoldable pub answer : Here → Held → ℕ → ℕ → Process → Command → Answer (Process × Held)
answer (here.Request h) held depth now s c = request_in h depth now s c
answer (here.Activity p) held depth now s c = keeping held (act_at p depth now s c)
