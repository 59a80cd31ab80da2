-- What a command is about, and where that is found.
use Rattle.std.specs.Prelude.{Bool, true, false, cond, [], ◌∷◌, Option, Some, None, is_some, Result, Ok, Err}
use Rattle.bts_names.specs.Names.{ActivityPath}
use Rattle.bts_names.specs.Answer.{Answer, refused}
use Rattle.bts_names.specs.declared.reply.Resp.{Resp}
use Rattle.bts_names.specs.declared.reply.Resp.TheVariants as resp
use Rattle.bts_names.specs.declared.reply.Reason.{Reason}
use Rattle.bts_names.specs.declared.reply.Reason.TheVariants as reason
use Rattle.bts_command.specs.declared.command.Command.{Command}
use Rattle.bts_command.specs.declared.command.Command.TheVariants as command
use Rattle.bts_command.specs.declared.command.Target.{Target}
use Rattle.bts_command.specs.declared.command.Target.TheVariants as of
use Rattle.bts_command.specs.declared.command.Spot.{Spot}
use Rattle.bts_command.specs.declared.command.Spot.TheVariants as spot
use Rattle.bts_tree.specs.declared.activity.Activity.{Activity}
use Rattle.bts_tree.specs.Processes.{Process, activity_at, child_of}
use Rattle.bts_rows.specs.declared.places.Held.{Held}
use Rattle.bts_rows.specs.declared.places.Held.TheVariants as held
use Rattle.bts_rows.specs.declared.places.Here.{Here}
use Rattle.bts_rows.specs.declared.places.Here.TheVariants as here
use Rattle.bts_rows.specs.declared.places.About.{About}
use Rattle.bts_rows.specs.declared.places.About.TheVariants as about
use Rattle.bts_rows.specs.declared.places.Thing.{Thing}
use Rattle.bts_rows.specs.declared.places.Thing.TheVariants as thing
use Rattle.bts_rows.specs.declared.places.Unfound.{Unfound}
use Rattle.bts_rows.specs.declared.places.Unfound.TheVariants as unfound

-- ---- what each command is about

-- CHECK of a child tells its parent
abbrev pub about_check : Target → About
about_check (of.Activity a) = about.Family (Some (of.Activity a))
about_check of.AcqProcess = about.Activity (Some of.AcqProcess)
about_check of.AcqActivity = about.Activity (Some of.AcqActivity)

-- commands 5 to 28
abbrev pub about_of : Command → About
about_of (command.DefineActivity a e transid program) = about.Family None
about_of (command.DeleteActivity a) = about.Family None
about_of (command.Run target synchronous e) = about.Activity (Some target)
about_of (command.Link target e) = about.Activity (Some target)
about_of (command.Check target) = about_check target
about_of (command.Cancel target) = about.Family (Some target)
about_of (command.Reset target) = about.Family (Some target)
about_of (command.Suspend target) = about.Activity (Some target)
about_of (command.Resume target) = about.Activity (Some target)
about_of (command.PutContainer c place bytes) = about.Writes place
about_of (command.GetContainer c place) = about.Reads place
about_of (command.DeleteContainer c place) = about.Writes place
about_of (command.DefineInput e) = about.Activity None
about_of (command.DefineComposite e all subs) = about.Activity None
about_of (command.AddSubevent sub e) = about.Activity None
about_of (command.RemoveSubevent sub e) = about.Activity None
about_of (command.DeleteEvent e) = about.Activity None
about_of (command.TestEvent e) = about.Activity None
about_of command.RetrieveReattach = about.Activity None
about_of (command.RetrieveSubevent e) = about.Activity None
about_of (command.DefineTimer t e due) = about.Activity None
about_of (command.ForceTimer t target) = about.Activity target
about_of (command.CheckTimer t) = about.Activity None
about_of (command.DeleteTimer t) = about.Activity None
about_of _ = about.Nothing

-- whether a command is about the process from an activity on
abbrev pub is_family : About → Bool
is_family (about.Family target) = true
is_family (about.Activity target) = false
is_family (about.Reads place) = false
is_family (about.Writes place) = false
is_family about.Nothing = false

-- ---- activities

abbrev pub child_path : Option (ActivityPath × Activity) → Result ActivityPath Unfound
child_path None = Err unfound.Missing
child_path (Some x) = Ok x.0

abbrev pub acquired_root : Held → Result ActivityPath Unfound
acquired_root held.Process = Ok []
acquired_root held.Never = Err unfound.NotAcquired
acquired_root (held.Activity p) = Err unfound.NotAcquired
acquired_root held.Purged = Err unfound.NotAcquired

abbrev pub acquired_activity : Held → Result ActivityPath Unfound
acquired_activity (held.Activity p) = Ok p
acquired_activity held.Never = Err unfound.NotAcquired
acquired_activity held.Process = Err unfound.NotAcquired
acquired_activity held.Purged = Err unfound.NotAcquired

-- a child is named in the frame of its parent
abbrev pub child_target : ActivityPath → Process → Target → Result ActivityPath Unfound
child_target p s (of.Activity a) = child_path (child_of p a s)
child_target p s of.AcqProcess = Err unfound.Place
child_target p s of.AcqActivity = Err unfound.Place

-- and what a request acquired in the request's first frame
abbrev pub acquired_target : Held → Target → Result ActivityPath Unfound
acquired_target h (of.Activity a) = Err unfound.Place
acquired_target h of.AcqProcess = acquired_root h
acquired_target h of.AcqActivity = acquired_activity h

abbrev pub find_target : Here → Process → Target → Result ActivityPath Unfound
find_target (here.Activity p) s target = child_target p s target
find_target (here.Request h) s target = acquired_target h target

abbrev pub own_path : Here → Result ActivityPath Unfound
own_path (here.Activity p) = Ok p
own_path (here.Request h) = Err unfound.Place

-- without a target it is the frame's own activity
abbrev pub find_activity : Here → Process → Option Target → Result ActivityPath Unfound
find_activity h s None = own_path h
find_activity h s (Some target) = find_target h s target

-- ---- things

abbrev pub an_activity : Result ActivityPath Unfound → Result Thing Unfound
an_activity (Ok p) = Ok (thing.Activity p)
an_activity (Err why) = Err why

abbrev pub a_family : Result ActivityPath Unfound → Result Thing Unfound
a_family (Ok p) = Ok (thing.Family p)
a_family (Err why) = Err why

-- with the acquired process it is the process itself, where its root is there
abbrev pub a_process : Process → Thing → Result ActivityPath Unfound → Result Thing Unfound
a_process s x (Ok p) = cond (is_some (activity_at p s)) (Ok x) (Err unfound.Missing)
a_process s x (Err why) = Err why

-- the containers of the frame's process, as this thing
abbrev pub own_process : Here → Thing → Result Thing Unfound
own_process (here.Activity p) x = Ok x
own_process (here.Request h) x = Err unfound.Place

abbrev pub target_place : Here → Process → Thing → Target → Result Thing Unfound
target_place h s x of.AcqProcess = a_process s x (find_target h s of.AcqProcess)
target_place h s x (of.Activity a) = an_activity (find_target h s (of.Activity a))
target_place h s x of.AcqActivity = an_activity (find_target h s of.AcqActivity)

-- the containers of a place, with those of the process as this thing
abbrev pub find_place : Here → Process → Thing → Spot → Result Thing Unfound
find_place h s x spot.Own = an_activity (own_path h)
find_place h s x spot.Process = own_process h x
find_place h s x (spot.Of target) = target_place h s x target

-- the process containers are only read but by the root
abbrev pub is_read_only : Here → Spot → Bool
is_read_only (here.Activity (n ∷ p)) spot.Process = true
is_read_only _ _ = false

abbrev pub find : Here → Process → About → Result Thing Unfound
find h s (about.Activity target) = an_activity (find_activity h s target)
find h s (about.Family target) = a_family (find_activity h s target)
find h s (about.Reads place) = find_place h s thing.Shown place
find h s (about.Writes place) = cond (is_read_only h place) (Err unfound.ReadOnly) (find_place h s thing.Containers place)
find h s about.Nothing = Err unfound.Place

-- ---- rows

abbrev pub resp_of : Unfound → Resp
resp_of unfound.Missing = resp.Activityerr
resp_of _ = resp.Invreq

abbrev pub reason_of : Unfound → Reason
reason_of unfound.Place = reason.Place
reason_of unfound.NotAcquired = reason.NotAcquired
reason_of unfound.Missing = reason.Missing
reason_of unfound.ReadOnly = reason.ReadOnly

-- the rest of the row at what was found
abbrev pub at_found : {A S : Type 0} → Result A Unfound → (A → Answer S) → Answer S
at_found (Err why) rest = refused (resp_of why) (reason_of why)
at_found (Ok x) rest = rest x
