-- The form of a worked example: the process before, the commands with their replies, the process behind them.
use Rattle.std.proofs.Common.{◌≡◌, ℕ, List, [], ◌∷◌, map, codes}
use Rattle.bts_names.specs.Names.{Name, initial_name}
use Rattle.bts_names.specs.Answer.{left_by, reply_of}
use Rattle.bts_names.specs.declared.reply.Reply.{Reply}
use Rattle.bts_names.specs.declared.reply.Resp.{Resp}
use Rattle.bts_names.specs.declared.reply.Resp.TheVariants as resp
use Rattle.bts_names.specs.declared.reply.Reason.{Reason}
use Rattle.bts_names.specs.declared.reply.Reason.TheVariants as reason
use Rattle.bts_names.specs.declared.reply.Value.{Value}
use Rattle.bts_names.specs.declared.reply.Value.TheVariants as value
use Rattle.bts_names.specs.declared.state.EventKind.{EventKind}
use Rattle.bts_names.specs.declared.state.Mode.TheVariants as mode
use Rattle.bts_command.specs.declared.command.Command.{Command}
use Rattle.bts_command.specs.declared.command.Command.TheVariants as command
use Rattle.bts_event.specs.Pool.{entered}
use Rattle.bts_container.specs.declared.format.Format.TheVariants as format
use Rattle.bts_tree.specs.Activities.{new_root}
use Rattle.bts_tree.specs.Processes.{Process, edited, no_process, planted}
use Rattle.bts_tree.specs.declared.activity.Activity.{Activity}
use Rattle.bts_rows.specs.declared.places.Held.{Held}
use Rattle.bts_rows.specs.declared.places.Held.TheVariants as held
use Rattle.bts_rows.specs.declared.places.Here.{Here}
use Rattle.bts_rows.specs.declared.places.Here.TheVariants as stands
use Rattle.bts_rows.specs.Rows.{answer}

-- ---- replies

abbrev pub normal : Value → Reply
normal v = record { resp = resp.Normal; reason = reason.None; value = v }

abbrev pub ok : Reply
ok = normal value.Nothing

abbrev pub event : Name → EventKind → Reply
event n k = normal (value.Event n k)

abbrev pub refusal : Resp → Reason → Reply
refusal r why = record { resp = r; reason = why; value = value.Nothing }

-- ---- tables

infix 6 ◌answers◌
-- a line of a table: a command, and what it answers
pub data Line : Type 0 where
  ◌answers◌ : Command → Reply → Line

-- a request's first frame goes on with what it acquired
abbrev next_frame : Here → Held → Here
next_frame (stands.Activity p) h = stands.Activity p
next_frame (stands.Request g) h = stands.Request h

-- commands one after the other in one frame, at one moment: the lines, and the process behind them
unfoldable pub talk : Here → Held → ℕ → Process → List Command → List Line × Process
talk here h now s [] = ([], s)
talk here h now s (c ∷ cs) =
    let x = answer here h 0 now s c in
    let y = left_by (s, h) x in
    let rest = talk (next_frame here y.1) y.1 now y.0 cs in
    ((c answers reply_of x) ∷ rest.0, rest.1)

abbrev command_of : Line → Command
command_of (c answers r) = c

-- the table: in this frame, at this moment and on the process before, the lines are these and the process behind is that
abbrev pub Plays : Here → ℕ → Process → List Line → Process → Type 0
Plays here now before lines behind = talk here held.Never now before (map command_of lines) ≡ (lines, behind)

-- ---- frames and processes

abbrev pub request : Here
request = stands.Request held.Never

abbrev pub root : Here
root = stands.Activity []

abbrev pub undefined : Process
undefined = no_process format.One (record { ptype = codes "ORDERS"; pname = codes "P1" })

abbrev pub define_process : Command
define_process = command.DefineProcess (codes "ORD1") (codes "ROOT")

-- a process that was just defined
abbrev pub new : Process
new = planted (new_root format.One (codes "ORD1") (codes "ROOT")) undefined

-- the root is changed
abbrev pub with_root : (Activity → Activity) → Process → Process
with_root = edited []

-- a process whose root was run, and the same once its frame is open and behind a plain RETURN
abbrev pub run : Process
run = with_root (λ a. record a { pool = entered initial_name a.pool }) new

abbrev pub active : Process → Process
active = with_root (λ a. record a { mode = mode.Active })

abbrev pub dormant : Process → Process
dormant = with_root (λ a. record a { mode = mode.Dormant })
