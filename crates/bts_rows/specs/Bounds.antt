-- By what the generation of a process rises, and the commands by which more stands in its tree.
use Rattle.std.specs.Prelude.{ℕ, ◌+◌, Bool, true, false, ◌&&◌}
use Rattle.std.specs.List.{list_all}
use Rattle.bts_command.specs.declared.command.Command.{Command}
use Rattle.bts_command.specs.declared.command.Command.TheVariants as command
use Rattle.bts_names.specs.Names.{ActivityPath}
use Rattle.bts_tree.specs.declared.activity.Activity.{Activity}
use Rattle.bts_tree.specs.Processes.{Process, activities}
use Rattle.bts_tree.specs.Scopes.{is_empty}
use Rattle.bts_tree.specs.Soundness.{is_root}
use Rattle.bts_rows.specs.declared.places.Held.{Held}
use Rattle.bts_rows.specs.declared.places.Held.TheVariants as held

-- what bounds the generation of a request's process, where this bounded it before the request acquired anything: it
-- defines the process at its first acquisition, if ever
abbrev pub raised_by : Held → ℕ → ℕ
raised_by held.Never g = g
raised_by _ g = g + 1

-- a root without timers
abbrev pub is_bare_root : ActivityPath × Activity → Bool
is_bare_root x = is_root x.0 && is_empty x.1.timers

-- no activity stands there but the root, and it has no timer
abbrev pub is_lone : Process → Bool
is_lone s = list_all is_bare_root (activities s)

-- the commands that make a child or a timer
abbrev pub makes_more : Command → Bool
makes_more (command.DefineActivity a e transid program) = true
makes_more (command.DefineTimer t e due) = true
makes_more _ = false
