-- What the functions that run a script answer, as the definitions say it.
use Rattle.std.specs.Prelude.{ℕ, ◌-◌, Bool, true, false, Option, Some, None, List}
use Rattle.std.specs.Option.{option_copied}
use Rattle.bts_names.specs.Names.{Name, same}
use Rattle.bts_command.specs.declared.command.Call.{Call}
use Rattle.bts_forms.specs.declared.statement.Statement.{Statement}
use Rattle.bts_forms.specs.declared.statement.Statement.TheVariants as statement
use Rattle.bts_interp.specs.Commands.{command_said}
use Rattle.bts_interp.specs.Steps.{Reached, Script, one_later, reached}
use Rattle.bts_interp.specs.declared.stepping.Reach.{Reach}
use Rattle.bts_interp.specs.declared.stepping.Step.{Step}
use Rattle.bts_interp.specs.declared.stepping.Step.TheVariants.{Command, Jump}

abbrev pub is_label : Statement → Bool
is_label (statement.Label l) = true
is_label _ = false

-- whether a statement is that label
abbrev pub labels : Name → Statement → Bool
labels l (statement.Label m) = same l m
labels l _ = false

-- what a step reaches, where `on` goes on at another place
abbrev pub next_by : List Call → (Script → Option Reached) → Step → Option Reached
next_by own on (Command s rest) = reached (command_said own (option_copied s)) rest.now
next_by own on (Jump to) = one_later (on to.now)

-- the command that was reached
abbrev pub reached_of : List Call → Reach → Reached
reached_of own r = record { command = command_said own (option_copied r.statement); count = r.count; place = r.place.now }

abbrev pub reached_by : List Call → Option Reach → Option Reached
reached_by own None = None
reached_by own (Some r) = Some (reached_of own r)

-- the statements before it, where at most so many were executed
abbrev pub passed : ℕ → Option Reach → ℕ
passed most None = most
passed most (Some r) = r.count - 1
