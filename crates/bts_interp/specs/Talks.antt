-- The calls and the end that the texts of a session allow in a unit.
use Rattle.std.specs.Prelude.{◌≡◌, ℕ, ◌≤◌, List, length, take, Option, Some}
use Rattle.std.specs.List.{EachIndex, slice_get}
use Rattle.std.specs.Option.{option_map}
use Rattle.bts_command.specs.declared.command.Call.{Call}
use Rattle.bts_command.specs.declared.command.Command.{Command}
use Rattle.bts_command.specs.declared.ended.End.{End}
use Rattle.bts_unit.specs.Frames.{UnitOfWork}
use Rattle.bts_command.specs.Sizes.{data_bytes}
use Rattle.bts_interp.specs.Budgets.{call_limit, data_limit, due_end, statements_to}
use Rattle.bts_interp.specs.NextCalls.{next_call}
use Rattle.bts_interp.specs.Steps.{statement_limit}
use Rattle.bts_interp.specs.Texts.{Texts}

-- the command of the i-th call
abbrev pub command_at : List Call → ℕ → Option Command
command_at calls i = option_map (λ c. c.command) (slice_get calls i)

-- the command that comes next behind some calls
abbrev pub next_command : Texts → UnitOfWork → List Call → Option Command
next_command texts u calls = option_map (λ r. r.command) (next_call texts u calls)

-- in a unit that began so: each call is the one that comes next behind those before it, and before each the unit used
-- no more than it may
pub record Follows (texts : Texts) (u : UnitOfWork) (calls : List Call) : Type 0 where
  pub commands : EachIndex calls (λ i. next_command texts u (take i calls) ≡ command_at calls i)
  pub statements : statements_to texts u calls ≤ statement_limit
  pub count : length calls ≤ call_limit
  pub bytes : EachIndex calls (λ i. data_bytes (take i calls) ≤ data_limit)

-- and the end is the one that is due
pub record IsTalk (texts : Texts) (u : UnitOfWork) (calls : List Call) (e : End) : Type 0 where
  pub follows : Follows texts u calls
  pub end : due_end texts u calls ≡ Some e
