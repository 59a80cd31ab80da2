-- The next command of a script.
use Rattle.std.specs.Prelude.{ℕ, zero, suc, ◌+◌, false, cond, List, [], ◌∷◌, ◌++◌, Option, Some, None}
use Rattle.bts_names.specs.Names.{Name, same}
use Rattle.bts_command.specs.declared.command.Call.{Call}
use Rattle.bts_command.specs.declared.command.Command.{Command}
use Rattle.bts_command.specs.declared.command.Command.TheVariants as command
use Rattle.bts_forms.specs.declared.statement.Statement.{Statement}
use Rattle.bts_forms.specs.declared.statement.Statement.TheVariants as statement
use Rattle.bts_interp.specs.Facts.{is_so, bytes_of}

-- a place in a script is the statements from there on
abbrev pub Script : Type 0
Script = List Statement

-- ---- places

-- the place behind a label
abbrev pub behind_label : Name → Script → Script
behind_label l [] = []
behind_label l (statement.Label m ∷ rest) = cond (same l m) rest (behind_label l rest)
behind_label l (s ∷ rest) = behind_label l rest

-- the place behind the labels that stand next
abbrev pub behind_labels : Script → Script
behind_labels [] = []
behind_labels (statement.Label l ∷ rest) = behind_labels rest
behind_labels (s ∷ rest) = s ∷ rest

-- ---- steps

-- a command that is reached, the count of statements up to and with it, and the place behind it; a label is no
-- statement
pub record Reached : Type 0 where
  pub command : Command
  pub count : ℕ
  pub place : Script

abbrev pub reached : Command → Script → Option Reached
reached c place = Some (record { command = c; count = 1; place = place })

-- the same behind one more statement
abbrev pub one_later : Option Reached → Option Reached
one_later None = None
one_later (Some r) = Some (record r { count = r.count + 1 })

-- what the statement at a place reaches, where `on` goes on at another place; behind the last one stands RETURN, and
-- no label stands there
abbrev pub step : (Script → Option Reached) → Script → List Call → Script → Option Reached
step on script own [] = reached (command.Return false) []
step on script own (statement.Command c ∷ rest) = reached c rest
step on script own (statement.Put container spot given ∷ rest) = reached (command.PutContainer container spot (bytes_of own given)) rest
step on script own (statement.Label l ∷ rest) = None
step on script own (statement.Goto l ∷ rest) = one_later (on (behind_label l script))
step on script own (statement.When c l ∷ rest) = one_later (on (cond (is_so own c) (behind_label l script) rest))

-- the first command that is reached from a place by at most so many statements
unfoldable pub next : ℕ → Script → List Call → Script → Option Reached
next zero script own place = None
next (suc n) script own place = step (λ p. next n script own p) script own (behind_labels place)

-- ---- from the first line on

abbrev pub statement_limit : ℕ
statement_limit = 10_000

abbrev pub next_at : Script → List Call → Script → Option Reached
next_at script own place = next statement_limit script own place

-- the place behind a command, where one was reached
abbrev pub place_of : Option Reached → Script
place_of None = []
place_of (Some r) = r.place

-- the place behind more of a frame's own calls, of which these were made before
unfoldable pub place_behind : Script → List Call → List Call → Script → Script
place_behind script made [] place = place
place_behind script made (c ∷ cs) place = place_behind script (made ++ c ∷ []) cs (place_of (next_at script made place))

-- the next command of a script behind a frame's own calls
abbrev pub next_of : Script → List Call → Option Reached
next_of script own = next_at script own (place_behind script [] own script)
