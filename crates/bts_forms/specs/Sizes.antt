-- How many bytes a line gives a container.
use Rattle.std.specs.Prelude.{ℕ, ◌≤◌, length}
use Rattle.bts_command.specs.Sizes.{put_bytes}
use Rattle.bts_forms.specs.declared.statement.Given.{Given}
use Rattle.bts_forms.specs.declared.statement.Given.TheVariants.{Literal, Fill, Last}
use Rattle.bts_forms.specs.declared.statement.Statement.{Statement}
use Rattle.bts_forms.specs.declared.statement.Statement.TheVariants as statement
use Rattle.bts_forms.specs.declared.line.Line.{Line}
use Rattle.bts_forms.specs.declared.line.Line.TheVariants as line

-- the bytes that a FROM says itself: those of a literal, or so many as FILL says; LAST says none
abbrev pub said_bytes : Given → ℕ
said_bytes (Literal bytes) = length bytes
said_bytes (Fill n) = n
said_bytes Last = 0

-- a statement that gives no more bytes than so many
abbrev pub IsShort : ℕ → Statement → Type 0
IsShort most (statement.Put container place given) = said_bytes given ≤ most
IsShort most (statement.Command c) = put_bytes c ≤ most
IsShort most (statement.Label label) = Unit {0}
IsShort most (statement.Goto label) = Unit {0}
IsShort most (statement.When cond label) = Unit {0}

-- and a line
abbrev pub IsShortLine : ℕ → Line → Type 0
IsShortLine most (line.Statement s) = IsShort most s
IsShortLine most _ = Unit {0}
