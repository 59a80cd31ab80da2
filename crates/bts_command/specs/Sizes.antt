-- How many bytes of data calls carry.
use Rattle.std.specs.Prelude.{ℕ, ◌+◌, List, length}
use Rattle.std.specs.List.{sum_by}
use Rattle.bts_names.specs.declared.reply.Value.{Value}
use Rattle.bts_names.specs.declared.reply.Value.TheVariants.{Bytes as bytes_}
use Rattle.bts_command.specs.declared.command.Call.{Call}
use Rattle.bts_command.specs.declared.command.Command.{Command}
use Rattle.bts_command.specs.declared.command.Command.TheVariants.{PutContainer}

-- the bytes that a command puts
abbrev pub put_bytes : Command → ℕ
put_bytes (PutContainer container spot from) = length from
put_bytes _ = 0

-- the bytes that a reply gives
abbrev pub got_bytes : Value → ℕ
got_bytes (bytes_ bytes) = length bytes
got_bytes _ = 0

-- the bytes of data of a call, also of one that was refused
abbrev pub call_bytes : Call → ℕ
call_bytes c = put_bytes c.command + got_bytes c.reply.value

abbrev pub data_bytes : List Call → ℕ
data_bytes calls = sum_by call_bytes calls
