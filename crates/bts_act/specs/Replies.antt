-- Replies.
use Rattle.std.specs.Prelude.{Result, Ok, Err}
use Rattle.bts_names.specs.declared.reply.Resp.{Resp}
use Rattle.bts_names.specs.declared.reply.Resp.TheVariants as resp
use Rattle.bts_names.specs.declared.reply.Reason.{Reason}
use Rattle.bts_names.specs.declared.reply.Reason.TheVariants as reason
use Rattle.bts_names.specs.declared.reply.Value.{Value}
use Rattle.bts_names.specs.declared.reply.Value.TheVariants as value
use Rattle.bts_names.specs.declared.reply.Reply.{Reply}
use Rattle.bts_names.specs.declared.memory.NoMemory.{NoMemory}
use Rattle.bts_event.specs.declared.error.PoolError.{PoolError}

-- a command that was done answers its value, and a refused one its reason
abbrev pub normal : Value → Reply
normal v = record { resp = resp.Normal; reason = reason.None; value = v }

abbrev pub refusal : Resp → Reason → Reply
refusal r why = record { resp = r; reason = why; value = value.Nothing }

-- what a command on events answers to a call of the pool that isn't refused
abbrev pub reply_to : Result (Unit {0}) PoolError → Result Reply NoMemory
reply_to (Ok x) = Ok (normal value.Nothing)
reply_to (Err why) = Err (record {})
