-- What a reply says of a command that was done, and of one that was refused.
use Rattle.std.specs.Prelude.{◌≡◌, Bool, true, false}
use Rattle.bts_names.specs.declared.reply.Resp.{Resp}
use Rattle.bts_names.specs.declared.reply.Resp.TheVariants.{Normal}
use Rattle.bts_names.specs.declared.reply.Reason.{Reason}
use Rattle.bts_names.specs.declared.reply.Reason.TheVariants as reason
use Rattle.bts_names.specs.declared.reply.Reply.{Reply}
use Rattle.bts_names.specs.declared.reply.Value.TheVariants.{Nothing}

abbrev pub is_normal : Resp → Bool
is_normal Normal = true
is_normal _ = false

abbrev pub is_no_reason : Reason → Bool
is_no_reason reason.None = true
is_no_reason _ = false

-- a NORMAL reply has no reason; every other one has a reason, and no value
pub record IsProper (r : Reply) : Type 0 where
  pub reason : is_no_reason r.reason ≡ is_normal r.resp
  pub value : is_normal r.resp ≡ false → r.value ≡ Nothing
