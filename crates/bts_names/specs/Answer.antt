-- What a row of the table of commands says: a refusal, or a value and what is changed.
use Rattle.std.specs.Prelude.{Bool, true, false, Option, Some, None, Result, Ok, Err}
use Rattle.bts_names.specs.declared.reply.Resp.{Resp}
use Rattle.bts_names.specs.declared.reply.Resp.TheVariants.{Normal}
use Rattle.bts_names.specs.declared.reply.Reason.{Reason}
use Rattle.bts_names.specs.declared.reply.Reason.TheVariants as reason
use Rattle.bts_names.specs.declared.reply.Value.{Value}
use Rattle.bts_names.specs.declared.reply.Value.TheVariants.{Nothing}
use Rattle.bts_names.specs.declared.reply.Reply.{Reply}

infixr 5 refuse◌because◌when◌otherwise◌
infixr 5 refuse◌for◌otherwise◌
pub data Answer (S : Type 0) : Type 0 where
  refused : Resp → Reason → Answer S
  done : Value → S → Answer S

-- refused so where the test holds, and else the rest of the row
abbrev pub refuse◌because◌when◌otherwise◌ : {S : Type 0} → Resp → Reason → Bool → Answer S → Answer S
refuse◌because◌when◌otherwise◌ resp why true rest = refused resp why
refuse◌because◌when◌otherwise◌ resp why false rest = rest

-- refused for the reason that there is, and else the rest of the row
abbrev pub refuse◌for◌otherwise◌ : {S : Type 0} → Resp → Option Reason → Answer S → Answer S
refuse◌for◌otherwise◌ resp (Some why) rest = refused resp why
refuse◌for◌otherwise◌ resp None rest = rest

-- the rest of the row at what is there, and refused so where nothing is
abbrev pub at_some : {A S : Type 0} → Resp → Reason → Option A → (A → Answer S) → Answer S
at_some resp why None rest = refused resp why
at_some resp why (Some x) rest = rest x

-- the rest of the row at what a pool gives, and refused for its reason
abbrev pub at_ok : {A S : Type 0} → Resp → Result A Reason → (A → Answer S) → Answer S
at_ok resp (Err why) rest = refused resp why
at_ok resp (Ok x) rest = rest x

-- what is changed, brought into its place
abbrev pub mapped : {A B : Type 0} → (A → B) → Answer A → Answer B
mapped f (refused resp why) = refused resp why
mapped f (done value x) = done value (f x)

-- the reply: one that is NORMAL has no reason, and every other one no value
abbrev pub reply_of : {S : Type 0} → Answer S → Reply
reply_of (refused resp why) = record { resp = resp; reason = why; value = Nothing }
reply_of (done value x) = record { resp = Normal; reason = reason.None; value = value }

-- what stands behind the command: a refused one changes nothing
abbrev pub left_by : {S : Type 0} → S → Answer S → S
left_by x (refused resp why) = x
left_by x (done value y) = y
