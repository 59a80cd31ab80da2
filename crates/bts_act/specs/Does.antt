-- When a command does what its row says.
use Rattle.std.specs.Prelude.{◌≡◌, Bool, true, false, Option, Some, None, Result, Ok, Err}
use Rattle.bts_names.specs.Answer.{Answer, refused, done, reply_of, left_by}
use Rattle.bts_names.specs.declared.reply.Reply.{Reply}
use Rattle.bts_names.specs.declared.memory.NoMemory.{NoMemory}

abbrev pub is_done : {S : Type 0} → Answer S → Bool
is_done (refused resp why) = false
is_done (done value x) = true

-- the row's reply, and what the row leaves; want of memory comes only where the row refuses nothing, and leaves all as it was
abbrev pub Does : {S : Type 0} → Result Reply NoMemory → S → S → Answer S → Type 0
Does (Ok reply) old new answer = (reply ≡ reply_of answer) × (new ≡ left_by old answer)
Does (Err x) old new answer = (is_done answer ≡ true) × (new ≡ old)

-- what is answered where nothing is changed: a refusal, or what only reads; without an answer the row is done, and by a command that doesn't only read
abbrev pub Reads : {S : Type 0} → Bool → Result (Option Reply) NoMemory → S → Answer S → Type 0
Reads only (Ok (Some reply)) s answer = Does (Ok reply) s s answer
Reads only (Ok None) s answer = (is_done answer ≡ true) × (only ≡ false)
Reads only (Err x) s answer = is_done answer ≡ true
