-- No statement of a session says more bytes for a container than the text may have.
use Rattle.std.proofs.Common.{ℕ, arith, length}
use Rattle.std.specs.Prelude.{IfOk}
use Rattle.std.proofs.lemmas.Bool.{ltb-false}
use Rattle.bts_names.specs.Names.{Bytes}
use Rattle.bts_forms.specs.Sizes.{IsShortLine}
use Rattle.bts_script.proofs.Short.{text_short}
use Rattle.bts_session.specs.Sessions.{session_of, text_limit}
use Rattle.bts_session.specs.Sizes.{IsShortItem, IsShortSession}
use Rattle.bts_session.proofs.Kept.{AllOf, Makes, session_holds, so_too}

makes_short : (m : ℕ) → Makes (IsShortLine m) (IsShortItem m)
makes_short m = record { request = λ key script h. h; settle = λ h. tt; clock = λ n h. tt; browse = λ t n d st b h. tt }

pub session_short : (bytes : Bytes) → IfOk (session_of bytes) (IsShortSession text_limit)
session_short bytes =
    so_too {Q = AllOf (IsShortLine text_limit) (IsShortItem text_limit)} (session_of bytes) (λ s h. record { items = h.items; programs = h.programs })
    (session_holds (IsShortLine text_limit) (IsShortItem text_limit) (makes_short text_limit) bytes
    (λ fits. text_short text_limit (omega arith) 1 bytes (ltb-false text_limit (length bytes) fits)))
