-- What a text says as a session holds items and statements of today alone.
use Rattle.std.specs.Prelude.{IfOk}
use Rattle.bts_names.specs.Names.{Bytes}
use Rattle.bts_forms.specs.Today.{IsLineOfToday}
use Rattle.bts_script.specs.Blocks.{numbered}
use Rattle.bts_script.specs.Lines.{lines_of}
use Rattle.bts_script.proofs.Today.{lines_today}
use Rattle.bts_session.specs.Sessions.{session_of}
use Rattle.bts_session.specs.Today.{IsItemOfToday, IsSessionOfToday}
use Rattle.bts_session.proofs.Kept.{AllOf, Makes, session_holds, so_too}

makes_today : Makes IsLineOfToday IsItemOfToday
makes_today = record { request = λ key script h. h; settle = λ h. tt; clock = λ m h. absurd h; browse = λ t n m st b h. absurd h }

pub session_today : (bytes : Bytes) → IfOk (session_of bytes) IsSessionOfToday
session_today bytes =
    so_too {Q = AllOf IsLineOfToday IsItemOfToday} (session_of bytes) (λ s h. record { items = h.items; programs = h.programs })
    (session_holds IsLineOfToday IsItemOfToday makes_today bytes (λ fits. lines_today (numbered 1 (lines_of bytes))))
