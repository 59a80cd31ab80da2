-- What a session, a unit and a container may use, computed where it ends.
use Rattle.std.proofs.Common.{◌≡◌, ℕ, true, false, List, [], ◌∷◌, Option, Some, None, codes, cond, length, map, nat_lt, replicate, ap, refl}
use Rattle.bts_names.specs.Names.{Bytes, Name}
use Rattle.bts_command.specs.declared.command.Command.TheVariants as command
use Rattle.bts_command.specs.declared.ended.End.{End}
use Rattle.bts_command.specs.declared.ended.End.TheVariants.{Abend}
use Rattle.bts_container.specs.Containers.{is_long, no_containers}
use Rattle.bts_container.specs.Formats.{size_limit}
use Rattle.bts_container.specs.Puts.{refusal_of_put}
use Rattle.bts_container.specs.declared.format.Format.{Format}
use Rattle.bts_container.specs.declared.format.Format.TheVariants as format
use Rattle.bts_container.specs.declared.put_error.PutError.{PutError}
use Rattle.bts_container.specs.declared.put_error.PutError.TheVariants as put_error
use Rattle.bts_interp.specs.Budgets.{end_before, on_the_way}
use Rattle.bts_interp.specs.Steps.{Reached}
use Rattle.bts_region.specs.Enabled.{least}
use Rattle.bts_region.specs.Positions.{Position, behind_all, origin}
use Rattle.bts_region.specs.Serial.{is_over}
use Rattle.bts_worked.proofs.Runs.{history, printed, report_from, session_from, text}

-- ---- containers

-- a container as long as it may be
as_long_as_may_be : report_from (
    codes "REQUEST ORDERS P1" ∷
    codes "DEFINE PROCESS TRANSID(ORD1) PROGRAM(ROOT)" ∷
    codes "PUT CONTAINER(MSG) ACQPROCESS FROM(FILL(32768))" ∷
    codes "END" ∷ []) ≡ text (
    codes "1 REQUEST ORDERS P1 1970-01-01T00:00:00 COMMIT" ∷
    codes "  DEFINE PROCESS NORMAL" ∷
    codes "  PUT CONTAINER(MSG) NORMAL" ∷
    codes "  RETURN NORMAL" ∷ [])
unfolding session_from history printed
as_long_as_may_be = refl

-- and one byte longer
too_long : report_from (
    codes "REQUEST ORDERS P1" ∷
    codes "DEFINE PROCESS TRANSID(ORD1) PROGRAM(ROOT)" ∷
    codes "PUT CONTAINER(MSG) ACQPROCESS FROM(FILL(32769))" ∷
    codes "END" ∷ []) ≡ text (
    codes "1 REQUEST ORDERS P1 1970-01-01T00:00:00 COMMIT" ∷
    codes "  DEFINE PROCESS NORMAL" ∷
    codes "  PUT CONTAINER(MSG) LENGERR Long" ∷
    codes "  RETURN NORMAL" ∷ [])
unfolding session_from history printed
too_long = refl

-- the longest one of each format, and one byte longer
abbrev bytes_of : ℕ → Bytes
bytes_of n = replicate n 42

abbrev put_in : Format → ℕ → Option PutError
put_in f n = refusal_of_put (codes "C") (bytes_of n) (no_containers f)

longest_of_one : put_in format.One 32_768 ≡ None
longest_of_one = refl

longer_than_one : put_in format.One 32_769 ≡ Some put_error.Long
longer_than_one = refl

longer_in_two : put_in format.Two 32_769 ≡ None
longer_in_two = refl

-- so many bytes aren't computed: it is said of all that are so long
longest_of_two : (bytes : Bytes) → length bytes ≡ 1_048_576 → is_long bytes format.Two ≡ false
longest_of_two bytes h = ap (nat_lt (size_limit format.Two)) h

longer_than_two : (bytes : Bytes) → length bytes ≡ 1_048_577 → is_long bytes format.Two ≡ true
longer_than_two bytes h = ap (nat_lt (size_limit format.Two)) h

refused_in_two : (bytes : Bytes) → length bytes ≡ 1_048_577 → refusal_of_put (codes "C") bytes (no_containers format.Two) ≡ Some put_error.Long
refused_in_two bytes h = ap (λ b. cond b (Some put_error.Long) None) (longer_than_two bytes h)

-- ---- statements and calls

abbrev after_so_many : ℕ → Option Reached
after_so_many n = Some (record { command = command.RetrieveReattach; count = n; place = [] })

abbrev ended : Name → Option End
ended code = Some (Abend code)

-- the last statement and the last call that may be made, and those past them; a statement is looked at before the call
-- that it is
ends : end_before 9999 499 (after_so_many 1) ∷ end_before 10000 499 (after_so_many 1) ∷ end_before 9999 500 (after_so_many 1) ∷ end_before 9999 500 (after_so_many 2) ∷ end_before 0 0 None ∷ [] ≡
    None ∷ ended (codes "STEP") ∷ ended (codes "CMDS") ∷ ended (codes "STEP") ∷ ended (codes "STEP") ∷ []
ends = refl

-- the statements that were executed where no call is made any more: those in front of the command that was reached, and
-- no more than may be
executed : on_the_way 9990 (after_so_many 3) ∷ on_the_way 9990 (after_so_many 11) ∷ on_the_way 9990 (after_so_many 50) ∷ on_the_way 2 None ∷ [] ≡ 9992 ∷ 10000 ∷ 10000 ∷ 10000 ∷ []
executed = refl

-- ---- activations

-- a root and its child that never come to rest
abbrev restless : List Bytes
restless =
    codes "PROGRAM LEAF" ∷
    codes "RETRIEVE REATTACH EVENT" ∷
    codes "RETURN ENDACTIVITY" ∷
    codes "END" ∷
    codes "PROGRAM ROOT" ∷
    codes "RETRIEVE REATTACH EVENT" ∷
    codes "WHEN EVENT(DFHINITIAL) GOTO FIRST" ∷
    codes "CHECK ACTIVITY(A)" ∷
    codes "RESET ACTIVITY(A)" ∷
    codes "RUN ACTIVITY(A) ASYNCHRONOUS" ∷
    codes "RETURN" ∷
    codes "LABEL FIRST" ∷
    codes "DEFINE ACTIVITY(A) TRANSID(T1) PROGRAM(LEAF)" ∷
    codes "RUN ACTIVITY(A) ASYNCHRONOUS" ∷
    codes "RETURN" ∷
    codes "END" ∷
    codes "REQUEST ORDERS P20" ∷
    codes "DEFINE PROCESS TRANSID(ORD1) PROGRAM(ROOT)" ∷
    codes "RUN ACQPROCESS ASYNCHRONOUS" ∷
    codes "END" ∷ []

-- five units, and three activations among them
five : printed (history 5 (session_from restless) origin) ≡ text (
    codes "1 REQUEST ORDERS P20 1970-01-01T00:00:00 COMMIT" ∷
    codes "  DEFINE PROCESS NORMAL" ∷
    codes "  RUN ACQPROCESS NORMAL" ∷
    codes "  RETURN NORMAL" ∷
    codes "2 ACTIVATION ORDERS P20 / 1970-01-01T00:00:00 COMMIT" ∷
    codes "  RETRIEVE REATTACH NORMAL DFHINITIAL SYSTEM" ∷
    codes "  DEFINE ACTIVITY(A) NORMAL /1" ∷
    codes "  RUN ACTIVITY(A) NORMAL" ∷
    codes "  RETURN NORMAL DORMANT" ∷
    codes "3 ACTIVATION ORDERS P20 /1 1970-01-01T00:00:00 COMMIT" ∷
    codes "  RETRIEVE REATTACH NORMAL DFHINITIAL SYSTEM" ∷
    codes "  RETURN ENDACTIVITY NORMAL COMPLETE" ∷
    codes "4 NOTICE ORDERS P20 /1 1970-01-01T00:00:00 COMMIT" ∷
    codes "5 ACTIVATION ORDERS P20 / 1970-01-01T00:00:00 COMMIT" ∷
    codes "  RETRIEVE REATTACH NORMAL A ACTIVITY" ∷
    codes "  CHECK ACTIVITY(A) NORMAL COMPLETE NORMAL NOTSUSPENDED -" ∷
    codes "  RESET ACTIVITY(A) NORMAL" ∷
    codes "  RUN ACTIVITY(A) NORMAL" ∷
    codes "  RETURN NORMAL DORMANT" ∷ [])
unfolding session_from history printed
five = refl

abbrev behind_five : Position
unfolding session_from history
behind_five = behind_all origin (history 5 (session_from restless) origin)

-- the next one is an activation, and past a limit of three alone
limits : map (λ limit. is_over limit 3 (least (session_from restless) behind_five)) (3 ∷ 4 ∷ []) ≡ true ∷ false ∷ []
unfolding session_from history
limits = refl
