-- Whole sessions, from their text to their report: how requests and activations end.
use Rattle.std.proofs.Common.{◌≡◌, List, [], ◌∷◌, codes, refl}
use Rattle.bts_names.specs.Names.{Bytes}
use Rattle.bts_worked.proofs.Runs.{history, listed, list_from, printed, report_from, session_from, text}

-- a first run, and the same process again
first_run : report_from (
    codes "REQUEST ORDERS P1" ∷
    codes "DEFINE PROCESS TRANSID(ORD1) PROGRAM(ROOT)" ∷
    codes "PUT CONTAINER(MSG) ACQPROCESS FROM('hello')" ∷
    codes "GET CONTAINER(MSG) ACQPROCESS" ∷
    codes "END" ∷
    codes "REQUEST ORDERS P1" ∷
    codes "DEFINE PROCESS TRANSID(ORD1) PROGRAM(ROOT)" ∷
    codes "END" ∷ []) ≡ text (
    codes "1 REQUEST ORDERS P1 1970-01-01T00:00:00 COMMIT" ∷
    codes "  DEFINE PROCESS NORMAL" ∷
    codes "  PUT CONTAINER(MSG) NORMAL" ∷
    codes "  GET CONTAINER(MSG) NORMAL X'68656C6C6F'" ∷
    codes "  RETURN NORMAL" ∷
    codes "2 REQUEST ORDERS P1 1970-01-01T00:00:00 COMMIT" ∷
    codes "  DEFINE PROCESS PROCESSERR Taken" ∷
    codes "  RETURN NORMAL" ∷ [])
unfolding session_from history printed
first_run = refl

-- a rollback
rolled_back : report_from (
    codes "REQUEST ORDERS P19" ∷
    codes "DEFINE PROCESS TRANSID(ORD1) PROGRAM(ROOT)" ∷
    codes "ROLLBACK" ∷
    codes "END" ∷ []) ≡ text (
    codes "1 REQUEST ORDERS P19 1970-01-01T00:00:00 ROLLBACK" ∷
    codes "  DEFINE PROCESS NORMAL" ∷
    codes "  ROLLBACK NORMAL" ∷ [])
unfolding session_from history printed
rolled_back = refl

-- an activity whose program the session lacks
no_program : report_from (
    codes "REQUEST ORDERS P19" ∷
    codes "DEFINE PROCESS TRANSID(ORD1) PROGRAM(NONE)" ∷
    codes "RUN ACQPROCESS ASYNCHRONOUS" ∷
    codes "END" ∷ []) ≡ text (
    codes "1 REQUEST ORDERS P19 1970-01-01T00:00:00 COMMIT" ∷
    codes "  DEFINE PROCESS NORMAL" ∷
    codes "  RUN ACQPROCESS NORMAL" ∷
    codes "  RETURN NORMAL" ∷
    codes "2 ACTIVATION ORDERS P19 / 1970-01-01T00:00:00 ABEND NOPG" ∷
    codes "  ABEND(NOPG) NORMAL" ∷ [])
unfolding session_from history printed
no_program = refl

-- a program that reaches no command
no_command : report_from (
    codes "PROGRAM ROOT" ∷
    codes "LABEL L" ∷
    codes "GOTO L" ∷
    codes "END" ∷
    codes "REQUEST ORDERS P19" ∷
    codes "DEFINE PROCESS TRANSID(ORD1) PROGRAM(ROOT)" ∷
    codes "RUN ACQPROCESS ASYNCHRONOUS" ∷
    codes "END" ∷ []) ≡ text (
    codes "1 REQUEST ORDERS P19 1970-01-01T00:00:00 COMMIT" ∷
    codes "  DEFINE PROCESS NORMAL" ∷
    codes "  RUN ACQPROCESS NORMAL" ∷
    codes "  RETURN NORMAL" ∷
    codes "2 ACTIVATION ORDERS P19 / 1970-01-01T00:00:00 ABEND STEP" ∷ [])
unfolding session_from history printed
no_command = refl

-- an activation that retrieves nothing: what it put is gone, and it is COMPLETE
no_retrieval : report_from (
    codes "PROGRAM ROOT" ∷
    codes "PUT CONTAINER(X) FROM('1')" ∷
    codes "END" ∷
    codes "REQUEST ORDERS P9" ∷
    codes "DEFINE PROCESS TRANSID(ORD1) PROGRAM(ROOT)" ∷
    codes "RUN ACQPROCESS ASYNCHRONOUS" ∷
    codes "END" ∷
    codes "SETTLE" ∷
    codes "REQUEST ORDERS P9" ∷
    codes "ACQUIRE ACTIVITYID(/)" ∷
    codes "GET CONTAINER(X) ACQACTIVITY" ∷
    codes "CHECK ACQACTIVITY" ∷
    codes "END" ∷ []) ≡ text (
    codes "1 REQUEST ORDERS P9 1970-01-01T00:00:00 COMMIT" ∷
    codes "  DEFINE PROCESS NORMAL" ∷
    codes "  RUN ACQPROCESS NORMAL" ∷
    codes "  RETURN NORMAL" ∷
    codes "2 ACTIVATION ORDERS P9 / 1970-01-01T00:00:00 ABEND NORT" ∷
    codes "  PUT CONTAINER(X) NORMAL" ∷
    codes "  RETURN NORMAL ABEND NORT" ∷
    codes "3 SETTLE 1970-01-01T00:00:00 COMMIT" ∷
    codes "4 REQUEST ORDERS P9 1970-01-01T00:00:00 COMMIT" ∷
    codes "  ACQUIRE ACTIVITYID(/) NORMAL" ∷
    codes "  GET CONTAINER(X) CONTAINERERR Missing" ∷
    codes "  CHECK ACQACTIVITY NORMAL COMPLETE ABEND NOTSUSPENDED NORT" ∷
    codes "  RETURN NORMAL" ∷ [])
unfolding session_from history printed
no_retrieval = refl

-- ENDACTIVITY with a child that was not checked
abbrev with_child : List Bytes
with_child =
    codes "PROGRAM LEAF" ∷
    codes "RETRIEVE REATTACH EVENT" ∷
    codes "RETURN ENDACTIVITY" ∷
    codes "END" ∷
    codes "PROGRAM ROOT" ∷
    codes "RETRIEVE REATTACH EVENT" ∷
    codes "DEFINE ACTIVITY(A) TRANSID(T1) PROGRAM(LEAF)" ∷
    codes "RETURN ENDACTIVITY" ∷
    codes "END" ∷
    codes "REQUEST ORDERS P10" ∷
    codes "DEFINE PROCESS TRANSID(ORD1) PROGRAM(ROOT)" ∷
    codes "RUN ACQPROCESS ASYNCHRONOUS" ∷
    codes "END" ∷ []

children_left : report_from with_child ≡ text (
    codes "1 REQUEST ORDERS P10 1970-01-01T00:00:00 COMMIT" ∷
    codes "  DEFINE PROCESS NORMAL" ∷
    codes "  RUN ACQPROCESS NORMAL" ∷
    codes "  RETURN NORMAL" ∷
    codes "2 ACTIVATION ORDERS P10 / 1970-01-01T00:00:00 ABEND CHLD" ∷
    codes "  RETRIEVE REATTACH NORMAL DFHINITIAL SYSTEM" ∷
    codes "  DEFINE ACTIVITY(A) NORMAL /1" ∷
    codes "  RETURN ENDACTIVITY NORMAL ABEND CHLD" ∷ [])
unfolding session_from history printed
children_left = refl

-- and the child is gone
no_child : list_from with_child ≡ text (
    codes "ORDERS P10 1 / DFHROOT COMPLETE ABEND NOTSUSPENDED 0 ORD1 ROOT" ∷ [])
unfolding session_from history listed
no_child = refl
