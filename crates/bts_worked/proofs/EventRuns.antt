-- Whole sessions, from their text to their report: events and timers.
use Rattle.std.proofs.Common.{◌≡◌, List, [], ◌∷◌, ◌++◌, codes, refl}
use Rattle.bts_names.specs.Names.{Bytes}
use Rattle.bts_worked.proofs.Runs.{history, printed, report_from, session_from, text}

-- a process that waits for one of two events
abbrev any_event : List Bytes
any_event =
    codes "PROGRAM ANY" ∷
    codes "RETRIEVE REATTACH EVENT" ∷
    codes "WHEN EVENT(EITHER) GOTO GOT" ∷
    codes "DEFINE INPUT EVENT(I1)" ∷
    codes "DEFINE INPUT EVENT(I2)" ∷
    codes "DEFINE COMPOSITE EVENT(EITHER) OR SUBEVENT(I1) SUBEVENT(I2)" ∷
    codes "RETURN" ∷
    codes "LABEL GOT" ∷
    codes "RETRIEVE SUBEVENT EVENT(EITHER)" ∷
    codes "RETRIEVE SUBEVENT EVENT(EITHER)" ∷
    codes "RETRIEVE SUBEVENT EVENT(EITHER)" ∷
    codes "END" ∷
    codes "REQUEST ORDERS P7" ∷
    codes "DEFINE PROCESS TRANSID(ORD1) PROGRAM(ANY)" ∷
    codes "RUN ACQPROCESS ASYNCHRONOUS" ∷
    codes "END" ∷ []

-- both are sent before it retrieves
both_sent : report_from (any_event ++
    codes "SETTLE" ∷
    codes "REQUEST ORDERS P7" ∷
    codes "ACQUIRE PROCESS" ∷
    codes "RUN ACQPROCESS ASYNCHRONOUS INPUTEVENT(I2)" ∷
    codes "RUN ACQPROCESS ASYNCHRONOUS INPUTEVENT(I1)" ∷
    codes "END" ∷ []) ≡ text (
    codes "1 REQUEST ORDERS P7 1970-01-01T00:00:00 COMMIT" ∷
    codes "  DEFINE PROCESS NORMAL" ∷
    codes "  RUN ACQPROCESS NORMAL" ∷
    codes "  RETURN NORMAL" ∷
    codes "2 ACTIVATION ORDERS P7 / 1970-01-01T00:00:00 COMMIT" ∷
    codes "  RETRIEVE REATTACH NORMAL DFHINITIAL SYSTEM" ∷
    codes "  DEFINE INPUT(I1) NORMAL" ∷
    codes "  DEFINE INPUT(I2) NORMAL" ∷
    codes "  DEFINE COMPOSITE(EITHER) NORMAL" ∷
    codes "  RETURN NORMAL DORMANT" ∷
    codes "3 SETTLE 1970-01-01T00:00:00 COMMIT" ∷
    codes "4 REQUEST ORDERS P7 1970-01-01T00:00:00 COMMIT" ∷
    codes "  ACQUIRE PROCESS NORMAL" ∷
    codes "  RUN ACQPROCESS NORMAL" ∷
    codes "  RUN ACQPROCESS NORMAL" ∷
    codes "  RETURN NORMAL" ∷
    codes "5 ACTIVATION ORDERS P7 / 1970-01-01T00:00:00 COMMIT" ∷
    codes "  RETRIEVE REATTACH NORMAL EITHER COMPOSITE" ∷
    codes "  RETRIEVE SUBEVENT(EITHER) NORMAL I2 INPUT" ∷
    codes "  RETRIEVE SUBEVENT(EITHER) NORMAL I1 INPUT" ∷
    codes "  RETRIEVE SUBEVENT(EITHER) END Empty" ∷
    codes "  RETURN NORMAL DORMANT" ∷ [])
unfolding session_from history printed
both_sent = refl

-- one is sent twice
sent_twice : report_from (any_event ++
    codes "SETTLE" ∷
    codes "REQUEST ORDERS P7" ∷
    codes "ACQUIRE PROCESS" ∷
    codes "RUN ACQPROCESS ASYNCHRONOUS INPUTEVENT(I2)" ∷
    codes "RUN ACQPROCESS ASYNCHRONOUS INPUTEVENT(I2)" ∷
    codes "END" ∷ []) ≡ text (
    codes "1 REQUEST ORDERS P7 1970-01-01T00:00:00 COMMIT" ∷
    codes "  DEFINE PROCESS NORMAL" ∷
    codes "  RUN ACQPROCESS NORMAL" ∷
    codes "  RETURN NORMAL" ∷
    codes "2 ACTIVATION ORDERS P7 / 1970-01-01T00:00:00 COMMIT" ∷
    codes "  RETRIEVE REATTACH NORMAL DFHINITIAL SYSTEM" ∷
    codes "  DEFINE INPUT(I1) NORMAL" ∷
    codes "  DEFINE INPUT(I2) NORMAL" ∷
    codes "  DEFINE COMPOSITE(EITHER) NORMAL" ∷
    codes "  RETURN NORMAL DORMANT" ∷
    codes "3 SETTLE 1970-01-01T00:00:00 COMMIT" ∷
    codes "4 REQUEST ORDERS P7 1970-01-01T00:00:00 COMMIT" ∷
    codes "  ACQUIRE PROCESS NORMAL" ∷
    codes "  RUN ACQPROCESS NORMAL" ∷
    codes "  RUN ACQPROCESS EVENTERR Fired" ∷
    codes "  RETURN NORMAL" ∷
    codes "5 ACTIVATION ORDERS P7 / 1970-01-01T00:00:00 COMMIT" ∷
    codes "  RETRIEVE REATTACH NORMAL EITHER COMPOSITE" ∷
    codes "  RETRIEVE SUBEVENT(EITHER) NORMAL I2 INPUT" ∷
    codes "  RETRIEVE SUBEVENT(EITHER) END Empty" ∷
    codes "  RETRIEVE SUBEVENT(EITHER) END Empty" ∷
    codes "  RETURN NORMAL DORMANT" ∷ [])
unfolding session_from history printed
sent_twice = refl

-- an order that waits until it is paid, and keeps what it got
order_paid : report_from (
    codes "PROGRAM ORDER" ∷
    codes "RETRIEVE REATTACH EVENT" ∷
    codes "WHEN EVENT(DFHINITIAL) GOTO FIRST" ∷
    codes "GET CONTAINER(GOODS) PROCESS" ∷
    codes "PUT CONTAINER(DONE) PROCESS FROM(LAST)" ∷
    codes "RETURN ENDACTIVITY" ∷
    codes "LABEL FIRST" ∷
    codes "DEFINE INPUT EVENT(PAID)" ∷
    codes "END" ∷
    codes "REQUEST ORDERS N4711" ∷
    codes "DEFINE PROCESS TRANSID(ORD1) PROGRAM(ORDER)" ∷
    codes "PUT CONTAINER(GOODS) ACQPROCESS FROM('2 gear wheels (steel)')" ∷
    codes "RUN ACQPROCESS ASYNCHRONOUS" ∷
    codes "END" ∷
    codes "SETTLE" ∷
    codes "REQUEST ORDERS N4711" ∷
    codes "ACQUIRE PROCESS" ∷
    codes "RUN ACQPROCESS ASYNCHRONOUS INPUTEVENT(PAID)" ∷
    codes "END" ∷
    codes "SETTLE" ∷ []) ≡ text (
    codes "1 REQUEST ORDERS N4711 1970-01-01T00:00:00 COMMIT" ∷
    codes "  DEFINE PROCESS NORMAL" ∷
    codes "  PUT CONTAINER(GOODS) NORMAL" ∷
    codes "  RUN ACQPROCESS NORMAL" ∷
    codes "  RETURN NORMAL" ∷
    codes "2 ACTIVATION ORDERS N4711 / 1970-01-01T00:00:00 COMMIT" ∷
    codes "  RETRIEVE REATTACH NORMAL DFHINITIAL SYSTEM" ∷
    codes "  DEFINE INPUT(PAID) NORMAL" ∷
    codes "  RETURN NORMAL DORMANT" ∷
    codes "3 SETTLE 1970-01-01T00:00:00 COMMIT" ∷
    codes "4 REQUEST ORDERS N4711 1970-01-01T00:00:00 COMMIT" ∷
    codes "  ACQUIRE PROCESS NORMAL" ∷
    codes "  RUN ACQPROCESS NORMAL" ∷
    codes "  RETURN NORMAL" ∷
    codes "5 ACTIVATION ORDERS N4711 / 1970-01-01T00:00:00 COMMIT" ∷
    codes "  RETRIEVE REATTACH NORMAL PAID INPUT" ∷
    codes "  GET CONTAINER(GOODS) NORMAL X'32206765617220776865656C732028737465656C29'" ∷
    codes "  PUT CONTAINER(DONE) NORMAL" ∷
    codes "  RETURN ENDACTIVITY NORMAL COMPLETE" ∷
    codes "6 SETTLE 1970-01-01T00:00:00 COMMIT" ∷ [])
unfolding session_from history printed
order_paid = refl

-- two entries of one composite
two_entries : report_from (
    codes "PROGRAM ROOT" ∷
    codes "RETRIEVE REATTACH EVENT" ∷
    codes "DEFINE TIMER(T1) AFTER(60)" ∷
    codes "DEFINE TIMER(T2) AFTER(60)" ∷
    codes "DEFINE COMPOSITE EVENT(EITHER) OR SUBEVENT(T1) SUBEVENT(T2)" ∷
    codes "FORCE TIMER(T1)" ∷
    codes "RETRIEVE SUBEVENT EVENT(EITHER)" ∷
    codes "FORCE TIMER(T2)" ∷
    codes "RETRIEVE REATTACH EVENT" ∷
    codes "RETRIEVE SUBEVENT EVENT(EITHER)" ∷
    codes "RETRIEVE REATTACH EVENT" ∷
    codes "RETRIEVE SUBEVENT EVENT(EITHER)" ∷
    codes "RETURN ENDACTIVITY" ∷
    codes "END" ∷
    codes "REQUEST ORDERS P8" ∷
    codes "DEFINE PROCESS TRANSID(ORD1) PROGRAM(ROOT)" ∷
    codes "RUN ACQPROCESS ASYNCHRONOUS" ∷
    codes "END" ∷ []) ≡ text (
    codes "1 REQUEST ORDERS P8 1970-01-01T00:00:00 COMMIT" ∷
    codes "  DEFINE PROCESS NORMAL" ∷
    codes "  RUN ACQPROCESS NORMAL" ∷
    codes "  RETURN NORMAL" ∷
    codes "2 ACTIVATION ORDERS P8 / 1970-01-01T00:00:00 COMMIT" ∷
    codes "  RETRIEVE REATTACH NORMAL DFHINITIAL SYSTEM" ∷
    codes "  DEFINE TIMER(T1) NORMAL" ∷
    codes "  DEFINE TIMER(T2) NORMAL" ∷
    codes "  DEFINE COMPOSITE(EITHER) NORMAL" ∷
    codes "  FORCE TIMER(T1) NORMAL" ∷
    codes "  RETRIEVE SUBEVENT(EITHER) NORMAL T1 TIMER" ∷
    codes "  FORCE TIMER(T2) NORMAL" ∷
    codes "  RETRIEVE REATTACH NORMAL EITHER COMPOSITE" ∷
    codes "  RETRIEVE SUBEVENT(EITHER) NORMAL T2 TIMER" ∷
    codes "  RETRIEVE REATTACH NORMAL EITHER COMPOSITE" ∷
    codes "  RETRIEVE SUBEVENT(EITHER) END Empty" ∷
    codes "  RETURN ENDACTIVITY NORMAL COMPLETE" ∷ [])
unfolding session_from history printed
two_entries = refl

-- a timer that comes due, and one that does not
timers : report_from (
    codes "PROGRAM TICK" ∷
    codes "RETRIEVE REATTACH EVENT" ∷
    codes "WHEN EVENT(T1) GOTO DUE" ∷
    codes "DEFINE TIMER(T1) AFTER(60)" ∷
    codes "DEFINE TIMER(T2) AT(1970-01-01T00:01:01)" ∷
    codes "RETURN" ∷
    codes "LABEL DUE" ∷
    codes "CHECK TIMER(T1)" ∷
    codes "CHECK TIMER(T2)" ∷
    codes "DELETE TIMER(T2)" ∷
    codes "RETURN" ∷
    codes "END" ∷
    codes "REQUEST ORDERS P13" ∷
    codes "DEFINE PROCESS TRANSID(ORD1) PROGRAM(TICK)" ∷
    codes "RUN ACQPROCESS ASYNCHRONOUS" ∷
    codes "END" ∷
    codes "SETTLE" ∷
    codes "CLOCK 1970-01-01T00:01:00" ∷
    codes "SETTLE" ∷ []) ≡ text (
    codes "1 REQUEST ORDERS P13 1970-01-01T00:00:00 COMMIT" ∷
    codes "  DEFINE PROCESS NORMAL" ∷
    codes "  RUN ACQPROCESS NORMAL" ∷
    codes "  RETURN NORMAL" ∷
    codes "2 ACTIVATION ORDERS P13 / 1970-01-01T00:00:00 COMMIT" ∷
    codes "  RETRIEVE REATTACH NORMAL DFHINITIAL SYSTEM" ∷
    codes "  DEFINE TIMER(T1) NORMAL" ∷
    codes "  DEFINE TIMER(T2) NORMAL" ∷
    codes "  RETURN NORMAL DORMANT" ∷
    codes "3 SETTLE 1970-01-01T00:00:00 COMMIT" ∷
    codes "4 CLOCK 1970-01-01T00:01:00 COMMIT" ∷
    codes "5 EXPIRY ORDERS P13 / T1 1970-01-01T00:01:00 COMMIT" ∷
    codes "6 ACTIVATION ORDERS P13 / 1970-01-01T00:01:00 COMMIT" ∷
    codes "  RETRIEVE REATTACH NORMAL T1 TIMER" ∷
    codes "  CHECK TIMER(T1) NORMAL EXPIRED" ∷
    codes "  CHECK TIMER(T2) NORMAL UNEXPIRED" ∷
    codes "  DELETE TIMER(T2) NORMAL" ∷
    codes "  RETURN NORMAL COMPLETE" ∷
    codes "7 SETTLE 1970-01-01T00:01:00 COMMIT" ∷ [])
unfolding session_from history printed
timers = refl

-- a timer past the last second, and one at it
last_second : report_from (
    codes "PROGRAM ROOT" ∷
    codes "RETRIEVE REATTACH EVENT" ∷
    codes "DEFINE TIMER(T1) AFTER(1)" ∷
    codes "DEFINE TIMER(T1) AFTER(0)" ∷
    codes "RETURN" ∷
    codes "END" ∷
    codes "CLOCK 9999-12-31T23:59:59" ∷
    codes "REQUEST ORDERS P14" ∷
    codes "DEFINE PROCESS TRANSID(ORD1) PROGRAM(ROOT)" ∷
    codes "RUN ACQPROCESS ASYNCHRONOUS" ∷
    codes "END" ∷ []) ≡ text (
    codes "1 CLOCK 9999-12-31T23:59:59 COMMIT" ∷
    codes "2 REQUEST ORDERS P14 9999-12-31T23:59:59 COMMIT" ∷
    codes "  DEFINE PROCESS NORMAL" ∷
    codes "  RUN ACQPROCESS NORMAL" ∷
    codes "  RETURN NORMAL" ∷
    codes "3 ACTIVATION ORDERS P14 / 9999-12-31T23:59:59 COMMIT" ∷
    codes "  RETRIEVE REATTACH NORMAL DFHINITIAL SYSTEM" ∷
    codes "  DEFINE TIMER(T1) INVREQ Range" ∷
    codes "  DEFINE TIMER(T1) NORMAL" ∷
    codes "  RETURN NORMAL DORMANT" ∷
    codes "4 EXPIRY ORDERS P14 / T1 9999-12-31T23:59:59 COMMIT" ∷
    codes "5 ACTIVATION ORDERS P14 / 9999-12-31T23:59:59 COMMIT" ∷
    codes "  RETRIEVE REATTACH NORMAL T1 TIMER" ∷
    codes "  DEFINE TIMER(T1) TIMERERR Taken" ∷
    codes "  DEFINE TIMER(T1) TIMERERR Taken" ∷
    codes "  RETURN NORMAL DORMANT" ∷ [])
unfolding session_from history printed
last_second = refl
