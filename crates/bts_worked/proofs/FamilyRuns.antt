-- Whole sessions, from their text to their report: activities and their children.
use Rattle.std.proofs.Common.{◌≡◌, List, [], ◌∷◌, ◌++◌, codes, refl}
use Rattle.bts_names.specs.Names.{Bytes}
use Rattle.bts_worked.proofs.Runs.{history, listed, list_from, printed, report_from, session_from, text}

-- an order with two children
abbrev an_order : List Bytes
an_order =
    codes "PROGRAM LEAF" ∷
    codes "RETRIEVE REATTACH EVENT" ∷
    codes "RETURN ENDACTIVITY" ∷
    codes "END" ∷
    codes "PROGRAM ORDER" ∷
    codes "RETRIEVE REATTACH EVENT" ∷
    codes "WHEN EVENT(BOTH) GOTO JOIN" ∷
    codes "DEFINE ACTIVITY(BILL) TRANSID(BIL1) PROGRAM(LEAF)" ∷
    codes "DEFINE ACTIVITY(SHIP) TRANSID(SHP1) PROGRAM(LEAF)" ∷
    codes "DEFINE COMPOSITE EVENT(BOTH) AND SUBEVENT(BILL) SUBEVENT(SHIP)" ∷
    codes "RUN ACTIVITY(BILL) ASYNCHRONOUS" ∷
    codes "RUN ACTIVITY(SHIP) ASYNCHRONOUS" ∷
    codes "RETURN" ∷
    codes "LABEL JOIN" ∷
    codes "CHECK ACTIVITY(BILL)" ∷
    codes "CHECK ACTIVITY(SHIP)" ∷
    codes "DELETE EVENT(BOTH)" ∷
    codes "RETURN" ∷
    codes "END" ∷
    codes "REQUEST ORDERS P6" ∷
    codes "DEFINE PROCESS TRANSID(ORD1) PROGRAM(ORDER)" ∷
    codes "RUN ACQPROCESS ASYNCHRONOUS" ∷
    codes "END" ∷ []

order : report_from an_order ≡ text (
    codes "1 REQUEST ORDERS P6 1970-01-01T00:00:00 COMMIT" ∷
    codes "  DEFINE PROCESS NORMAL" ∷
    codes "  RUN ACQPROCESS NORMAL" ∷
    codes "  RETURN NORMAL" ∷
    codes "2 ACTIVATION ORDERS P6 / 1970-01-01T00:00:00 COMMIT" ∷
    codes "  RETRIEVE REATTACH NORMAL DFHINITIAL SYSTEM" ∷
    codes "  DEFINE ACTIVITY(BILL) NORMAL /1" ∷
    codes "  DEFINE ACTIVITY(SHIP) NORMAL /2" ∷
    codes "  DEFINE COMPOSITE(BOTH) NORMAL" ∷
    codes "  RUN ACTIVITY(BILL) NORMAL" ∷
    codes "  RUN ACTIVITY(SHIP) NORMAL" ∷
    codes "  RETURN NORMAL DORMANT" ∷
    codes "3 ACTIVATION ORDERS P6 /1 1970-01-01T00:00:00 COMMIT" ∷
    codes "  RETRIEVE REATTACH NORMAL DFHINITIAL SYSTEM" ∷
    codes "  RETURN ENDACTIVITY NORMAL COMPLETE" ∷
    codes "4 NOTICE ORDERS P6 /1 1970-01-01T00:00:00 COMMIT" ∷
    codes "5 ACTIVATION ORDERS P6 /2 1970-01-01T00:00:00 COMMIT" ∷
    codes "  RETRIEVE REATTACH NORMAL DFHINITIAL SYSTEM" ∷
    codes "  RETURN ENDACTIVITY NORMAL COMPLETE" ∷
    codes "6 NOTICE ORDERS P6 /2 1970-01-01T00:00:00 COMMIT" ∷
    codes "7 ACTIVATION ORDERS P6 / 1970-01-01T00:00:00 COMMIT" ∷
    codes "  RETRIEVE REATTACH NORMAL BOTH COMPOSITE" ∷
    codes "  CHECK ACTIVITY(BILL) NORMAL COMPLETE NORMAL NOTSUSPENDED -" ∷
    codes "  CHECK ACTIVITY(SHIP) NORMAL COMPLETE NORMAL NOTSUSPENDED -" ∷
    codes "  DELETE EVENT(BOTH) NORMAL" ∷
    codes "  RETURN NORMAL COMPLETE" ∷ [])
unfolding session_from history printed
order = refl

-- its activities, listed
order_listed : list_from an_order ≡ text (
    codes "ORDERS P6 1 / DFHROOT COMPLETE NORMAL NOTSUSPENDED 0 ORD1 ORDER" ∷
    codes "ORDERS P6 1 /1 BILL COMPLETE NORMAL NOTSUSPENDED 0 BIL1 LEAF" ∷
    codes "ORDERS P6 1 /2 SHIP COMPLETE NORMAL NOTSUSPENDED 0 SHP1 LEAF" ∷ [])
unfolding session_from history listed
order_listed = refl

-- and found by a BROWSE
order_found : report_from (an_order ++
    codes "SETTLE" ∷
    codes "BROWSE MODE(COMPLETE) STATUS(NORMAL)" ∷ []) ≡ text (
    codes "1 REQUEST ORDERS P6 1970-01-01T00:00:00 COMMIT" ∷
    codes "  DEFINE PROCESS NORMAL" ∷
    codes "  RUN ACQPROCESS NORMAL" ∷
    codes "  RETURN NORMAL" ∷
    codes "2 ACTIVATION ORDERS P6 / 1970-01-01T00:00:00 COMMIT" ∷
    codes "  RETRIEVE REATTACH NORMAL DFHINITIAL SYSTEM" ∷
    codes "  DEFINE ACTIVITY(BILL) NORMAL /1" ∷
    codes "  DEFINE ACTIVITY(SHIP) NORMAL /2" ∷
    codes "  DEFINE COMPOSITE(BOTH) NORMAL" ∷
    codes "  RUN ACTIVITY(BILL) NORMAL" ∷
    codes "  RUN ACTIVITY(SHIP) NORMAL" ∷
    codes "  RETURN NORMAL DORMANT" ∷
    codes "3 ACTIVATION ORDERS P6 /1 1970-01-01T00:00:00 COMMIT" ∷
    codes "  RETRIEVE REATTACH NORMAL DFHINITIAL SYSTEM" ∷
    codes "  RETURN ENDACTIVITY NORMAL COMPLETE" ∷
    codes "4 NOTICE ORDERS P6 /1 1970-01-01T00:00:00 COMMIT" ∷
    codes "5 ACTIVATION ORDERS P6 /2 1970-01-01T00:00:00 COMMIT" ∷
    codes "  RETRIEVE REATTACH NORMAL DFHINITIAL SYSTEM" ∷
    codes "  RETURN ENDACTIVITY NORMAL COMPLETE" ∷
    codes "6 NOTICE ORDERS P6 /2 1970-01-01T00:00:00 COMMIT" ∷
    codes "7 ACTIVATION ORDERS P6 / 1970-01-01T00:00:00 COMMIT" ∷
    codes "  RETRIEVE REATTACH NORMAL BOTH COMPOSITE" ∷
    codes "  CHECK ACTIVITY(BILL) NORMAL COMPLETE NORMAL NOTSUSPENDED -" ∷
    codes "  CHECK ACTIVITY(SHIP) NORMAL COMPLETE NORMAL NOTSUSPENDED -" ∷
    codes "  DELETE EVENT(BOTH) NORMAL" ∷
    codes "  RETURN NORMAL COMPLETE" ∷
    codes "8 SETTLE 1970-01-01T00:00:00 COMMIT" ∷
    codes "9 BROWSE 1970-01-01T00:00:00 COMMIT" ∷
    codes "  ORDERS P6 1 / DFHROOT COMPLETE NORMAL NOTSUSPENDED 0 ORD1 ORDER" ∷
    codes "  ORDERS P6 1 /1 BILL COMPLETE NORMAL NOTSUSPENDED 0 BIL1 LEAF" ∷
    codes "  ORDERS P6 1 /2 SHIP COMPLETE NORMAL NOTSUSPENDED 0 SHP1 LEAF" ∷ [])
unfolding session_from history printed
order_found = refl

-- children that abend, one that was run and one that was linked
children_abend : report_from (
    codes "PROGRAM KID" ∷
    codes "RETRIEVE REATTACH EVENT" ∷
    codes "PUT CONTAINER(C) FROM('x')" ∷
    codes "ABEND ABCODE(OOPS)" ∷
    codes "END" ∷
    codes "PROGRAM ROOT" ∷
    codes "RETRIEVE REATTACH EVENT" ∷
    codes "DEFINE ACTIVITY(A) TRANSID(T1) PROGRAM(KID)" ∷
    codes "DEFINE ACTIVITY(B) TRANSID(T1) PROGRAM(KID)" ∷
    codes "RUN ACTIVITY(A) SYNCHRONOUS" ∷
    codes "LINK ACTIVITY(B)" ∷
    codes "GET CONTAINER(C) ACTIVITY(A)" ∷
    codes "GET CONTAINER(C) ACTIVITY(B)" ∷
    codes "CHECK ACTIVITY(A)" ∷
    codes "CHECK ACTIVITY(B)" ∷
    codes "RETURN" ∷
    codes "END" ∷
    codes "REQUEST ORDERS P11" ∷
    codes "DEFINE PROCESS TRANSID(ORD1) PROGRAM(ROOT)" ∷
    codes "RUN ACQPROCESS ASYNCHRONOUS" ∷
    codes "END" ∷ []) ≡ text (
    codes "1 REQUEST ORDERS P11 1970-01-01T00:00:00 COMMIT" ∷
    codes "  DEFINE PROCESS NORMAL" ∷
    codes "  RUN ACQPROCESS NORMAL" ∷
    codes "  RETURN NORMAL" ∷
    codes "2 ACTIVATION ORDERS P11 / 1970-01-01T00:00:00 COMMIT" ∷
    codes "  RETRIEVE REATTACH NORMAL DFHINITIAL SYSTEM" ∷
    codes "  DEFINE ACTIVITY(A) NORMAL /1" ∷
    codes "  DEFINE ACTIVITY(B) NORMAL /2" ∷
    codes "  RUN ACTIVITY(A) NORMAL RAN" ∷
    codes "  RETRIEVE REATTACH NORMAL DFHINITIAL SYSTEM" ∷
    codes "  PUT CONTAINER(C) NORMAL" ∷
    codes "  ABEND(OOPS) NORMAL" ∷
    codes "  LINK ACTIVITY(B) NORMAL RAN" ∷
    codes "  RETRIEVE REATTACH NORMAL DFHINITIAL SYSTEM" ∷
    codes "  PUT CONTAINER(C) NORMAL" ∷
    codes "  ABEND(OOPS) NORMAL" ∷
    codes "  GET CONTAINER(C) CONTAINERERR Missing" ∷
    codes "  GET CONTAINER(C) NORMAL X'78'" ∷
    codes "  CHECK ACTIVITY(A) NORMAL COMPLETE ABEND NOTSUSPENDED OOPS" ∷
    codes "  CHECK ACTIVITY(B) NORMAL COMPLETE ABEND NOTSUSPENDED OOPS" ∷
    codes "  RETURN NORMAL COMPLETE" ∷ [])
unfolding session_from history printed
children_abend = refl

-- eight frames, and no ninth
eight_frames : report_from (
    codes "PROGRAM K1" ∷
    codes "RETRIEVE REATTACH EVENT" ∷
    codes "DEFINE ACTIVITY(A) TRANSID(T1) PROGRAM(K2)" ∷
    codes "LINK ACTIVITY(A)" ∷
    codes "RETURN ENDACTIVITY" ∷
    codes "END" ∷
    codes "PROGRAM K2" ∷
    codes "RETRIEVE REATTACH EVENT" ∷
    codes "DEFINE ACTIVITY(A) TRANSID(T1) PROGRAM(K3)" ∷
    codes "LINK ACTIVITY(A)" ∷
    codes "RETURN ENDACTIVITY" ∷
    codes "END" ∷
    codes "PROGRAM K3" ∷
    codes "RETRIEVE REATTACH EVENT" ∷
    codes "DEFINE ACTIVITY(A) TRANSID(T1) PROGRAM(K4)" ∷
    codes "LINK ACTIVITY(A)" ∷
    codes "RETURN ENDACTIVITY" ∷
    codes "END" ∷
    codes "PROGRAM K4" ∷
    codes "RETRIEVE REATTACH EVENT" ∷
    codes "DEFINE ACTIVITY(A) TRANSID(T1) PROGRAM(K5)" ∷
    codes "LINK ACTIVITY(A)" ∷
    codes "RETURN ENDACTIVITY" ∷
    codes "END" ∷
    codes "PROGRAM K5" ∷
    codes "RETRIEVE REATTACH EVENT" ∷
    codes "DEFINE ACTIVITY(A) TRANSID(T1) PROGRAM(K6)" ∷
    codes "LINK ACTIVITY(A)" ∷
    codes "RETURN ENDACTIVITY" ∷
    codes "END" ∷
    codes "PROGRAM K6" ∷
    codes "RETRIEVE REATTACH EVENT" ∷
    codes "DEFINE ACTIVITY(A) TRANSID(T1) PROGRAM(K7)" ∷
    codes "LINK ACTIVITY(A)" ∷
    codes "RETURN ENDACTIVITY" ∷
    codes "END" ∷
    codes "PROGRAM K7" ∷
    codes "RETRIEVE REATTACH EVENT" ∷
    codes "DEFINE ACTIVITY(A) TRANSID(T1) PROGRAM(K8)" ∷
    codes "LINK ACTIVITY(A)" ∷
    codes "RETURN ENDACTIVITY" ∷
    codes "END" ∷
    codes "PROGRAM K8" ∷
    codes "RETRIEVE REATTACH EVENT" ∷
    codes "DEFINE ACTIVITY(A) TRANSID(T1) PROGRAM(K9)" ∷
    codes "LINK ACTIVITY(A)" ∷
    codes "RETURN ENDACTIVITY" ∷
    codes "END" ∷
    codes "REQUEST ORDERS P1" ∷
    codes "DEFINE PROCESS TRANSID(ORD1) PROGRAM(K1)" ∷
    codes "RUN ACQPROCESS ASYNCHRONOUS" ∷
    codes "END" ∷ []) ≡ text (
    codes "1 REQUEST ORDERS P1 1970-01-01T00:00:00 COMMIT" ∷
    codes "  DEFINE PROCESS NORMAL" ∷
    codes "  RUN ACQPROCESS NORMAL" ∷
    codes "  RETURN NORMAL" ∷
    codes "2 ACTIVATION ORDERS P1 / 1970-01-01T00:00:00 ABEND CHLD" ∷
    codes "  RETRIEVE REATTACH NORMAL DFHINITIAL SYSTEM" ∷
    codes "  DEFINE ACTIVITY(A) NORMAL /1" ∷
    codes "  LINK ACTIVITY(A) NORMAL RAN" ∷
    codes "  RETRIEVE REATTACH NORMAL DFHINITIAL SYSTEM" ∷
    codes "  DEFINE ACTIVITY(A) NORMAL /1/1" ∷
    codes "  LINK ACTIVITY(A) NORMAL RAN" ∷
    codes "  RETRIEVE REATTACH NORMAL DFHINITIAL SYSTEM" ∷
    codes "  DEFINE ACTIVITY(A) NORMAL /1/1/1" ∷
    codes "  LINK ACTIVITY(A) NORMAL RAN" ∷
    codes "  RETRIEVE REATTACH NORMAL DFHINITIAL SYSTEM" ∷
    codes "  DEFINE ACTIVITY(A) NORMAL /1/1/1/1" ∷
    codes "  LINK ACTIVITY(A) NORMAL RAN" ∷
    codes "  RETRIEVE REATTACH NORMAL DFHINITIAL SYSTEM" ∷
    codes "  DEFINE ACTIVITY(A) NORMAL /1/1/1/1/1" ∷
    codes "  LINK ACTIVITY(A) NORMAL RAN" ∷
    codes "  RETRIEVE REATTACH NORMAL DFHINITIAL SYSTEM" ∷
    codes "  DEFINE ACTIVITY(A) NORMAL /1/1/1/1/1/1" ∷
    codes "  LINK ACTIVITY(A) NORMAL RAN" ∷
    codes "  RETRIEVE REATTACH NORMAL DFHINITIAL SYSTEM" ∷
    codes "  DEFINE ACTIVITY(A) NORMAL /1/1/1/1/1/1/1" ∷
    codes "  LINK ACTIVITY(A) NORMAL RAN" ∷
    codes "  RETRIEVE REATTACH NORMAL DFHINITIAL SYSTEM" ∷
    codes "  DEFINE ACTIVITY(A) NORMAL /1/1/1/1/1/1/1/1" ∷
    codes "  LINK ACTIVITY(A) INVREQ Depth" ∷
    codes "  RETURN ENDACTIVITY NORMAL ABEND CHLD" ∷
    codes "  RETURN ENDACTIVITY NORMAL ABEND CHLD" ∷
    codes "  RETURN ENDACTIVITY NORMAL ABEND CHLD" ∷
    codes "  RETURN ENDACTIVITY NORMAL ABEND CHLD" ∷
    codes "  RETURN ENDACTIVITY NORMAL ABEND CHLD" ∷
    codes "  RETURN ENDACTIVITY NORMAL ABEND CHLD" ∷
    codes "  RETURN ENDACTIVITY NORMAL ABEND CHLD" ∷
    codes "  RETURN ENDACTIVITY NORMAL ABEND CHLD" ∷ [])
unfolding session_from history printed
eight_frames = refl

-- a process that is suspended, and resumed
abbrev a_waiter : List Bytes
a_waiter =
    codes "PROGRAM WAITER" ∷
    codes "RETRIEVE REATTACH EVENT" ∷
    codes "WHEN EVENT(DFHINITIAL) GOTO FIRST" ∷
    codes "RETRIEVE REATTACH EVENT" ∷
    codes "RETURN ENDACTIVITY" ∷
    codes "LABEL FIRST" ∷
    codes "DEFINE INPUT EVENT(I1)" ∷
    codes "DEFINE INPUT EVENT(I2)" ∷
    codes "RETURN" ∷
    codes "END" ∷
    codes "REQUEST ORDERS P15" ∷
    codes "DEFINE PROCESS TRANSID(ORD1) PROGRAM(WAITER)" ∷
    codes "RUN ACQPROCESS ASYNCHRONOUS" ∷
    codes "END" ∷
    codes "SETTLE" ∷
    codes "REQUEST ORDERS P15" ∷
    codes "ACQUIRE PROCESS" ∷
    codes "SUSPEND ACQPROCESS" ∷
    codes "RUN ACQPROCESS ASYNCHRONOUS INPUTEVENT(I1)" ∷
    codes "RUN ACQPROCESS ASYNCHRONOUS INPUTEVENT(I2)" ∷
    codes "END" ∷
    codes "SETTLE" ∷
    codes "REQUEST ORDERS P15" ∷
    codes "ACQUIRE PROCESS" ∷
    codes "RESUME ACQPROCESS" ∷
    codes "END" ∷ []

suspended : report_from a_waiter ≡ text (
    codes "1 REQUEST ORDERS P15 1970-01-01T00:00:00 COMMIT" ∷
    codes "  DEFINE PROCESS NORMAL" ∷
    codes "  RUN ACQPROCESS NORMAL" ∷
    codes "  RETURN NORMAL" ∷
    codes "2 ACTIVATION ORDERS P15 / 1970-01-01T00:00:00 COMMIT" ∷
    codes "  RETRIEVE REATTACH NORMAL DFHINITIAL SYSTEM" ∷
    codes "  DEFINE INPUT(I1) NORMAL" ∷
    codes "  DEFINE INPUT(I2) NORMAL" ∷
    codes "  RETURN NORMAL DORMANT" ∷
    codes "3 SETTLE 1970-01-01T00:00:00 COMMIT" ∷
    codes "4 REQUEST ORDERS P15 1970-01-01T00:00:00 COMMIT" ∷
    codes "  ACQUIRE PROCESS NORMAL" ∷
    codes "  SUSPEND ACQPROCESS NORMAL" ∷
    codes "  RUN ACQPROCESS NORMAL" ∷
    codes "  RUN ACQPROCESS NORMAL" ∷
    codes "  RETURN NORMAL" ∷
    codes "5 SETTLE 1970-01-01T00:00:00 COMMIT" ∷
    codes "6 REQUEST ORDERS P15 1970-01-01T00:00:00 COMMIT" ∷
    codes "  ACQUIRE PROCESS NORMAL" ∷
    codes "  RESUME ACQPROCESS NORMAL" ∷
    codes "  RETURN NORMAL" ∷
    codes "7 ACTIVATION ORDERS P15 / 1970-01-01T00:00:00 COMMIT" ∷
    codes "  RETRIEVE REATTACH NORMAL I1 INPUT" ∷
    codes "  RETRIEVE REATTACH NORMAL I2 INPUT" ∷
    codes "  RETURN ENDACTIVITY NORMAL COMPLETE" ∷ [])
unfolding session_from history printed
suspended = refl

-- and then purged and defined again
purged : report_from (a_waiter ++
    codes "SETTLE" ∷
    codes "REQUEST ORDERS P15" ∷
    codes "ACQUIRE PROCESS" ∷
    codes "PURGE ACQPROCESS" ∷
    codes "END" ∷
    codes "REQUEST ORDERS P15" ∷
    codes "DEFINE PROCESS TRANSID(ORD1) PROGRAM(WAITER)" ∷
    codes "END" ∷ []) ≡ text (
    codes "1 REQUEST ORDERS P15 1970-01-01T00:00:00 COMMIT" ∷
    codes "  DEFINE PROCESS NORMAL" ∷
    codes "  RUN ACQPROCESS NORMAL" ∷
    codes "  RETURN NORMAL" ∷
    codes "2 ACTIVATION ORDERS P15 / 1970-01-01T00:00:00 COMMIT" ∷
    codes "  RETRIEVE REATTACH NORMAL DFHINITIAL SYSTEM" ∷
    codes "  DEFINE INPUT(I1) NORMAL" ∷
    codes "  DEFINE INPUT(I2) NORMAL" ∷
    codes "  RETURN NORMAL DORMANT" ∷
    codes "3 SETTLE 1970-01-01T00:00:00 COMMIT" ∷
    codes "4 REQUEST ORDERS P15 1970-01-01T00:00:00 COMMIT" ∷
    codes "  ACQUIRE PROCESS NORMAL" ∷
    codes "  SUSPEND ACQPROCESS NORMAL" ∷
    codes "  RUN ACQPROCESS NORMAL" ∷
    codes "  RUN ACQPROCESS NORMAL" ∷
    codes "  RETURN NORMAL" ∷
    codes "5 SETTLE 1970-01-01T00:00:00 COMMIT" ∷
    codes "6 REQUEST ORDERS P15 1970-01-01T00:00:00 COMMIT" ∷
    codes "  ACQUIRE PROCESS NORMAL" ∷
    codes "  RESUME ACQPROCESS NORMAL" ∷
    codes "  RETURN NORMAL" ∷
    codes "7 ACTIVATION ORDERS P15 / 1970-01-01T00:00:00 COMMIT" ∷
    codes "  RETRIEVE REATTACH NORMAL I1 INPUT" ∷
    codes "  RETRIEVE REATTACH NORMAL I2 INPUT" ∷
    codes "  RETURN ENDACTIVITY NORMAL COMPLETE" ∷
    codes "8 SETTLE 1970-01-01T00:00:00 COMMIT" ∷
    codes "9 REQUEST ORDERS P15 1970-01-01T00:00:00 COMMIT" ∷
    codes "  ACQUIRE PROCESS NORMAL" ∷
    codes "  PURGE ACQPROCESS NORMAL" ∷
    codes "  RETURN NORMAL" ∷
    codes "10 REQUEST ORDERS P15 1970-01-01T00:00:00 COMMIT" ∷
    codes "  DEFINE PROCESS NORMAL" ∷
    codes "  RETURN NORMAL" ∷ [])
unfolding session_from history printed
purged = refl

-- which is listed as its second generation
second_generation : list_from (a_waiter ++
    codes "SETTLE" ∷
    codes "REQUEST ORDERS P15" ∷
    codes "ACQUIRE PROCESS" ∷
    codes "PURGE ACQPROCESS" ∷
    codes "END" ∷
    codes "REQUEST ORDERS P15" ∷
    codes "DEFINE PROCESS TRANSID(ORD1) PROGRAM(WAITER)" ∷
    codes "END" ∷ []) ≡ text (
    codes "ORDERS P15 2 / DFHROOT INITIAL INCOMPLETE NOTSUSPENDED 0 ORD1 WAITER" ∷ [])
unfolding session_from history listed
second_generation = refl
