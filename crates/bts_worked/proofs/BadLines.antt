-- Bad lines, computed where all forms are let through: each line where it stands, and the reason for which it is refused.
use Rattle.std.specs.Prelude.{◌≡◌, true, Option, Some, None, Result, Err, is_ok, map, List, [], ◌∷◌, codes, refl}
use Rattle.std.specs.List.{list_all}
use Rattle.bts_names.specs.Names.{Bytes}
use Rattle.bts_forms.specs.declared.line.Line.{Line}
use Rattle.bts_forms.specs.declared.line.Place.{Place}
use Rattle.bts_forms.specs.declared.line.Place.TheVariants as place
use Rattle.bts_forms.specs.declared.line.Word.{Word}
use Rattle.bts_forms.specs.declared.line.Word.TheVariants as word
use Rattle.bts_script.specs.Blocks.{line_in}
use Rattle.bts_forms.specs.Texts.{is_decimal, number_in, number_within, behind_front, cut_at, cut_at_last, closed_by, first_word}
use Rattle.bts_forms.specs.Pieces.{behind_word, up_to, argument, argument_in, at_next_word, argument_to_last, ended}
use Rattle.bts_forms.specs.Arguments.{step_in, steps_in, path_in, hex_digit, hex_pair, hex_pairs, text_in, pairs_in, fill_in}
use Rattle.bts_forms.specs.Forms.{target, spot, either, synchrony, connective, whether, input, due, acquired, early_condition, late_condition, condition, program_line, request_line, end_line, clock_line, settle_line, browse_line, label_line, goto_line, when_line, define_process, acquire_process, acquire_activity, purge_process, define_activity, delete_activity, run, link, check, cancel, reset, suspend, resume, put_container, get_container, delete_container, define_input, define_composite, add_subevent, remove_subevent, delete_event, test_event, retrieve_reattach, retrieve_subevent, define_timer, force_timer, check_timer, delete_timer, plain_return, return_ending, abend, rollback, reads_by}
use Rattle.bts_timer.specs.Moments.{two_in, marked_in, civil_in, moment_in}
use Rattle.bts_timer.specs.Calendar.{days_of_months}
use Rattle.bts_names.specs.Grammar.{is_name_byte}

abbrev Row : Type 0
Row = Option Place × Bytes × Word

abbrev outside_blocks : Option Place
outside_blocks = None

abbrev in_program : Option Place
in_program = Some place.Program

abbrev in_request : Option Place
in_request = Some place.Request

abbrev said : Row → Result Line Word
said r = line_in (λ passes. true) r.0 r.1

abbrev refusal : Row → Result Line Word
refusal r = Err r.2

-- the form doesn't belong there; that is told before its arguments are looked at
abbrev out_of_place : List Row
out_of_place =
    (outside_blocks, codes "END", word.Place) ∷
    (outside_blocks, codes "LABEL L", word.Place) ∷
    (outside_blocks, codes "GOTO L", word.Place) ∷
    (outside_blocks, codes "WHEN RESP(NORMAL) GOTO L", word.Place) ∷
    (outside_blocks, codes "WHEN EVENT(E) GOTO L", word.Place) ∷
    (outside_blocks, codes "WHEN STATUS(ABEND) GOTO L", word.Place) ∷
    (outside_blocks, codes "WHEN DATA('x') GOTO L", word.Place) ∷
    (outside_blocks, codes "WHEN FIRED GOTO L", word.Place) ∷
    (outside_blocks, codes "DEFINE PROCESS TRANSID(T1) PROGRAM(A)", word.Place) ∷
    (outside_blocks, codes "ACQUIRE PROCESS", word.Place) ∷
    (outside_blocks, codes "ACQUIRE ACTIVITYID(/1/2)", word.Place) ∷
    (outside_blocks, codes "PURGE ACQPROCESS", word.Place) ∷
    (outside_blocks, codes "DEFINE ACTIVITY(A) TRANSID(T1) PROGRAM(B)", word.Place) ∷
    (outside_blocks, codes "DELETE ACTIVITY(A)", word.Place) ∷
    (outside_blocks, codes "RUN ACTIVITY(A) SYNCHRONOUS", word.Place) ∷
    (outside_blocks, codes "LINK ACQACTIVITY", word.Place) ∷
    (outside_blocks, codes "CHECK ACTIVITY(A)", word.Place) ∷
    (outside_blocks, codes "CANCEL ACQPROCESS", word.Place) ∷
    (outside_blocks, codes "RESET ACQACTIVITY", word.Place) ∷
    (outside_blocks, codes "SUSPEND ACTIVITY(A)", word.Place) ∷
    (outside_blocks, codes "RESUME ACTIVITY(A)", word.Place) ∷
    (outside_blocks, codes "PUT CONTAINER(C) PROCESS FROM('x')", word.Place) ∷
    (outside_blocks, codes "GET CONTAINER(C) ACTIVITY(A)", word.Place) ∷
    (outside_blocks, codes "DELETE CONTAINER(C) ACQPROCESS", word.Place) ∷
    (outside_blocks, codes "DEFINE INPUT EVENT(E)", word.Place) ∷
    (outside_blocks, codes "DEFINE COMPOSITE EVENT(E) AND", word.Place) ∷
    (outside_blocks, codes "ADD SUBEVENT(S) EVENT(E)", word.Place) ∷
    (outside_blocks, codes "REMOVE SUBEVENT(S) EVENT(E)", word.Place) ∷
    (outside_blocks, codes "DELETE EVENT(E)", word.Place) ∷
    (outside_blocks, codes "TEST EVENT(E)", word.Place) ∷
    (outside_blocks, codes "RETRIEVE REATTACH EVENT", word.Place) ∷
    (outside_blocks, codes "RETRIEVE SUBEVENT EVENT(E)", word.Place) ∷
    (outside_blocks, codes "DEFINE TIMER(T) AFTER(60)", word.Place) ∷
    (outside_blocks, codes "FORCE TIMER(T)", word.Place) ∷
    (outside_blocks, codes "CHECK TIMER(T)", word.Place) ∷
    (outside_blocks, codes "DELETE TIMER(T)", word.Place) ∷
    (outside_blocks, codes "RETURN", word.Place) ∷
    (outside_blocks, codes "RETURN ENDACTIVITY", word.Place) ∷
    (outside_blocks, codes "ABEND ABCODE(C)", word.Place) ∷
    (outside_blocks, codes "ROLLBACK", word.Place) ∷
    (outside_blocks, codes "GOTO DFHX", word.Place) ∷
    (outside_blocks, codes "ACQUIRE ACTIVITYID(x)", word.Place) ∷
    (outside_blocks, codes "DEFINE TIMER(T) AT(x)", word.Place) ∷
    (outside_blocks, codes "WHEN RESP(x) GOTO L", word.Place) ∷
    (in_program, codes "PROGRAM A", word.Place) ∷
    (in_program, codes "PROGRAM DFHX", word.Place) ∷
    (in_program, codes "REQUEST T P", word.Place) ∷
    (in_program, codes "CLOCK 1970-01-01T00:00:00", word.Place) ∷
    (in_program, codes "CLOCK x", word.Place) ∷
    (in_program, codes "SETTLE", word.Place) ∷
    (in_program, codes "BROWSE", word.Place) ∷
    (in_program, codes "BROWSE MODE(ACTIVE)", word.Place) ∷
    (in_program, codes "ROLLBACK", word.Place) ∷
    (in_request, codes "PROGRAM A", word.Place) ∷
    (in_request, codes "REQUEST T P", word.Place) ∷
    (in_request, codes "CLOCK x", word.Place) ∷
    (in_request, codes "SETTLE", word.Place) ∷
    (in_request, codes "BROWSE TYPE(DFHX)", word.Place) ∷
    (in_request, codes "RETURN ENDACTIVITY", word.Place) ∷
    []

out_of_place_refused : map said out_of_place ≡ map refusal out_of_place
unfolding is_decimal number_in number_within behind_front cut_at cut_at_last closed_by first_word behind_word up_to argument argument_in at_next_word argument_to_last ended step_in steps_in path_in hex_digit hex_pair hex_pairs text_in pairs_in fill_in target spot either synchrony connective whether input due acquired early_condition late_condition condition program_line request_line end_line clock_line settle_line browse_line label_line goto_line when_line define_process acquire_process acquire_activity purge_process define_activity delete_activity run link check cancel reset suspend resume put_container get_container delete_container define_input define_composite add_subevent remove_subevent delete_event test_event retrieve_reattach retrieve_subevent define_timer force_timer check_timer delete_timer plain_return return_ending abend rollback reads_by two_in marked_in civil_in moment_in days_of_months is_name_byte
out_of_place_refused = refl

-- arguments of the lines of a session
abbrev of_sessions : List Row
of_sessions =
    (outside_blocks, codes "PROGRAM DFHX", word.Name) ∷
    (outside_blocks, codes "PROGRAM ABCDEFGHI", word.Name) ∷
    (outside_blocks, codes "PROGRAM (A)", word.Name) ∷
    (outside_blocks, codes "PROGRAM 'A'", word.Name) ∷
    (outside_blocks, codes "REQUEST DFHT P", word.Name) ∷
    (outside_blocks, codes "REQUEST T DFHP", word.Name) ∷
    (outside_blocks, codes "CLOCK x", word.Moment) ∷
    (outside_blocks, codes "CLOCK 1970-01-01", word.Moment) ∷
    (outside_blocks, codes "CLOCK 1970-01-01T00:00", word.Moment) ∷
    (outside_blocks, codes "CLOCK 1970-01-01T00:00:60", word.Moment) ∷
    (outside_blocks, codes "CLOCK 1970-01-01T24:00:00", word.Moment) ∷
    (outside_blocks, codes "CLOCK 1970-01-01T00:60:00", word.Moment) ∷
    (outside_blocks, codes "CLOCK 1970-02-29T00:00:00", word.Moment) ∷
    (outside_blocks, codes "CLOCK 2100-02-29T00:00:00", word.Moment) ∷
    (outside_blocks, codes "CLOCK 1970-13-01T00:00:00", word.Moment) ∷
    (outside_blocks, codes "CLOCK 1970-00-01T00:00:00", word.Moment) ∷
    (outside_blocks, codes "CLOCK 1970-01-00T00:00:00", word.Moment) ∷
    (outside_blocks, codes "CLOCK 1969-12-31T23:59:59", word.Moment) ∷
    (outside_blocks, codes "CLOCK 10000-01-01T00:00:00", word.Moment) ∷
    (outside_blocks, codes "CLOCK 1970-01-01t00:00:00", word.Moment) ∷
    (outside_blocks, codes "CLOCK 1970-01-01T00:00:00Z", word.Moment) ∷
    (outside_blocks, codes "CLOCK 1970-1-01T00:00:00", word.Moment) ∷
    (outside_blocks, codes "CLOCK '1970-01-01T00:00:00'", word.Moment) ∷
    (outside_blocks, codes "BROWSE TYPE(DFHT)", word.Name) ∷
    (outside_blocks, codes "BROWSE TYPE()", word.Name) ∷
    (outside_blocks, codes "BROWSE TYPE(ABCDEFGHI)", word.Name) ∷
    (outside_blocks, codes "BROWSE PROCESS(DFHP)", word.Name) ∷
    (outside_blocks, codes "BROWSE PROCESS(AAAAAAAAAAAAAAAAAAAAAAAAAAAAAAAAAAAAA)", word.Name) ∷
    (outside_blocks, codes "BROWSE MODE(ACTIVE)", word.Known) ∷
    (outside_blocks, codes "BROWSE MODE(initial)", word.Known) ∷
    (outside_blocks, codes "BROWSE MODE()", word.Known) ∷
    (outside_blocks, codes "BROWSE MODE(NORMAL)", word.Known) ∷
    (outside_blocks, codes "BROWSE STATUS(COMPLETE)", word.Known) ∷
    (outside_blocks, codes "BROWSE STATUS(INITIAL)", word.Known) ∷
    (outside_blocks, codes "BROWSE TYPE(DFHT) MODE(ACTIVE)", word.Name) ∷
    (outside_blocks, codes "BROWSE PROCESS(P) MODE(ACTIVE) STATUS(X)", word.Known) ∷
    []

of_sessions_refused : map said of_sessions ≡ map refusal of_sessions
unfolding is_decimal number_in number_within behind_front cut_at cut_at_last closed_by first_word behind_word up_to argument argument_in at_next_word argument_to_last ended step_in steps_in path_in hex_digit hex_pair hex_pairs text_in pairs_in fill_in target spot either synchrony connective whether input due acquired early_condition late_condition condition program_line request_line end_line clock_line settle_line browse_line label_line goto_line when_line define_process acquire_process acquire_activity purge_process define_activity delete_activity run link check cancel reset suspend resume put_container get_container delete_container define_input define_composite add_subevent remove_subevent delete_event test_event retrieve_reattach retrieve_subevent define_timer force_timer check_timer delete_timer plain_return return_ending abend rollback reads_by two_in marked_in civil_in moment_in days_of_months is_name_byte
of_sessions_refused = refl

-- arguments of labels, jumps and conditions
abbrev of_scripts : List Row
of_scripts =
    (in_program, codes "LABEL DFHX", word.Name) ∷
    (in_program, codes "LABEL ABCDEFGHIJKLMNOPQ", word.Name) ∷
    (in_program, codes "LABEL 'L'", word.Name) ∷
    (in_program, codes "LABEL A(B", word.Name) ∷
    (in_program, codes "LABEL DFHINITIAL", word.Name) ∷
    (in_program, codes "GOTO DFHX", word.Name) ∷
    (in_program, codes "GOTO L)", word.Name) ∷
    (in_program, codes "GOTO ABCDEFGHIJKLMNOPQ", word.Name) ∷
    (in_program, codes "WHEN RESP(OK) GOTO L", word.Known) ∷
    (in_program, codes "WHEN RESP(normal) GOTO L", word.Known) ∷
    (in_program, codes "WHEN RESP() GOTO L", word.Known) ∷
    (in_program, codes "WHEN RESP(FIRED) GOTO DFHX", word.Known) ∷
    (in_program, codes "WHEN RESP(NORMAL) GOTO DFHX", word.Name) ∷
    (in_program, codes "WHEN EVENT(DFHROOT) GOTO L", word.Name) ∷
    (in_program, codes "WHEN EVENT(DFHX) GOTO L", word.Name) ∷
    (in_program, codes "WHEN EVENT() GOTO L", word.Name) ∷
    (in_program, codes "WHEN EVENT(E) GOTO DFHX", word.Name) ∷
    (in_program, codes "WHEN STATUS(ACTIVE) GOTO L", word.Known) ∷
    (in_program, codes "WHEN STATUS(COMPLETE) GOTO L", word.Known) ∷
    (in_program, codes "WHEN STATUS(ABEND) GOTO ABCDEFGHIJKLMNOPQ", word.Name) ∷
    (in_program, codes "WHEN DATA(x) GOTO L", word.Literal) ∷
    (in_program, codes "WHEN DATA() GOTO L", word.Literal) ∷
    (in_program, codes "WHEN DATA(FILL(3)) GOTO L", word.Literal) ∷
    (in_program, codes "WHEN DATA(LAST) GOTO L", word.Literal) ∷
    (in_program, codes "WHEN DATA('a'b') GOTO L", word.Literal) ∷
    (in_program, codes "WHEN DATA(x'00') GOTO L", word.Literal) ∷
    (in_program, codes "WHEN DATA(X'0') GOTO L", word.Literal) ∷
    (in_program, codes "WHEN DATA('x') GOTO (L", word.Name) ∷
    (in_program, codes "WHEN FIRED GOTO DFHX", word.Name) ∷
    []

of_scripts_refused : map said of_scripts ≡ map refusal of_scripts
unfolding is_decimal number_in number_within behind_front cut_at cut_at_last closed_by first_word behind_word up_to argument argument_in at_next_word argument_to_last ended step_in steps_in path_in hex_digit hex_pair hex_pairs text_in pairs_in fill_in target spot either synchrony connective whether input due acquired early_condition late_condition condition program_line request_line end_line clock_line settle_line browse_line label_line goto_line when_line define_process acquire_process acquire_activity purge_process define_activity delete_activity run link check cancel reset suspend resume put_container get_container delete_container define_input define_composite add_subevent remove_subevent delete_event test_event retrieve_reattach retrieve_subevent define_timer force_timer check_timer delete_timer plain_return return_ending abend rollback reads_by two_in marked_in civil_in moment_in days_of_months is_name_byte
of_scripts_refused = refl

-- arguments of the commands on processes and activities
abbrev of_activities : List Row
of_activities =
    (in_program, codes "DEFINE PROCESS TRANSID(DFHT) PROGRAM(A)", word.Name) ∷
    (in_program, codes "DEFINE PROCESS TRANSID(T1) PROGRAM(DFHP)", word.Name) ∷
    (in_program, codes "ACQUIRE ACTIVITYID()", word.Name) ∷
    (in_program, codes "ACQUIRE ACTIVITYID(x)", word.Name) ∷
    (in_program, codes "ACQUIRE ACTIVITYID(1)", word.Name) ∷
    (in_program, codes "ACQUIRE ACTIVITYID(/0)", word.Name) ∷
    (in_program, codes "ACQUIRE ACTIVITYID(/01)", word.Name) ∷
    (in_program, codes "ACQUIRE ACTIVITYID(//1)", word.Name) ∷
    (in_program, codes "ACQUIRE ACTIVITYID(/1/)", word.Name) ∷
    (in_program, codes "ACQUIRE ACTIVITYID(/-1)", word.Name) ∷
    (in_program, codes "ACQUIRE ACTIVITYID(/4294967296)", word.Name) ∷
    (in_program, codes "ACQUIRE ACTIVITYID(DFHROOT)", word.Name) ∷
    (in_program, codes "ACQUIRE ACTIVITYID(/1/1/1/1/1/1/1/1/1/1/1/1/1/1/1/1/1/1/1/1/1/1/1/1/1/1/1/1/1/1/1/1/1)", word.Name) ∷
    (in_program, codes "DEFINE ACTIVITY(DFHA) TRANSID(T1) PROGRAM(B)", word.Name) ∷
    (in_program, codes "DEFINE ACTIVITY(A) EVENT(DFHE) TRANSID(T1) PROGRAM(B)", word.Name) ∷
    (in_program, codes "DEFINE ACTIVITY(A) EVENT() TRANSID(T1) PROGRAM(B)", word.Name) ∷
    (in_program, codes "DEFINE ACTIVITY(A) TRANSID(ABCDE) PROGRAM(B)", word.Name) ∷
    (in_program, codes "DEFINE ACTIVITY(A) TRANSID(T1) PROGRAM(ABCDEFGHI)", word.Name) ∷
    (in_program, codes "DELETE ACTIVITY()", word.Name) ∷
    (in_program, codes "DELETE ACTIVITY(DFHROOT)", word.Name) ∷
    (in_program, codes "RUN ACTIVITY(DFHA) SYNCHRONOUS", word.Name) ∷
    (in_program, codes "RUN ACQPROCESS ASYNCHRONOUS INPUTEVENT(DFHINITIAL)", word.Name) ∷
    (in_program, codes "LINK ACTIVITY()", word.Name) ∷
    (in_program, codes "LINK ACQACTIVITY INPUTEVENT(DFHE)", word.Name) ∷
    (in_program, codes "CHECK ACTIVITY(DFHROOT)", word.Name) ∷
    (in_program, codes "CANCEL ACTIVITY(A/B)", word.Name) ∷
    (in_program, codes "RESET ACTIVITY(ABCDEFGHIJKLMNOPQ)", word.Name) ∷
    (in_program, codes "SUSPEND ACTIVITY()", word.Name) ∷
    (in_program, codes "RESUME ACTIVITY(DFHA)", word.Name) ∷
    []

of_activities_refused : map said of_activities ≡ map refusal of_activities
unfolding is_decimal number_in number_within behind_front cut_at cut_at_last closed_by first_word behind_word up_to argument argument_in at_next_word argument_to_last ended step_in steps_in path_in hex_digit hex_pair hex_pairs text_in pairs_in fill_in target spot either synchrony connective whether input due acquired early_condition late_condition condition program_line request_line end_line clock_line settle_line browse_line label_line goto_line when_line define_process acquire_process acquire_activity purge_process define_activity delete_activity run link check cancel reset suspend resume put_container get_container delete_container define_input define_composite add_subevent remove_subevent delete_event test_event retrieve_reattach retrieve_subevent define_timer force_timer check_timer delete_timer plain_return return_ending abend rollback reads_by two_in marked_in civil_in moment_in days_of_months is_name_byte
of_activities_refused = refl

-- arguments of the commands on containers, events and timers, and of those that end a frame
abbrev of_the_rest : List Row
of_the_rest =
    (in_program, codes "PUT CONTAINER(DFHC) FROM(x)", word.Name) ∷
    (in_program, codes "PUT CONTAINER(C) ACTIVITY(DFHA) FROM(x)", word.Name) ∷
    (in_program, codes "PUT CONTAINER(C) FROM(x)", word.Literal) ∷
    (in_program, codes "PUT CONTAINER(C) PROCESS FROM('x'y')", word.Literal) ∷
    (in_program, codes "PUT CONTAINER(C) ACQACTIVITY FROM(FILL(1100001))", word.Literal) ∷
    (in_program, codes "PUT CONTAINER(C) ACTIVITY(A) FROM('a') ACTIVITY(B)", word.Literal) ∷
    (in_program, codes "PUT CONTAINER(C) PROCESS FROM(LAST )", word.Literal) ∷
    (in_program, codes "GET CONTAINER(DFHC)", word.Name) ∷
    (in_program, codes "GET CONTAINER(C) ACTIVITY(DFHA)", word.Name) ∷
    (in_program, codes "DELETE CONTAINER()", word.Name) ∷
    (in_program, codes "DELETE CONTAINER(C) ACTIVITY(ABCDEFGHIJKLMNOPQ)", word.Name) ∷
    (in_program, codes "DEFINE INPUT EVENT(DFHINITIAL)", word.Name) ∷
    (in_program, codes "DEFINE COMPOSITE EVENT(DFHE) AND", word.Name) ∷
    (in_program, codes "DEFINE COMPOSITE EVENT(E) OR SUBEVENT(A) SUBEVENT(DFHB)", word.Name) ∷
    (in_program, codes "ADD SUBEVENT(DFHS) EVENT(E)", word.Name) ∷
    (in_program, codes "ADD SUBEVENT(S) EVENT()", word.Name) ∷
    (in_program, codes "REMOVE SUBEVENT() EVENT(E)", word.Name) ∷
    (in_program, codes "REMOVE SUBEVENT(S) EVENT(DFHE)", word.Name) ∷
    (in_program, codes "DELETE EVENT(DFHE)", word.Name) ∷
    (in_program, codes "TEST EVENT(DFHINITIAL)", word.Name) ∷
    (in_program, codes "RETRIEVE SUBEVENT EVENT(DFHE)", word.Name) ∷
    (in_program, codes "DEFINE TIMER(DFHT) AFTER(01)", word.Name) ∷
    (in_program, codes "DEFINE TIMER(T) EVENT(DFHE) AT(x)", word.Name) ∷
    (in_program, codes "DEFINE TIMER(T) AFTER(01)", word.Number) ∷
    (in_program, codes "DEFINE TIMER(T) AFTER()", word.Number) ∷
    (in_program, codes "DEFINE TIMER(T) AFTER(x)", word.Number) ∷
    (in_program, codes "DEFINE TIMER(T) AFTER(-1)", word.Number) ∷
    (in_program, codes "DEFINE TIMER(T) AFTER(4294967296)", word.Number) ∷
    (in_program, codes "DEFINE TIMER(T) EVENT(E) AFTER(1.5)", word.Number) ∷
    (in_program, codes "DEFINE TIMER(T) AT(x)", word.Moment) ∷
    (in_program, codes "DEFINE TIMER(T) AT()", word.Moment) ∷
    (in_program, codes "DEFINE TIMER(T) AT(1970-01-01T00:00:60)", word.Moment) ∷
    (in_program, codes "DEFINE TIMER(T) EVENT(E) AT(2023-02-29T00:00:00)", word.Moment) ∷
    (in_program, codes "FORCE TIMER(DFHT)", word.Name) ∷
    (in_program, codes "FORCE TIMER() ACQPROCESS", word.Name) ∷
    (in_program, codes "CHECK TIMER(DFHT)", word.Name) ∷
    (in_program, codes "DELETE TIMER()", word.Name) ∷
    (in_program, codes "ABEND ABCODE(ABCDE)", word.Name) ∷
    (in_program, codes "ABEND ABCODE(DFHA)", word.Name) ∷
    (in_program, codes "ABEND ABCODE()", word.Name) ∷
    []

of_the_rest_refused : map said of_the_rest ≡ map refusal of_the_rest
unfolding is_decimal number_in number_within behind_front cut_at cut_at_last closed_by first_word behind_word up_to argument argument_in at_next_word argument_to_last ended step_in steps_in path_in hex_digit hex_pair hex_pairs text_in pairs_in fill_in target spot either synchrony connective whether input due acquired early_condition late_condition condition program_line request_line end_line clock_line settle_line browse_line label_line goto_line when_line define_process acquire_process acquire_activity purge_process define_activity delete_activity run link check cancel reset suspend resume put_container get_container delete_container define_input define_composite add_subevent remove_subevent delete_event test_event retrieve_reattach retrieve_subevent define_timer force_timer check_timer delete_timer plain_return return_ending abend rollback reads_by two_in marked_in civil_in moment_in days_of_months is_name_byte
of_the_rest_refused = refl

-- lines that look bad, but are not
abbrev good_lines : List (Option Place × Bytes)
good_lines =
    (in_program, codes "WHEN DATA('x) GOTO A') GOTO B") ∷
    (in_program, codes "WHEN EVENT(DFHINITIAL) GOTO L") ∷
    (in_program, codes "LABEL dfhx") ∷
    (in_program, codes "LABEL DFG") ∷
    (in_program, codes "LABEL DF") ∷
    (in_program, codes "ABEND ABCODE(STEP)") ∷
    (in_program, codes "DEFINE PROCESS TRANSID(T1) PROGRAM(A)") ∷
    (in_program, codes "PURGE ACQPROCESS") ∷
    (in_program, codes "CHECK ACQPROCESS") ∷
    (in_program, codes "PUT CONTAINER(C) FROM('a) FROM(b')") ∷
    (in_program, codes "PUT CONTAINER(C) FROM(')')") ∷
    (in_program, codes "PUT CONTAINER(C) FROM(FILL(0))") ∷
    (in_program, codes "PUT CONTAINER(C) FROM('')") ∷
    (in_program, codes "WHEN DATA(X'') GOTO L") ∷
    (in_program, codes "ACQUIRE ACTIVITYID(/)") ∷
    (in_program, codes "ACQUIRE ACTIVITYID(/4294967295)") ∷
    (in_program, codes "ACQUIRE ACTIVITYID(/1/1/1/1/1/1/1/1/1/1/1/1/1/1/1/1/1/1/1/1/1/1/1/1/1/1/1/1/1/1/1/1)") ∷
    (in_program, codes "DEFINE TIMER(T) AFTER(0)") ∷
    (in_program, codes "DEFINE TIMER(T) AFTER(4294967295)") ∷
    (in_program, codes "DEFINE TIMER(T) AT(9999-12-31T23:59:59)") ∷
    (in_program, codes "DEFINE COMPOSITE EVENT(E) OR SUBEVENT(A) SUBEVENT(B) SUBEVENT(C) SUBEVENT(D) SUBEVENT(E) SUBEVENT(F) SUBEVENT(G) SUBEVENT(H)") ∷
    (in_program, codes "  RUN   ACQPROCESS  SYNCHRONOUS ") ∷
    (in_request, codes "ROLLBACK") ∷
    (in_request, codes "DEFINE ACTIVITY(A) TRANSID(T1) PROGRAM(B)") ∷
    (in_request, codes "GET CONTAINER(C)") ∷
    (in_request, codes "RETURN") ∷
    (outside_blocks, codes "CLOCK 2000-02-29T00:00:00") ∷
    (outside_blocks, codes "BROWSE PROCESS(P.1-2_3#@$)") ∷
    (outside_blocks, codes "REQUEST T P") ∷
    []

good_lines_said : list_all (λ r. is_ok (line_in (λ passes. true) r.0 r.1)) good_lines ≡ true
unfolding is_decimal number_in number_within behind_front cut_at cut_at_last closed_by first_word behind_word up_to argument argument_in at_next_word argument_to_last ended step_in steps_in path_in hex_digit hex_pair hex_pairs text_in pairs_in fill_in target spot either synchrony connective whether input due acquired early_condition late_condition condition program_line request_line end_line clock_line settle_line browse_line label_line goto_line when_line define_process acquire_process acquire_activity purge_process define_activity delete_activity run link check cancel reset suspend resume put_container get_container delete_container define_input define_composite add_subevent remove_subevent delete_event test_event retrieve_reattach retrieve_subevent define_timer force_timer check_timer delete_timer plain_return return_ending abend rollback reads_by two_in marked_in civil_in moment_in days_of_months is_name_byte
good_lines_said = refl
