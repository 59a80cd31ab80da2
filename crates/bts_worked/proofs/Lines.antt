-- Lines of scripts as they are read, computed.
use Rattle.std.specs.Prelude.{◌≡◌, Bool, Option, true, false, Some, None, Ok, Err, map, [], ◌∷◌, codes, refl}
use Rattle.bts_names.specs.Grammar.{is_name_byte}
use Rattle.bts_names.specs.declared.reply.Resp.TheVariants as resp
use Rattle.bts_command.specs.declared.command.Command.TheVariants as command
use Rattle.bts_command.specs.declared.command.Due.TheVariants as due
use Rattle.bts_command.specs.declared.command.Spot.TheVariants as spot
use Rattle.bts_command.specs.declared.command.Target.TheVariants as of
use Rattle.bts_timer.specs.Calendar.{days_of_months}
use Rattle.bts_timer.specs.Moments.{two_in, marked_in, civil_in, moment_in}
use Rattle.bts_forms.specs.declared.statement.Given.TheVariants as given
use Rattle.bts_forms.specs.declared.statement.Cond.TheVariants as when
use Rattle.bts_forms.specs.declared.statement.Statement.TheVariants as statement
use Rattle.bts_forms.specs.declared.line.Word.TheVariants as word
use Rattle.bts_forms.specs.declared.line.Place.TheVariants as place
use Rattle.bts_forms.specs.Pieces.{up_to, ended, behind_word, argument, argument_in, argument_to_last, at_next_word}
use Rattle.bts_forms.specs.Texts.{is_decimal, number_in, number_within, behind_front, cut_at, cut_at_last, closed_by, first_word}
use Rattle.bts_forms.specs.Arguments.{step_in, steps_in, path_in, text_in, pairs_in, hex_digit, hex_pair, hex_pairs, fill_in}
use Rattle.bts_script.specs.Blocks.{statement_in}
use Rattle.bts_forms.specs.Forms.{program_line, request_line, end_line, clock_line, settle_line, browse_line, label_line, goto_line, when_line, define_process, acquire_process, acquire_activity, purge_process, define_activity, delete_activity, run, link, check, cancel, reset, suspend, resume, put_container, get_container, delete_container, define_input, define_composite, add_subevent, remove_subevent, delete_event, test_event, retrieve_reattach, retrieve_subevent, define_timer, force_timer, check_timer, delete_timer, plain_return, return_ending, abend, rollback, reads_by, target, spot, either, synchrony, connective, whether, input, due, acquired, early_condition, late_condition, condition, Saying, forms, form_of, isnt_child, isnt_synchronous, behind_target, behind_container, asynchronous, run_through, check_through, container_through}

-- one line of many kinds
lines : map (statement_in (λ passes. true) place.Program) (
    codes "PUT CONTAINER(A) FROM(FILL(3))" ∷
    codes "PUT CONTAINER(A) PROCESS FROM(LAST)" ∷
    codes "  PUT   CONTAINER(A)  ACTIVITY(B) FROM('a ) (b')  " ∷
    codes "PUT CONTAINER(A) ACQACTIVITY FROM(X'0aFf')" ∷
    codes "WHEN DATA('(a) b') GOTO L" ∷
    codes "WHEN FIRED GOTO L" ∷
    codes "WHEN RESP(EVENTERR) GOTO L" ∷
    codes "ACQUIRE ACTIVITYID(/)" ∷
    codes "ACQUIRE ACTIVITYID(/1/20)" ∷
    codes "ACQUIRE ACTIVITYID(/01)" ∷
    codes "ACQUIRE ACTIVITYID(1)" ∷
    codes "DEFINE TIMER(T) EVENT(E) AT(1970-01-01T00:01:01)" ∷
    codes "DEFINE TIMER(T) AFTER(0)" ∷
    codes "FORCE TIMER(T) ACQACTIVITY" ∷
    codes "FORCE TIMER(T) ACTIVITY(A)" ∷
    codes "RUN ACTIVITY(A) SYNCHRONOUS INPUTEVENT(E)" ∷
    codes "LINK ACQPROCESS" ∷
    codes "DEFINE COMPOSITE EVENT(E) OR" ∷
    codes "DEFINE COMPOSITE EVENT(E) OR SUBEVENT(A) SUBEVENT(A) SUBEVENT(A) SUBEVENT(A) SUBEVENT(A) SUBEVENT(A) SUBEVENT(A) SUBEVENT(A) SUBEVENT(A)" ∷
    codes "CHECK TIMER(T)" ∷
    codes "CHECK TIMER()" ∷
    codes "PUT CONTAINER(A) FROM(FILL(1100001))" ∷
    codes "SETTLE" ∷
    []) ≡
    Ok (statement.Put (codes "A") spot.Own (given.Fill 3)) ∷
    Ok (statement.Put (codes "A") spot.Process given.Last) ∷
    Ok (statement.Put (codes "A") (spot.Of (of.Activity (66 ∷ []))) (given.Literal (codes "a ) (b"))) ∷
    Ok (statement.Put (codes "A") (spot.Of of.AcqActivity) (given.Literal (10 ∷ 255 ∷ []))) ∷
    Ok (statement.When (when.Gave (codes "(a) b")) (76 ∷ [])) ∷
    Ok (statement.When when.Fired (76 ∷ [])) ∷
    Ok (statement.When (when.Resp resp.Eventerr) (76 ∷ [])) ∷
    Ok (statement.Command (command.AcquireActivity [])) ∷
    Ok (statement.Command (command.AcquireActivity (1 ∷ 20 ∷ []))) ∷
    Err word.Name ∷
    Err word.Name ∷
    Ok (statement.Command (command.DefineTimer (84 ∷ []) (Some (69 ∷ [])) (due.At 61))) ∷
    Ok (statement.Command (command.DefineTimer (84 ∷ []) None (due.After 0))) ∷
    Ok (statement.Command (command.ForceTimer (84 ∷ []) (Some of.AcqActivity))) ∷
    Err word.Word ∷
    Ok (statement.Command (command.Run (of.Activity (65 ∷ [])) true (Some (69 ∷ [])))) ∷
    Ok (statement.Command (command.Link of.AcqProcess None)) ∷
    Ok (statement.Command (command.DefineComposite (69 ∷ []) false [])) ∷
    Err word.Word ∷
    Ok (statement.Command (command.CheckTimer (84 ∷ []))) ∷
    Err word.Name ∷
    Err word.Literal ∷
    Err word.Place ∷
    []
unfolding up_to ended program_line request_line end_line clock_line settle_line browse_line label_line goto_line when_line define_process acquire_process acquire_activity purge_process define_activity delete_activity run link check cancel reset suspend resume put_container get_container delete_container define_input define_composite add_subevent remove_subevent delete_event test_event retrieve_reattach retrieve_subevent define_timer force_timer check_timer delete_timer plain_return return_ending abend rollback reads_by target spot either synchrony connective whether input due acquired early_condition late_condition condition behind_word argument argument_in argument_to_last at_next_word behind_front cut_at cut_at_last closed_by first_word is_decimal number_in number_within step_in steps_in path_in text_in pairs_in hex_digit hex_pair hex_pairs fill_in is_name_byte days_of_months two_in marked_in civil_in moment_in
lines = refl

-- what is let through: the form decides, and no argument
abbrev passes : Option Saying → Bool
passes None = false
passes (Some x) = x.1

stage : map (λ line. passes (form_of forms line)) (
    codes "PUT CONTAINER(A) ACQPROCESS FROM('x')" ∷
    codes "PUT CONTAINER(A) ACQPROCESS FROM(what)" ∷
    codes "PUT CONTAINER(A) FROM(LAST)" ∷
    codes "PUT CONTAINER(DFHA) PROCESS FROM('x')" ∷
    codes "PUT CONTAINER(A) ACTIVITY(B) FROM('x')" ∷
    codes "PUT CONTAINER(A) ACTIVITY(DFHX) FROM(what)" ∷
    codes "PUT CONTAINER(A) FROM('a') ACTIVITY(B)" ∷
    codes "GET CONTAINER(ACTIVITY) ACQACTIVITY" ∷
    codes "GET CONTAINER() ACTIVITY(B)" ∷
    codes "DELETE CONTAINER(A)" ∷
    codes "DELETE CONTAINER(A) ACTIVITY(B)" ∷
    codes "RUN ACQPROCESS ASYNCHRONOUS" ∷
    codes "RUN ACQACTIVITY ASYNCHRONOUS INPUTEVENT(DFHX)" ∷
    codes "RUN ACQPROCESS SYNCHRONOUS" ∷
    codes "RUN ACTIVITY(A) ASYNCHRONOUS" ∷
    codes "RUN ACTIVITY() SYNCHRONOUS INPUTEVENT(E)" ∷
    codes "CHECK ACQACTIVITY" ∷
    codes "CHECK ACTIVITY(DFHX)" ∷
    codes "CHECK TIMER(T)" ∷
    codes "CANCEL ACQPROCESS" ∷
    codes "FORCE TIMER(T)" ∷
    codes "WHEN EVENT(DFHX) GOTO L" ∷
    codes "RETURN ENDACTIVITY" ∷
    codes "SETTLE" ∷
    codes "CLOCK x" ∷
    codes "BROWSE" ∷
    codes "HELLO" ∷
    []) ≡
    true ∷ true ∷ true ∷ true ∷ false ∷ false ∷ true ∷ true ∷ false ∷ true ∷ false ∷ true ∷ true ∷ false ∷ false ∷ false ∷ true ∷ false ∷ false ∷ false ∷ false ∷ true ∷ true ∷ true ∷ false ∷ false ∷ false ∷ []
unfolding up_to ended program_line request_line end_line clock_line settle_line browse_line label_line goto_line when_line define_process acquire_process acquire_activity purge_process define_activity delete_activity run link check cancel reset suspend resume put_container get_container delete_container define_input define_composite add_subevent remove_subevent delete_event test_event retrieve_reattach retrieve_subevent define_timer force_timer check_timer delete_timer plain_return return_ending abend rollback reads_by target spot either synchrony connective whether input due acquired early_condition late_condition condition behind_word argument argument_in argument_to_last at_next_word behind_front cut_at cut_at_last closed_by first_word is_decimal number_in number_within step_in steps_in path_in text_in pairs_in hex_digit hex_pair hex_pairs fill_in is_name_byte isnt_child isnt_synchronous behind_target behind_container asynchronous run_through check_through container_through
stage = refl
