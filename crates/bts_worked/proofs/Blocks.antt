-- Texts as lines, and lines as blocks, computed.
use Rattle.std.specs.Prelude.{◌≡◌, true, false, Some, Ok, map, [], ◌∷◌, codes, refl}
use Rattle.bts_names.specs.Grammar.{is_name_byte}
use Rattle.bts_command.specs.declared.command.Command.TheVariants as command
use Rattle.bts_command.specs.declared.command.Spot.TheVariants as spot
use Rattle.bts_command.specs.declared.command.Target.TheVariants as of
use Rattle.bts_forms.specs.declared.statement.Given.TheVariants as given
use Rattle.bts_forms.specs.declared.statement.Cond.TheVariants as when
use Rattle.bts_forms.specs.declared.statement.Statement.TheVariants as statement
use Rattle.bts_forms.specs.declared.line.Word.TheVariants as word
use Rattle.bts_forms.specs.declared.line.Place.TheVariants as place
use Rattle.bts_forms.specs.Pieces.{up_to, ended, behind_word, argument, argument_in, argument_to_last, at_next_word}
use Rattle.bts_forms.specs.Texts.{is_decimal, number_in, number_within, behind_front, cut_at, cut_at_last, closed_by, first_word}
use Rattle.bts_forms.specs.Arguments.{step_in, steps_in, path_in, text_in, pairs_in, hex_digit, hex_pair, hex_pairs, fill_in}
use Rattle.bts_script.specs.Blocks.{refused_at, statements, block_in, block_of, ends_block}
use Rattle.bts_script.specs.Lines.{lines_of}
use Rattle.bts_forms.specs.Forms.{program_line, request_line, end_line, clock_line, settle_line, browse_line, label_line, goto_line, when_line, define_process, acquire_process, acquire_activity, purge_process, define_activity, delete_activity, run, link, check, cancel, reset, suspend, resume, put_container, get_container, delete_container, define_input, define_composite, add_subevent, remove_subevent, delete_event, test_event, retrieve_reattach, retrieve_subevent, define_timer, force_timer, check_timer, delete_timer, plain_return, return_ending, abend, rollback, reads_by, target, spot, either, synchrony, connective, whether, input, due, acquired, early_condition, late_condition, condition, isnt_child, isnt_synchronous, behind_target, behind_container, asynchronous, run_through, check_through, container_through}

-- the lines of a text: what stands behind the last line feed is one only if it has a byte, and one carriage return goes with a line feed
lines : map lines_of (
    codes "" ∷
    codes "\n" ∷
    codes "A" ∷
    codes "A\n" ∷
    codes "A\n\nB" ∷
    codes "A\r\nB\r" ∷
    codes "\r\r\n" ∷
    codes "\r" ∷
    codes "\rA\n" ∷
    []) ≡
    [] ∷
    ([] ∷ []) ∷
    (codes "A" ∷ []) ∷
    (codes "A" ∷ []) ∷
    (codes "A" ∷ [] ∷ codes "B" ∷ []) ∷
    (codes "A" ∷ codes "B\r" ∷ []) ∷
    (codes "\r" ∷ []) ∷
    (codes "\r" ∷ []) ∷
    (codes "\rA" ∷ []) ∷
    []
lines = refl

-- the lines that end a block
ends : map (ends_block (λ passes. true)) (
    codes "END" ∷
    codes "  END " ∷
    codes "END X" ∷
    codes "end" ∷
    codes "END\t" ∷
    codes "* END" ∷
    codes "LABEL END" ∷
    []) ≡ true ∷ true ∷ false ∷ false ∷ false ∷ false ∷ false ∷ []
unfolding up_to ended program_line request_line end_line clock_line settle_line browse_line label_line goto_line when_line define_process acquire_process acquire_activity purge_process define_activity delete_activity run link check cancel reset suspend resume put_container get_container delete_container define_input define_composite add_subevent remove_subevent delete_event test_event retrieve_reattach retrieve_subevent define_timer force_timer check_timer delete_timer plain_return return_ending abend rollback reads_by target spot either synchrony connective whether input due acquired early_condition late_condition condition behind_word argument argument_in argument_to_last at_next_word behind_front cut_at cut_at_last closed_by first_word is_decimal number_in number_within step_in steps_in path_in text_in pairs_in hex_digit hex_pair hex_pairs fill_in is_name_byte statements
ends = refl

-- labels may stand behind the lines that lead to them
good_blocks : map (block_in (λ passes. true) place.Program 1) (
    (codes "GOTO X" ∷ codes "LABEL X" ∷ codes "WHEN FIRED GOTO X" ∷ []) ∷
    (codes "* GOTO Y" ∷ codes "LABEL X" ∷ codes "  " ∷ codes "GOTO X" ∷ codes "RETURN ENDACTIVITY" ∷ []) ∷
    []) ≡
    Ok (statement.Goto (codes "X") ∷ statement.Label (codes "X") ∷ statement.When when.Fired (codes "X") ∷ []) ∷
    Ok (statement.Label (codes "X") ∷ statement.Goto (codes "X") ∷ statement.Command (command.Return true) ∷ []) ∷
    []
unfolding up_to ended program_line request_line end_line clock_line settle_line browse_line label_line goto_line when_line define_process acquire_process acquire_activity purge_process define_activity delete_activity run link check cancel reset suspend resume put_container get_container delete_container define_input define_composite add_subevent remove_subevent delete_event test_event retrieve_reattach retrieve_subevent define_timer force_timer check_timer delete_timer plain_return return_ending abend rollback reads_by target spot either synchrony connective whether input due acquired early_condition late_condition condition behind_word argument argument_in argument_to_last at_next_word behind_front cut_at cut_at_last closed_by first_word is_decimal number_in number_within step_in steps_in path_in text_in pairs_in hex_digit hex_pair hex_pairs fill_in is_name_byte statements
good_blocks = refl

-- a request has no RETURN ENDACTIVITY, but ROLLBACK
requests : map (block_in (λ passes. true) place.Request 1) (
    (codes "ROLLBACK" ∷ []) ∷
    (codes "" ∷ codes "RETURN ENDACTIVITY" ∷ []) ∷
    (codes "GOTO X" ∷ codes "RETURN ENDACTIVITY X" ∷ codes "LABEL X" ∷ []) ∷
    []) ≡
    Ok (statement.Command command.Rollback ∷ []) ∷
    refused_at 2 word.Place ∷
    refused_at 2 word.Word ∷
    []
unfolding up_to ended program_line request_line end_line clock_line settle_line browse_line label_line goto_line when_line define_process acquire_process acquire_activity purge_process define_activity delete_activity run link check cancel reset suspend resume put_container get_container delete_container define_input define_composite add_subevent remove_subevent delete_event test_event retrieve_reattach retrieve_subevent define_timer force_timer check_timer delete_timer plain_return return_ending abend rollback reads_by target spot either synchrony connective whether input due acquired early_condition late_condition condition behind_word argument argument_in argument_to_last at_next_word behind_front cut_at cut_at_last closed_by first_word is_decimal number_in number_within step_in steps_in path_in text_in pairs_in hex_digit hex_pair hex_pairs fill_in is_name_byte statements
requests = refl

-- blocks in which all forms are let through
bad_blocks : map (block_in (λ passes. true) place.Program 1) (
    (codes "GOTO X" ∷ []) ∷
    (codes "LABEL L" ∷ codes "GOTO M" ∷ codes "LABEL L" ∷ codes "LABEL M" ∷ []) ∷
    (codes "GOTO X" ∷ codes "HELLO" ∷ codes "LABEL X" ∷ []) ∷
    (codes "GOTO X" ∷ codes "HELLO" ∷ []) ∷
    (codes "WHEN FIRED GOTO X" ∷ []) ∷
    (codes "* GOTO X" ∷ codes "" ∷ codes "   " ∷ codes "  * x" ∷ codes "ROLLBACK" ∷ []) ∷
    (codes "END" ∷ []) ∷
    (codes "PROGRAM A" ∷ []) ∷
    (codes "DEFINE TIMER(DFHX) AFTER(01)" ∷ []) ∷
    (codes "DEFINE TIMER(X) AFTER(01)" ∷ []) ∷
    (codes "PUT CONTAINER(A) FROM('a') ACTIVITY(B)" ∷ []) ∷
    (codes "PUT CONTAINER(A) FROM('a') ACQPROCESS" ∷ []) ∷
    (codes "PUT CONTAINER(A) FROM('a')x" ∷ []) ∷
    (codes "PUT CONTAINER(A) FROM( 'a')" ∷ []) ∷
    (codes "PUT CONTAINER(A) FROM(FILL(03))" ∷ []) ∷
    (codes "WHEN DATA('a') GOTO L)" ∷ []) ∷
    (codes "GET CONTAINER (A)" ∷ []) ∷
    (codes "GET CONTAINER(A)x" ∷ []) ∷
    (codes "GET CONTAINER()" ∷ []) ∷
    (codes "RETURN" ∷ (9 ∷ []) ∷ []) ∷
    []) ≡
    refused_at 1 word.Label ∷ refused_at 3 word.Twice ∷ refused_at 2 word.Word ∷ refused_at 1 word.Label ∷ refused_at 1 word.Label ∷ refused_at 5 word.Place ∷
    refused_at 1 word.Place ∷ refused_at 1 word.Place ∷ refused_at 1 word.Name ∷ refused_at 1 word.Number ∷ refused_at 1 word.Literal ∷ refused_at 1 word.Word ∷
    refused_at 1 word.Word ∷ refused_at 1 word.Literal ∷ refused_at 1 word.Literal ∷ refused_at 1 word.Word ∷ refused_at 1 word.Word ∷ refused_at 1 word.Word ∷
    refused_at 1 word.Name ∷ refused_at 2 word.Character ∷ []
unfolding up_to ended program_line request_line end_line clock_line settle_line browse_line label_line goto_line when_line define_process acquire_process acquire_activity purge_process define_activity delete_activity run link check cancel reset suspend resume put_container get_container delete_container define_input define_composite add_subevent remove_subevent delete_event test_event retrieve_reattach retrieve_subevent define_timer force_timer check_timer delete_timer plain_return return_ending abend rollback reads_by target spot either synchrony connective whether input due acquired early_condition late_condition condition behind_word argument argument_in argument_to_last at_next_word behind_front cut_at cut_at_last closed_by first_word is_decimal number_in number_within step_in steps_in path_in text_in pairs_in hex_digit hex_pair hex_pairs fill_in is_name_byte statements
bad_blocks = refl

-- blocks as they are let through now
good_blocks_now : map (block_of place.Request 7) (
    (codes "DEFINE PROCESS TRANSID(ORD1) PROGRAM(ROOT)" ∷ codes "PUT CONTAINER(MSG) ACQPROCESS FROM('hello')" ∷ codes "GET CONTAINER(MSG) ACQPROCESS" ∷ codes "RETURN" ∷ []) ∷
    (codes "* first" ∷ codes "LABEL X" ∷ codes "GOTO X" ∷ []) ∷
    (codes "ROLLBACK" ∷ []) ∷
    (codes "PUT CONTAINER(MSG) FROM(LAST)" ∷ codes "RUN ACQPROCESS ASYNCHRONOUS INPUTEVENT(GO)" ∷ codes "CHECK ACQACTIVITY" ∷ []) ∷
    []) ≡
    Ok (statement.Command (command.DefineProcess (codes "ORD1") (codes "ROOT")) ∷ statement.Put (codes "MSG") (spot.Of of.AcqProcess) (given.Literal (codes "hello")) ∷ statement.Command (command.GetContainer (codes "MSG") (spot.Of of.AcqProcess)) ∷ statement.Command (command.Return false) ∷ []) ∷
    Ok (statement.Label (codes "X") ∷ statement.Goto (codes "X") ∷ []) ∷
    Ok (statement.Command command.Rollback ∷ []) ∷
    Ok (statement.Put (codes "MSG") spot.Own given.Last ∷ statement.Command (command.Run of.AcqProcess false (Some (codes "GO"))) ∷ statement.Command (command.Check of.AcqActivity) ∷ []) ∷
    []
unfolding up_to ended program_line request_line end_line clock_line settle_line browse_line label_line goto_line when_line define_process acquire_process acquire_activity purge_process define_activity delete_activity run link check cancel reset suspend resume put_container get_container delete_container define_input define_composite add_subevent remove_subevent delete_event test_event retrieve_reattach retrieve_subevent define_timer force_timer check_timer delete_timer plain_return return_ending abend rollback reads_by target spot either synchrony connective whether input due acquired early_condition late_condition condition behind_word argument argument_in argument_to_last at_next_word behind_front cut_at cut_at_last closed_by first_word is_decimal number_in number_within step_in steps_in path_in text_in pairs_in hex_digit hex_pair hex_pairs fill_in is_name_byte statements isnt_child isnt_synchronous behind_target behind_container asynchronous run_through check_through container_through
good_blocks_now = refl

bad_blocks_now : map (block_of place.Request 7) (
    (codes "RETURN ENDACTIVITY" ∷ []) ∷
    (codes "GET CONTAINER(MSG)" ∷ codes "HELLO" ∷ []) ∷
    (codes "CLOCK x" ∷ []) ∷
    (codes "REQUEST A B" ∷ []) ∷
    (codes "PUT CONTAINER(MSG) ACQPROCESS FROM(abc)" ∷ []) ∷
    (codes "PUT CONTAINER(MSG) ACTIVITY(A) FROM(abc)" ∷ []) ∷
    (codes "RUN ACQPROCESS SYNCHRONOUS" ∷ []) ∷
    (codes "RUN ACTIVITY(A) ASYNCHRONOUS" ∷ []) ∷
    (codes "RUN ACQPROCESS ASYNCHRONOUS INPUTEVENT(DFHX)" ∷ []) ∷
    (codes "CHECK ACTIVITY(DFHX)" ∷ []) ∷
    []) ≡
    refused_at 7 word.Place ∷ refused_at 8 word.Word ∷ refused_at 7 word.NotYet ∷ refused_at 7 word.Place ∷ refused_at 7 word.Literal ∷ refused_at 7 word.NotYet ∷ refused_at 7 word.NotYet ∷ refused_at 7 word.NotYet ∷
    refused_at 7 word.Name ∷ refused_at 7 word.NotYet ∷ []
unfolding up_to ended program_line request_line end_line clock_line settle_line browse_line label_line goto_line when_line define_process acquire_process acquire_activity purge_process define_activity delete_activity run link check cancel reset suspend resume put_container get_container delete_container define_input define_composite add_subevent remove_subevent delete_event test_event retrieve_reattach retrieve_subevent define_timer force_timer check_timer delete_timer plain_return return_ending abend rollback reads_by target spot either synchrony connective whether input due acquired early_condition late_condition condition behind_word argument argument_in argument_to_last at_next_word behind_front cut_at cut_at_last closed_by first_word is_decimal number_in number_within step_in steps_in path_in text_in pairs_in hex_digit hex_pair hex_pairs fill_in is_name_byte statements isnt_child isnt_synchronous behind_target behind_container asynchronous run_through check_through container_through
bad_blocks_now = refl
