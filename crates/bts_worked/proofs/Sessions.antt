-- Sessions computed from their texts, where all forms are let through, and as they are now.
use Rattle.std.specs.Prelude.{◌≡◌, ℕ, true, false, None, Some, Result, Ok, map, List, [], ◌∷◌, length, codes, refl}
use Rattle.bts_names.specs.Names.{Bytes}
use Rattle.bts_names.specs.declared.state.Mode.TheVariants as mode
use Rattle.bts_command.specs.declared.command.Command.TheVariants as command
use Rattle.bts_command.specs.declared.command.Spot.TheVariants as spots
use Rattle.bts_command.specs.declared.command.Target.TheVariants as of
use Rattle.bts_forms.specs.declared.statement.Given.TheVariants as givens
use Rattle.bts_forms.specs.declared.statement.Cond.TheVariants as when
use Rattle.bts_forms.specs.declared.statement.Statement.TheVariants as statement
use Rattle.bts_forms.specs.declared.line.Word.{Word}
use Rattle.bts_forms.specs.declared.line.Word.TheVariants as word
use Rattle.bts_script.specs.Blocks.{Refusal, refused_at}
use Rattle.bts_session.specs.Sessions.{nothing, session_in, session_of}
use Rattle.bts_session.specs.declared.session.Item.TheVariants as item
use Rattle.bts_session.specs.declared.session.Session.{Session}
use Rattle.bts_forms.specs.Texts.{is_decimal, number_in, number_within, behind_front, cut_at, cut_at_last, closed_by, first_word}
use Rattle.bts_forms.specs.Pieces.{behind_word, up_to, argument, argument_in, at_next_word, argument_to_last, ended}
use Rattle.bts_forms.specs.Arguments.{step_in, steps_in, path_in, hex_digit, hex_pair, hex_pairs, text_in, pairs_in, fill_in}
use Rattle.bts_forms.specs.Forms.{target, spot, either, synchrony, connective, whether, input, due, acquired, early_condition, late_condition, condition, program_line, request_line, end_line, clock_line, settle_line, browse_line, label_line, goto_line, when_line, define_process, acquire_process, acquire_activity, purge_process, define_activity, delete_activity, run, link, check, cancel, reset, suspend, resume, put_container, get_container, delete_container, define_input, define_composite, add_subevent, remove_subevent, delete_event, test_event, retrieve_reattach, retrieve_subevent, define_timer, force_timer, check_timer, delete_timer, plain_return, return_ending, abend, rollback, reads_by, isnt_child, isnt_synchronous, behind_target, behind_container, asynchronous, run_through, check_through, container_through}
use Rattle.bts_timer.specs.Moments.{two_in, marked_in, civil_in, moment_in}
use Rattle.bts_timer.specs.Calendar.{days_of_months}
use Rattle.bts_names.specs.Grammar.{is_name_byte}
use Rattle.bts_script.specs.Blocks.{statements}
use Rattle.bts_session.specs.Sessions.{outside, sections_of, section_in, sections_in}

abbrev in_full : Bytes → Result Session Refusal
in_full = session_in (λ passes. true)

-- texts that say nothing
silent : map session_of (codes "" ∷ codes "\n" ∷ codes "* all in one" ∷ codes "\r\n  \n  * two\r\n" ∷ []) ≡ Ok nothing ∷ Ok nothing ∷ Ok nothing ∷ Ok nothing ∷ []
unfolding is_decimal number_in number_within behind_front cut_at cut_at_last closed_by first_word behind_word up_to argument argument_in at_next_word argument_to_last ended step_in steps_in path_in hex_digit hex_pair hex_pairs text_in pairs_in fill_in target spot either synchrony connective whether input due acquired early_condition late_condition condition program_line request_line end_line clock_line settle_line browse_line label_line goto_line when_line define_process acquire_process acquire_activity purge_process define_activity delete_activity run link check cancel reset suspend resume put_container get_container delete_container define_input define_composite add_subevent remove_subevent delete_event test_event retrieve_reattach retrieve_subevent define_timer force_timer check_timer delete_timer plain_return return_ending abend rollback reads_by two_in marked_in civil_in moment_in days_of_months is_name_byte statements outside sections_of section_in sections_in
silent = refl

-- one request, as it is let through now
first_run : session_of (codes "REQUEST ORDERS P1\nDEFINE PROCESS TRANSID(ORD1) PROGRAM(ROOT)\n  PUT  CONTAINER(MSG) ACQPROCESS FROM('(hello)')\r\n* that was it\nGET CONTAINER(MSG) ACQPROCESS\nEND") ≡
    Ok (record {
      items = item.Request (record { ptype = codes "ORDERS"; pname = codes "P1" }) (
          statement.Command (command.DefineProcess (codes "ORD1") (codes "ROOT")) ∷
          statement.Put (codes "MSG") (spots.Of of.AcqProcess) (givens.Literal (codes "(hello)")) ∷
          statement.Command (command.GetContainer (codes "MSG") (spots.Of of.AcqProcess)) ∷
          []) ∷ [];
      programs = [];
    })
unfolding is_decimal number_in number_within behind_front cut_at cut_at_last closed_by first_word behind_word up_to argument argument_in at_next_word argument_to_last ended step_in steps_in path_in hex_digit hex_pair hex_pairs text_in pairs_in fill_in target spot either synchrony connective whether input due acquired early_condition late_condition condition program_line request_line end_line clock_line settle_line browse_line label_line goto_line when_line define_process acquire_process acquire_activity purge_process define_activity delete_activity run link check cancel reset suspend resume put_container get_container delete_container define_input define_composite add_subevent remove_subevent delete_event test_event retrieve_reattach retrieve_subevent define_timer force_timer check_timer delete_timer plain_return return_ending abend rollback reads_by two_in marked_in civil_in moment_in days_of_months is_name_byte statements outside sections_of section_in sections_in isnt_child isnt_synchronous behind_target behind_container asynchronous run_through check_through container_through
first_run = refl

-- items in order, among them two requests for one process, with a program between them
items : in_full (codes "CLOCK 1970-01-01T00:01:01\nREQUEST T P\nEND\nPROGRAM A\nLABEL L\nGOTO L\nEND\nREQUEST T P\nROLLBACK\nEND\nSETTLE\nBROWSE TYPE(T) MODE(DORMANT) SUSPENDED\n") ≡
    Ok (record {
      items =
          item.Clock 61 ∷
          item.Request (record { ptype = codes "T"; pname = codes "P" }) [] ∷
          item.Request (record { ptype = codes "T"; pname = codes "P" }) (statement.Command command.Rollback ∷ []) ∷
          item.Settle ∷
          item.Browse (record { ptype = Some (codes "T"); pname = None; mode = Some mode.Dormant; status = None; suspended = true }) ∷
          [];
      programs = (codes "A", statement.Label (codes "L") ∷ statement.Goto (codes "L") ∷ []) ∷ [];
    })
unfolding is_decimal number_in number_within behind_front cut_at cut_at_last closed_by first_word behind_word up_to argument argument_in at_next_word argument_to_last ended step_in steps_in path_in hex_digit hex_pair hex_pairs text_in pairs_in fill_in target spot either synchrony connective whether input due acquired early_condition late_condition condition program_line request_line end_line clock_line settle_line browse_line label_line goto_line when_line define_process acquire_process acquire_activity purge_process define_activity delete_activity run link check cancel reset suspend resume put_container get_container delete_container define_input define_composite add_subevent remove_subevent delete_event test_event retrieve_reattach retrieve_subevent define_timer force_timer check_timer delete_timer plain_return return_ending abend rollback reads_by two_in marked_in civil_in moment_in days_of_months is_name_byte statements outside sections_of section_in sections_in
items = refl

-- two programs, and a request that runs the second; a label counts in its own block alone
order : in_full (codes "PROGRAM LEAF\nRETRIEVE REATTACH EVENT\nLABEL JOIN\nRETURN ENDACTIVITY\nEND\nPROGRAM ORDER\nWHEN EVENT(BOTH) GOTO JOIN\nRUN ACTIVITY(BILL) ASYNCHRONOUS\nRETURN\nLABEL JOIN\nCHECK ACTIVITY(BILL)\nEND\nREQUEST ORDERS P6\nDEFINE PROCESS TRANSID(ORD1) PROGRAM(ORDER)\nRUN ACQPROCESS ASYNCHRONOUS\nEND") ≡
    Ok (record {
      items = item.Request (record { ptype = codes "ORDERS"; pname = codes "P6" }) (
          statement.Command (command.DefineProcess (codes "ORD1") (codes "ORDER")) ∷
          statement.Command (command.Run of.AcqProcess false None) ∷
          []) ∷ [];
      programs =
          (codes "LEAF", statement.Command command.RetrieveReattach ∷ statement.Label (codes "JOIN") ∷ statement.Command (command.Return true) ∷ []) ∷ (
            codes "ORDER",
            statement.When (when.Event (codes "BOTH")) (codes "JOIN") ∷
                statement.Command (command.Run (of.Activity (codes "BILL")) false None) ∷
                statement.Command (command.Return false) ∷
                statement.Label (codes "JOIN") ∷
                statement.Command (command.Check (of.Activity (codes "BILL"))) ∷
                [],
          ) ∷ [];
    })
unfolding is_decimal number_in number_within behind_front cut_at cut_at_last closed_by first_word behind_word up_to argument argument_in at_next_word argument_to_last ended step_in steps_in path_in hex_digit hex_pair hex_pairs text_in pairs_in fill_in target spot either synchrony connective whether input due acquired early_condition late_condition condition program_line request_line end_line clock_line settle_line browse_line label_line goto_line when_line define_process acquire_process acquire_activity purge_process define_activity delete_activity run link check cancel reset suspend resume put_container get_container delete_container define_input define_composite add_subevent remove_subevent delete_event test_event retrieve_reattach retrieve_subevent define_timer force_timer check_timer delete_timer plain_return return_ending abend rollback reads_by two_in marked_in civil_in moment_in days_of_months is_name_byte statements outside sections_of section_in sections_in
order = refl

-- bad sessions: the text, the first bad line and the reason
abbrev Row : Type 0
Row = Bytes × ℕ × Word

abbrev bad_sessions : List Row
bad_sessions =
    (codes "PROGRAM A", 1, word.Open) ∷
    (codes "PROGRAM A\nHELLO", 1, word.Open) ∷
    (codes "SETTLE\nPROGRAM A\nRETURN\nEND\nREQUEST T P", 5, word.Open) ∷
    (codes "PROGRAM A\nRETURN\nPROGRAM B\nRETURN", 1, word.Open) ∷
    (codes "PROGRAM DFH", 1, word.Name) ∷
    (codes "PROGRAM A\nPROGRAM B\nEND", 2, word.Place) ∷
    (codes "PROGRAM A\nPROGRAM B\nEND\nEND", 2, word.Place) ∷
    (codes "SETTLE\nEND", 2, word.Place) ∷
    (codes "PROGRAM A\nCLOCK x\nEND", 2, word.Place) ∷
    (codes "PROGRAM A\nROLLBACK\nEND", 2, word.Place) ∷
    (codes "REQUEST T P\nRETURN ENDACTIVITY\nEND", 2, word.Place) ∷
    (codes "REQUEST T P\nEND\nLABEL L", 3, word.Place) ∷
    (codes "PROGRAM A\nEND\nPROGRAM A\nEND", 3, word.Twice) ∷
    (codes "PROGRAM A\nEND\nPROGRAM A", 3, word.Twice) ∷
    (codes "PROGRAM A\nEND\nPROGRAM A\nHELLO\nEND", 3, word.Twice) ∷
    (codes "PROGRAM A\nEND\n\n* once more\n  PROGRAM   A  \r\nEND", 5, word.Twice) ∷
    (codes "PROGRAM A\nHELLO\nEND\nPROGRAM A\nEND", 2, word.Word) ∷
    (codes "PROGRAM A\nLABEL L\nGOTO M\nLABEL L\nLABEL M\nEND", 4, word.Twice) ∷
    (codes "PROGRAM A\nLABEL L\nLABEL L\nGOTO X\nEND", 3, word.Twice) ∷
    (codes "PROGRAM A\nGOTO X\nEND", 2, word.Label) ∷
    (codes "PROGRAM A\nWHEN FIRED GOTO X\nEND", 2, word.Label) ∷
    (codes "PROGRAM A\nGOTO X\nHELLO\nEND", 2, word.Label) ∷
    (codes "PROGRAM A\nGOTO X\nHELLO\nLABEL X\nEND", 3, word.Word) ∷
    (codes "PROGRAM A\nGOTO X\nLABEL X Y\nEND", 2, word.Label) ∷
    (codes "PROGRAM A\nLABEL X\nEND\nREQUEST T P\nGOTO X\nEND", 5, word.Label) ∷
    (codes "SETTLE\t", 1, word.Character) ∷
    (codes "CLOCK 1970-01-01T00:00:00\nCLOCK 1970-01-01T00:00:60\nHELLO", 2, word.Moment) ∷
    (codes "BROWSE\nBROWSE MODE(ACTIVE)\nEND", 2, word.Known) ∷
    (codes "REQUEST T P\nDEFINE TIMER(T) AFTER(01)\nEND\nEND", 2, word.Number) ∷
    []

bad_sessions_refused : map (λ (r : Row). in_full r.0) bad_sessions ≡ map (λ (r : Row). refused_at r.1 r.2) bad_sessions
unfolding is_decimal number_in number_within behind_front cut_at cut_at_last closed_by first_word behind_word up_to argument argument_in at_next_word argument_to_last ended step_in steps_in path_in hex_digit hex_pair hex_pairs text_in pairs_in fill_in target spot either synchrony connective whether input due acquired early_condition late_condition condition program_line request_line end_line clock_line settle_line browse_line label_line goto_line when_line define_process acquire_process acquire_activity purge_process define_activity delete_activity run link check cancel reset suspend resume put_container get_container delete_container define_input define_composite add_subevent remove_subevent delete_event test_event retrieve_reattach retrieve_subevent define_timer force_timer check_timer delete_timer plain_return return_ending abend rollback reads_by two_in marked_in civil_in moment_in days_of_months is_name_byte statements outside sections_of section_in sections_in
bad_sessions_refused = refl

-- a text of one byte too many is refused whatever it says
too_long : (bytes : Bytes) → length bytes ≡ 16_777_217 → session_of bytes ≡ refused_at 0 word.Long
too_long bytes h = rw h refl
