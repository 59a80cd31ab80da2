-- The serial history of a session, computed unit by unit, and what is printed of it.
use Rattle.std.specs.Prelude.{ℕ, zero, suc, true, max, List, [], ◌∷◌, ◌++◌, Option, Some, None, Result, Ok, Err}
use Rattle.std.specs.List.{flat_map}
use Rattle.std.specs.Option.{unwrap_or}
use Rattle.std.specs.Fmt.{digits}
use Rattle.bts_names.specs.Grammar.{is_name_byte}
use Rattle.bts_names.specs.Names.{Bytes}
use Rattle.bts_timer.specs.Calendar.{civil_of, days_of_months, month_within, year_of}
use Rattle.bts_timer.specs.Moments.{two_in, marked_in, civil_in, civil_text, moment_in}
use Rattle.bts_command.specs.declared.command.Call.{Call}
use Rattle.bts_command.specs.declared.command.Command.{Command}
use Rattle.bts_command.specs.declared.ended.End.{End}
use Rattle.bts_command.specs.declared.ended.End.TheVariants.{Commit}
use Rattle.bts_command.specs.declared.ended.Ended.{Ended}
use Rattle.bts_command.specs.declared.ended.UnitKind.{UnitKind}
use Rattle.bts_command.specs.declared.ended.UnitKind.TheVariants as unit
use Rattle.bts_event.specs.Pool.{settled}
use Rattle.bts_tree.specs.Repositories.{Processes, process_at, rows}
use Rattle.bts_rows.specs.RequestRows.{request_row}
use Rattle.bts_rows.specs.Rows.{answer, thing_row}
use Rattle.bts_rows.specs.OnActivity.{on_activity}
use Rattle.bts_rows.specs.OnContainers.{on_containers, on_shown}
use Rattle.bts_rows.specs.OnFamily.{on_family}
use Rattle.bts_forms.specs.Texts.{is_decimal, number_in, number_within, behind_front, cut_at, cut_at_last, closed_by, first_word}
use Rattle.bts_forms.specs.Pieces.{behind_word, up_to, argument, argument_in, at_next_word, argument_to_last, ended}
use Rattle.bts_forms.specs.Arguments.{step_in, steps_in, path_in, hex_digit, hex_pair, hex_pairs, text_in, pairs_in, fill_in}
use Rattle.bts_forms.specs.Forms.{target, spot, either, synchrony, connective, whether, input, due, acquired, early_condition, late_condition, condition, program_line, request_line, end_line, clock_line, settle_line, browse_line, label_line, goto_line, when_line, define_process, acquire_process, acquire_activity, purge_process, define_activity, delete_activity, link, check, cancel, reset, suspend, resume, put_container, get_container, delete_container, define_input, define_composite, add_subevent, remove_subevent, delete_event, test_event, retrieve_reattach, retrieve_subevent, define_timer, force_timer, check_timer, delete_timer, plain_return, return_ending, abend, rollback, reads_by}
use Rattle.bts_forms.specs.Forms as forms
use Rattle.bts_script.specs.Blocks.{Refusal, statements}
use Rattle.bts_session.specs.Sessions.{nothing, outside, sections_of, section_in, sections_in, session_in}
use Rattle.bts_session.specs.declared.session.Session.{Session}
use Rattle.bts_report.specs.Reports.{call_line, list_line, list_text, row_line, unit_line, unit_text, report}
use Rattle.bts_unit.specs.Calls.{call, called_in, run, unit_behind}
use Rattle.bts_unit.specs.Frames.{UnitOfWork}
use Rattle.bts_unit.specs.Playing.{begun}
use Rattle.bts_unit.specs.Standings.{moved, retrieving}
use Rattle.bts_interp.specs.Budgets.{due_end, statements_with}
use Rattle.bts_interp.specs.NextCalls.{next_call, own_calls}
use Rattle.bts_interp.specs.Steps.{next, place_behind}
use Rattle.bts_interp.specs.Texts.{Texts}
use Rattle.bts_region.specs.Enabled.{least, works}
use Rattle.bts_region.specs.Histories.{number_behind}
use Rattle.bts_interp.specs.Items.{texts_of, item_done}
use Rattle.bts_region.specs.Items.{clock_in, rows_in}
use Rattle.bts_region.specs.Positions.{Position, behind, behind_all, origin}

-- ---- a session from its text

abbrev session_or_nothing : Result Session Refusal → Session
session_or_nothing (Ok s) = s
session_or_nothing (Err r) = nothing

-- lines as a text
abbrev pub text : List Bytes → Bytes
text lines = flat_map (λ line. line ++ 10 ∷ []) lines

-- the session that lines say, where all forms are let through
unfoldable pub session_from : List Bytes → Session
unfolding is_decimal number_in number_within behind_front cut_at cut_at_last closed_by first_word behind_word up_to argument argument_in at_next_word argument_to_last ended step_in steps_in path_in hex_digit hex_pair hex_pairs text_in pairs_in fill_in target spot either synchrony connective whether input due acquired early_condition late_condition condition program_line request_line end_line clock_line settle_line browse_line label_line goto_line when_line define_process acquire_process acquire_activity purge_process define_activity delete_activity forms.run link check cancel reset suspend resume put_container get_container delete_container define_input define_composite add_subevent remove_subevent delete_event test_event retrieve_reattach retrieve_subevent define_timer force_timer check_timer delete_timer plain_return return_ending abend rollback reads_by two_in marked_in civil_in moment_in days_of_months is_name_byte statements outside sections_of section_in sections_in
session_from lines = session_or_nothing (session_in (λ passes. true) (text lines))

-- ---- its serial history

-- the calls of a unit, and its end
pub record Talk : Type 0 where
  pub calls : List Call
  pub end : Option End

abbrev with_reply : UnitOfWork → List Call → Command → List Call
with_reply u calls c = calls ++ record { command = c; reply = (call (unit_behind u calls) c).0 } ∷ []

-- up to so many calls more
unfoldable pub talk_from : ℕ → Texts → UnitOfWork → List Call → Talk
talk_from zero texts u calls = record { calls = calls; end = None }
talk_from (suc n) texts u calls =
    elim (due_end texts u calls) [
      | Some e ↦ record { calls = calls; end = Some e }
      | None ↦
          elim (next_call texts u calls) [
            | None ↦ record { calls = calls; end = None }
            | Some r ↦ talk_from n texts u (with_reply u calls r.command)
          ]
    ]

abbrev pub talk_of : Session → Processes → ℕ → UnitKind → Talk
talk_of session repo now (unit.Request item key) = talk_from 100 (texts_of session (unit.Request item key)) (begun (unit.Request item key) now (process_at key repo)) []
talk_of session repo now (unit.Activation key path) = talk_from 100 (texts_of session (unit.Activation key path)) (begun (unit.Activation key path) now (process_at key repo)) []
talk_of session repo now u = record { calls = []; end = Some Commit }

abbrev numbered : ℕ → Ended → Ended
numbered units e = record e { seq = number_behind units e }

abbrev pub ended_by : Session → Position → UnitKind → Ended
ended_by session at u =
    let now : ℕ = max at.moment (clock_in (item_done session u)) in
    let t : Talk = talk_of session at.processes now u in
    numbered at.units (record { unit = u; moment = now; end = unwrap_or t.end Commit; calls = t.calls; rows = rows_in (item_done session u) at.processes; seq = 0 })

-- up to so many units
unfoldable pub history : ℕ → Session → Position → List Ended
unfolding talk_from next place_behind answer thing_row request_row on_activity on_containers on_shown on_family settled called_in call run moved retrieving works own_calls next_call statements_with due_end unit_behind
history zero session at = []
history (suc n) session at =
    elim (least session at) [
      | None ↦ []
      | Some u ↦ ended_by session at u ∷ history n session (behind at (ended_by session at u))
    ]

abbrev pub history_of : Session → List Ended
history_of session = history 40 session origin

-- ---- what is printed

unfoldable pub printed : List Ended → Bytes
unfolding digits unit_line call_line row_line unit_text civil_text civil_of year_of month_within days_of_months
printed h = report h

-- the report of the session that lines say
abbrev pub report_from : List Bytes → Bytes
report_from lines = printed (history_of (session_from lines))

-- what is listed behind the session
unfoldable pub listed : List Ended → Bytes
unfolding digits list_line
listed h = list_text (rows (behind_all origin h).processes)

abbrev pub list_from : List Bytes → Bytes
list_from lines = listed (history_of (session_from lines))
