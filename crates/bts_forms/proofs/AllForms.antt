-- What the forms of the table say, and which of them says END.
use Rattle.std.proofs.Common.{◌≡◌, Bool, true, false, List, [], ◌∷◌, ◌++◌, refl, Option, Some, None, Result, Ok, Err}
use Rattle.std.specs.Prelude.{codes}
use Rattle.std.specs.Option.{option_map}
use Rattle.bts_names.specs.Names.{Bytes}
use Rattle.bts_command.specs.declared.command.Command.{Command}
use Rattle.bts_forms.specs.declared.statement.Statement.{Statement}
use Rattle.bts_forms.specs.declared.line.Line.{Line}
use Rattle.bts_forms.specs.declared.line.Line.TheVariants as line
use Rattle.bts_forms.specs.declared.line.Setting.{Setting}
use Rattle.bts_forms.specs.declared.line.Setting.TheVariants as setting
use Rattle.bts_forms.specs.declared.line.Word.{Word}
use Rattle.bts_forms.specs.Arguments.{or_else, process_type, process_name, program_name, moment, mode, status}
use Rattle.bts_forms.specs.Pieces.{Piece, Said, bare, given, maybe, ended, result_of}
use Rattle.bts_forms.specs.Forms.{Form, Saying, forms, form_of, or_next, reads_by, command_of, statement_of, today, later, item, other, call, script_forms, process_forms, activity_forms, container_forms, early_event_forms, late_event_forms, timer_forms, ending_forms, program_line, request_line, end_line, clock_line, settle_line, browse_line, label_line, goto_line, when_line, whether, define_process, acquire_process, acquire_activity, purge_process, define_activity, delete_activity, run, link, check, cancel, reset, suspend, resume, put_container, get_container, delete_container, define_input, define_composite, add_subevent, remove_subevent, delete_event, test_event, retrieve_reattach, retrieve_subevent, define_timer, force_timer, check_timer, delete_timer, plain_return, return_ending, abend, rollback, run_through, check_through, container_through}
use Rattle.bts_forms.specs.Today.{IsCommandOfToday, IsLineOfToday, IsOfToday}
use Rattle.bts_forms.proofs.Saying.{Of, Always, Unsaid, saying, anything, ◌▸▸◌, ◌▹▹◌}
use Rattle.bts_forms.proofs.Tables.{form_of_both}
use Rattle.bts_forms.proofs.Today.{in_define_process, in_acquire_process, in_acquire_activity, in_purge_process, in_run, in_check, in_put_container, in_get_container, in_delete_container, in_define_input, in_define_composite, in_add_subevent, in_remove_subevent, in_delete_event, in_test_event, in_retrieve_reattach, in_retrieve_subevent, in_plain_return, in_return_ending, in_abend, in_rollback, in_label, in_goto, in_when}

-- ---- what holds of all that a form or a table says

abbrev pub OnLine : (Line → Type 0) → Option (Result Line Word) → Type 0
OnLine P None = Unsaid
OnLine P (Some (Err why)) = Unsaid
OnLine P (Some (Ok l)) = P l

abbrev pub Holds : (Bool → Line → Type 0) → Option Saying → Type 0
Holds P None = Unsaid
Holds P (Some (at, passes, Err why)) = Unsaid
Holds P (Some (at, passes, Ok l)) = P passes l

pub next_holds : (P : Bool → Line → Type 0) (at : Setting) (passes : Bool) (others : Option Saying) (said : Option (Result Line Word)) → OnLine (P passes) said → Holds P others → Holds P (or_next at passes others said)
next_holds P at passes others None h more = more
next_holds P at passes others (Some (Err why)) h more = record {}
next_holds P at passes others (Some (Ok l)) h more = h

pub either_holds : (P : Bool → Line → Type 0) (x y : Option Saying) → Holds P x → Holds P y → Holds P (or_else x y)
either_holds P None y h more = more
either_holds P (Some (at, passes, Err why)) y h more = record {}
either_holds P (Some (at, passes, Ok l)) y h more = h

whole_line : {A : Type 0} (P : Line → Type 0) (f : A → Line) (said : Said A) → Of (λ x. P (f x)) said → OnLine P (option_map (result_of f) (ended said))
unfolding ended
whole_line P f None h = record {}
whole_line P f (Some (Err why, [])) h = record {}
whole_line P f (Some (Err why, b ∷ bs)) h = record {}
whole_line P f (Some (Ok x, [])) h = h
whole_line P f (Some (Ok x, b ∷ bs)) h = record {}

pub reads_whole : {A : Type 0} (P : Line → Type 0) (f : A → Line) (p : Piece A) (text : Bytes) → Of (λ x. P (f x)) (p text) → OnLine P (reads_by f p text)
unfolding reads_by
reads_whole P f p text h = whole_line P f (p text) h

-- ---- lines that don't end a block, and are of today where they are let through

abbrev pub is_end_line : Line → Bool
is_end_line line.End = true
is_end_line _ = false

abbrev pub OfToday : Bool → Line → Type 0
OfToday passes l = passes ≡ true → IsLineOfToday l

pub record Lawful (passes : Bool) (l : Line) : Type 0 where
  pub no_end : is_end_line l ≡ false
  pub of_today : OfToday passes l

record AreLawful (fs : List Form) : Type 0 where
  on : (text : Bytes) → Holds Lawful (form_of fs text)

no_forms : AreLawful []
no_forms = record { on = λ text. record {} }

with_form : {A : Type 0} {fs : List Form} (at : Setting) (through : Bytes → Bool) (f : A → Line) (p : Piece A) → ((text : Bytes) → Of (λ x. Lawful (through text) (f x)) (p text))
    → AreLawful fs → AreLawful (record { belongs = at; lets_through = through; reads = reads_by f p } ∷ fs)
with_form {fs = fs} at through f p h more =
    record { on = λ text. next_holds Lawful at (through text) (form_of fs text) (reads_by f p text) (reads_whole (Lawful (through text)) f p text (h text)) (more.on text) }

both : {first second : List Form} → AreLawful first → AreLawful second → AreLawful (first ++ second)
both {first} {second} h more = record { on = λ text. rw (form_of_both first second text) (either_holds Lawful (form_of first text) (form_of second text) (h.on text) (more.on text)) }

by_item : {fs : List Form} (p : Piece Line) → Always (Lawful true) p → AreLawful fs → AreLawful (item today p ∷ fs)
by_item p h more = with_form setting.Outside today (λ x. x) p (λ text. h.on text) more

by_later_item : {fs : List Form} (p : Piece Line) → Always (Lawful false) p → AreLawful fs → AreLawful (item later p ∷ fs)
by_later_item p h more = with_form setting.Outside later (λ x. x) p (λ text. h.on text) more

lawful_command : (passes : Bool) (said : Said Command) → (passes ≡ true → Of IsCommandOfToday said) → Of (λ c. Lawful passes (command_of c)) said
lawful_command passes None h = record {}
lawful_command passes (Some (Err why, rest)) h = record {}
lawful_command passes (Some (Ok c, rest)) h = record { no_end = refl; of_today = h }

lawful_statement : (passes : Bool) (said : Said Statement) → (passes ≡ true → Of IsOfToday said) → Of (λ s. Lawful passes (statement_of s)) said
lawful_statement passes None h = record {}
lawful_statement passes (Some (Err why, rest)) h = record {}
lawful_statement passes (Some (Ok s, rest)) h = record { no_end = refl; of_today = h }

by_test : {fs : List Form} (at : Setting) (through : Bytes → Bool) (p : Piece Command) → ((text : Bytes) → through text ≡ true → Of IsCommandOfToday (p text))
    → AreLawful fs → AreLawful (record { belongs = at; lets_through = through; reads = reads_by command_of p } ∷ fs)
by_test at through p h more = with_form at through command_of p (λ text. lawful_command (through text) (p text) (h text)) more

by_call : {fs : List Form} (at : Setting) (p : Piece Command) → Always IsCommandOfToday p → AreLawful fs → AreLawful (record { belongs = at; lets_through = today; reads = reads_by command_of p } ∷ fs)
by_call at p h more = by_test at today p (λ text passes. h.on text) more

by_later : {fs : List Form} (p : Piece Command) → AreLawful fs → AreLawful (call later p ∷ fs)
by_later p more = by_test setting.InBlocks later p (λ text passes. let never : false ≡ true = passes in cc) more

by_other : {fs : List Form} (through : Bytes → Bool) (p : Piece Statement) → ((text : Bytes) → through text ≡ true → Of IsOfToday (p text)) → AreLawful fs → AreLawful (other through p ∷ fs)
by_other through p h more = with_form setting.InBlocks through statement_of p (λ text. lawful_statement (through text) (p text) (h text)) more

-- ---- the forms but for END

in_program : Always (Lawful true) program_line
unfolding program_line
in_program = saying line.Program (λ n _. record { no_end = refl; of_today = λ _. tt }) ▸▸ codes "PROGRAM" ▹▹ anything (bare program_name)

in_request : Always (Lawful true) request_line
unfolding request_line
in_request = saying (λ t n. line.Request (record { ptype = t; pname = n })) (λ t _ n _. record { no_end = refl; of_today = λ _. tt }) ▸▸ codes "REQUEST" ▹▹ anything (bare process_type) ▹▹ anything (bare process_name)

in_clock : Always (Lawful false) clock_line
unfolding clock_line
in_clock = saying line.Clock (λ m _. record { no_end = refl; of_today = λ never. cc }) ▸▸ codes "CLOCK" ▹▹ anything (bare moment)

in_settle : Always (Lawful true) settle_line
unfolding settle_line
in_settle = saying line.Settle (record { no_end = refl; of_today = λ _. tt }) ▸▸ codes "SETTLE"

in_browse : Always (Lawful false) browse_line
unfolding browse_line
in_browse =
    saying line.Browse (λ t _ n _ m _ s _ b _. record { no_end = refl; of_today = λ never. cc }) ▸▸ codes "BROWSE"
    ▹▹ anything (maybe (given (codes "TYPE") process_type)) ▹▹ anything (maybe (given (codes "PROCESS") process_name))
    ▹▹ anything (maybe (given (codes "MODE") mode)) ▹▹ anything (maybe (given (codes "STATUS") status)) ▹▹ anything (whether (codes "SUSPENDED"))

in_items : AreLawful (item later clock_line ∷ item today settle_line ∷ item later browse_line ∷ [])
in_items = by_later_item clock_line in_clock (by_item settle_line in_settle (by_later_item browse_line in_browse no_forms))

in_script : AreLawful script_forms
in_script = by_other today label_line (λ text _. in_label.on text) (by_other today goto_line (λ text _. in_goto.on text) (by_other today when_line (λ text _. in_when.on text) no_forms))

in_process : AreLawful process_forms
in_process =
    by_call setting.InBlocks define_process in_define_process (by_call setting.InBlocks acquire_process in_acquire_process
    (by_call setting.InBlocks acquire_activity in_acquire_activity (by_call setting.InBlocks purge_process in_purge_process no_forms)))

in_activity : AreLawful activity_forms
in_activity =
    by_later define_activity (by_later delete_activity (by_test setting.InBlocks run_through run in_run (by_later link (by_test setting.InBlocks check_through check in_check
    (by_later cancel (by_later reset (by_later suspend (by_later resume no_forms))))))))

in_container : AreLawful container_forms
in_container =
    by_other (container_through (codes "PUT")) put_container in_put_container
    (by_test setting.InBlocks (container_through (codes "GET")) get_container in_get_container
    (by_test setting.InBlocks (container_through (codes "DELETE")) delete_container in_delete_container no_forms))

in_early_event : AreLawful early_event_forms
in_early_event = by_call setting.InBlocks define_input in_define_input (by_call setting.InBlocks define_composite in_define_composite no_forms)

in_late_event : AreLawful late_event_forms
in_late_event =
    by_call setting.InBlocks add_subevent in_add_subevent (by_call setting.InBlocks remove_subevent in_remove_subevent
    (by_call setting.InBlocks delete_event in_delete_event (by_call setting.InBlocks test_event in_test_event
    (by_call setting.InBlocks retrieve_reattach in_retrieve_reattach (by_call setting.InBlocks retrieve_subevent in_retrieve_subevent no_forms)))))

in_timer : AreLawful timer_forms
in_timer = by_later define_timer (by_later force_timer (by_later check_timer (by_later delete_timer no_forms)))

in_ending : AreLawful ending_forms
in_ending =
    by_call setting.InBlocks plain_return in_plain_return (by_call setting.InPrograms return_ending in_return_ending
    (by_call setting.InBlocks abend in_abend (by_call setting.InRequests rollback in_rollback no_forms)))

-- ---- the table: programs, requests, END, and the forms behind it

abbrev pub behind_end : List Form
behind_end =
    (item later clock_line ∷ item today settle_line ∷ item later browse_line ∷ []) ++ script_forms ++ process_forms ++ activity_forms ++ container_forms ++ early_event_forms ++ late_event_forms ++ timer_forms
    ++ ending_forms

in_others : AreLawful behind_end
in_others = both (both (both (both (both (both (both (both in_items in_script) in_process) in_activity) in_container) in_early_event) in_late_event) in_timer) in_ending

abbrev pub read : Piece Line → Bytes → Option (Result Line Word)
read p text = reads_by (λ x. x) p text

abbrev pub in_front : Option Saying → Option (Result Line Word) → Option (Result Line Word) → Option (Result Line Word) → Option Saying
in_front others program request end = or_next setting.Outside true (or_next setting.Outside true (or_next setting.Closing true others end) request) program

pub in_table : (text : Bytes) → form_of forms text ≡ in_front (form_of behind_end text) (read program_line text) (read request_line text) (read end_line text)
in_table text = refl

in_front_holds : (P : Bool → Line → Type 0) (others : Option Saying) (program request end : Option (Result Line Word)) → OnLine (P true) program → OnLine (P true) request → OnLine (P true) end → Holds P others
    → Holds P (in_front others program request end)
in_front_holds P others program request end h k l more =
    next_holds P setting.Outside true (or_next setting.Outside true (or_next setting.Closing true others end) request) program h
    (next_holds P setting.Outside true (or_next setting.Closing true others end) request k (next_holds P setting.Closing true others end l more))

-- where a line isn't END no form says so
pub lawful_but_end : (text : Bytes) → read end_line text ≡ None → Holds Lawful (form_of forms text)
lawful_but_end text h =
    rw (in_table text, h)
    (in_front_holds Lawful (form_of behind_end text) (read program_line text) (read request_line text) None
    (reads_whole (Lawful true) (λ x. x) program_line text (in_program.on text)) (reads_whole (Lawful true) (λ x. x) request_line text (in_request.on text)) (record {}) (in_others.on text))

-- what is let through is of today

today_of : (l : Option Saying) → Holds Lawful l → Holds OfToday l
today_of None h = record {}
today_of (Some (at, passes, Err why)) h = record {}
today_of (Some (at, passes, Ok l)) h = h.of_today

today_on : (passes : Bool) (said : Said Line) → Of (Lawful passes) said → Of (OfToday passes) said
today_on passes None h = record {}
today_on passes (Some (Err why, rest)) h = record {}
today_on passes (Some (Ok l, rest)) h = h.of_today

in_end : Always (OfToday true) end_line
unfolding end_line
in_end = saying line.End (λ _. tt) ▸▸ codes "END"

pub all_of_today : (text : Bytes) → Holds OfToday (form_of forms text)
all_of_today text =
    rw (in_table text)
    (in_front_holds OfToday (form_of behind_end text) (read program_line text) (read request_line text) (read end_line text)
    (reads_whole (OfToday true) (λ x. x) program_line text (today_on true (program_line text) (in_program.on text)))
    (reads_whole (OfToday true) (λ x. x) request_line text (today_on true (request_line text) (in_request.on text)))
    (reads_whole (OfToday true) (λ x. x) end_line text (in_end.on text)) (today_of (form_of behind_end text) (in_others.on text)))
