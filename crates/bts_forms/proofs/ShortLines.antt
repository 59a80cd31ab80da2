-- No line gives a container more bytes than it has, or than FILL may say.
use Rattle.std.proofs.Common.{◌≡◌, ℕ, ◌+◌, ◌-◌, ◌≤◌, Bool, true, false, List, [], ◌∷◌, ◌++◌, refl, arith, length, cond, Option, Some, None}
use Rattle.std.specs.Prelude.{codes, nat_le}
use Rattle.std.specs.Option.{option_and_then, option_map}
use Rattle.std.specs.Str.{bytes_eq}
use Rattle.std.proofs.lemmas.Bool.{leb-true}
use Rattle.bts_names.specs.Names.{Bytes}
use Rattle.bts_command.specs.declared.command.Command.{Command}
use Rattle.bts_forms.specs.declared.statement.Given.{Given}
use Rattle.bts_forms.specs.declared.statement.Given.TheVariants.{Literal, Fill, Last}
use Rattle.bts_forms.specs.declared.statement.Statement.{Statement}
use Rattle.bts_forms.specs.declared.statement.Statement.TheVariants as statement
use Rattle.bts_forms.specs.declared.line.Line.{Line}
use Rattle.bts_forms.specs.declared.line.Line.TheVariants as line
use Rattle.bts_forms.specs.declared.line.Setting.{Setting}
use Rattle.bts_forms.specs.declared.line.Word.TheVariants as word
use Rattle.bts_forms.specs.Texts.{◌>>=◌, behind_front, closed_by, number_in, number_within}
use Rattle.bts_forms.specs.Arguments.{or_else, or_refused, fill_limit, fill_in, given_in, hex_pair, hex_pairs, last_in, literal_in, name, pairs_in, source, text_in, process_type, process_name, program_name, moment, mode, status}
use Rattle.bts_forms.specs.Pieces.{Piece, Said, says, argument, argument_to_last, bare, given, given_to_last, maybe, ◌▸◌, ◌▹◌, ◌or◌}
use Rattle.bts_forms.specs.Forms.{Form, forms, form_of, reads_by, command_of, statement_of, session_forms, script_forms, process_forms, activity_forms, container_forms, early_event_forms, late_event_forms, timer_forms, ending_forms, program_line, request_line, end_line, clock_line, settle_line, browse_line, label_line, goto_line, when_line, whether, put_container, condition, spot, target}
use Rattle.bts_forms.specs.Sizes.{IsShort, IsShortLine, said_bytes}
use Rattle.bts_forms.proofs.AllForms.{Holds, next_holds, either_holds, reads_whole}
use Rattle.bts_forms.proofs.Saying.{Of, Always, Behind, Unsaid, With, saying, anything, with_argument, ◌▸▸◌, ◌▹▹◌}
use Rattle.bts_forms.proofs.ShortCommands.{PutsAtMost, in_define_process, in_acquire_process, in_acquire_activity, in_purge_process, in_define_activity, in_delete_activity, in_run, in_link, in_check, in_cancel, in_reset, in_suspend, in_resume, in_get_container, in_delete_container, in_define_input, in_define_composite, in_add_subevent, in_remove_subevent, in_delete_event, in_test_event, in_retrieve_reattach, in_retrieve_subevent, in_define_timer, in_force_timer, in_check_timer, in_delete_timer, in_plain_return, in_return_ending, in_abend, in_rollback}
use Rattle.bts_forms.proofs.Short.{AtMost, Shortens, first, either_short, given_short, last_argument_short, quoted_short, says_short, then_short, ◌▸≤◌, ◌▹≤◌}
use Rattle.bts_forms.proofs.Tables.{form_of_both}

-- ---- what FROM takes

abbrev GivesAtMost : ℕ → Option Given → Type 0
GivesAtMost m None = Unsaid
GivesAtMost m (Some g) = said_bytes g ≤ m

either_given : (m : ℕ) (x y : Option Given) → GivesAtMost m x → GivesAtMost m y → GivesAtMost m (or_else x y)
either_given m None y h k = k
either_given m (Some g) y h k = h

either_bytes : (m : ℕ) (x y : Option Bytes) → AtMost m x → AtMost m y → AtMost m (or_else x y)
either_bytes m None y h k = k
either_bytes m (Some g) y h k = h

pair_on : (m : ℕ) (o : Option ℕ) (rest : Option Bytes) → 2 ≤ m → AtMost (m - 2) rest → AtMost m (o >>= (λ x. rest >>= (λ xs. Some (x ∷ xs))))
pair_on m None rest h k = record {}
pair_on m (Some x) None h k = record {}
pair_on m (Some x) (Some xs) h k = omega (arith, h, k)

pairs_short : (m : ℕ) (bytes : Bytes) → length bytes ≤ m → AtMost m (hex_pairs bytes)
unfolding hex_pairs
pairs_short m [] h = h
pairs_short m (a ∷ []) h = record {}
pairs_short m (a ∷ b ∷ bs) h = pair_on m (hex_pair a b) (hex_pairs bs) (omega (arith, h)) (pairs_short (m - 2) bs (omega (arith, h)))

literal_short : (m : ℕ) (bytes : Bytes) → length bytes ≤ m → AtMost m (literal_in bytes)
unfolding text_in pairs_in
literal_short m bytes h =
    either_bytes m (text_in bytes) (pairs_in bytes) (quoted_short m 39 (codes "'") bytes h)
    (then_short m (behind_front (codes "X'") bytes >>= closed_by 39) hex_pairs (quoted_short m 39 (codes "X'") bytes h) (pairs_short m))

filled : (m n : ℕ) (t : Bool) → nat_le n fill_limit ≡ t → fill_limit ≤ m → GivesAtMost m (cond t (Some n) None >>= (λ n. Some (Fill n)))
filled m n true e h = let small = leb-true n fill_limit e in omega (arith, small, h)
filled m n false e h = record {}

fill_number : (m : ℕ) (o : Option ℕ) → fill_limit ≤ m → GivesAtMost m (option_and_then (λ y. cond (nat_le y fill_limit) (Some y) None) o >>= (λ n. Some (Fill n)))
fill_number m None h = record {}
fill_number m (Some n) h = filled m n (nat_le n fill_limit) refl h

fill_on : (m : ℕ) (o : Option Bytes) → fill_limit ≤ m → GivesAtMost m (o >>= (λ inside. number_within fill_limit inside >>= (λ n. Some (Fill n))))
unfolding number_within
fill_on m None h = record {}
fill_on m (Some inside) h = fill_number m (number_in inside) h

fill_short : (m : ℕ) (bytes : Bytes) → fill_limit ≤ m → GivesAtMost m (fill_in bytes)
unfolding fill_in
fill_short m bytes h = fill_on m (argument (codes "FILL") bytes) h

last_short : (m : ℕ) (t : Bool) → GivesAtMost m (cond t (Some Last) None)
last_short m true = omega arith
last_short m false = record {}

as_literal : (m : ℕ) (o : Option Bytes) → AtMost m o → GivesAtMost m (option_map Literal o)
as_literal m None h = record {}
as_literal m (Some bytes) h = h

given_in_short : (m : ℕ) (bytes : Bytes) → fill_limit ≤ m → length bytes ≤ m → GivesAtMost m (given_in bytes)
given_in_short m bytes fill h =
    either_given m (last_in bytes) (or_else (fill_in bytes) (option_map Literal (literal_in bytes))) (last_short m (bytes_eq bytes (codes "LAST")))
    (either_given m (fill_in bytes) (option_map Literal (literal_in bytes)) (fill_short m bytes fill) (as_literal m (literal_in bytes) (literal_short m bytes h)))

source_on : (m : ℕ) (rest : Bytes) (o : Option Given) → GivesAtMost m o → Of (λ g. said_bytes g ≤ m) (Some (or_refused word.Literal o, rest))
source_on m rest None h = record {}
source_on m rest (Some g) h = h

from_on : (m : ℕ) (o : Option (Bytes × Bytes)) → fill_limit ≤ m → AtMost m (option_map first o) → Of (λ g. said_bytes g ≤ m) (option_map (λ x. (source x.0, x.1)) o)
from_on m None fill h = record {}
from_on m (Some x) fill h = source_on m x.1 (given_in x.0) (given_in_short m x.0 fill h)

from_short : (m : ℕ) (rest : Bytes) → fill_limit ≤ m → length rest ≤ m → Of (λ g. said_bytes g ≤ m) (given_to_last (codes "FROM") source rest)
from_short m rest fill h = from_on m (argument_to_last (codes "FROM") rest) fill (last_argument_short m (codes "FROM") rest h)

-- ---- PUT CONTAINER

behind_by : {A : Type 0} (R S : Bytes → Type 0) (said : Said A) → ((rest : Bytes) → R rest → S rest) → Behind R said → Behind S said
behind_by R S None f h = record {}
behind_by R S (Some x) f h = f x.1 h

short_target : Shortens target
unfolding target
short_target =
    either_short (says_short _ ▹≤ given_short (codes "ACTIVITY") name) (either_short (says_short _ ▸≤ codes "ACQPROCESS") (says_short _ ▸≤ codes "ACQACTIVITY"))

short_spot : Shortens spot
unfolding spot
short_spot = either_short (says_short _ ▹≤ short_target) (either_short (says_short _ ▸≤ codes "PROCESS") (says_short _))

put_short : (m : ℕ) (text : Bytes) → fill_limit ≤ m → length text ≤ m → Of (IsShort m) (put_container text)
unfolding put_container
put_short m text fill h =
    let front : Always (With (λ g. said_bytes g ≤ m) (IsShort m)) (says statement.Put ▸ codes "PUT" ▹ given (codes "CONTAINER") name ▹ spot) =
    saying statement.Put (λ c _ s _ g k. k) ▸▸ codes "PUT" ▹▹ anything (given (codes "CONTAINER") name) ▹▹ anything spot in
    let left : Shortens (says statement.Put ▸ codes "PUT" ▹ given (codes "CONTAINER") name ▹ spot) =
    says_short statement.Put ▸≤ codes "PUT" ▹≤ given_short (codes "CONTAINER") name ▹≤ short_spot in
    with_argument (λ g. said_bytes g ≤ m) (IsShort m) (given_to_last (codes "FROM") source) ((says statement.Put ▸ codes "PUT" ▹ given (codes "CONTAINER") name ▹ spot) text) (front.on text)
    (behind_by (λ rest. length rest ≤ m) (λ rest. Of (λ g. said_bytes g ≤ m) (given_to_last (codes "FROM") source rest)) ((says statement.Put ▸ codes "PUT" ▹ given (codes "CONTAINER") name ▹ spot) text)
    (λ rest k. from_short m rest fill k) (left.on m text h))

-- ---- all forms

record AreShort (m : ℕ) (fs : List Form) : Type 0 where
  on : (text : Bytes) → length text ≤ m → Holds (λ passes l. IsShortLine m l) (form_of fs text)

no_forms : {m : ℕ} → AreShort m []
no_forms = record { on = λ text h. record {} }

with_form : {m : ℕ} {A : Type 0} {fs : List Form} (at : Setting) (through : Bytes → Bool) (f : A → Line) (p : Piece A) → ((text : Bytes) → length text ≤ m → Of (λ x. IsShortLine m (f x)) (p text))
    → AreShort m fs → AreShort m (record { belongs = at; lets_through = through; reads = reads_by f p } ∷ fs)
with_form {m} {fs = fs} at through f p h more =
    record { on = λ text k. next_holds (λ passes l. IsShortLine m l) at (through text) (form_of fs text) (reads_by f p text) (reads_whole (IsShortLine m) f p text (h text k)) (more.on text k) }

both : {m : ℕ} {first second : List Form} → AreShort m first → AreShort m second → AreShort m (first ++ second)
both {m} {first} {second} h more =
    record { on = λ text k. rw (form_of_both first second text) (either_holds (λ passes l. IsShortLine m l) (form_of first text) (form_of second text) (h.on text k) (more.on text k)) }

calls : {m : ℕ} {fs : List Form} (at : Setting) (through : Bytes → Bool) (p : Piece Command) → Always (PutsAtMost m) p → AreShort m fs
    → AreShort m (record { belongs = at; lets_through = through; reads = reads_by command_of p } ∷ fs)
calls at through p h more = with_form at through command_of p (λ text k. h.on text) more

says_none : {m : ℕ} {fs : List Form} (at : Setting) (through : Bytes → Bool) (p : Piece Line) → Always (IsShortLine m) p → AreShort m fs
    → AreShort m (record { belongs = at; lets_through = through; reads = reads_by (λ x. x) p } ∷ fs)
says_none at through p h more = with_form at through (λ x. x) p (λ text k. h.on text) more

gives : {m : ℕ} {fs : List Form} (at : Setting) (through : Bytes → Bool) (p : Piece Statement) → ((text : Bytes) → length text ≤ m → Of (IsShort m) (p text)) → AreShort m fs
    → AreShort m (record { belongs = at; lets_through = through; reads = reads_by statement_of p } ∷ fs)
gives at through p h more = with_form at through statement_of p h more

in_program : (m : ℕ) → Always (IsShortLine m) program_line
unfolding program_line
in_program m = saying line.Program (λ n _. tt) ▸▸ codes "PROGRAM" ▹▹ anything (bare program_name)

in_request : (m : ℕ) → Always (IsShortLine m) request_line
unfolding request_line
in_request m = saying (λ t n. line.Request (record { ptype = t; pname = n })) (λ t _ n _. tt) ▸▸ codes "REQUEST" ▹▹ anything (bare process_type) ▹▹ anything (bare process_name)

in_end : (m : ℕ) → Always (IsShortLine m) end_line
unfolding end_line
in_end m = saying line.End tt ▸▸ codes "END"

in_clock : (m : ℕ) → Always (IsShortLine m) clock_line
unfolding clock_line
in_clock m = saying line.Clock (λ t _. tt) ▸▸ codes "CLOCK" ▹▹ anything (bare moment)

in_settle : (m : ℕ) → Always (IsShortLine m) settle_line
unfolding settle_line
in_settle m = saying line.Settle tt ▸▸ codes "SETTLE"

in_browse : (m : ℕ) → Always (IsShortLine m) browse_line
unfolding browse_line
in_browse m =
    saying line.Browse (λ t _ n _ d _ s _ b _. tt) ▸▸ codes "BROWSE"
    ▹▹ anything (maybe (given (codes "TYPE") process_type)) ▹▹ anything (maybe (given (codes "PROCESS") process_name))
    ▹▹ anything (maybe (given (codes "MODE") mode)) ▹▹ anything (maybe (given (codes "STATUS") status)) ▹▹ anything (whether (codes "SUSPENDED"))

in_label : (m : ℕ) → Always (IsShort m) label_line
unfolding label_line
in_label m = saying statement.Label (λ n _. tt) ▸▸ codes "LABEL" ▹▹ anything (bare name)

in_goto : (m : ℕ) → Always (IsShort m) goto_line
unfolding goto_line
in_goto m = saying statement.Goto (λ n _. tt) ▸▸ codes "GOTO" ▹▹ anything (bare name)

in_when : (m : ℕ) → Always (IsShort m) when_line
unfolding when_line
in_when m = saying statement.When (λ c _ n _. tt) ▸▸ codes "WHEN" ▹▹ anything condition ▸▸ codes "GOTO" ▹▹ anything (bare name)

in_session : (m : ℕ) → AreShort m session_forms
in_session m =
    says_none _ _ program_line (in_program m) (says_none _ _ request_line (in_request m) (says_none _ _ end_line (in_end m)
    (says_none _ _ clock_line (in_clock m) (says_none _ _ settle_line (in_settle m) (says_none _ _ browse_line (in_browse m) no_forms)))))

in_script : (m : ℕ) → AreShort m script_forms
in_script m =
    gives _ _ label_line (λ text _. (in_label m).on text) (gives _ _ goto_line (λ text _. (in_goto m).on text) (gives _ _ when_line (λ text _. (in_when m).on text) no_forms))

in_process : (m : ℕ) → AreShort m process_forms
in_process m = calls _ _ _ (in_define_process m) (calls _ _ _ (in_acquire_process m) (calls _ _ _ (in_acquire_activity m) (calls _ _ _ (in_purge_process m) no_forms)))

in_activity : (m : ℕ) → AreShort m activity_forms
in_activity m = calls _ _ _ (in_define_activity m) (calls _ _ _ (in_delete_activity m) (calls _ _ _ (in_run m) (calls _ _ _ (in_link m) (calls _ _ _ (in_check m) (calls _ _ _ (in_cancel m) (calls _ _ _ (in_reset m) (calls _ _ _ (in_suspend m) (calls _ _ _ (in_resume m) no_forms))))))))

in_container : (m : ℕ) → fill_limit ≤ m → AreShort m container_forms
in_container m fill = gives _ _ put_container (λ text h. put_short m text fill h) (calls _ _ _ (in_get_container m) (calls _ _ _ (in_delete_container m) no_forms))

in_early_event : (m : ℕ) → AreShort m early_event_forms
in_early_event m = calls _ _ _ (in_define_input m) (calls _ _ _ (in_define_composite m) no_forms)

in_late_event : (m : ℕ) → AreShort m late_event_forms
in_late_event m = calls _ _ _ (in_add_subevent m) (calls _ _ _ (in_remove_subevent m) (calls _ _ _ (in_delete_event m) (calls _ _ _ (in_test_event m) (calls _ _ _ (in_retrieve_reattach m) (calls _ _ _ (in_retrieve_subevent m) no_forms)))))

in_timer : (m : ℕ) → AreShort m timer_forms
in_timer m = calls _ _ _ (in_define_timer m) (calls _ _ _ (in_force_timer m) (calls _ _ _ (in_check_timer m) (calls _ _ _ (in_delete_timer m) no_forms)))

in_ending : (m : ℕ) → AreShort m ending_forms
in_ending m = calls _ _ _ (in_plain_return m) (calls _ _ _ (in_return_ending m) (calls _ _ _ (in_abend m) (calls _ _ _ (in_rollback m) no_forms)))

in_forms : (m : ℕ) → fill_limit ≤ m → AreShort m forms
in_forms m fill =
    both (both (both (both (both (both (both (both (in_session m) (in_script m)) (in_process m)) (in_activity m)) (in_container m fill)) (in_early_event m)) (in_late_event m)) (in_timer m)) (in_ending m)

-- a line of at most so many bytes gives no more
pub all_short : (m : ℕ) → fill_limit ≤ m → (text : Bytes) → length text ≤ m → Holds (λ passes l. IsShortLine m l) (form_of forms text)
all_short m fill text h = (in_forms m fill).on text h
