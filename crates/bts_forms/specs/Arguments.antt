-- The arguments of lines, each with the reason for which it is refused.
use Rattle.std.specs.Prelude.{ℕ, zero, suc, Bool, cond, ◌||◌, ◌+◌, ◌-◌, ◌*◌, nat_eq, [], ◌∷◌, codes, length, Option, Some, None, option_map, Result, Ok, Err}
use Rattle.std.specs.Str.{bytes_eq}
use Rattle.bts_names.specs.Names.{Bytes, Name, ActivityPath}
use Rattle.bts_names.specs.Names.{initial_name}
use Rattle.bts_names.specs.Grammar.{is_between, is_name_within}
use Rattle.bts_forms.specs.Texts.{◌>>=◌, is_digit, number_within, behind_front, cut_at, closed_by}
use Rattle.bts_names.specs.Vocabulary.{resps, resp_word, stored_modes, mode_word, statuses, status_word, at_word}
use Rattle.bts_names.specs.declared.reply.Resp.{Resp}
use Rattle.bts_names.specs.declared.state.Mode.{Mode}
use Rattle.bts_names.specs.declared.state.Status.{Status}
use Rattle.bts_timer.specs.Moments.{moment_in}
use Rattle.bts_forms.specs.declared.statement.Given.{Given}
use Rattle.bts_forms.specs.declared.statement.Given.TheVariants.{Literal, Fill, Last}
use Rattle.bts_forms.specs.declared.line.Word.{Word}
use Rattle.bts_forms.specs.declared.line.Word.TheVariants as word
use Rattle.bts_forms.specs.Pieces.{argument}

-- what is there, and else refused so
abbrev pub or_refused : {A : Type 0} → Word → Option A → Result A Word
or_refused why None = Err why
or_refused why (Some x) = Ok x

-- a name of at most so many bytes
abbrev pub named : (Name → Bool) → Bytes → Result Name Word
named test bytes = cond (test bytes) (Ok bytes) (Err word.Name)

abbrev pub name_within : ℕ → Bytes → Result Name Word
name_within most = named (is_name_within most)

abbrev pub name : Bytes → Result Name Word
name = name_within 16

abbrev pub process_name : Bytes → Result Name Word
process_name = name_within 36

abbrev pub process_type : Bytes → Result Name Word
process_type = name_within 8

abbrev pub program_name : Bytes → Result Name Word
program_name = name_within 8

abbrev pub transid : Bytes → Result Name Word
transid = name_within 4

abbrev pub code : Bytes → Result Name Word
code = name_within 4

-- a name of an event, DFHINITIAL among them
abbrev pub event_name : Bytes → Result Name Word
event_name = named (λ n. is_name_within 16 n || bytes_eq n initial_name)

-- a number from 1
unfoldable pub step_in : Bytes → Option ℕ
step_in text = do
  n ← number_within 4_294_967_295 text
  cond (nat_eq n 0) None (Some n)

-- so many such numbers or fewer, with `/` between them
abbrev pub one_step : Option ℕ → Option ActivityPath
one_step None = None
one_step (Some n) = Some (n ∷ [])

abbrev pub step_then : (Bytes → Option ActivityPath) → Bytes → Option (Bytes × Bytes) → Option ActivityPath
step_then others text None = one_step (step_in text)
step_then others text (Some parts) = step_in parts.0 >>= (λ step. others parts.1 >>= (λ steps. Some (step ∷ steps)))

unfoldable pub steps_in : ℕ → Bytes → Option ActivityPath
steps_in zero text = None
steps_in (suc n) text = step_then (steps_in n) text (cut_at 47 text)

-- a path: `/`, or up to 32 times `/` and a number
unfoldable pub path_in : Bytes → Option ActivityPath
path_in text = do
  steps ← behind_front (codes "/") text
  cond (nat_eq (length steps) 0) (Some []) (steps_in 32 steps)

abbrev pub path : Bytes → Result ActivityPath Word
path bytes = or_refused word.Name (path_in bytes)

-- numbers, moments and words
abbrev pub number : Bytes → Result ℕ Word
number bytes = or_refused word.Number (number_within 4_294_967_295 bytes)

abbrev pub moment : Bytes → Result ℕ Word
moment bytes = or_refused word.Moment (moment_in bytes)

abbrev pub resp : Bytes → Result Resp Word
resp bytes = or_refused word.Known (at_word resp_word resps bytes)

abbrev pub mode : Bytes → Result Mode Word
mode bytes = or_refused word.Known (at_word mode_word stored_modes bytes)

abbrev pub status : Bytes → Result Status Word
status bytes = or_refused word.Known (at_word status_word statuses bytes)

-- the value of a hexadecimal digit
unfoldable pub hex_digit : ℕ → Option ℕ
hex_digit b = cond (is_digit b) (Some (b - 48)) (cond (is_between 65 70 b) (Some (b - 55)) (cond (is_between 97 102 b) (Some (b - 87)) None))

unfoldable pub hex_pair : ℕ → ℕ → Option ℕ
hex_pair a b = do
  x ← hex_digit a
  y ← hex_digit b
  Some (16 * x + y)

unfoldable pub hex_pairs : Bytes → Option Bytes
hex_pairs [] = Some []
hex_pairs (a ∷ []) = None
hex_pairs (a ∷ b ∷ bs) = hex_pair a b >>= (λ x. hex_pairs bs >>= (λ xs. Some (x ∷ xs)))

-- a literal: 'text' without a quote inside, or X'pairs'
abbrev pub or_else : {A : Type 0} → Option A → Option A → Option A
or_else None y = y
or_else (Some x) y = Some x

unfoldable pub text_in : Bytes → Option Bytes
text_in bytes = behind_front (codes "'") bytes >>= closed_by 39

unfoldable pub pairs_in : Bytes → Option Bytes
pairs_in bytes = behind_front (codes "X'") bytes >>= closed_by 39 >>= hex_pairs

abbrev pub literal_in : Bytes → Option Bytes
literal_in bytes = or_else (text_in bytes) (pairs_in bytes)

abbrev pub literal : Bytes → Result Bytes Word
literal bytes = or_refused word.Literal (literal_in bytes)

-- what FROM takes: a literal, FILL(n) or LAST
abbrev pub fill_limit : ℕ
fill_limit = 1_100_000

unfoldable pub fill_in : Bytes → Option Given
fill_in bytes = do
  inside ← argument (codes "FILL") bytes
  n ← number_within fill_limit inside
  Some (Fill n)

abbrev pub last_in : Bytes → Option Given
last_in bytes = cond (bytes_eq bytes (codes "LAST")) (Some Last) None

abbrev pub given_in : Bytes → Option Given
given_in bytes = or_else (last_in bytes) (or_else (fill_in bytes) (option_map Literal (literal_in bytes)))

abbrev pub source : Bytes → Result Given Word
source bytes = or_refused word.Literal (given_in bytes)
