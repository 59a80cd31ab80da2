-- What a line says, and what the lines of a block say.
use Rattle.std.specs.Prelude.{◌≡◌, ℕ, Bool, true, false, not, nat_eq, List, [], ◌∷◌, ◌++◌, filter, filter_map, Option, Some, None, Result, Ok, Err}
use Rattle.std.specs.List.{list_all, list_any, enumerate_from, cons_option}
use Rattle.bts_names.specs.Names.{Bytes, Name, same}
use Rattle.bts_names.specs.Grammar.{is_between}
use Rattle.bts_forms.specs.Texts.{without_spaces}
use Rattle.bts_forms.specs.declared.statement.Statement.{Statement}
use Rattle.bts_forms.specs.declared.statement.Statement.TheVariants as statement
use Rattle.bts_forms.specs.declared.line.Line.{Line}
use Rattle.bts_forms.specs.declared.line.Line.TheVariants as line
use Rattle.bts_forms.specs.declared.line.Word.{Word}
use Rattle.bts_forms.specs.declared.line.Word.TheVariants as word
use Rattle.bts_forms.specs.declared.line.Place.{Place}
use Rattle.bts_forms.specs.declared.line.Place.TheVariants as place
use Rattle.bts_forms.specs.declared.line.ScriptError.{ScriptError}
use Rattle.bts_forms.specs.declared.line.ScriptError.TheVariants as error
use Rattle.bts_forms.specs.declared.line.Setting.{Setting}
use Rattle.bts_forms.specs.declared.line.Setting.TheVariants as setting
use Rattle.bts_forms.specs.Forms.{Saying, forms, form_of}

-- ---- one line

-- an empty line, one of spaces alone, and one that begins with `*` are skipped
abbrev pub begins_remark : Bytes → Bool
begins_remark [] = true
begins_remark (b ∷ bs) = nat_eq b 42

abbrev pub is_skipped : Bytes → Bool
is_skipped text = begins_remark (without_spaces text)

-- whether a form belongs in such a block, or outside of one
abbrev pub belongs_at : Setting → Option Place → Bool
belongs_at setting.Outside None = true
belongs_at setting.Closing (Some p) = true
belongs_at setting.InBlocks (Some p) = true
belongs_at setting.InPrograms (Some place.Program) = true
belongs_at setting.InRequests (Some place.Request) = true
belongs_at _ _ = false

-- refused so where the test holds, and else what follows
abbrev pub stop_where : {A : Type 0} → Bool → Word → Result A Word → Result A Word
stop_where true why rest = Err why
stop_where false why rest = rest

-- which lines are let through, by whether the table of the forms lets them through
abbrev pub Through : Type 0
Through = Bool → Bool

-- those of the table
abbrev pub by_table : Through
by_table passes = passes

abbrev pub said_at : Through → Option Place → Option Saying → Result Line Word
said_at through at None = Err word.Word
said_at through at (Some x) = stop_where (not (through x.1)) word.NotYet (stop_where (not (belongs_at x.0 at)) word.Place x.2)

abbrev pub is_printable : ℕ → Bool
is_printable b = is_between 32 126 b

-- what a line says in such a block, or outside of one, or why it is refused
abbrev pub line_in : Through → Option Place → Bytes → Result Line Word
line_in through at text = stop_where (not (list_all is_printable text)) word.Character (said_at through at (form_of forms (without_spaces text)))

-- whether a line is the END of a block
abbrev pub is_end : Result Line Word → Bool
is_end (Ok line.End) = true
is_end _ = false

abbrev pub ends_block : Through → Bytes → Bool
ends_block through text = is_end (line_in through (Some place.Program) text)

-- ---- the lines of a block

-- the first bad line, and the reason
pub record Refusal : Type 0 where
  pub line : ℕ
  pub reason : Word

abbrev pub at_line : {A : Type 0} → ℕ → Result A Word → Result A Refusal
at_line n (Err why) = Err (record { line = n; reason = why })
at_line n (Ok x) = Ok x

-- a line with its number
abbrev pub Numbered : Type 0
Numbered = ℕ × Bytes

-- the lines that aren't skipped
abbrev pub numbered : ℕ → List Bytes → List Numbered
numbered first texts = filter (λ l. not (is_skipped l.1)) (enumerate_from first texts)

-- the label that a statement is, and the one to which it leads
abbrev pub label_of : Statement → Option Name
label_of (statement.Label l) = Some l
label_of _ = None

abbrev pub goal_of : Statement → Option Name
goal_of (statement.Goto l) = Some l
goal_of (statement.When c l) = Some l
goal_of _ = None

abbrev pub is_in : List Name → Option Name → Bool
is_in labels None = false
is_in labels (Some l) = list_any (same l) labels

abbrev pub is_outside : List Name → Option Name → Bool
is_outside labels None = false
is_outside labels (Some l) = not (list_any (same l) labels)

-- the statement that a line says
abbrev pub statement_of : Result Line Word → Result Statement Word
statement_of (Err why) = Err why
statement_of (Ok (line.Statement s)) = Ok s
statement_of (Ok _) = Err word.Place

abbrev pub statement_in : Through → Place → Bytes → Result Statement Word
statement_in through p text = statement_of (line_in through (Some p) text)

-- the labels of some lines
abbrev pub label_said : Result Statement Word → Option Name
label_said (Err why) = None
label_said (Ok s) = label_of s

abbrev pub labels_of : Through → Place → List Numbered → List Name
labels_of through p lines = filter_map (λ l. label_said (statement_in through p l.1)) lines

abbrev pub labels_by : Statement → List Name
labels_by s = cons_option (label_of s) []

-- a statement behind these labels, in a block with those
abbrev pub with_labels : List Name → List Name → Result Statement Word → Result Statement Word
with_labels before all (Err why) = Err why
with_labels before all (Ok s) = stop_where (is_in before (label_of s)) word.Twice (stop_where (is_outside all (goal_of s)) word.Label (Ok s))

-- the statements of some lines, up to the first bad one
abbrev pub put_first : Statement → Result (List Statement) Refusal → Result (List Statement) Refusal
put_first s (Err r) = Err r
put_first s (Ok ss) = Ok (s ∷ ss)

abbrev pub then_others : ℕ → Result Statement Word → (Statement → Result (List Statement) Refusal) → Result (List Statement) Refusal
then_others n (Err why) others = Err (record { line = n; reason = why })
then_others n (Ok s) others = put_first s (others s)

unfoldable pub statements : Through → Place → List Name → List Name → List Numbered → Result (List Statement) Refusal
statements through p before all [] = Ok []
statements through p before all (l ∷ ls) = then_others l.0 (with_labels before all (statement_in through p l.1)) (λ s. statements through p (before ++ labels_by s) all ls)

-- the script of a block whose first line has this number
abbrev pub script_of : Through → Place → List Numbered → Result (List Statement) Refusal
script_of through p lines = statements through p [] (labels_of through p lines) lines

abbrev pub block_in : Through → Place → ℕ → List Bytes → Result (List Statement) Refusal
block_in through p first texts = script_of through p (numbered first texts)

abbrev pub block_of : Place → ℕ → List Bytes → Result (List Statement) Refusal
block_of = block_in by_table

-- ---- what a reader answers

abbrev pub refused_at : {A : Type 0} → ℕ → Word → Result A Refusal
refused_at n why = Err (record { line = n; reason = why })

abbrev pub IsRefusedFor : {A : Type 0} → ScriptError → Result A Refusal → Type 0
IsRefusedFor error.NoMemory said = Unit {0}
IsRefusedFor (error.Syntax n why) said = said ≡ refused_at n why

-- what was read is what the text says, or the first bad line was told, or memory ran out
abbrev pub GivesWhatIsSaid : {A : Type 0} → Result A ScriptError → Result A Refusal → Type 0
GivesWhatIsSaid (Ok x) said = said ≡ Ok x
GivesWhatIsSaid (Err e) said = IsRefusedFor e said
