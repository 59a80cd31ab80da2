-- What holds of each line that is let through holds of the statements of a block.
use Rattle.std.proofs.Common.{◌≡◌, Bool, true, false, List, [], ◌∷◌, ◌++◌, refl, subst, Option, Some, None, Result, Ok, Err}
use Rattle.std.specs.Prelude.{not, IfOk}
use Rattle.std.specs.List.{list_all, AllByRecursion}
use Rattle.bts_names.specs.Names.{Bytes, Name}
use Rattle.bts_forms.specs.declared.statement.Statement.{Statement}
use Rattle.bts_forms.specs.declared.line.Line.{Line}
use Rattle.bts_forms.specs.declared.line.Line.TheVariants as line
use Rattle.bts_forms.specs.declared.line.Word.{Word}
use Rattle.bts_forms.specs.declared.line.Word.TheVariants as word
use Rattle.bts_forms.specs.declared.line.Place.{Place}
use Rattle.bts_forms.specs.declared.line.ScriptError.{ScriptError}
use Rattle.bts_forms.specs.Texts.{without_spaces}
use Rattle.bts_forms.specs.Forms.{Saying, forms, form_of}
use Rattle.bts_forms.proofs.AllForms.{Holds}
use Rattle.bts_script.specs.Blocks.{Numbered, Refusal, GivesWhatIsSaid, belongs_at, by_table, goal_of, is_in, is_outside, is_printable, label_of, labels_by, labels_of, line_in, put_first, said_at, script_of, statement_in, statement_of, statements, stop_where, then_others, with_labels}

-- ---- one line

-- a fact on lines, of those that are let through
abbrev pub Passing : (Line → Type 0) → Bool → Line → Type 0
Passing P passes l = passes ≡ true → P l

stopped : {A : Type 0} (P : A → Type 0) (t : Bool) (why : Word) (rest : Result A Word) → IfOk rest P → IfOk (stop_where t why rest) P
stopped P true why rest h = tt
stopped P false why rest h = h

said_holds : (P : Line → Type 0) (at : Option Place) (said : Option Saying) → Holds (Passing P) said → IfOk (said_at by_table at said) P
said_holds P at None h = tt
said_holds P at (Some (setting, false, said)) h = tt
said_holds P at (Some (setting, true, Err why)) h = stopped P (not (belongs_at setting at)) word.Place (Err why) tt
said_holds P at (Some (setting, true, Ok l)) h = stopped P (not (belongs_at setting at)) word.Place (Ok l) (h refl)

pub line_holds : (P : Line → Type 0) (at : Option Place) (text : Bytes) → Holds (Passing P) (form_of forms (without_spaces text)) → IfOk (line_in by_table at text) P
line_holds P at text h =
    stopped P (not (list_all is_printable text)) word.Character (said_at by_table at (form_of forms (without_spaces text))) (said_holds P at (form_of forms (without_spaces text)) h)

-- ---- the lines of a block

-- a fact on lines, of a statement
abbrev pub Stating : (Line → Type 0) → Statement → Type 0
Stating P s = P (line.Statement s)

of_line : (P : Line → Type 0) (said : Result Line Word) → IfOk said P → IfOk (statement_of said) (Stating P)
of_line P (Err why) h = tt
of_line P (Ok (line.Statement s)) h = h
of_line P (Ok (line.Program n)) h = tt
of_line P (Ok (line.Request k)) h = tt
of_line P (Ok line.End) h = tt
of_line P (Ok (line.Clock m)) h = tt
of_line P (Ok line.Settle) h = tt
of_line P (Ok (line.Browse t n m s b)) h = tt

labelled : (S : Statement → Type 0) (before all : List Name) (said : Result Statement Word) → IfOk said S → IfOk (with_labels before all said) S
labelled S before all (Err why) h = tt
labelled S before all (Ok s) h = stopped S (is_in before (label_of s)) word.Twice (stop_where (is_outside all (goal_of s)) word.Label (Ok s)) (stopped S (is_outside all (goal_of s)) word.Label (Ok s) h)

put_holds : (S : Statement → Type 0) (s : Statement) (others : Result (List Statement) Refusal) → S s → IfOk others (AllByRecursion S) → IfOk (put_first s others) (AllByRecursion S)
put_holds S s (Err r) h k = tt
put_holds S s (Ok ss) h k = (h, k)

next_holds : (S : Statement → Type 0) (n : _) (said : Result Statement Word) (others : Statement → Result (List Statement) Refusal) → IfOk said S
    → ((s : Statement) → IfOk (others s) (AllByRecursion S)) → IfOk (then_others n said others) (AllByRecursion S)
next_holds S n (Err why) others h k = tt
next_holds S n (Ok s) others h k = put_holds S s (others s) h (k s)

-- what the line says, wherever it stands
abbrev pub SaysSuch : (Line → Type 0) → Numbered → Type 0
SaysSuch P l = (at : Option Place) → IfOk (line_in by_table at l.1) P

statements_hold : (P : Line → Type 0) (p : Place) (before all : List Name) (lines : List Numbered) → AllByRecursion (SaysSuch P) lines
    → IfOk (statements by_table p before all lines) (AllByRecursion (Stating P))
unfolding statements
statements_hold P p before all [] h = tt
statements_hold P p before all (l ∷ ls) h =
    next_holds (Stating P) l.0 (with_labels before all (statement_in by_table p l.1)) (λ s. statements by_table p (before ++ labels_by s) all ls)
    (labelled (Stating P) before all (statement_in by_table p l.1) (of_line P (line_in by_table (Some p) l.1) (h.0 (Some p))))
    (λ s. statements_hold P p (before ++ labels_by s) all ls h.1)

pub script_holds : (P : Line → Type 0) (p : Place) (lines : List Numbered) → AllByRecursion (SaysSuch P) lines → IfOk (script_of by_table p lines) (AllByRecursion (Stating P))
script_holds P p lines h = statements_hold P p [] (labels_of by_table p lines) lines h

-- a reader gives what holds of what it should give
pub given_holds : {A : Type 0} (P : A → Type 0) (result : Result A ScriptError) (said : Result A Refusal) → GivesWhatIsSaid result said → IfOk said P → IfOk result P
given_holds P (Err e) said h k = tt
given_holds P (Ok x) said h k = let Q : Result _ Refusal → Type 0 = λ r. IfOk r P in subst Q h k
