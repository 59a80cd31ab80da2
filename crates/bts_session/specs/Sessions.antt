-- The session that a text says.
use Rattle.std.specs.Prelude.{ℕ, Bool, true, false, nat_lt, List, [], ◌∷◌, ◌++◌, length, Option, Some, None, Result, Ok, Err}
use Rattle.bts_names.specs.Names.{Bytes, Name}
use Rattle.bts_names.specs.Named.{is_there}
use Rattle.bts_names.specs.declared.key.Key.{Key}
use Rattle.bts_forms.specs.declared.statement.Statement.{Statement}
use Rattle.bts_forms.specs.declared.line.Line.{Line}
use Rattle.bts_forms.specs.declared.line.Line.TheVariants as line
use Rattle.bts_forms.specs.declared.line.Word.{Word}
use Rattle.bts_forms.specs.declared.line.Word.TheVariants as word
use Rattle.bts_forms.specs.declared.line.Place.{Place}
use Rattle.bts_forms.specs.declared.line.Place.TheVariants as place
use Rattle.bts_script.specs.Blocks.{Numbered, Refusal, Through, ends_block, refused_at, numbered, line_in, script_of, by_table}
use Rattle.bts_script.specs.Lines.{lines_of}
use Rattle.bts_session.specs.declared.session.Item.{Item}
use Rattle.bts_session.specs.declared.session.Item.TheVariants as item
use Rattle.bts_session.specs.declared.session.Session.{Session}

-- ---- sections: the lines up to each END, and those behind the last one

-- lines, and the number of the END behind them
pub record Section : Type 0 where
  pub lines : List Numbered
  pub end : Option ℕ

abbrev pub ended_at : ℕ → List Section → List Section
ended_at n sections = record { lines = []; end = Some n } ∷ sections

-- a line in front of the others of the first section
abbrev pub onto_first : Numbered → List Section → List Section
onto_first l [] = []
onto_first l (s ∷ ss) = record s { lines = l ∷ s.lines } ∷ ss

abbrev pub section_before : Bool → Numbered → List Section → List Section
section_before true l sections = ended_at l.0 sections
section_before false l sections = onto_first l sections

unfoldable pub sections_of : Through → List Numbered → List Section
sections_of through [] = record { lines = []; end = None } ∷ []
sections_of through (l ∷ ls) = section_before (ends_block through l.1) l (sections_of through ls)

-- ---- what the lines of a section add to a session

abbrev pub nothing : Session
nothing = record { items = []; programs = [] }

abbrev pub with_item : Session → Item → Session
with_item s i = record s { items = s.items ++ i ∷ [] }

abbrev pub with_program : Session → Name → List Statement → Session
with_program s n script = record s { programs = s.programs ++ (n, script) ∷ [] }

-- the script of a block, which must be closed
abbrev pub closed_block : Through → Place → ℕ → List Numbered → Option ℕ → Result (List Statement) Refusal
closed_block through p opening body None = refused_at opening word.Open
closed_block through p opening body (Some end) = script_of through p body

-- what follows, where nothing was refused
abbrev pub then_on : {A B : Type 0} → (A → Result B Refusal) → Result A Refusal → Result B Refusal
then_on f (Err r) = Err r
then_on f (Ok x) = f x

-- a request, and a program; a program's name stands once in a session
abbrev pub request_in : Through → Session → Key → ℕ → List Numbered → Option ℕ → Result Session Refusal
request_in through s key opening body end = then_on (λ script. Ok (with_item s (item.Request key script))) (closed_block through place.Request opening body end)

abbrev pub unless_twice : Bool → ℕ → Result Session Refusal → Result Session Refusal
unless_twice true opening said = refused_at opening word.Twice
unless_twice false opening said = said

abbrev pub program_in : Through → Session → Name → ℕ → List Numbered → Option ℕ → Result Session Refusal
program_in through s n opening body end =
    unless_twice (is_there n s.programs) opening (then_on (λ script. Ok (with_program s n script)) (closed_block through place.Program opening body end))

-- an END that closes no block doesn't belong there
abbrev pub closes_nothing : Session → Option ℕ → Result Session Refusal
closes_nothing s None = Ok s
closes_nothing s (Some n) = refused_at n word.Place

-- what a line outside of blocks says
unfoldable pub outside : Through → Bytes → Result Line Word
outside through text = line_in through None text

-- a line that stands alone, and what more the lines behind it add; or one that opens a block, and the block
abbrev pub by_line : Through → (Session → Result Session Refusal) → Session → ℕ → List Numbered → Option ℕ → Result Line Word → Result Session Refusal
by_line through more s n body end (Err why) = refused_at n why
by_line through more s n body end (Ok (line.Program name)) = program_in through s name n body end
by_line through more s n body end (Ok (line.Request key)) = request_in through s key n body end
by_line through more s n body end (Ok (line.Clock m)) = more (with_item s (item.Clock m))
by_line through more s n body end (Ok line.Settle) = more (with_item s item.Settle)
by_line through more s n body end (Ok (line.Browse t p m st b)) = more (with_item s (item.Browse (record { ptype = t; pname = p; mode = m; status = st; suspended = b })))
by_line through more s n body end (Ok line.End) = refused_at n word.Place
by_line through more s n body end (Ok (line.Statement x)) = refused_at n word.Place

-- a section is made of lines that stand alone, and then of one that opens a block, and the block
unfoldable pub section_in : Through → Session → List Numbered → Option ℕ → Result Session Refusal
section_in through s [] end = closes_nothing s end
section_in through s (l ∷ ls) end = by_line through (λ t. section_in through t ls end) s l.0 ls end (outside through l.1)

unfoldable pub sections_in : Through → Session → List Section → Result Session Refusal
sections_in through s [] = Ok s
sections_in through s (x ∷ xs) = then_on (λ t. sections_in through t xs) (section_in through s x.lines x.end)

-- ---- the whole text

-- what texts of lines, of which the first has this number, add to a session
abbrev pub session_from : Through → Session → ℕ → List Bytes → Result Session Refusal
session_from through s first texts = sections_in through s (sections_of through (numbered first texts))

-- the bytes that a session has at most
abbrev pub text_limit : ℕ
text_limit = 16_777_216

-- a text that is too long is refused as a whole
abbrev pub unless_long : Bool → Result Session Refusal → Result Session Refusal
unless_long true said = refused_at 0 word.Long
unless_long false said = said

-- the session that bytes say, or the first bad line
abbrev pub session_in : Through → Bytes → Result Session Refusal
session_in through bytes = unless_long (nat_lt text_limit (length bytes)) (session_from through nothing 1 (lines_of bytes))

-- the same with the lines that are let through
abbrev pub session_of : Bytes → Result Session Refusal
session_of = session_in by_table
