-- What the parts of the reader find, in the words of the grammar.
use Rattle.std.specs.Prelude.{◌≡◌, ℕ, Bool, not, ◌&&◌, ◌+◌, List, [], ◌∷◌, Option, Some, None, length, Result, Ok, Err}
use Rattle.bts_names.specs.Names.{Bytes, Name}
use Rattle.bts_names.specs.Named.{is_there}
use Rattle.bts_names.specs.declared.key.Key.{Key}
use Rattle.bts_forms.specs.declared.line.ScriptError.{ScriptError}
use Rattle.bts_forms.specs.declared.line.Place.{Place}
use Rattle.bts_forms.specs.declared.line.Place.TheVariants as place
use Rattle.bts_forms.specs.declared.line.Line.{Line}
use Rattle.bts_forms.specs.declared.line.Word.{Word}
use Rattle.bts_forms.specs.declared.line.Word.TheVariants as word
use Rattle.bts_forms.specs.declared.statement.Statement.{Statement}
use Rattle.bts_script.specs.Blocks.{Refusal, Through, IsRefusedFor, ends_block, is_skipped, numbered, refused_at}
use Rattle.bts_script.specs.Lines.{lines_of}
use Rattle.bts_session.specs.Sessions.{Section, by_line, closed_block, section_in, sections_in, sections_of, then_on, unless_twice, with_item, with_program}
use Rattle.bts_session.specs.declared.session.Item.TheVariants as item
use Rattle.bts_session.specs.declared.session.Session.{Session}

abbrev pub line_count : Bytes → ℕ
line_count text = length (lines_of text)

-- the sections of a text whose first line has this number
abbrev pub sections_from : Through → ℕ → Bytes → List Section
sections_from through first text = sections_of through (numbered first (lines_of text))

-- a line that closes a block
abbrev pub closes_block : Through → Bytes → Bool
closes_block through text = not (is_skipped text) && ends_block through text

-- the text of a block, the number of its END, and the text behind that; nothing where no line ends the block
abbrev pub FindsEnd : Through → ℕ → Bytes → Option (Bytes × ℕ × Bytes) → Type 0
FindsEnd through first text None = sections_from through first text ≡ record { lines = numbered first (lines_of text); end = None } ∷ []
FindsEnd through first text (Some x) = sections_from through first text ≡ record { lines = numbered first (lines_of x.0); end = Some x.1 } ∷ sections_from through (x.1 + 1) x.2

-- what was to be read is what is read further on, or the first bad line was told, or memory ran out
abbrev pub GoesOn : {A B : Type 0} → Result A ScriptError → (A → Result B Refusal) → Result B Refusal → Type 0
GoesOn (Ok x) further said = said ≡ further x
GoesOn (Err e) further said = IsRefusedFor e said

-- the script of a block behind its opening line, and the sections behind its END
abbrev pub block_first : Through → Place → ℕ → List Section → Result (List Statement × List Section) Refusal
block_first through p opening [] = refused_at opening word.Open
block_first through p opening (s ∷ ss) = then_on (λ script. Ok (script, ss)) (closed_block through p opening s.lines s.end)

-- a session with what the script of a block is made into, and with what the sections behind it add
abbrev pub and_behind : Through → (List Statement → Session) → List Statement × List Section → Result Session Refusal
and_behind through into x = sections_in through (into x.0) x.1

abbrev pub with_block : Through → (List Statement → Session) → Result (List Statement × List Section) Refusal → Result Session Refusal
with_block through into block = then_on (and_behind through into) block

-- a session with a request, or with a program, whose block begins with these sections
abbrev pub with_request : Through → Session → Key → ℕ → List Section → Result Session Refusal
with_request through s key opening sections = with_block through (λ script. with_item s (item.Request key script)) (block_first through place.Request opening sections)

abbrev pub with_new_program : Through → Session → Name → ℕ → List Section → Result Session Refusal
with_new_program through s name opening sections =
    unless_twice (is_there name s.programs) opening (with_block through (λ script. with_program s name script) (block_first through place.Program opening sections))

-- a session with what a line says that stands in front of these sections, and what they add
abbrev pub by_first : Through → Session → ℕ → Result Line Word → List Section → Result Session Refusal
by_first through s n said [] = Ok s
by_first through s n said (x ∷ xs) = then_on (λ t. sections_in through t xs) (by_line through (λ t. section_in through t x.lines x.end) s n x.lines x.end said)
