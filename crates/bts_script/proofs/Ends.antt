-- Which lines end a block.
use Rattle.std.proofs.Common.{◌≡◌, Bool, true, false, refl, Option, Some, None, Result, Ok, Err}
use Rattle.std.specs.Prelude.{not, ◌&&◌, cond, is_some, codes, [], ◌∷◌}
use Rattle.std.specs.Option.{option_map}
use Rattle.std.specs.List.{list_all}
use Rattle.std.specs.Str.{bytes_eq}
use Rattle.std.proofs.lemmas.Slice.Eq.{bytes_eq-Decides}
use Rattle.bts_names.specs.Names.{Bytes, Name}
use Rattle.bts_forms.specs.declared.line.Line.{Line}
use Rattle.bts_forms.specs.declared.line.Line.TheVariants as line
use Rattle.bts_forms.specs.declared.line.Word.{Word}
use Rattle.bts_forms.specs.declared.line.Word.TheVariants as word
use Rattle.bts_forms.specs.declared.line.Setting.TheVariants as setting
use Rattle.bts_forms.specs.declared.line.Place.TheVariants as place
use Rattle.bts_forms.specs.Arguments.{process_type, process_name, program_name}
use Rattle.bts_forms.specs.Texts.{first_word, without_spaces}
use Rattle.bts_forms.specs.Pieces.{Piece, says, bare, behind_word, ended, ◌▸◌, ◌▹◌}
use Rattle.bts_forms.specs.Forms.{Saying, forms, form_of, reads_by, program_line, request_line, end_line}
use Rattle.bts_forms.proofs.AllForms.{Holds, Lawful, is_end_line, read, in_table, lawful_but_end}
use Rattle.bts_script.specs.Blocks.{stop_where, belongs_at, is_printable, said_at, is_end, ends_block, by_table}

abbrev request_of : Name → Name → Line
request_of t n = line.Request (record { ptype = t; pname = n })

-- ---- END

abbrev closes : Option Bytes → Bool
closes None = false
closes (Some []) = true
closes (Some (b ∷ bs)) = false

end_on : (rest : Option Bytes) → ended (option_map (λ r. (Ok line.End, r)) rest) ≡ cond (closes rest) (Some (Ok line.End)) None
unfolding ended
end_on None = refl
end_on (Some []) = refl
end_on (Some (b ∷ bs)) = refl

end_reads : (text : Bytes) → ended (end_line text) ≡ cond (closes (behind_word (codes "END") text)) (Some (Ok line.End)) None
unfolding end_line
end_reads text = end_on (behind_word (codes "END") text)

-- a line that begins with one word doesn't begin with another
closes_where : (t : Bool) (rest : Bytes) → closes (cond t (Some rest) None) ≡ true → t ≡ true
closes_where true rest h = refl
closes_where false rest h = cc

apart_on : (first word more : Bytes) (rest : Bytes) → bytes_eq word more ≡ false → bytes_eq first word ≡ true → cond (bytes_eq first more) (Some rest) None ≡ None
apart_on first word more rest differ h = rw ((bytes_eq-Decides first word).0 h, differ) refl

apart : (text word more : Bytes) → bytes_eq word more ≡ false → closes (behind_word word text) ≡ true → behind_word more text ≡ None
unfolding behind_word
apart text word more differ h = apart_on (first_word text).0 word more (first_word text).1 differ (closes_where (bytes_eq (first_word text).0 word) (first_word text).1 h)

no_word : {A : Type 0} (x : A) (word text : Bytes) → behind_word word text ≡ None → (says x ▸ word) text ≡ None
no_word x word text h = rw (◌▸◌, h) refl

nothing_behind : {A B : Type 0} (p : Piece (A → B)) (q : Piece A) (text : Bytes) → p text ≡ None → (p ▹ q) text ≡ None
nothing_behind p q text h = rw (◌▹◌, h) refl

no_program : (text : Bytes) → behind_word (codes "PROGRAM") text ≡ None → program_line text ≡ None
unfolding program_line
no_program text h = nothing_behind (says line.Program ▸ codes "PROGRAM") (bare program_name) text (no_word line.Program (codes "PROGRAM") text h)

no_request : (text : Bytes) → behind_word (codes "REQUEST") text ≡ None → request_line text ≡ None
unfolding request_line
no_request text h =
    nothing_behind (says request_of ▸ codes "REQUEST" ▹ bare process_type) (bare process_name) text
    (nothing_behind (says request_of ▸ codes "REQUEST") (bare process_type) text (no_word request_of (codes "REQUEST") text h))

nothing_ended : (p : Piece Line) (text : Bytes) → p text ≡ None → ended (p text) ≡ None
unfolding ended
nothing_ended p text h = rw h refl

reads_none : (p : Piece Line) (text : Bytes) → ended (p text) ≡ None → read p text ≡ None
unfolding reads_by
reads_none p text h = rw h refl

reads_some : (p : Piece Line) (text : Bytes) (said : Line) → ended (p text) ≡ Some (Ok said) → read p text ≡ Some (Ok said)
unfolding reads_by
reads_some p text said h = rw h refl

-- where a line isn't END none says so
end_said : (l : Line) → is_end_line l ≡ false → is_end (Ok l) ≡ false
end_said (line.Statement s) h = refl
end_said (line.Program n) h = refl
end_said (line.Request k) h = refl
end_said line.End h = h
end_said (line.Clock m) h = refl
end_said line.Settle h = refl
end_said (line.Browse t n m s b) h = refl

refused_said : (said : Result Line Word) (first second : Bool) → is_end said ≡ false → is_end (stop_where first word.NotYet (stop_where second word.Place said)) ≡ false
refused_said said true second h = refl
refused_said said false true h = refl
refused_said said false false h = h

no_end_said : (said : Option Saying) → Holds Lawful said → is_end (said_at by_table (Some place.Program) said) ≡ false
no_end_said None h = refl
no_end_said (Some (at, passes, Err why)) h = refused_said (Err why) (not passes) (not (belongs_at at (Some place.Program))) refl
no_end_said (Some (at, passes, Ok l)) h = refused_said (Ok l) (not passes) (not (belongs_at at (Some place.Program))) (end_said l h.no_end)

-- where it is, that is what the table says, and it is let through
end_there : (text : Bytes) → closes (behind_word (codes "END") text) ≡ true → form_of forms text ≡ Some (setting.Closing, true, Ok line.End)
end_there text h =
    let end : ended (end_line text) ≡ Some (Ok line.End) = rw (end_reads text, h) refl in
    let program : ended (program_line text) ≡ None = nothing_ended program_line text (no_program text (apart text (codes "END") (codes "PROGRAM") refl h)) in
    let request : ended (request_line text) ≡ None = nothing_ended request_line text (no_request text (apart text (codes "END") (codes "REQUEST") refl h)) in
    rw (in_table text, reads_none program_line text program, reads_none request_line text request, reads_some end_line text line.End end) refl

ends_on : (text : Bytes) (printable there : Bool) → list_all is_printable text ≡ printable → closes (behind_word (codes "END") (without_spaces text)) ≡ there
    → ends_block by_table text ≡ (list_all is_printable text && is_some (ended (end_line (without_spaces text))))
ends_on text false there p e = rw p refl
ends_on text true false p e =
    let none : ended (end_line (without_spaces text)) ≡ None = rw (end_reads (without_spaces text), e) refl in
    rw (p, none) (no_end_said (form_of forms (without_spaces text)) (lawful_but_end (without_spaces text) (reads_none end_line (without_spaces text) none)))
ends_on text true true p e = rw (p, end_reads (without_spaces text), e, end_there (without_spaces text) e) refl

pub ends_where : (text : Bytes) → ends_block by_table text ≡ (list_all is_printable text && is_some (ended (end_line (without_spaces text))))
ends_where text = ends_on text (list_all is_printable text) (closes (behind_word (codes "END") (without_spaces text))) refl refl
