-- What a session becomes by one line, or by one block.
use Rattle.std.proofs.Common.{◌≡◌, ℕ, ◌<◌, ◌+◌, Bool, true, false, List, [], ◌∷◌, refl, ap, ◌∙◌, arith, length, Option, Result, Ok, Err}
use Rattle.std.specs.Prelude.{◌≤◌, nat_lt}
use Rattle.std.proofs.lemmas.Bool.Decides.{nat_tests}
use Rattle.bts_names.specs.Names.{Bytes, Name}
use Rattle.bts_names.specs.Named.{is_there}
use Rattle.bts_names.specs.declared.key.Key.{Key}
use Rattle.bts_names.specs.declared.state.Mode.{Mode}
use Rattle.bts_names.specs.declared.state.Status.{Status}
use Rattle.bts_forms.specs.declared.line.ScriptError.{ScriptError}
use Rattle.bts_forms.specs.declared.line.ScriptError.TheVariants as error
use Rattle.bts_forms.specs.declared.line.Line.{Line}
use Rattle.bts_forms.specs.declared.line.Line.TheVariants as line
use Rattle.bts_forms.specs.declared.line.Place.TheVariants as place
use Rattle.bts_forms.specs.declared.line.Word.{Word}
use Rattle.bts_forms.specs.declared.line.Word.TheVariants as word
use Rattle.bts_forms.specs.declared.statement.Statement.{Statement}
use Rattle.bts_script.specs.Blocks.{IsRefusedFor, at_line, ends_block, Numbered, Through, Refusal, is_skipped, numbered, refused_at}
use Rattle.bts_script.specs.Lines.{lines_of}
use Rattle.bts_session.specs.Sessions.{Section, nothing, session_in, text_limit, onto_first, sections_of, section_in, sections_in, outside, session_from, with_item, with_program, closed_block, then_on, unless_twice, by_line}
use Rattle.bts_session.specs.Reading.{by_first, sections_from, with_block, with_request, with_new_program}
use Rattle.bts_session.specs.declared.session.Item.TheVariants as item
use Rattle.bts_session.specs.declared.session.Session.{Session}
use Rattle.bts_session.proofs.Sectioning.{numbered_skipped, sections_ended, sections_onto, some_section}

-- refusals are the same, whatever was to be read
same_refusal : {A B : Type 0} (n m : ℕ) (why w : Word) → refused_at {A = A} n why ≡ refused_at m w → refused_at {A = B} n why ≡ refused_at m w
same_refusal n m why w e =
    let r : Refusal = record { line = n; reason = why } in
    let q : Refusal = record { line = m; reason = w } in
    let f : r ≡ q = cc in
    ap Err f

not_both : {A : Type 0} (x : A) (r : Refusal) → Ok x ≡ Err r → ⊥
not_both x r e = cc

module _ (through : Through) where
  -- ---- lines that are skipped, and an END that closes nothing

  pub from_skipped : (s : Session) (n : ℕ) (line : Bytes) (texts : List Bytes) → is_skipped line ≡ true → session_from through s n (line ∷ texts) ≡ session_from through s (n + 1) texts
  from_skipped s n line texts skipped = rw (numbered_skipped n line texts skipped) refl

  pub from_nothing : (s : Session) (n : ℕ) → session_from through s n [] ≡ Ok s
  unfolding sections_of section_in sections_in
  from_nothing s n = refl

  pub from_end : (s : Session) (n : ℕ) (line : Bytes) (texts : List Bytes) → is_skipped line ≡ false → ends_block through line ≡ true → session_from through s n (line ∷ texts) ≡ refused_at n word.Place
  unfolding section_in sections_in
  from_end s n line texts kept ends = rw (sections_ended through n line texts kept ends) refl

  -- ---- a line of another form: what it does to the first section

  onto_said : (s : Session) (n : ℕ) (text : Bytes) (said : Result Line Word) (ss : List Section) → outside through text ≡ said → sections_in through s (onto_first (n, text) ss) ≡ by_first through s n said ss
  unfolding section_in sections_in
  onto_said s n text said [] h = refl
  onto_said s n text said (x ∷ xs) h = rw h refl

  from_line : (s : Session) (n : ℕ) (text : Bytes) (texts : List Bytes) (said : Result Line Word) → is_skipped text ≡ false → ends_block through text ≡ false → outside through text ≡ said
      → session_from through s n (text ∷ texts) ≡ by_first through s n said (sections_of through (numbered (n + 1) texts))
  from_line s n text texts said kept open_ h = rw (sections_onto through n text texts kept open_) (onto_said s n text said (sections_of through (numbered (n + 1) texts)) h)

  pub from_said : (s : Session) (n : ℕ) (text behind : Bytes) (said : Line) → is_skipped text ≡ false → ends_block through text ≡ false → outside through text ≡ Ok said
      → session_from through s n (text ∷ lines_of behind) ≡ by_first through s n (Ok said) (sections_from through (n + 1) behind)
  from_said s n text behind said kept open_ h = from_line s n text (lines_of behind) (Ok said) kept open_ h

  -- ---- by what the line says

  alone : (s t : Session) (n : ℕ) (said : Result Line Word) (ss : List Section) → 0 < length ss
      → ((ls : List Numbered) (end : Option ℕ) (more : Session → Result Session Refusal) → by_line through more s n ls end said ≡ more t) → by_first through s n said ss ≡ sections_in through t ss
  unfolding sections_in
  alone s t n said [] some h = absurd (omega arith)
  alone s t n said (x ∷ xs) some h = ap (then_on (λ u. sections_in through u xs)) (h x.lines x.end (λ u. section_in through u x.lines x.end))

  refused : (s : Session) (n : ℕ) (said : Result Line Word) (why : Word) (ss : List Section) → 0 < length ss
      → ((ls : List Numbered) (end : Option ℕ) (more : Session → Result Session Refusal) → by_line through more s n ls end said ≡ refused_at n why) → by_first through s n said ss ≡ refused_at n why
  refused s n said why [] some h = absurd (omega arith)
  refused s n said why (x ∷ xs) some h = ap (then_on (λ u. sections_in through u xs)) (h x.lines x.end (λ u. section_in through u x.lines x.end))

  some_from : (n : ℕ) (text : Bytes) → 0 < length (sections_from through n text)
  some_from n text = some_section through (numbered n (lines_of text))

  pub first_clock : (s : Session) (n : ℕ) (said : Line) (behind : Bytes) (m : ℕ) → said ≡ line.Clock m
      → by_first through s n (Ok said) (sections_from through (n + 1) behind) ≡ session_from through (with_item s (item.Clock m)) (n + 1) (lines_of behind)
  first_clock s n said behind m h = rw h (alone s (with_item s (item.Clock m)) n (Ok (line.Clock m)) _ (some_from (n + 1) behind) (λ ls end more. refl))

  pub first_settle : (s : Session) (n : ℕ) (said : Line) (behind : Bytes) → said ≡ line.Settle
      → by_first through s n (Ok said) (sections_from through (n + 1) behind) ≡ session_from through (with_item s item.Settle) (n + 1) (lines_of behind)
  first_settle s n said behind h = rw h (alone s (with_item s item.Settle) n (Ok line.Settle) _ (some_from (n + 1) behind) (λ ls end more. refl))

  pub first_browse : (s : Session) (n : ℕ) (said : Line) (behind : Bytes) (t : Option Name) (p : Option Name) (m : Option Mode) (st : Option Status) (b : Bool) → said ≡ line.Browse t p m st b
      → by_first through s n (Ok said) (sections_from through (n + 1) behind) ≡ session_from through (with_item s (item.Browse (record { ptype = t; pname = p; mode = m; status = st; suspended = b }))) (n + 1) (lines_of behind)
  first_browse s n said behind t p m st b h = rw h (alone s (with_item s (item.Browse (record { ptype = t; pname = p; mode = m; status = st; suspended = b }))) n (Ok (line.Browse t p m st b)) _ (some_from (n + 1) behind) (λ ls end more. refl))

  pub first_statement : (s : Session) (n : ℕ) (said : Line) (behind : Bytes) (x : Statement) → said ≡ line.Statement x
      → by_first through s n (Ok said) (sections_from through (n + 1) behind) ≡ refused_at n word.Place
  first_statement s n said behind x h = rw h (refused s n (Ok (line.Statement x)) word.Place _ (some_from (n + 1) behind) (λ ls end more. refl))

  pub first_end : (s : Session) (n : ℕ) (said : Line) (behind : Bytes) → said ≡ line.End
      → by_first through s n (Ok said) (sections_from through (n + 1) behind) ≡ refused_at n word.Place
  first_end s n said behind h = rw h (refused s n (Ok line.End) word.Place _ (some_from (n + 1) behind) (λ ls end more. refl))

  refused_with : (e : ScriptError) (s : Session) (n : ℕ) (text behind : Bytes) (said : Result Line Word) → is_skipped text ≡ false → ends_block through text ≡ false → outside through text ≡ said
      → IsRefusedFor e (at_line n said) → IsRefusedFor e (session_from through s n (text ∷ lines_of behind))
  refused_with error.NoMemory s n text behind said kept open_ h told = tt
  refused_with (error.Syntax k why) s n text behind (Ok said) kept open_ h told = absurd (not_both said _ told)
  refused_with (error.Syntax k why) s n text behind (Err w) kept open_ h told =
      from_line s n text (lines_of behind) (Err w) kept open_ h ∙ refused s n (Err w) w _ (some_from (n + 1) behind) (λ ls end more. refl) ∙ same_refusal n k w why told

  pub line_refused : (e : ScriptError) (s : Session) (n : ℕ) (text behind : Bytes) → is_skipped text ≡ false → ends_block through text ≡ false
      → IsRefusedFor e (at_line n (outside through text)) → IsRefusedFor e (session_from through s n (text ∷ lines_of behind))
  line_refused e s n text behind kept open_ told = refused_with e s n text behind (outside through text) kept open_ refl told

  -- ---- blocks

  twice_over : (t : Bool) (n : ℕ) (f : Session → Result Session Refusal) (said : Result Session Refusal) → then_on f (unless_twice t n said) ≡ unless_twice t n (then_on f said)
  twice_over true n f said = refl
  twice_over false n f said = refl

  into_block : (f : List Statement → Session) (xs : List Section) (said : Result (List Statement) Refusal)
      → then_on (λ u. sections_in through u xs) (then_on (λ x. Ok (f x)) said) ≡ with_block through f (then_on (λ x. Ok (x, xs)) said)
  into_block f xs (Err r) = refl
  into_block f xs (Ok x) = refl

  request_first : (s : Session) (n : ℕ) (key : Key) (ss : List Section) → 0 < length ss
      → by_first through s n (Ok (line.Request key)) ss ≡ with_request through s key n ss
  request_first s n key [] some = absurd (omega arith)
  request_first s n key (x ∷ xs) some = into_block (λ script. with_item s (item.Request key script)) xs (closed_block through place.Request n x.lines x.end)

  program_first : (s : Session) (n : ℕ) (name : Name) (ss : List Section) → 0 < length ss
      → by_first through s n (Ok (line.Program name)) ss ≡ with_new_program through s name n ss
  program_first s n name [] some = absurd (omega arith)
  program_first s n name (x ∷ xs) some =
      twice_over (is_there name s.programs) n _ _ ∙ ap (unless_twice (is_there name s.programs) n) (into_block (λ script. with_program s name script) xs (closed_block through place.Program n x.lines x.end))

  pub first_request : (s : Session) (n : ℕ) (said : Line) (behind : Bytes) (key : Key) → said ≡ line.Request key
      → by_first through s n (Ok said) (sections_from through (n + 1) behind) ≡ with_request through s key n (sections_from through (n + 1) behind)
  first_request s n said behind key h = rw h (request_first s n key _ (some_from (n + 1) behind))

  pub first_program : (s : Session) (n : ℕ) (said : Line) (behind : Bytes) (name : Name) → said ≡ line.Program name
      → by_first through s n (Ok said) (sections_from through (n + 1) behind) ≡ with_new_program through s name n (sections_from through (n + 1) behind)
  first_program s n said behind name h = rw h (program_first s n name _ (some_from (n + 1) behind))

  -- ---- the whole text

  not_long : (n most : ℕ) → n ≤ most → nat_lt most n ≡ false
  not_long n most few = grind (arith, nat_tests)

  pub from_first : (bytes : Bytes) → length bytes ≤ text_limit → session_from through nothing 1 (lines_of bytes) ≡ session_in through bytes
  from_first bytes few = rw (not_long (length bytes) text_limit few) refl
