-- A session has no more items than its text has bytes, and texts that are too long all say the same.
use Rattle.std.proofs.Common.{◌^◌, ◌≡◌, ℕ, Bool, true, false, ◌<◌, ◌≤◌, ◌+◌, ◌++◌, nat_lt, List, [], ◌∷◌, length, Option, None, Some, Result, Ok, Err, refl, sym, ap, ◌∙◌, subst, arith, length-append}
use Rattle.std.proofs.lemmas.Bool.{ltb-false}
use Rattle.bts_names.specs.Names.{Bytes}
use Rattle.bts_names.specs.Named.{is_there}
use Rattle.bts_forms.specs.declared.line.Line.{Line}
use Rattle.bts_forms.specs.declared.line.Line.TheVariants as line
use Rattle.bts_forms.specs.declared.line.Place.TheVariants as place
use Rattle.bts_forms.specs.declared.line.Word.{Word}
use Rattle.bts_forms.specs.declared.line.Word.TheVariants as word
use Rattle.bts_forms.specs.declared.statement.Statement.{Statement}
use Rattle.bts_script.specs.Blocks.{Numbered, Refusal, Through, by_table, ends_block, is_skipped, numbered, refused_at}
use Rattle.bts_script.specs.Lines.{lines_of}
use Rattle.bts_script.proofs.FirstLines.{few_lines}
use Rattle.bts_session.proofs.Sectioning.{numbered_skipped, numbered_kept}
use Rattle.bts_session.specs.Sessions.{Section, by_line, closed_block, nothing, outside, section_before, section_in, sections_in, sections_of, session_from, session_of, text_limit, then_on, unless_long, unless_twice}
use Rattle.bts_session.specs.declared.session.Item.{Item}
use Rattle.bts_session.specs.declared.session.Session.{Session}

-- what was read has so many items at most
abbrev AtMost : ℕ → Result Session Refusal → Type 0
AtMost n (Ok s) = length s.items ≤ n
AtMost n (Err r) = Unit {0}

script_most : (n : ℕ) (into : List Statement → Session) (r : Result (List Statement) Refusal) → ((script : List Statement) → length (into script).items ≤ n) → AtMost n (then_on (λ script. Ok (into script)) r)
script_most n into (Err r) h = tt
script_most n into (Ok script) h = h script

twice_most : (n : ℕ) (twice : Bool) (opening : ℕ) (r : Result Session Refusal) → AtMost n r → AtMost n (unless_twice twice opening r)
twice_most n true opening r h = tt
twice_most n false opening r h = h

one_more : (n m : ℕ) (items : List Item) (i : Item) → length items + (m + 1) ≤ n → length (items ++ i ∷ []) + m ≤ n
one_more n m items i h = omega (arith, length-append items (i ∷ []))

within : (n m : ℕ) (items : List Item) (i : Item) → length items + (m + 1) ≤ n → length (items ++ i ∷ []) ≤ n
within n m items i h = omega (arith, length-append items (i ∷ []))

module _ (through : Through) where
  -- a line gives one item at most
  line_most :
      (n m : ℕ) (s : Session) (at : ℕ) (body : List Numbered) (end : Option ℕ) (more : Session → Result Session Refusal)
      → ((t : Session) → length t.items + m ≤ n → AtMost n (more t))
      → length s.items + (m + 1) ≤ n
      → (said : Result Line Word) → AtMost n (by_line through more s at body end said)
  line_most n m s at body end more go h (Err why) = tt
  line_most n m s at body end more go h (Ok (line.Program name)) =
      twice_most n (is_there name s.programs) at _ (script_most n _ (closed_block through place.Program at body end) (λ script. omega arith))
  line_most n m s at body end more go h (Ok (line.Request key)) =
      script_most n _ (closed_block through place.Request at body end) (λ script. within n m s.items _ h)
  line_most n m s at body end more go h (Ok (line.Clock moment)) = go _ (one_more n m s.items _ h)
  line_most n m s at body end more go h (Ok line.Settle) = go _ (one_more n m s.items _ h)
  line_most n m s at body end more go h (Ok (line.Browse t p q st b)) = go _ (one_more n m s.items _ h)
  line_most n m s at body end more go h (Ok line.End) = tt
  line_most n m s at body end more go h (Ok (line.Statement x)) = tt

  section_most : (ls : List Numbered) (n : ℕ) (s : Session) (end : Option ℕ) → length s.items + length ls ≤ n → AtMost n (section_in through s ls end)
  unfolding section_in
  section_most [] n s None h = omega arith
  section_most [] n s (Some e) h = tt
  section_most (l ∷ ls) n s end h =
      line_most n (length ls) s l.0 ls end (λ t. section_in through t ls end) (λ t b. section_most ls n t end b) (omega arith) (outside through l.1)

  -- the lines of sections
  abbrev line_count : List Section → ℕ
  line_count [] = 0
  line_count (x ∷ xs) = length x.lines + line_count xs

  then_most : (n m : ℕ) (more : Session → Result Session Refusal) (r : Result Session Refusal)
      → ((t : Session) → length t.items ≤ m → AtMost n (more t)) → AtMost m r → AtMost n (then_on more r)
  then_most n m more (Err r) go h = tt
  then_most n m more (Ok t) go h = go t h

  sections_most : (xs : List Section) (n : ℕ) (s : Session) → length s.items + line_count xs ≤ n → AtMost n (sections_in through s xs)
  unfolding sections_in
  sections_most [] n s h = omega arith
  sections_most (x ∷ xs) n s h =
      then_most n (length s.items + length x.lines) (λ t. sections_in through t xs) (section_in through s x.lines x.end)
      (λ t b. sections_most xs n t (omega arith))
      (section_most x.lines (length s.items + length x.lines) s x.end (omega arith))

  before_most : (b : Bool) (l : Numbered) (xs : List Section) → line_count (section_before b l xs) ≤ line_count xs + 1
  before_most true l xs = omega arith
  before_most false l [] = omega arith
  before_most false l (x ∷ xs) = omega arith

  sectioned_most : (ls : List Numbered) → line_count (sections_of through ls) ≤ length ls
  unfolding sections_of
  sectioned_most [] = omega arith
  sectioned_most (l ∷ ls) = omega (arith, sectioned_most ls, before_most (ends_block through l.1) l (sections_of through ls))

  numbered_by : (b : Bool) (first n : ℕ) (text : Bytes) (texts : List Bytes) → is_skipped text ≡ b → length (numbered (first + 1) texts) ≤ n → length (numbered first (text ∷ texts)) ≤ n + 1
  numbered_by true first n text texts e h = omega (arith, h, ap length (numbered_skipped first text texts e))
  numbered_by false first n text texts e h = omega (arith, h, ap length (numbered_kept first text texts e))

  numbered_most : (texts : List Bytes) (first : ℕ) → length (numbered first texts) ≤ length texts
  numbered_most [] first = omega arith
  numbered_most (text ∷ texts) first =
      let most : length (numbered first (text ∷ texts)) ≤ length texts + 1
      = numbered_by (is_skipped text) first (length texts) text texts refl (numbered_most texts (first + 1)) in
      omega arith

most_of_text : (bytes : Bytes) (long : Bool) → nat_lt text_limit (length bytes) ≡ long → AtMost text_limit (unless_long long (session_from by_table nothing 1 (lines_of bytes)))
most_of_text bytes true e = tt
most_of_text bytes false e =
    let short : length bytes ≤ text_limit = ltb-false text_limit (length bytes) e in
    sections_most by_table (sections_of by_table (numbered 1 (lines_of bytes))) text_limit nothing
    (omega (arith, sectioned_most by_table (numbered 1 (lines_of bytes)), numbered_most by_table (lines_of bytes) 1, few_lines bytes))

pub items_fit : (bytes : Bytes) (s : Session) → session_of bytes ≡ Ok s → length s.items < 2 ^ 31
items_fit bytes s e =
    let most : length s.items ≤ text_limit = subst (AtMost text_limit) e (most_of_text bytes (nat_lt text_limit (length bytes)) refl) in
    omega arith

long_told : (bytes : Bytes) → 16777217 ≤ length bytes → session_of bytes ≡ refused_at 0 word.Long
long_told bytes h = by (nat_lt text_limit (length bytes)) refl
  where
    by : (b : Bool) → nat_lt text_limit (length bytes) ≡ b → unless_long b (session_from by_table nothing 1 (lines_of bytes)) ≡ refused_at 0 word.Long
    by true e = refl
    by false e = let short : length bytes ≤ text_limit = ltb-false text_limit (length bytes) e in
        let none : ⊥ = omega arith in
        absurd none

-- a text that is too long says the same as every other that is
pub long_alike : (a b : Bytes) → 16777217 ≤ length a → 16777217 ≤ length b → session_of a ≡ session_of b
long_alike a b h k = long_told a h ∙ sym (long_told b k)
