-- What holds of each line that is let through holds of the items and programs of a session.
use Rattle.std.proofs.Common.{◌≡◌, ℕ, Bool, true, false, List, [], ◌∷◌, ◌++◌, Option, Some, None, Result, Ok, Err, length, refl}
use Rattle.std.specs.Prelude.{IfOk, nat_lt}
use Rattle.std.specs.List.{AllByRecursion}
use Rattle.bts_names.specs.Names.{Bytes, Name}
use Rattle.bts_names.specs.Named.{is_there}
use Rattle.bts_names.specs.declared.key.Key.{Key}
use Rattle.bts_names.specs.declared.state.Mode.{Mode}
use Rattle.bts_names.specs.declared.state.Status.{Status}
use Rattle.bts_forms.specs.declared.statement.Statement.{Statement}
use Rattle.bts_forms.specs.declared.line.Line.{Line}
use Rattle.bts_forms.specs.declared.line.Line.TheVariants as line
use Rattle.bts_forms.specs.declared.line.Place.{Place}
use Rattle.bts_forms.specs.declared.line.Place.TheVariants as place
use Rattle.bts_forms.specs.declared.line.Word.{Word}
use Rattle.bts_script.specs.Blocks.{Numbered, Refusal, by_table, ends_block, numbered}
use Rattle.bts_script.specs.Lines.{lines_of}
use Rattle.bts_script.proofs.Kept.{SaysSuch, Stating, script_holds}
use Rattle.bts_session.specs.Sessions.{Section, by_line, closed_block, closes_nothing, nothing, onto_first, outside, section_before, section_in, sections_in, sections_of, session_of, text_limit, then_on, unless_long, unless_twice, with_item, with_program}
use Rattle.bts_session.specs.declared.session.Item.{Item}
use Rattle.bts_session.specs.declared.session.Item.TheVariants as item
use Rattle.bts_session.specs.declared.session.Session.{Session}

-- a fact on lines, the one on items that they make, and that on the statements of programs
pub record AllOf (P : Line → Type 0) (I : Item → Type 0) (s : Session) : Type 0 where
  pub items : AllByRecursion I s.items
  pub programs : AllByRecursion (λ p. AllByRecursion (Stating P) p.1) s.programs

pub record Makes (P : Line → Type 0) (I : Item → Type 0) : Type 0 where
  pub request : (key : Key) (script : List Statement) → AllByRecursion (Stating P) script → I (item.Request key script)
  pub settle : P line.Settle → I item.Settle
  pub clock : (m : ℕ) → P (line.Clock m) → I (item.Clock m)
  pub browse : (t n : Option Name) (m : Option Mode) (st : Option Status) (b : Bool) → P (line.Browse t n m st b)
      → I (item.Browse (record { ptype = t; pname = n; mode = m; status = st; suspended = b }))

one_behind : {A : Type 0} (Q : A → Type 0) (xs : List A) (x : A) → AllByRecursion Q xs → Q x → AllByRecursion Q (xs ++ x ∷ [])
one_behind Q [] x h k = (k, tt)
one_behind Q (y ∷ ys) x h k = (h.0, one_behind Q ys x h.1 k)

item_behind : (P : Line → Type 0) (I : Item → Type 0) (s : Session) (i : Item) → AllOf P I s → I i → AllOf P I (with_item s i)
item_behind P I s i h k = record { items = one_behind I s.items i h.items k; programs = h.programs }

program_behind : (P : Line → Type 0) (I : Item → Type 0) (s : Session) (n : Name) (script : List Statement) → AllOf P I s → AllByRecursion (Stating P) script → AllOf P I (with_program s n script)
program_behind P I s n script h k = record { items = h.items; programs = one_behind (λ p. AllByRecursion (Stating P) p.1) s.programs (n, script) h.programs k }

-- ---- what follows where nothing was refused

pub then_holds : {A B : Type 0} (Q : A → Type 0) (R : B → Type 0) (f : A → Result B Refusal) (said : Result A Refusal) → IfOk said Q → ((x : A) → Q x → IfOk (f x) R) → IfOk (then_on f said) R
then_holds Q R f (Err r) h k = tt
then_holds Q R f (Ok x) h k = k x h

block_holds : (P : Line → Type 0) (p : Place) (opening : ℕ) (body : List Numbered) (end : Option ℕ) → AllByRecursion (SaysSuch P) body → IfOk (closed_block by_table p opening body end) (AllByRecursion (Stating P))
block_holds P p opening body None h = tt
block_holds P p opening body (Some n) h = script_holds P p body h

once_holds : (Q : Session → Type 0) (twice : Bool) (opening : ℕ) (said : Result Session Refusal) → IfOk said Q → IfOk (unless_twice twice opening said) Q
once_holds Q true opening said h = tt
once_holds Q false opening said h = h

-- ---- one line, one section, all of them

said_holds : (P : Line → Type 0) (I : Item → Type 0) → Makes P I → (more : Session → Result Session Refusal) → ((t : Session) → AllOf P I t → IfOk (more t) (AllOf P I))
    → (s : Session) (n : ℕ) (body : List Numbered) (end : Option ℕ) → AllByRecursion (SaysSuch P) body → (said : Result Line Word) → AllOf P I s → IfOk said P → IfOk (by_line by_table more s n body end said) (AllOf P I)
said_holds P I makes more go s n body end lines (Err why) h k = tt
said_holds P I makes more go s n body end lines (Ok (line.Program name)) h k =
    once_holds (AllOf P I) (is_there name s.programs) n (then_on (λ script. Ok (with_program s name script)) (closed_block by_table place.Program n body end))
    (then_holds (AllByRecursion (Stating P)) (AllOf P I) (λ script. Ok (with_program s name script)) (closed_block by_table place.Program n body end) (block_holds P place.Program n body end lines)
    (λ script. program_behind P I s name script h))
said_holds P I makes more go s n body end lines (Ok (line.Request key)) h k =
    then_holds (AllByRecursion (Stating P)) (AllOf P I) (λ script. Ok (with_item s (item.Request key script))) (closed_block by_table place.Request n body end) (block_holds P place.Request n body end lines)
    (λ script l. item_behind P I s (item.Request key script) h (makes.request key script l))
said_holds P I makes more go s n body end lines (Ok (line.Clock m)) h k = go (with_item s (item.Clock m)) (item_behind P I s (item.Clock m) h (makes.clock m k))
said_holds P I makes more go s n body end lines (Ok line.Settle) h k = go (with_item s item.Settle) (item_behind P I s item.Settle h (makes.settle k))
said_holds P I makes more go s n body end lines (Ok (line.Browse t p m st b)) h k =
    let i : Item = item.Browse (record { ptype = t; pname = p; mode = m; status = st; suspended = b }) in
    go (with_item s i) (item_behind P I s i h (makes.browse t p m st b k))
said_holds P I makes more go s n body end lines (Ok line.End) h k = tt
said_holds P I makes more go s n body end lines (Ok (line.Statement x)) h k = tt

outside_holds : (P : Line → Type 0) (l : Numbered) → SaysSuch P l → IfOk (outside by_table l.1) P
unfolding outside
outside_holds P l h = h None

nothing_closed : (Q : Session → Type 0) (s : Session) (end : Option ℕ) → Q s → IfOk (closes_nothing s end) Q
nothing_closed Q s None h = h
nothing_closed Q s (Some n) h = tt

section_holds : (P : Line → Type 0) (I : Item → Type 0) → Makes P I → (s : Session) (lines : List Numbered) (end : Option ℕ) → AllByRecursion (SaysSuch P) lines → AllOf P I s
    → IfOk (section_in by_table s lines end) (AllOf P I)
unfolding section_in
section_holds P I makes s [] end k h = nothing_closed (AllOf P I) s end h
section_holds P I makes s (l ∷ ls) end k h =
    said_holds P I makes (λ t. section_in by_table t ls end) (λ t g. section_holds P I makes t ls end k.1 g) s l.0 ls end k.1 (outside by_table l.1) h (outside_holds P l k.0)

abbrev SaysSuchLines : (Line → Type 0) → Section → Type 0
SaysSuchLines P x = AllByRecursion (SaysSuch P) x.lines

sections_hold : (P : Line → Type 0) (I : Item → Type 0) → Makes P I → (s : Session) (sections : List Section) → AllByRecursion (SaysSuchLines P) sections → AllOf P I s → IfOk (sections_in by_table s sections) (AllOf P I)
unfolding sections_in
sections_hold P I makes s [] k h = h
sections_hold P I makes s (x ∷ xs) k h =
    then_holds (AllOf P I) (AllOf P I) (λ t. sections_in by_table t xs) (section_in by_table s x.lines x.end) (section_holds P I makes s x.lines x.end k.0 h) (λ t g. sections_hold P I makes t xs k.1 g)

-- ---- the lines of sections are those of the text

onto_such : (P : Line → Type 0) (l : Numbered) (sections : List Section) → SaysSuch P l → AllByRecursion (SaysSuchLines P) sections → AllByRecursion (SaysSuchLines P) (onto_first l sections)
onto_such P l [] h k = tt
onto_such P l (s ∷ ss) h k = ((h, k.0), k.1)

before_such : (P : Line → Type 0) (ends : Bool) (l : Numbered) (sections : List Section) → SaysSuch P l → AllByRecursion (SaysSuchLines P) sections → AllByRecursion (SaysSuchLines P) (section_before ends l sections)
before_such P true l sections h k = (tt, k)
before_such P false l sections h k = onto_such P l sections h k

sections_such : (P : Line → Type 0) (lines : List Numbered) → AllByRecursion (SaysSuch P) lines → AllByRecursion (SaysSuchLines P) (sections_of by_table lines)
unfolding sections_of
sections_such P [] h = (tt, tt)
sections_such P (l ∷ ls) h = before_such P (ends_block by_table l.1) l (sections_of by_table ls) h.0 (sections_such P ls h.1)

-- ---- the whole text

unless_holds : (P : Line → Type 0) (I : Item → Type 0) (long : Bool) (said : Result Session Refusal) → (long ≡ false → IfOk said (AllOf P I)) → IfOk (unless_long long said) (AllOf P I)
unless_holds P I true said h = tt
unless_holds P I false said h = h refl

-- what holds of each line holds of the session
pub session_holds : (P : Line → Type 0) (I : Item → Type 0) → Makes P I → (bytes : Bytes) → (nat_lt text_limit (length bytes) ≡ false → AllByRecursion (SaysSuch P) (numbered 1 (lines_of bytes)))
    → IfOk (session_of bytes) (AllOf P I)
session_holds P I makes bytes lines =
    let sections : List Section = sections_of by_table (numbered 1 (lines_of bytes)) in
    unless_holds P I (nat_lt text_limit (length bytes)) (sections_in by_table nothing sections)
    (λ fits. sections_hold P I makes nothing sections (sections_such P (numbered 1 (lines_of bytes)) (lines fits)) (record { items = tt; programs = tt }))

-- a fact of sessions that follows
pub so_too : {Q R : Session → Type 0} (said : Result Session Refusal) → ((s : Session) → Q s → R s) → IfOk said Q → IfOk said R
so_too (Err r) f h = tt
so_too (Ok s) f h = f s h
