-- Pieces of a line: words, words with an argument, options and choices.
use Rattle.std.specs.Prelude.{ℕ, zero, suc, cond, nat_eq, List, [], ◌∷◌, ◌++◌, codes, Option, Some, None, option_map, Result, Ok, Err}
use Rattle.std.specs.Str.{bytes_eq}
use Rattle.bts_names.specs.Names.{Bytes}
use Rattle.bts_forms.specs.Texts.{◌>>=◌, behind_front, closed_by, cut_at_last, without_spaces, first_word}
use Rattle.bts_forms.specs.declared.line.Word.{Word}

infixl 5 ◌▹◌
infixl 5 ◌▸◌
infixr 4 ◌or◌
-- what a piece says, or why it is refused, and the rest of the line; nothing where the piece isn't there
abbrev pub Said : Type 0 → Type 0
Said A = Option (Result A Word × Bytes)

abbrev pub Piece : Type 0 → Type 0
Piece A = Bytes → Said A

-- of two refusals the one from further left
abbrev pub applied : {A B : Type 0} → Result (A → B) Word → Result A Word → Result B Word
applied (Err why) x = Err why
applied (Ok f) (Err why) = Err why
applied (Ok f) (Ok x) = Ok (f x)

abbrev pub result_of : {A B : Type 0} → (A → B) → Result A Word → Result B Word
result_of f (Err why) = Err why
result_of f (Ok x) = Ok (f x)

-- nothing is read
abbrev pub says : {A : Type 0} → A → Piece A
says x line = Some (Ok x, line)

-- what is made of several parts, of which each may be refused
abbrev pub made_of_2 : {A B C : Type 0} → (A → B → C) → Result A Word → Result B Word → Result C Word
made_of_2 f a b = applied (applied (Ok f) a) b

abbrev pub made_of_3 : {A B C D : Type 0} → (A → B → C → D) → Result A Word → Result B Word → Result C Word → Result D Word
made_of_3 f a b c = applied (applied (applied (Ok f) a) b) c

abbrev pub made_of_4 : {A B C D E : Type 0} → (A → B → C → D → E) → Result A Word → Result B Word → Result C Word → Result D Word → Result E Word
made_of_4 f a b c d = applied (applied (applied (applied (Ok f) a) b) c) d

abbrev pub made_of_5 : {A B C D E F : Type 0} → (A → B → C → D → E → F) → Result A Word → Result B Word → Result C Word → Result D Word → Result E Word → Result F Word
made_of_5 f a b c d e = applied (applied (applied (applied (applied (Ok f) a) b) c) d) e

-- the line behind this word, where it stands first
unfoldable pub behind_word : Bytes → Bytes → Option Bytes
behind_word word line = let next : Bytes × Bytes = first_word line in cond (bytes_eq next.0 word) (Some next.1) None

-- behind a piece this word
abbrev pub ◌▸◌ : {A : Type 0} → Piece A → Bytes → Piece A
◌▸◌ p word line = elim (p line) [ None ↦ None | Some x ↦ option_map (λ rest. (x.0, rest)) (behind_word word x.1) ]

-- behind a piece another one, of which it speaks
abbrev pub ◌▹◌ : {A B : Type 0} → Piece (A → B) → Piece A → Piece B
◌▹◌ p q line =
    elim (p line) [
      | None ↦ None
      | Some x ↦ elim (q x.1) [ None ↦ None | Some y ↦ Some (applied x.0 y.0, y.1) ]
    ]

-- the one piece, or else the other
abbrev pub ◌or◌ : {A : Type 0} → Piece A → Piece A → Piece A
◌or◌ p q line = elim (p line) [ None ↦ q line | Some x ↦ Some x ]

-- a piece that may be left out
abbrev pub maybe : {A : Type 0} → Piece A → Piece (Option A)
maybe p line = elim (p line) [ None ↦ Some (Ok None, line) | Some x ↦ Some (result_of Some x.0, x.1) ]

-- a piece so many times or fewer
abbrev pub in_front : {A : Type 0} → Result A Word → Said (List A) → Said (List A)
in_front x None = None
in_front x (Some others) = Some (applied (result_of (λ y ys. y ∷ ys) x) others.0, others.1)

abbrev pub and_then : {A : Type 0} → Piece (List A) → Bytes → Said A → Said (List A)
and_then others line None = Some (Ok [], line)
and_then others line (Some x) = in_front x.0 (others x.1)

unfoldable pub up_to : {A : Type 0} → ℕ → Piece A → Piece (List A)
up_to zero p line = Some (Ok [], line)
up_to (suc n) p line = and_then (up_to n p) line (p line)

-- two lists, one behind the other, of which each may be refused
abbrev pub alone : {A : Type 0} → Result A Word → Result (List A) Word
alone x = result_of (λ y. y ∷ []) x

abbrev pub joined : {A : Type 0} → Result (List A) Word → Result (List A) Word → Result (List A) Word
joined (Err why) ys = Err why
joined (Ok xs) (Err why) = Err why
joined (Ok xs) (Ok ys) = Ok (xs ++ ys)

-- what is read behind what was read before
abbrev pub read_behind : {A : Type 0} → Result (List A) Word → Said (List A) → Said (List A)
read_behind said others = option_map (λ y. (joined said y.0, y.1)) others

-- a word that is itself the argument
abbrev pub bare : {A : Type 0} → (Bytes → Result A Word) → Piece A
bare read [] = None
bare read (b ∷ bs) = let next : Bytes × Bytes = first_word (b ∷ bs) in Some (read next.0, next.1)

-- a word with an argument in parentheses, which has no space and no `)`
unfoldable pub argument : Bytes → Bytes → Option Bytes
argument word text = do
  opened ← behind_front word text
  bytes ← behind_front (codes "(") opened
  closed_by 41 bytes

-- the argument of this word, where it stands first, and the line behind it
unfoldable pub argument_in : Bytes → Bytes → Option (Bytes × Bytes)
argument_in word line =
    let next : Bytes × Bytes = first_word line in
    option_map (λ bytes. (bytes, next.1)) (argument word next.0)

abbrev pub given : {A : Type 0} → Bytes → (Bytes → Result A Word) → Piece A
given word read line = option_map (λ x. (read x.0, x.1)) (argument_in word line)

-- the same, where the argument goes up to the last `)` of the line
unfoldable pub at_next_word : Bytes → Bytes → Option (Bytes × Bytes)
at_next_word bytes [] = Some (bytes, [])
at_next_word bytes (b ∷ bs) = cond (nat_eq b 32) (Some (bytes, without_spaces bs)) None

unfoldable pub argument_to_last : Bytes → Bytes → Option (Bytes × Bytes)
argument_to_last word line = do
  opened ← behind_front word line
  bytes ← behind_front (codes "(") opened
  parts ← cut_at_last 41 bytes
  at_next_word parts.0 parts.1

abbrev pub given_to_last : {A : Type 0} → Bytes → (Bytes → Result A Word) → Piece A
given_to_last word read line = option_map (λ x. (read x.0, x.1)) (argument_to_last word line)

-- a piece behind which nothing stands
unfoldable pub ended : {A : Type 0} → Said A → Option (Result A Word)
ended None = None
ended (Some (x, [])) = Some x
ended (Some (x, b ∷ bs)) = None
