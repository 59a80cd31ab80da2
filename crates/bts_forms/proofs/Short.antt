-- What is left of a line, and what it gives a container, is no longer than the line.
use Rattle.std.proofs.Common.{ℕ, ◌+◌, ◌-◌, ◌≤◌, Bool, true, false, [], ◌∷◌, arith, length, take, drop, reverse, position, cond, Option, Some, None, Result}
use Rattle.std.specs.Prelude.{codes, nat_eq, ◌==◌}
use Rattle.std.specs.Option.{option_map}
use Rattle.std.specs.Str.{bytes_eq}
use Rattle.std.proofs.lemmas.List.{length-take, length-drop}
use Rattle.bts_names.specs.Names.{Bytes}
use Rattle.bts_forms.specs.Texts.{◌>>=◌, behind_front, closed_by, cut_at, cut_at_last, first_word, or_whole, without_spaces}
use Rattle.bts_forms.specs.declared.line.Word.{Word}
use Rattle.bts_forms.specs.Pieces.{Piece, Said, says, applied, argument, argument_in, argument_to_last, at_next_word, behind_word, given, ◌▸◌, ◌▹◌, ◌or◌}
use Rattle.bts_forms.proofs.Saying.{Unsaid, Behind}

-- ---- parts of a text

-- what is there has at most so many bytes
abbrev pub AtMost : ℕ → Option Bytes → Type 0
AtMost m None = Unsaid
AtMost m (Some bytes) = length bytes ≤ m

abbrev pub BothAtMost : ℕ → Option (Bytes × Bytes) → Type 0
BothAtMost m None = Unsaid
BothAtMost m (Some x) = (length x.0 ≤ m) × (length x.1 ≤ m)

taken : (m n : ℕ) (text : Bytes) → length text ≤ m → length (take n text) ≤ m
taken m n text h = omega (arith, length-take n text, h)

dropped : (m n : ℕ) (text : Bytes) → length text ≤ m → length (drop n text) ≤ m
dropped m n text h = omega (arith, length-drop n text, h)

one_space : (m b : ℕ) (bs rest : Bytes) (t : Bool) → length (b ∷ bs) ≤ m → length rest ≤ m → length (cond t rest (b ∷ bs)) ≤ m
one_space m b bs rest true h k = k
one_space m b bs rest false h k = h

pub spaces_dropped : (m : ℕ) (text : Bytes) → length text ≤ m → length (without_spaces text) ≤ m
spaces_dropped m [] h = h
spaces_dropped m (b ∷ bs) h = one_space m b bs (without_spaces bs) (nat_eq b 32) h (spaces_dropped m bs (omega (arith, h)))

cut_on : (m : ℕ) (text : Bytes) (o : Option ℕ) → length text ≤ m → BothAtMost m (o >>= (λ n. Some (take n text, drop (n + 1) text)))
cut_on m text None h = record {}
cut_on m text (Some n) h = (taken m n text h, dropped m (n + 1) text h)

cut_short : (m c : ℕ) (text : Bytes) → length text ≤ m → BothAtMost m (cut_at c text)
unfolding cut_at
cut_short m c text h = cut_on m text (position (λ b. b == c) text) h

cut_last_on : (m : ℕ) (text : Bytes) (o : Option ℕ) → length text ≤ m → BothAtMost m (o >>= (λ n. Some (take (length text - (n + 1)) text, drop (length text - n) text)))
cut_last_on m text None h = record {}
cut_last_on m text (Some n) h = (taken m (length text - (n + 1)) text h, dropped m (length text - n) text h)

cut_last_short : (m c : ℕ) (text : Bytes) → length text ≤ m → BothAtMost m (cut_at_last c text)
unfolding cut_at_last
cut_last_short m c text h = cut_last_on m text (position (λ b. b == c) (reverse text)) h

front_on : (m : ℕ) (rest : Bytes) (t : Bool) → length rest ≤ m → AtMost m (cond t (Some rest) None)
front_on m rest true h = h
front_on m rest false h = record {}

front_short : (m : ℕ) (front text : Bytes) → length text ≤ m → AtMost m (behind_front front text)
unfolding behind_front
front_short m front text h = front_on m (drop (length front) text) (bytes_eq (take (length front) text) front) (dropped m (length front) text h)

closed_on : (m : ℕ) (o : Option (Bytes × Bytes)) → BothAtMost m o → AtMost m (o >>= (λ parts. cond (nat_eq (length parts.1) 0) (Some parts.0) None))
closed_on m None h = record {}
closed_on m (Some x) h = front_on m x.0 (nat_eq (length x.1) 0) h.0

pub closed_short : (m c : ℕ) (text : Bytes) → length text ≤ m → AtMost m (closed_by c text)
unfolding closed_by
closed_short m c text h = closed_on m (cut_at c text) (cut_short m c text h)

-- one step behind another
pub then_short : (m : ℕ) (o : Option Bytes) (f : Bytes → Option Bytes) → AtMost m o → ((bytes : Bytes) → length bytes ≤ m → AtMost m (f bytes)) → AtMost m (o >>= f)
then_short m None f h k = record {}
then_short m (Some bytes) f h k = k bytes h

pub quoted_short : (m c : ℕ) (front text : Bytes) → length text ≤ m → AtMost m (behind_front front text >>= closed_by c)
quoted_short m c front text h = then_short m (behind_front front text) (closed_by c) (front_short m front text h) (closed_short m c)

whole_on : (m : ℕ) (line : Bytes) (o : Option (Bytes × Bytes)) → length line ≤ m → BothAtMost m o → length (or_whole line o).1 ≤ m
whole_on m line None h k = omega arith
whole_on m line (Some x) h k = spaces_dropped m x.1 k.1

word_short : (m : ℕ) (line : Bytes) → length line ≤ m → length (first_word line).1 ≤ m
unfolding first_word
word_short m line h = whole_on m line (cut_at 32 line) h (cut_short m 32 line h)

behind_short : (m : ℕ) (word line : Bytes) → length line ≤ m → AtMost m (behind_word word line)
unfolding behind_word
behind_short m word line h = front_on m (first_word line).1 (bytes_eq (first_word line).0 word) (word_short m line h)

-- ---- an argument up to the last parenthesis

abbrev pub first : Bytes × Bytes → Bytes
first x = x.0

next_on : (m : ℕ) (bytes rest : Bytes) (t : Bool) → length bytes ≤ m → AtMost m (option_map first (cond t (Some (bytes, without_spaces rest)) None))
next_on m bytes rest true h = h
next_on m bytes rest false h = record {}

next_short : (m : ℕ) (bytes rest : Bytes) → length bytes ≤ m → AtMost m (option_map first (at_next_word bytes rest))
unfolding at_next_word
next_short m bytes [] h = h
next_short m bytes (b ∷ bs) h = next_on m bytes bs (nat_eq b 32) h

-- what is found behind a step
found_behind : {A : Type 0} (m : ℕ) (o : Option A) (P : Option A → Type 0) (f : A → Option (Bytes × Bytes)) → P o → ((x : A) → P (Some x) → AtMost m (option_map first (f x)))
    → AtMost m (option_map first (o >>= f))
found_behind m None P f h k = record {}
found_behind m (Some x) P f h k = k x h

pub last_argument_short : (m : ℕ) (word line : Bytes) → length line ≤ m → AtMost m (option_map first (argument_to_last word line))
unfolding argument_to_last
last_argument_short m word line h =
    found_behind m (behind_front word line) (AtMost m) (λ opened. behind_front (codes "(") opened >>= (λ bytes. cut_at_last 41 bytes >>= (λ parts. at_next_word parts.0 parts.1))) (front_short m word line h)
    (λ opened k. found_behind m (behind_front (codes "(") opened) (AtMost m) (λ bytes. cut_at_last 41 bytes >>= (λ parts. at_next_word parts.0 parts.1)) (front_short m (codes "(") opened k)
    (λ bytes l. found_behind m (cut_at_last 41 bytes) (BothAtMost m) (λ parts. at_next_word parts.0 parts.1) (cut_last_short m 41 bytes l)
    (λ parts n. next_short m parts.0 parts.1 n.0)))

-- ---- pieces, behind which no more is left than before

pub record Shortens {A : Type 0} (p : Piece A) : Type 0 where
  pub on : (m : ℕ) (line : Bytes) → length line ≤ m → Behind (λ rest. length rest ≤ m) (p line)

pub says_short : {A : Type 0} (x : A) → Shortens (says x)
says_short x = record { on = λ m line h. h }

word_behind : {A : Type 0} (m : ℕ) (x : Result A Word) (o : Option Bytes) → AtMost m o → Behind (λ rest. length rest ≤ m) (option_map (λ rest. (x, rest)) o)
word_behind m x None h = record {}
word_behind m x (Some rest) h = h

on_word : {A : Type 0} (m : ℕ) (word : Bytes) (said : Said A) → Behind (λ rest. length rest ≤ m) said
    → Behind (λ rest. length rest ≤ m) (elim said [ None ↦ None | Some x ↦ option_map (λ rest. (x.0, rest)) (behind_word word x.1) ])
on_word m word None h = record {}
on_word m word (Some x) h = word_behind m x.0 (behind_word word x.1) (behind_short m word x.1 h)

infixl 5 ◌▸≤◌
pub ◌▸≤◌ : {A : Type 0} {p : Piece A} → Shortens p → (word : Bytes) → Shortens (p ▸ word)
◌▸≤◌ {p} h word = record { on = λ m line k. on_word m word (p line) (h.on m line k) }

argued : {A B : Type 0} (m : ℕ) (f : Result (A → B) Word) (said : Said A) → Behind (λ rest. length rest ≤ m) said
    → Behind (λ rest. length rest ≤ m) (elim said [ None ↦ None | Some y ↦ Some (applied f y.0, y.1) ])
argued m f None h = record {}
argued m f (Some y) h = h

on_piece : {A B : Type 0} (m : ℕ) (q : Piece A) (said : Said (A → B)) → Shortens q → Behind (λ rest. length rest ≤ m) said
    → Behind (λ rest. length rest ≤ m) (elim said [ None ↦ None | Some x ↦ elim (q x.1) [ None ↦ None | Some y ↦ Some (applied x.0 y.0, y.1) ] ])
on_piece m q None h k = record {}
on_piece m q (Some x) h k = argued m x.0 (q x.1) (h.on m x.1 k)

infixl 5 ◌▹≤◌
pub ◌▹≤◌ : {A B : Type 0} {p : Piece (A → B)} {q : Piece A} → Shortens p → Shortens q → Shortens (p ▹ q)
◌▹≤◌ {p} {q} h k = record { on = λ m line l. on_piece m q (p line) k (h.on m line l) }

first_short : {A : Type 0} (m : ℕ) (q : Piece A) (line : Bytes) (said : Said A) → Behind (λ rest. length rest ≤ m) said → Behind (λ rest. length rest ≤ m) (q line)
    → Behind (λ rest. length rest ≤ m) (elim said [ None ↦ q line | Some x ↦ Some x ])
first_short m q line None h k = k
first_short m q line (Some x) h k = h

pub either_short : {A : Type 0} {p q : Piece A} → Shortens p → Shortens q → Shortens (p or q)
either_short {p} {q} h k = record { on = λ m line l. first_short m q line (p line) (h.on m line l) (k.on m line l) }

given_on : {A : Type 0} (m : ℕ) (rest : Bytes) (read : Bytes → Result A Word) (o : Option Bytes) → length rest ≤ m
    → Behind (λ r. length r ≤ m) (option_map (λ (x : Bytes × Bytes). (read x.0, x.1)) (option_map (λ bytes. (bytes, rest)) o))
given_on m rest read None h = record {}
given_on m rest read (Some bytes) h = h

pub given_short : {A : Type 0} (word : Bytes) (read : Bytes → Result A Word) → Shortens (given word read)
unfolding argument_in
given_short word read = record { on = λ m line h. given_on m (first_word line).1 read (argument word (first_word line).0) (word_short m line h) }
