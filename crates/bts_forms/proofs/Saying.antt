-- What holds of all that a piece says.
use Rattle.std.proofs.Common.{Option, Some, None, Result, Ok, Err}
use Rattle.std.specs.Option.{option_map}
use Rattle.bts_names.specs.Names.{Bytes}
use Rattle.bts_forms.specs.declared.line.Word.{Word}
use Rattle.bts_forms.specs.Pieces.{Piece, Said, says, applied, behind_word, ◌▸◌, ◌▹◌, ◌or◌}

infixl 5 ◌▸▸◌
infixl 5 ◌▹▹◌
pub record Unsaid : Type 0 where

-- what holds of a value that is said
abbrev pub Of : {A : Type 0} → (A → Type 0) → Said A → Type 0
Of P None = Unsaid
Of P (Some (Err why, rest)) = Unsaid
Of P (Some (Ok x, rest)) = P x

pub record Always {A : Type 0} (P : A → Type 0) (p : Piece A) : Type 0 where
  pub on : (text : Bytes) → Of P (p text)

-- of what is made of the argument that follows
abbrev pub With : {A B : Type 0} → (A → Type 0) → (B → Type 0) → (A → B) → Type 0
With {A = A} Q P f = (x : A) → Q x → P (f x)

word_behind : {A : Type 0} (P : A → Type 0) (x : Result A Word) (text : Bytes) (rest : Option Bytes) → Of P (Some (x, text)) → Of P (option_map (λ r. (x, r)) rest)
word_behind P x text None h = record {}
word_behind P (Err why) text (Some r) h = record {}
word_behind P (Ok x) text (Some r) h = h

pub with_word : {A : Type 0} (P : A → Type 0) (word : Bytes) (said : Said A) → Of P said
    → Of P (elim said [ None ↦ None | Some x ↦ option_map (λ rest. (x.0, rest)) (behind_word word x.1) ])
with_word P word None h = record {}
with_word P word (Some (x, text)) h = word_behind P x text (behind_word word text) h

applied_of : {A B : Type 0} (Q : A → Type 0) (P : B → Type 0) (f : Result (A → B) Word) (text : Bytes) (more : Said A) → Of (With Q P) (Some (f, text)) → Of Q more
    → Of P (elim more [ None ↦ None | Some y ↦ Some (applied f y.0, y.1) ])
applied_of Q P f text None h k = record {}
applied_of Q P (Err why) text (Some (x, rest)) h k = record {}
applied_of Q P (Ok f) text (Some (Err why, rest)) h k = record {}
applied_of Q P (Ok f) text (Some (Ok x, rest)) h k = h x k

-- what holds of the text behind
abbrev pub Behind : {A : Type 0} → (Bytes → Type 0) → Said A → Type 0
Behind R None = Unsaid
Behind R (Some x) = R x.1

pub with_argument : {A B : Type 0} (Q : A → Type 0) (P : B → Type 0) (q : Piece A) (said : Said (A → B)) → Of (With Q P) said → Behind (λ rest. Of Q (q rest)) said
    → Of P (elim said [ None ↦ None | Some x ↦ elim (q x.1) [ None ↦ None | Some y ↦ Some (applied x.0 y.0, y.1) ] ])
with_argument Q P q None h k = record {}
with_argument Q P q (Some (f, text)) h k = applied_of Q P f text (q text) h k

pub everywhere : {A : Type 0} (R : Bytes → Type 0) (said : Said A) → ((rest : Bytes) → R rest) → Behind R said
everywhere R None h = record {}
everywhere R (Some x) h = h x.1

pub saying : {A : Type 0} {P : A → Type 0} (x : A) → P x → Always P (says x)
saying x h = record { on = λ text. h }

pub ◌▸▸◌ : {A : Type 0} {P : A → Type 0} {p : Piece A} → Always P p → (word : Bytes) → Always P (p ▸ word)
◌▸▸◌ {P = P} {p} h word = record { on = λ text. with_word P word (p text) (h.on text) }

pub ◌▹▹◌ : {A B : Type 0} {Q : A → Type 0} {P : B → Type 0} {p : Piece (A → B)} {q : Piece A} → Always (With Q P) p → Always Q q → Always P (p ▹ q)
◌▹▹◌ {Q = Q} {P} {p} {q} h k = record { on = λ text. with_argument Q P q (p text) (h.on text) (everywhere (λ rest. Of Q (q rest)) (p text) k.on) }

pub first_or : {A : Type 0} (P : A → Type 0) (q : Piece A) (text : Bytes) (said : Said A) → Of P said → Of P (q text) → Of P (elim said [ None ↦ q text | Some x ↦ Some x ])
first_or P q text None h k = k
first_or P q text (Some x) h k = h

pub either_of : {A : Type 0} {P : A → Type 0} {p q : Piece A} → Always P p → Always P q → Always P (p or q)
either_of {P = P} {p} {q} h k = record { on = λ text. first_or P q text (p text) (h.on text) (k.on text) }

-- where nothing need hold
pub record Any {A : Type 0} (x : A) : Type 0 where

any_said : {A : Type 0} (said : Said A) → Of Any said
any_said None = record {}
any_said (Some (Err why, rest)) = record {}
any_said (Some (Ok x, rest)) = record {}

pub anything : {A : Type 0} (p : Piece A) → Always Any p
anything p = record { on = λ text. any_said (p text) }

-- what holds under a premise
pub under : {A : Type 0} (T : Type 0) (P : A → Type 0) (said : Said A) → (T → Of P said) → Of (λ x. T → P x) said
under T P None h = record {}
under T P (Some (Err why, rest)) h = record {}
under T P (Some (Ok x, rest)) h = h
