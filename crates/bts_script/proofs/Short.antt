-- The lines of a text are no longer than it, and give containers no more.
use Rattle.std.proofs.Common.{ℕ, ◌+◌, ◌-◌, ◌≤◌, Bool, true, false, List, [], ◌∷◌, arith, length, cond, Option, Some, None, Ok, Err}
use Rattle.std.specs.Prelude.{not, nat_eq, IfOk}
use Rattle.std.specs.List.{AllByRecursion}
use Rattle.bts_names.specs.Names.{Bytes}
use Rattle.bts_forms.specs.declared.line.Place.{Place}
use Rattle.bts_forms.specs.Arguments.{fill_limit}
use Rattle.bts_forms.specs.Forms.{Saying, forms, form_of}
use Rattle.bts_forms.specs.Sizes.{IsShortLine}
use Rattle.bts_forms.specs.Texts.{without_spaces}
use Rattle.bts_forms.proofs.AllForms.{Holds}
use Rattle.bts_forms.proofs.Short.{spaces_dropped}
use Rattle.bts_forms.proofs.ShortLines.{all_short}
use Rattle.bts_script.specs.Blocks.{Numbered, by_table, is_skipped, line_in, numbered}
use Rattle.bts_script.specs.Lines.{last_line, lines_among, lines_of, onto_first, parts_of, without_return}
use Rattle.bts_script.proofs.Kept.{Passing, SaysSuch, line_holds}

-- ---- how long the lines of a text are

abbrev AtMost : ℕ → List Bytes → Type 0
AtMost m texts = AllByRecursion (λ text. length text ≤ m) texts

more : (m n : ℕ) (texts : List Bytes) → m ≤ n → AtMost m texts → AtMost n texts
more m n [] le h = tt
more m n (t ∷ ts) le h = (omega (arith, le, h.0), more m n ts le h.1)

onto_short : (m b : ℕ) (parts : List Bytes) → 1 ≤ m → AtMost (m - 1) parts → AtMost m (onto_first b parts)
onto_short m b [] le h = (omega (arith, le), tt)
onto_short m b (p ∷ ps) le h = (omega (arith, le, h.0), more (m - 1) m ps (omega arith) h.1)

part_on : (m b : ℕ) (parts : List Bytes) (t : Bool) → 1 ≤ m → AtMost (m - 1) parts → AtMost m (cond t ([] ∷ parts) (onto_first b parts))
part_on m b parts true le h = (omega arith, more (m - 1) m parts (omega arith) h)
part_on m b parts false le h = onto_short m b parts le h

parts_short : (m : ℕ) (text : Bytes) → length text ≤ m → AtMost m (parts_of text)
parts_short m [] h = (h, tt)
parts_short m (b ∷ bs) h = part_on m b (parts_of bs) (nat_eq b 10) (omega (arith, h)) (parts_short (m - 1) bs (omega (arith, h)))

last_byte : (m b : ℕ) (t : Bool) → 1 ≤ m → length (cond t [] (b ∷ [])) ≤ m
last_byte m b true h = omega arith
last_byte m b false h = h

return_short : (m : ℕ) (part : Bytes) → length part ≤ m → length (without_return part) ≤ m
return_short m [] h = h
return_short m (b ∷ []) h = last_byte m b (nat_eq b 13) h
return_short m (b ∷ c ∷ bs) h =
    let rest : length (without_return (c ∷ bs)) ≤ m - 1 = return_short (m - 1) (c ∷ bs) (omega (arith, h)) in
    omega (arith, h, rest)

last_short : (m : ℕ) (part : Bytes) → length part ≤ m → AtMost m (last_line part)
last_short m [] h = tt
last_short m (b ∷ bs) h = (h, tt)

among_short : (m : ℕ) (parts : List Bytes) → AtMost m parts → AtMost m (lines_among parts)
among_short m [] h = tt
among_short m (part ∷ []) h = last_short m part h.0
among_short m (part ∷ next ∷ parts) h = (return_short m part h.0, among_short m (next ∷ parts) h.1)

lines_short : (m : ℕ) (text : Bytes) → length text ≤ m → AtMost m (lines_of text)
lines_short m text h = among_short m (parts_of text) (parts_short m text h)

-- ---- what they give

passing : (m : ℕ) (said : Option Saying) → Holds (λ passes l. IsShortLine m l) said → Holds (Passing (IsShortLine m)) said
passing m None h = record {}
passing m (Some (at, passes, Err why)) h = record {}
passing m (Some (at, passes, Ok l)) h = λ _. h

line_short : (m : ℕ) → fill_limit ≤ m → (at : Option Place) (text : Bytes) → length text ≤ m → IfOk (line_in by_table at text) (IsShortLine m)
line_short m fill at text h =
    line_holds (IsShortLine m) at text (passing m (form_of forms (without_spaces text)) (all_short m fill (without_spaces text) (spaces_dropped m text h)))

kept_on : (m : ℕ) (l : Numbered) (ls : List Numbered) (t : Bool) → SaysSuch (IsShortLine m) l → AllByRecursion (SaysSuch (IsShortLine m)) ls → AllByRecursion (SaysSuch (IsShortLine m)) (cond t (l ∷ ls) ls)
kept_on m l ls true h k = (h, k)
kept_on m l ls false h k = k

numbered_short : (m : ℕ) → fill_limit ≤ m → (n : ℕ) (texts : List Bytes) → AtMost m texts → AllByRecursion (SaysSuch (IsShortLine m)) (numbered n texts)
numbered_short m fill n [] h = tt
numbered_short m fill n (t ∷ ts) h =
    kept_on m (n, t) (numbered (n + 1) ts) (not (is_skipped t)) (λ at. line_short m fill at t h.0) (numbered_short m fill (n + 1) ts h.1)

-- each line of a text gives no more bytes than the text has
pub text_short : (m : ℕ) → fill_limit ≤ m → (n : ℕ) (text : Bytes) → length text ≤ m → AllByRecursion (SaysSuch (IsShortLine m)) (numbered n (lines_of text))
text_short m fill n text h = numbered_short m fill n (lines_of text) (lines_short m text h)
