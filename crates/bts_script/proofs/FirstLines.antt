-- A text is its first line, and the lines of what stands behind that.
use Rattle.std.proofs.Common.{◌≡◌, ℕ, suc, ◌<◌, ◌≤◌, ◌+◌, ◌-◌, Bool, true, false, List, [], ◌∷◌, refl, ap, sym, ◌∙◌, arith, Option, Some, None, length, take, drop, cond}
use Rattle.std.specs.Prelude.{nat_eq, nat_lt, ◌==◌, codes}
use Rattle.std.specs.List.{position_or_len}
use Rattle.std.specs.Option.{option_map}
use Rattle.std.specs.Str.{bytes_eq}
use Rattle.bts_names.specs.Names.{Bytes}
use Rattle.bts_forms.specs.Texts.{◌>>=◌, cut_at}
use Rattle.bts_script.specs.Lines.{onto_first, parts_of, without_return, lines_among, lines_of, behind_feed}

-- ---- the first part

abbrev cons_front : ℕ → Bytes × Bytes → Bytes × Bytes
cons_front b x = (b ∷ x.0, x.1)

abbrev parts_from : Bytes → Option (Bytes × Bytes) → List Bytes
parts_from text None = text ∷ []
parts_from text (Some x) = x.0 ∷ parts_of x.1

lt_next : (n m : ℕ) → nat_lt (1 + n) (suc m) ≡ nat_lt n m
lt_next n m = grind arith

lt_zero : (m : ℕ) → nat_lt 0 (suc m) ≡ true
lt_zero m = grind arith

past_feed : (b : ℕ) (bs : Bytes) (n : ℕ) (t : Bool) → nat_lt n (length bs) ≡ t
    → cond (nat_lt (1 + n) (length (b ∷ bs))) (Some (1 + n)) None >>= (λ k. Some (take k (b ∷ bs), drop (k + 1) (b ∷ bs)))
    ≡ option_map (cons_front b) (cond (nat_lt n (length bs)) (Some n) None >>= (λ k. Some (take k bs, drop (k + 1) bs)))
past_feed b bs n true h =
    let behind : 1 + n + 1 ≡ suc (n + 1) = omega arith in
    let at : 1 + n ≡ suc n = omega arith in
    rw (lt_next n (length bs), h, behind, at) refl
past_feed b bs n false h = rw (lt_next n (length bs), h) refl

cut_on : (b : ℕ) (bs : Bytes) (t : Bool) → (b == 10) ≡ t → cut_at 10 (b ∷ bs) ≡ cond t (Some ([], bs)) (option_map (cons_front b) (cut_at 10 bs))
unfolding cut_at
cut_on b bs true h = rw (h, lt_zero (length bs)) refl
cut_on b bs false h = rw h (past_feed b bs (position_or_len (λ x. x == 10) bs) (nat_lt (position_or_len (λ x. x == 10) bs) (length bs)) refl)

cut_nothing : cut_at 10 [] ≡ None
unfolding cut_at
cut_nothing = refl

onto_parts : (b : ℕ) (bs : Bytes) (x : Option (Bytes × Bytes)) → onto_first b (parts_from bs x) ≡ parts_from (b ∷ bs) (option_map (cons_front b) x)
onto_parts b bs None = refl
onto_parts b bs (Some x) = refl

parts_on : (b : ℕ) (bs : Bytes) (t : Bool) → (b == 10) ≡ t → parts_of bs ≡ parts_from bs (cut_at 10 bs) → parts_of (b ∷ bs) ≡ parts_from (b ∷ bs) (cut_at 10 (b ∷ bs))
parts_on b bs true h others = rw (cut_on b bs true h, h) refl
parts_on b bs false h others = rw (cut_on b bs false h, h, others) (onto_parts b bs (cut_at 10 bs))

parts_cut : (text : Bytes) → parts_of text ≡ parts_from text (cut_at 10 text)
parts_cut [] = rw cut_nothing refl
parts_cut (b ∷ bs) = parts_on b bs (b == 10) refl (parts_cut bs)

-- ---- the lines

-- some part there always is
more_parts : (line : Bytes) (b : ℕ) (bs : Bytes) (t : Bool) (parts : List Bytes) → (b == 10) ≡ t → parts_of bs ≡ parts → lines_among (line ∷ parts_of (b ∷ bs)) ≡ without_return line ∷ lines_of (b ∷ bs)
more_parts line b bs true parts h e = rw h refl
more_parts line b bs false [] h e = rw (h, e) refl
more_parts line b bs false (part ∷ parts) h e = rw (h, e) refl

line_first : (line rest : Bytes) → lines_among (line ∷ parts_of rest) ≡ without_return line ∷ lines_of rest
line_first line [] = refl
line_first line (b ∷ bs) = more_parts line b bs (b == 10) (parts_of bs) refl refl

pub first_of_many : (text line rest : Bytes) → cut_at 10 text ≡ Some (line, rest) → lines_of text ≡ without_return line ∷ lines_of rest
first_of_many text line rest h = rw (parts_cut text, h) (line_first line rest)

pub last_of_all : (text : Bytes) → cut_at 10 text ≡ None → 0 < length text → lines_of text ≡ text ∷ []
last_of_all [] h some = grind arith
last_of_all (b ∷ bs) h some = rw (parts_cut (b ∷ bs), h) refl

-- ---- what stands behind the first line feed

abbrev rest_from : Option (Bytes × Bytes) → Bytes
rest_from None = []
rest_from (Some x) = x.1

rest_on : (b : ℕ) (x : Option (Bytes × Bytes)) → rest_from x ≡ rest_from (option_map (cons_front b) x)
rest_on b None = refl
rest_on b (Some x) = refl

behind_on : (b : ℕ) (bs : Bytes) (t : Bool) → (b == 10) ≡ t → behind_feed bs ≡ rest_from (cut_at 10 bs) → behind_feed (b ∷ bs) ≡ rest_from (cut_at 10 (b ∷ bs))
behind_on b bs true h others = rw (cut_on b bs true h, h) refl
behind_on b bs false h others = rw (cut_on b bs false h, h, others) (rest_on b (cut_at 10 bs))

behind_cut : (text : Bytes) → behind_feed text ≡ rest_from (cut_at 10 text)
behind_cut [] = rw cut_nothing refl
behind_cut (b ∷ bs) = behind_on b bs (b == 10) refl (behind_cut bs)

pub rest_of_many : (text line rest : Bytes) → cut_at 10 text ≡ Some (line, rest) → behind_feed text ≡ rest
rest_of_many text line rest h = rw (behind_cut text, h) refl

pub rest_of_last : (text : Bytes) → cut_at 10 text ≡ None → behind_feed text ≡ []
rest_of_last text h = rw (behind_cut text, h) refl

shorter_on : (b : ℕ) (bs : Bytes) (t : Bool) → (b == 10) ≡ t → length (behind_feed bs) ≤ length bs → length (behind_feed (b ∷ bs)) ≤ length bs
shorter_on b bs true h others = rw h (omega arith)
shorter_on b bs false h others = rw h others

behind_short : (text : Bytes) → length (behind_feed text) ≤ length text - 1
behind_short [] = omega arith
behind_short (b ∷ bs) =
    let others = behind_short bs in
    let here : length (behind_feed (b ∷ bs)) ≤ length bs = shorter_on b bs (b == 10) refl (omega arith) in
    omega (arith, here)

pub rest_is_shorter : (text line rest : Bytes) → cut_at 10 text ≡ Some (line, rest) → 0 < length text → length rest < length text
rest_is_shorter text line rest h some =
    let e = rest_of_many text line rest h in
    let short : length rest ≤ length text - 1 = rw (← e) (behind_short text) in
    omega (arith, short, some)

-- ---- the carriage return

last_place : (b c : ℕ) (bs : Bytes) → length (b ∷ c ∷ bs) - 1 ≡ suc (length (c ∷ bs) - 1)
last_place b c bs = omega arith

end_next : (b c : ℕ) (bs : Bytes) → bytes_eq (drop (length (b ∷ c ∷ bs) - 1) (b ∷ c ∷ bs)) (codes "\r") ≡ bytes_eq (drop (length (c ∷ bs) - 1) (c ∷ bs)) (codes "\r")
end_next b c bs = rw (last_place b c bs) refl

kept_one : (b : ℕ) (t : Bool) → nat_eq b 13 ≡ t → t ≡ false → without_return (b ∷ []) ≡ b ∷ []
kept_one b true h e = cc
kept_one b false h e = rw h refl

cut_one : (b : ℕ) (t : Bool) → nat_eq b 13 ≡ t → t ≡ true → without_return (b ∷ []) ≡ []
cut_one b true h e = rw h refl
cut_one b false h e = cc

alone : (b : ℕ) (t : Bool) → nat_eq b 13 ≡ t → bytes_eq (drop (length (b ∷ []) - 1) (b ∷ [])) (codes "\r") ≡ t
alone b true h = rw h refl
alone b false h = rw h refl

pub kept_line : (line : Bytes) → bytes_eq (drop (length line - 1) line) (codes "\r") ≡ false → without_return line ≡ line
kept_line [] h = refl
kept_line (b ∷ []) h = kept_one b (nat_eq b 13) refl (sym (alone b (nat_eq b 13) refl) ∙ h)
kept_line (b ∷ c ∷ bs) h = ap (λ l. b ∷ l) (kept_line (c ∷ bs) (sym (end_next b c bs) ∙ h))

pub cut_line : (line : Bytes) → bytes_eq (drop (length line - 1) line) (codes "\r") ≡ true → without_return line ≡ take (length line - 1) line
cut_line [] h = refl
cut_line (b ∷ []) h = cut_one b (nat_eq b 13) refl (sym (alone b (nat_eq b 13) refl) ∙ h)
cut_line (b ∷ c ∷ bs) h = rw (last_place b c bs) (ap (λ l. b ∷ l) (cut_line (c ∷ bs) (sym (end_next b c bs) ∙ h)))

-- ---- how many lines there are

one_part_more : (b : ℕ) (parts : List Bytes) → length (lines_among (onto_first b parts)) ≤ 1 + length (lines_among parts)
one_part_more b [] = omega arith
one_part_more b (part ∷ []) = omega arith
one_part_more b (part ∷ next ∷ parts) = omega arith

few_on : (b : ℕ) (bs : Bytes) (t : Bool) → nat_eq b 10 ≡ t → length (lines_of bs) ≤ length bs → length (lines_of (b ∷ bs)) ≤ 1 + length bs
few_on b bs true h few = rw (h, line_first [] bs) (omega (arith, few))
few_on b bs false h few = let more = one_part_more b (parts_of bs) in rw h (omega (arith, few, more))

-- no text has more lines than bytes
pub few_lines : (text : Bytes) → length (lines_of text) ≤ length text
few_lines [] = omega arith
few_lines (b ∷ bs) = let few = few_on b bs (nat_eq b 10) refl (few_lines bs) in omega (arith, few)
