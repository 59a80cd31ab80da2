-- Options that stand several times, one after the other.
use Rattle.std.proofs.Common.{◌≡◌, ℕ, zero, suc, ◌-◌, ◌≤◌, List, [], ◌∷◌, refl, ap, subst, sym, ◌∙◌, arith, Some, None, Result, Ok, Err, append_assoc, append-nil}
use Rattle.bts_names.specs.Names.{Bytes}
use Rattle.bts_forms.specs.declared.line.Word.{Word}
use Rattle.bts_forms.specs.Pieces.{Piece, Said, alone, joined, read_behind, in_front, and_then, up_to}

one_then : {A : Type 0} (said : Result (List A) Word) (x : Result A Word) (others : Said (List A))
    → read_behind (joined said (alone x)) others ≡ read_behind said (in_front x others)
one_then said x None = refl
one_then (Err why) x (Some others) = refl
one_then (Ok xs) (Err why) (Some others) = refl
one_then (Ok xs) (Ok x) (Some (Err why, rest)) = refl
one_then {A = A} (Ok xs) (Ok x) (Some (Ok ys, rest)) = ap (λ (l : List A). Some (Ok l, rest)) (append_assoc xs (x ∷ []) ys)

some_left : {A : Type 0} (most : ℕ) (p : Piece A) (line : Bytes) → 1 ≤ most → up_to most p line ≡ and_then (up_to (most - 1) p) line (p line)
unfolding up_to
some_left most p line h =
    let e : most ≡ suc (most - 1) = omega arith in
    subst (λ n. up_to n p line ≡ and_then (up_to (most - 1) p) line (p line)) (sym e) refl

pub one_more : {A : Type 0} (most : ℕ) (p : Piece A) (line rest : Bytes) (x : Result A Word) (said : Result (List A) Word) → 1 ≤ most → p line ≡ Some (x, rest)
    → read_behind (joined said (alone x)) (up_to (most - 1) p rest) ≡ read_behind said (up_to most p line)
one_more most p line rest x said h read = one_then said x (up_to (most - 1) p rest) ∙ sym (rw (some_left most p line h, read) refl)

nothing_more : {A : Type 0} (said : Result (List A) Word) (line : Bytes) → read_behind said (Some (Ok [], line)) ≡ Some (said, line)
nothing_more (Err why) line = refl
nothing_more (Ok xs) line = rw (append-nil xs) refl

pub no_more : {A : Type 0} (most : ℕ) (p : Piece A) (line : Bytes) (said : Result (List A) Word) → p line ≡ None
    → read_behind said (up_to most p line) ≡ Some (said, line)
unfolding up_to
no_more zero p line said read = nothing_more said line
no_more (suc n) p line said read = rw read (nothing_more said line)

pub none_left : {A : Type 0} (p : Piece A) (line : Bytes) (said : Result (List A) Word) → read_behind said (up_to 0 p line) ≡ Some (said, line)
unfolding up_to
none_left p line said = nothing_more said line

pub all_of_them : {A : Type 0} (others : Said (List A)) → read_behind (Ok []) others ≡ others
all_of_them None = refl
all_of_them (Some (Err why, rest)) = refl
all_of_them (Some (Ok ys, rest)) = refl
