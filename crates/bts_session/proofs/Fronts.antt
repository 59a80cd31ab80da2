-- Fronts of a text that end with a line feed: the lines of the text are theirs, and those of what stands behind.
use Rattle.std.proofs.Common.{◌≡◌, ℕ, ◌<◌, Bool, true, false, List, [], ◌∷◌, ◌++◌, refl, ap, sym, ◌∙◌, arith, length, take, ◌-◌, ◌⊎◌, inl, inr, subst, append_assoc, append-nil}
use Rattle.std.specs.Prelude.{nat_eq, map}
use Rattle.std.proofs.lemmas.List.{append_cancel_right, length-append}
use Rattle.std.proofs.Math.Seq.{take-append_seam}
use Rattle.std.proofs.lemmas.Bool.Decides.{nat_tests}
use Rattle.bts_names.specs.Names.{Bytes}
use Rattle.bts_script.specs.Lines.{onto_first, parts_of, without_return, lines_among, lines_of, behind_feed}

-- ---- a line feed parts the lines

-- some part there always is
onto_some : (b : ℕ) (parts : List Bytes) → 0 < length (onto_first b parts)
onto_some b [] = omega arith
onto_some b (part ∷ parts) = omega arith

some_with : (b : ℕ) (bs : Bytes) (t : Bool) → nat_eq b 10 ≡ t → 0 < length (parts_of (b ∷ bs))
some_with b bs true h = rw h (omega arith)
some_with b bs false h = rw h (onto_some b (parts_of bs))

some_part : (text : Bytes) → 0 < length (parts_of text)
some_part [] = omega arith
some_part (b ∷ bs) = some_with b bs (nat_eq b 10) refl

onto_front : (b : ℕ) (parts others : List Bytes) → 0 < length parts → onto_first b (parts ++ others) ≡ onto_first b parts ++ others
onto_front b [] others some = absurd (omega arith)
onto_front b (part ∷ parts) others some = refl

parts_with : (b : ℕ) (u v : Bytes) (t : Bool) → nat_eq b 10 ≡ t → parts_of (u ++ 10 ∷ v) ≡ parts_of u ++ parts_of v → parts_of (b ∷ u ++ 10 ∷ v) ≡ parts_of (b ∷ u) ++ parts_of v
parts_with b u v true h e = rw (h, e) refl
parts_with b u v false h e = rw (h, e) (onto_front b (parts_of u) (parts_of v) (some_part u))

parts_at_feed : (u v : Bytes) → parts_of (u ++ 10 ∷ v) ≡ parts_of u ++ parts_of v
parts_at_feed [] v = refl
parts_at_feed (b ∷ u) v = parts_with b u v (nat_eq b 10) refl (parts_at_feed u v)

among_both : (part : Bytes) (parts : List Bytes) (next : Bytes) (others : List Bytes) → lines_among (part ∷ parts ++ next ∷ others) ≡ map without_return (part ∷ parts) ++ lines_among (next ∷ others)
among_both part [] next others = refl
among_both part (second ∷ parts) next others = ap (λ l. without_return part ∷ l) (among_both second parts next others)

among_some : (parts others : List Bytes) → 0 < length parts → 0 < length others → lines_among (parts ++ others) ≡ map without_return parts ++ lines_among others
among_some [] others some more = absurd (omega arith)
among_some (part ∷ parts) [] some more = absurd (omega arith)
among_some (part ∷ parts) (next ∷ others) some more = among_both part parts next others

lines_at_feed : (u v : Bytes) → lines_of (u ++ 10 ∷ v) ≡ map without_return (parts_of u) ++ lines_of v
lines_at_feed u v = rw (parts_at_feed u v) (among_some (parts_of u) (parts_of v) (some_part u) (some_part v))

-- ---- fronts

-- whatever stands behind, its lines are those behind the front's
pub record IsClosed (front : Bytes) : Type 0 where
  pub with : (v : Bytes) → lines_of (front ++ v) ≡ lines_of front ++ lines_of v

pub closed_nothing : IsClosed []
closed_nothing = record { with = λ v. refl }

closed_at_feed : (u : Bytes) → IsClosed (u ++ 10 ∷ [])
closed_at_feed u = record { with = λ v. rw (append_assoc u (10 ∷ []) v, lines_at_feed u v, lines_at_feed u [], append-nil (map without_return (parts_of u))) refl }

-- up to its first line feed a text is closed, or nothing stands behind
abbrev HasFeed : Bytes → Type 0
HasFeed text = ((w : Bytes) × (text ≡ w ++ 10 ∷ behind_feed text)) ⊎ (behind_feed text ≡ [])

is_feed : (b : ℕ) → nat_eq b 10 ≡ true → b ≡ 10
is_feed b h = grind (arith, nat_tests)

found_with : (b : ℕ) (bs : Bytes) (t : Bool) → nat_eq b 10 ≡ t → HasFeed bs → HasFeed (b ∷ bs)
found_with b bs true h e = inl ([], rw h (ap (λ c. c ∷ bs) (is_feed b h)))
found_with b bs false h (inl x) = inl (b ∷ x.0, rw h (ap (λ l. b ∷ l) x.1))
found_with b bs false h (inr none) = inr (rw h none)

has_feed : (text : Bytes) → HasFeed text
has_feed [] = inr refl
has_feed (b ∷ bs) = found_with b bs (nat_eq b 10) refl (has_feed bs)

-- ---- one line more

-- the text is this front and this rest, and the front is closed where something stands behind
pub record IsAt (text rest : Bytes) : Type 0 where
  pub front : Bytes
  pub whole : text ≡ front ++ rest
  pub closed : (rest ≡ []) ⊎ IsClosed front

abbrev pub at_first : (text : Bytes) → IsAt text text
at_first text = record { front = []; whole = refl; closed = inr closed_nothing }

-- the same with the lines of the front
pub record IsBehind (text rest : Bytes) (before : List Bytes) : Type 0 where
  pub at : IsAt text rest
  pub lines : lines_of at.front ≡ before

one_with : (text rest line front : Bytes) → text ≡ front ++ rest → IsClosed front → lines_of rest ≡ line ∷ lines_of (behind_feed rest) → HasFeed rest
    → IsBehind text (behind_feed rest) (lines_of front ++ line ∷ [])
one_with text rest line front whole closed first (inl x) =
    let e : lines_of (x.0 ++ 10 ∷ []) ++ lines_of (behind_feed rest) ≡ (line ∷ []) ++ lines_of (behind_feed rest) = sym ((closed_at_feed x.0).with (behind_feed rest)) ∙ rw append_assoc (ap lines_of (sym x.1)) ∙ first in
    let f : front ++ (x.0 ++ 10 ∷ []) ≡ (front ++ x.0) ++ 10 ∷ [] = sym (append_assoc front x.0 (10 ∷ [])) in
    record {
      at = record { front = front ++ (x.0 ++ 10 ∷ []); whole = whole ∙ ap (λ l. front ++ l) x.1 ∙ rw (append_assoc front (x.0 ++ 10 ∷ []) (behind_feed rest), append_assoc x.0 (10 ∷ []) (behind_feed rest)) refl; closed = inr (subst IsClosed (sym f) (closed_at_feed (front ++ x.0))) };
      lines = closed.with (x.0 ++ 10 ∷ []) ∙ ap (λ l. lines_of front ++ l) (append_cancel_right _ _ _ e);
    }
one_with text rest line front whole closed first (inr none) =
    record {
      at = record { front = front ++ rest; whole = whole ∙ rw (none, append-nil (front ++ rest)) refl; closed = inl none };
      lines = closed.with rest ∙ ap (λ l. lines_of front ++ l) (first ∙ rw none refl);
    }

more_by : (text rest line : Bytes) (at : IsAt text rest) → lines_of rest ≡ line ∷ lines_of (behind_feed rest) → (rest ≡ []) ⊎ IsClosed at.front → IsBehind text (behind_feed rest) (lines_of at.front ++ line ∷ [])
more_by text rest line at first (inl none) = absurd (let f : (line ∷ lines_of (behind_feed rest)) ≡ [] = sym first ∙ rw none refl in cc)
more_by text rest line at first (inr closed) = one_with text rest line at.front at.whole closed first (has_feed rest)

pub one_more : (text rest line : Bytes) (at : IsAt text rest) → lines_of rest ≡ line ∷ lines_of (behind_feed rest) → IsBehind text (behind_feed rest) (lines_of at.front ++ line ∷ [])
one_more text rest line at first = more_by text rest line at first at.closed

-- ---- the front in place

pub front_taken : (text rest : Bytes) (at : IsAt text rest) → take (length text - length rest) text ≡ at.front
front_taken text rest at =
    let n : length text - length rest ≡ length at.front = rw at.whole (rw (length-append at.front rest) (omega arith)) in
    rw (n, at.whole) (take-append_seam at.front rest)

parted_by : (text rest front : Bytes) → text ≡ front ++ rest → (rest ≡ []) ⊎ IsClosed front → lines_of text ≡ lines_of front ++ lines_of rest
parted_by text rest front whole (inl none) = rw (whole, none, append-nil front, append-nil (lines_of front)) refl
parted_by text rest front whole (inr closed) = rw whole (closed.with rest)

pub lines_parted : (text rest : Bytes) (at : IsAt text rest) → lines_of text ≡ lines_of at.front ++ lines_of rest
lines_parted text rest at = parted_by text rest at.front at.whole at.closed
