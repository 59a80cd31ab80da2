-- How lines are parted into sections, and what a session becomes by them.
use Rattle.std.proofs.Common.{◌≡◌, ℕ, ◌<◌, ◌+◌, Bool, true, false, List, [], ◌∷◌, ◌++◌, refl, ap, ◌∙◌, arith, length, cond, append-nil, Some, None}
use Rattle.bts_names.specs.Names.{Bytes}
use Rattle.bts_script.specs.Blocks.{ends_block, Numbered, Through, is_skipped, numbered}
use Rattle.bts_session.specs.Sessions.{Section, ended_at, onto_first, sections_of}

-- ---- numbers of lines

numbered_with : (n : ℕ) (line : Bytes) (texts : List Bytes) (t : Bool) → is_skipped line ≡ t → numbered n (line ∷ texts) ≡ cond t (numbered (n + 1) texts) ((n, line) ∷ numbered (n + 1) texts)
numbered_with n line texts true h = rw h refl
numbered_with n line texts false h = rw h refl

pub numbered_skipped : (n : ℕ) (line : Bytes) (texts : List Bytes) → is_skipped line ≡ true → numbered n (line ∷ texts) ≡ numbered (n + 1) texts
numbered_skipped n line texts h = numbered_with n line texts true h

pub numbered_kept : (n : ℕ) (line : Bytes) (texts : List Bytes) → is_skipped line ≡ false → numbered n (line ∷ texts) ≡ (n, line) ∷ numbered (n + 1) texts
numbered_kept n line texts h = numbered_with n line texts false h

both_with : (n m : ℕ) (x : Bytes) (xs ys : List Bytes) (t : Bool) → is_skipped x ≡ t → numbered (n + 1) (xs ++ ys) ≡ numbered (n + 1) xs ++ numbered m ys → numbered n (x ∷ xs ++ ys) ≡ numbered n (x ∷ xs) ++ numbered m ys
both_with n m x xs ys true h e = rw (numbered_skipped n x (xs ++ ys) h, numbered_skipped n x xs h) e
both_with n m x xs ys false h e = rw (numbered_kept n x (xs ++ ys) h, numbered_kept n x xs h) (ap (λ l. (n, x) ∷ l) e)

pub numbered_both : (n m : ℕ) (xs ys : List Bytes) → m ≡ n + length xs → numbered n (xs ++ ys) ≡ numbered n xs ++ numbered m ys
numbered_both n m [] ys e = let f : n ≡ m = omega arith in rw f refl
numbered_both n m (x ∷ xs) ys e = both_with n m x xs ys (is_skipped x) refl (numbered_both (n + 1) m xs ys (omega arith))

-- ---- lines in front of those of the first section

unfoldable pub put_before : List Numbered → List Section → List Section
put_before [] sections = sections
put_before (l ∷ ls) sections = onto_first l (put_before ls sections)

pub put_both : (ls ms : List Numbered) (sections : List Section) → put_before (ls ++ ms) sections ≡ put_before ls (put_before ms sections)
unfolding put_before
put_both [] ms sections = refl
put_both (l ∷ ls) ms sections = ap (onto_first l) (put_both ls ms sections)

put_first : (ls : List Numbered) (s : Section) (ss : List Section) → put_before ls (s ∷ ss) ≡ record { lines = ls ++ s.lines; end = s.end } ∷ ss
unfolding put_before
put_first [] s ss = refl
put_first (l ∷ ls) s ss = ap (onto_first l) (put_first ls s ss)

pub put_ended : (ls : List Numbered) (n : ℕ) (ss : List Section) → put_before ls (ended_at n ss) ≡ record { lines = ls; end = Some n } ∷ ss
put_ended ls n ss = let s : Section = record { lines = []; end = Some n } in put_first ls s ss ∙ rw append-nil refl

pub put_last : (ls : List Numbered) → put_before ls (record { lines = []; end = None } ∷ []) ≡ record { lines = ls; end = None } ∷ []
put_last ls = let s : Section = record { lines = []; end = None } in put_first ls s [] ∙ rw append-nil refl

-- some section there always is
pub onto_some : (l : Numbered) (ss : List Section) → 0 < length ss → 0 < length (onto_first l ss)
onto_some l [] some = absurd (omega arith)
onto_some l (s ∷ ss) some = omega arith

module _ (through : Through) where
  some_with : (l : Numbered) (ls : List Numbered) (t : Bool) → ends_block through l.1 ≡ t → 0 < length (sections_of through ls) → 0 < length (sections_of through (l ∷ ls))
  unfolding sections_of
  some_with l ls true h some = rw h (omega arith)
  some_with l ls false h some = rw h (onto_some l (sections_of through ls) some)

  pub some_section : (ls : List Numbered) → 0 < length (sections_of through ls)
  unfolding sections_of
  some_section [] = omega arith
  some_section (l ∷ ls) = some_with l ls (ends_block through l.1) refl (some_section ls)

  -- ---- the sections of lines, one line after the other

  pub sections_ended : (n : ℕ) (line : Bytes) (texts : List Bytes) → is_skipped line ≡ false → ends_block through line ≡ true
      → sections_of through (numbered n (line ∷ texts)) ≡ ended_at n (sections_of through (numbered (n + 1) texts))
  unfolding sections_of
  sections_ended n line texts kept ends = rw (numbered_kept n line texts kept, ends) refl

  pub sections_onto : (n : ℕ) (line : Bytes) (texts : List Bytes) → is_skipped line ≡ false → ends_block through line ≡ false
      → sections_of through (numbered n (line ∷ texts)) ≡ onto_first (n, line) (sections_of through (numbered (n + 1) texts))
  unfolding sections_of
  sections_onto n line texts kept ends = rw (numbered_kept n line texts kept, ends) refl
