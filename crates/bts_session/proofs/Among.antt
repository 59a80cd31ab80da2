-- Where a reader stands among the lines of a text, in search of the END of a block.
use Rattle.std.proofs.Common.{◌≡◌, ℕ, ◌+◌, ◌-◌, Bool, true, false, List, [], ◌∷◌, ◌++◌, refl, ap, sym, ◌∙◌, subst, arith, length, take, append-nil, Some, None}
use Rattle.std.proofs.lemmas.List.{length-append}
use Rattle.bts_names.specs.Names.{Bytes}
use Rattle.bts_script.specs.Blocks.{ends_block, Through, is_skipped, numbered}
use Rattle.bts_script.specs.Lines.{lines_of, behind_feed}
use Rattle.bts_session.specs.Sessions.{ended_at, sections_of}
use Rattle.bts_session.specs.Reading.{FindsEnd, closes_block, sections_from}
use Rattle.bts_session.proofs.Fronts.{IsAt, at_first, one_more, front_taken, lines_parted}
use Rattle.bts_session.proofs.Sectioning.{numbered_skipped, numbered_kept, numbered_both, put_before, put_both, put_ended, put_last, sections_ended, sections_onto}

module _ (through : Through) where
  -- the front of the text is in the first section, and what is left begins with a line of this number
  pub record IsAmong (first : ℕ) (text rest : Bytes) (number : ℕ) : Type 0 where
    pub at : IsAt text rest
    pub number_is : number ≡ first + length (lines_of at.front)
    pub sections : sections_from through first text ≡ put_before (numbered first (lines_of at.front)) (sections_from through number rest)

  pub among_first : (first : ℕ) (text : Bytes) → IsAmong first text text first
  unfolding put_before
  among_first first text = record { at = at_first text; number_is = omega arith; sections = refl }

  -- ---- a line that closes nothing

  line_with : (n : ℕ) (line : Bytes) (texts : List Bytes) (t : Bool) → is_skipped line ≡ t → closes_block through line ≡ false
      → sections_of through (numbered n (line ∷ texts)) ≡ put_before (numbered n (line ∷ [])) (sections_of through (numbered (n + 1) texts))
  unfolding put_before
  line_with n line texts true skipped open_ = rw (numbered_skipped n line texts skipped, numbered_skipped n line [] skipped) refl
  line_with n line texts false kept open_ =
      let ends : ends_block through line ≡ false = rw kept at open_ in
      sections_onto through n line texts kept ends ∙ rw (numbered_kept n line [] kept) refl

  -- ---- what is found

  lines_on : (rest line behind : Bytes) → lines_of rest ≡ line ∷ lines_of behind → behind ≡ behind_feed rest → lines_of rest ≡ line ∷ lines_of (behind_feed rest)
  lines_on rest line behind first e = first ∙ ap (λ b. line ∷ lines_of b) e

  one_on : (first : ℕ) (text rest line : Bytes) (number : ℕ) → IsAmong first text rest number → lines_of rest ≡ line ∷ lines_of (behind_feed rest) → closes_block through line ≡ false
      → IsAmong first text (behind_feed rest) (number + 1)
  one_on first text rest line number among lines open_ =
      let more = one_more text rest line among.at lines in
      let count : length (lines_of among.at.front ++ line ∷ []) ≡ length (lines_of among.at.front) + 1 = length-append (lines_of among.at.front) (line ∷ []) in
      let here : sections_from through number rest ≡ put_before (numbered number (line ∷ [])) (sections_from through (number + 1) (behind_feed rest)) = rw lines (line_with number line (lines_of (behind_feed rest)) (is_skipped line) refl open_) in
      record {
        at = more.at;
        number_is = rw more.lines (let n = among.number_is in omega arith);
        sections = among.sections ∙ ap (put_before (numbered first (lines_of among.at.front))) here ∙ sym (put_both _ _ _) ∙ rw (more.lines, numbered_both first number (lines_of among.at.front) (line ∷ []) among.number_is) refl;
      }

  pub among_more : (first : ℕ) (text rest line behind : Bytes) (number : ℕ) → IsAmong first text rest number → lines_of rest ≡ line ∷ lines_of behind → behind ≡ behind_feed rest → closes_block through line ≡ false
      → IsAmong first text behind (number + 1)
  among_more first text rest line behind number among lines e open_ =
      let P : Bytes → Type 0 = λ b. IsAmong first text b (number + 1) in
      subst P (sym e) (one_on first text rest line number among (lines_on rest line behind lines e) open_)

  found_on : (first : ℕ) (text rest line behind : Bytes) (number : ℕ) (t : Bool) → is_skipped line ≡ t → IsAmong first text rest number → lines_of rest ≡ line ∷ lines_of behind → closes_block through line ≡ true
      → FindsEnd through first text (Some (take (length text - length rest) text, number, behind))
  found_on first text rest line behind number true skipped among lines closes = let no_ : false ≡ true = rw skipped at closes in cc
  found_on first text rest line behind number false kept among lines closes =
      let ends : ends_block through line ≡ true = rw kept at closes in
      let here : sections_from through number rest ≡ ended_at number (sections_from through (number + 1) behind) = rw lines (sections_ended through number line (lines_of behind) kept ends) in
      among.sections ∙ rw (here, put_ended, front_taken text rest among.at) refl

  -- the END of the block stands here
  pub end_found : (first : ℕ) (text rest line behind : Bytes) (number : ℕ) → IsAmong first text rest number → lines_of rest ≡ line ∷ lines_of behind → closes_block through line ≡ true
      → FindsEnd through first text (Some (take (length text - length rest) text, number, behind))
  end_found first text rest line behind number among lines closes = found_on first text rest line behind number (is_skipped line) refl among lines closes

  -- no line is left, and so none ended the block
  pub no_end : (first : ℕ) (text rest : Bytes) (number : ℕ) → IsAmong first text rest number → lines_of rest ≡ [] → FindsEnd through first text None
  unfolding sections_of
  no_end first text rest number among none =
      among.sections ∙ rw (lines_parted text rest among.at, none, append-nil (lines_of among.at.front)) (put_last (numbered first (lines_of among.at.front)))

  -- ---- how many lines stand where

  pub number_at_end : (first : ℕ) (text rest line behind : Bytes) (number : ℕ) → IsAmong first text rest number → lines_of rest ≡ line ∷ lines_of behind
      → (number ≡ first + length (lines_of (take (length text - length rest) text))) × (length (lines_of text) ≡ length (lines_of (take (length text - length rest) text)) + 1 + length (lines_of behind))
  number_at_end first text rest line behind number among lines =
      rw (front_taken text rest among.at, lines_parted text rest among.at, lines) (among.number_is, rw length-append (omega arith))
