-- What a block says, statement by statement.
use Rattle.std.proofs.Common.{◌≡◌, ℕ, Bool, true, false, List, [], ◌∷◌, ◌++◌, refl, ap, sym, ◌∙◌, Option, Some, None, Result, Ok, Err, append_assoc, append-nil, subst, ◌+◌}
use Rattle.std.specs.Prelude.{not}
use Rattle.std.specs.List.{list_any}
use Rattle.std.specs.Result.{IsErrAnd}
use Rattle.bts_names.specs.Names.{Bytes, Name, same}
use Rattle.bts_forms.specs.declared.statement.Statement.{Statement}
use Rattle.bts_forms.specs.declared.line.Word.{Word}
use Rattle.bts_forms.specs.declared.line.Place.{Place}
use Rattle.bts_script.specs.declared.blocks.Block.{Block}
use Rattle.bts_script.specs.Blocks.{Numbered, Refusal, IsRefusedFor, GivesWhatIsSaid, numbered, labels_of, block_of, refused_at, is_skipped, is_in, is_outside, label_of, goal_of, labels_by, with_labels, put_first, then_others, statement_in, statements, by_table}
use Rattle.bts_forms.specs.declared.line.ScriptError.{ScriptError}
use Rattle.bts_script.specs.Lines.{lines_of}
use Rattle.bts_script.specs.Begun.{HaveSame, IsAdded, line_first, put_front, said_with}
use Rattle.bts_script.proofs.Labels.{more_same, renumbered}

-- ---- lists of labels in which the same names are

in_same : (xs ys : List Name) (label : Option Name) → HaveSame xs ys → is_in xs label ≡ is_in ys label
in_same xs ys None h = refl
in_same xs ys (Some l) h = h l

outside_same : (xs ys : List Name) (label : Option Name) → HaveSame xs ys → is_outside xs label ≡ is_outside ys label
outside_same xs ys None h = refl
outside_same xs ys (Some l) h = ap not (h l)

with_same : (b d a e : List Name) (said : Result Statement Word) → HaveSame b d → HaveSame a e → with_labels b a said ≡ with_labels d e said
with_same b d a e (Err why) before all = refl
with_same b d a e (Ok s) before all = rw (in_same b d (label_of s) before, outside_same a e (goal_of s) all) refl

next_same : (said : Result Statement Word) (n : ℕ) (f g : Statement → Result (List Statement) Refusal) → ((s : Statement) → f s ≡ g s) → then_others n said f ≡ then_others n said g
next_same (Err why) n f g h = refl
next_same (Ok s) n f g h = ap (put_first s) (h s)

pub statements_same : (p : Place) (b d a e : List Name) (lines : List Numbered) → HaveSame b d → HaveSame a e → statements by_table p b a lines ≡ statements by_table p d e lines
unfolding statements
statements_same p b d a e [] before all = refl
statements_same p b d a e (l ∷ ls) before all =
    rw (with_same b d a e (statement_in by_table p l.1) before all)
    (next_same (with_labels d e (statement_in by_table p l.1)) l.0 (λ s. statements by_table p (b ++ labels_by s) a ls) (λ s. statements by_table p (d ++ labels_by s) e ls)
    (λ s. statements_same p (b ++ labels_by s) (d ++ labels_by s) a e ls (more_same b d (labels_by s) before) all))

-- ---- one line more

one_behind : (ss : List Statement) (s : Statement) (others : Result (List Statement) Refusal) → put_front (ss ++ s ∷ []) others ≡ put_front ss (put_first s others)
one_behind ss s (Err r) = refl
one_behind ss s (Ok others) = ap (λ (l : List Statement). Ok l) (append_assoc ss (s ∷ []) others)

said_first : (p : Place) (before all : List Name) (n : ℕ) (text : Bytes) (others : List Numbered) (s : Statement) → is_skipped text ≡ false → with_labels before all (statement_in by_table p text) ≡ Ok s
    → statements by_table p before all (line_first n text others) ≡ put_first s (statements by_table p (before ++ labels_by s) all others)
unfolding statements
said_first p before all n text others s h said = rw (h, said) refl

pub refused_first : (b : Block) (n : ℕ) (text : Bytes) (others : List Numbered) (why : Word) → is_skipped text ≡ false → with_labels b.before.keys b.labels.keys (statement_in by_table b.place text) ≡ Err why
    → said_with b (line_first n text others) ≡ refused_at n why
unfolding statements
refused_first b n text others why h said = rw (h, said) refl

same_as : (p q : Place) (before all1 all2 : List Name) (script1 script2 : List Statement) (others : List Numbered) → p ≡ q → all1 ≡ all2 → script1 ≡ script2
    → put_front script1 (statements by_table p before all1 others) ≡ put_front script2 (statements by_table q before all2 others)
same_as p q before all1 all2 script1 script2 others e f g = rw (e, f, g) refl

pub added : (old new : Block) (n : ℕ) (text : Bytes) (others : List Numbered) (s : Statement) → is_skipped text ≡ false → with_labels old.before.keys old.labels.keys (statement_in by_table old.place text) ≡ Ok s
    → IsAdded old new s → said_with new others ≡ said_with old (line_first n text others)
added old new n text others s h said is =
    same_as new.place old.place new.before.keys new.labels.keys old.labels.keys new.script (old.script ++ s ∷ []) others is.place is.labels is.script
    ∙ ap (put_front (old.script ++ s ∷ [])) (statements_same old.place new.before.keys (old.before.keys ++ labels_by s) old.labels.keys old.labels.keys others is.before (λ q. refl))
    ∙ one_behind old.script s (statements by_table old.place (old.before.keys ++ labels_by s) old.labels.keys others)
    ∙ ap (put_front old.script) (sym (said_first old.place old.before.keys old.labels.keys n text others s h said))

-- ---- a whole block

put_nothing : (said : Result (List Statement) Refusal) → put_front [] said ≡ said
put_nothing (Err r) = refl
put_nothing (Ok ss) = refl

pub begun : (p : Place) (before labels : List Name) (script : List Statement) (first : ℕ) (lines : List Bytes) → before ≡ [] → script ≡ [] → HaveSame labels (labels_of by_table p (numbered 0 lines))
    → put_front script (statements by_table p before labels (numbered first lines)) ≡ block_of p first lines
begun p before labels script first lines b s h =
    rw (b, s)
    (put_nothing (statements by_table p [] labels (numbered first lines))
    ∙ statements_same p [] [] labels (labels_of by_table p (numbered first lines)) (numbered first lines) (λ q. refl)
    (λ q. h q ∙ ap (list_any (same q)) (renumbered p 0 first lines)))

numbered_on : (n : ℕ) (line : Bytes) (lines : List Bytes) (t : Bool) → is_skipped line ≡ t → numbered n (line ∷ lines) ≡ line_first n line (numbered (n + 1) lines)
numbered_on n line lines true h = rw h refl
numbered_on n line lines false h = rw h refl

pub with_next : (b : Block) (n : ℕ) (rest line more : Bytes) (said : Result (List Statement) Refusal) → lines_of rest ≡ line ∷ lines_of more
    → said_with b (numbered n (lines_of rest)) ≡ said → said_with b (line_first n line (numbered (n + 1) (lines_of more))) ≡ said
with_next b n rest line more said e h =
    ap (said_with b) (sym (rw e (numbered_on n line (lines_of more) (is_skipped line) refl))) ∙ h

pub refused : (e : ScriptError) (b : Block) (n : ℕ) (rest line more : Bytes) (said : Result (List Statement) Refusal) → lines_of rest ≡ line ∷ lines_of more
    → said_with b (numbered n (lines_of rest)) ≡ said → ((others : List Numbered) → IsRefusedFor e (said_with b (line_first n line others))) → IsRefusedFor e said
refused e b n rest line more said cut h why = subst (IsRefusedFor e) (with_next b n rest line more said cut h) (why (numbered (n + 1) (lines_of more)))

pub ended : (b : Block) (n : ℕ) (rest : Bytes) (said : Result (List Statement) Refusal) → lines_of rest ≡ [] → said_with b (numbered n (lines_of rest)) ≡ said → said ≡ Ok b.script
unfolding statements
ended b n rest said e h = sym h ∙ rw (e, append-nil b.script) refl

pub told : (r : Result (List Statement) ScriptError) (e : ScriptError) (said : Result (List Statement) Refusal) → IsErrAnd r (λ x. x ≡ e) → IsRefusedFor e said → GivesWhatIsSaid r said
told (Ok _) e said h why = elim h [ ]
told (Err x) e said h why = subst (λ y. IsRefusedFor y said) (sym h) why
