-- Labels in sets and in lists.
use Rattle.std.proofs.Common.{◌≡◌, ℕ, ◌+◌, Bool, true, false, List, [], ◌∷◌, ◌++◌, refl, ap, sym, ◌∙◌, Option, Some, None, append_assoc}
use Rattle.std.specs.Prelude.{◌||◌}
use Rattle.std.specs.List.{list_any, cons_option}
use Rattle.std.specs.Ordering.{nat_cmp, match_ordering}
use Rattle.std.specs.declared.cmp.Ordering.{Ordering}
use Rattle.std.specs.declared.cmp.Ordering.TheVariants.{Less, Equal, Greater}
use Rattle.std.specs.Cmp.Lexicographic.{slice_cmp}
use Rattle.std.specs.BTreeSet.{insert_key}
use Rattle.std.proofs.lemmas.Map.Lookups.{exact_bytes}
use Rattle.std.proofs.lemmas.List.Folds.{list_any-append}
use Rattle.bts_names.specs.Names.{Bytes, Name, same}
use Rattle.bts_forms.specs.declared.line.Place.{Place}
use Rattle.bts_script.specs.Blocks.{is_skipped, numbered, labels_of, by_table}
use Rattle.bts_script.specs.Lines.{lines_of}
use Rattle.bts_script.specs.Begun.{HaveSame, label_at}

-- ---- a new name in an ordered list

last_of_three : (a b c : Bool) → (a || (b || c)) ≡ (b || (c || (a || false)))
last_of_three true true c = refl
last_of_three true false true = refl
last_of_three true false false = refl
last_of_three false true c = refl
last_of_three false false true = refl
last_of_three false false false = refl

told_before : (a b : Bool) → (a || b) ≡ (a || (b || (a || false)))
told_before true b = refl
told_before false true = refl
told_before false false = refl

inserted : (q k x : Name) (xs more : List Name) (o : Ordering) → slice_cmp nat_cmp k x ≡ o
    → list_any (same q) more ≡ list_any (same q) (xs ++ k ∷ [])
    → list_any (same q) (match_ordering o (k ∷ x ∷ xs) (x ∷ xs) (x ∷ more)) ≡ list_any (same q) ((x ∷ xs) ++ k ∷ [])
inserted q k x xs more Less h others = rw (list_any-append (same q) xs (k ∷ [])) (last_of_three (same q k) (same q x) (list_any (same q) xs))
inserted q k x xs more Equal h others =
    let e : k ≡ x = exact_bytes k x h in
    rw (list_any-append (same q) xs (k ∷ []), e) (told_before (same q x) (list_any (same q) xs))
inserted q k x xs more Greater h others = rw others refl

pub with_new : (ks : List Name) (k q : Name) → list_any (same q) (insert_key (slice_cmp nat_cmp) ks k) ≡ list_any (same q) (ks ++ k ∷ [])
with_new [] k q = refl
with_new (x ∷ xs) k q = inserted q k x xs (insert_key (slice_cmp nat_cmp) xs k) (slice_cmp nat_cmp k x) refl (with_new xs k q)

pub more_same : (xs ys zs : List Name) → HaveSame xs ys → HaveSame (xs ++ zs) (ys ++ zs)
more_same xs ys zs h q = rw (list_any-append (same q) xs zs, list_any-append (same q) ys zs, h q) refl

-- ---- the labels of lines

abbrev labels : Place → List Bytes → List Name
labels p texts = labels_of by_table p (numbered 0 texts)

renumbered_on : (p : Place) (m n : ℕ) (line : Bytes) (lines : List Bytes) (t : Bool) → is_skipped line ≡ t
    → labels_of by_table p (numbered (m + 1) lines) ≡ labels_of by_table p (numbered (n + 1) lines)
    → labels_of by_table p (numbered m (line ∷ lines)) ≡ labels_of by_table p (numbered n (line ∷ lines))
renumbered_on p m n line lines true h others = rw h others
renumbered_on p m n line lines false h others = rw (h, others) refl

one_behind : (label : Option Name) (others : List Name) → cons_option label [] ++ others ≡ cons_option label others
one_behind None others = refl
one_behind (Some l) others = refl

pub renumbered : (p : Place) (m n : ℕ) (lines : List Bytes) → labels_of by_table p (numbered m lines) ≡ labels_of by_table p (numbered n lines)
renumbered p m n [] = refl
renumbered p m n (line ∷ lines) = renumbered_on p m n line lines (is_skipped line) refl (renumbered p (m + 1) (n + 1) lines)

first_on : (p : Place) (line : Bytes) (lines : List Bytes) (t : Bool) → is_skipped line ≡ t → labels p (line ∷ lines) ≡ cons_option (label_at p line) (labels p lines)
first_on p line lines true h = rw h (renumbered p 1 0 lines)
first_on p line lines false h = rw (h, renumbered p 1 0 lines) refl

first_label : (p : Place) (line : Bytes) (lines : List Bytes) → labels p (line ∷ lines) ≡ cons_option (label_at p line) (labels p lines)
first_label p line lines = first_on p line lines (is_skipped line) refl

-- what is in a list with what the next line adds
pub one_more : (p : Place) (rest line more : Bytes) (old new all : List Name) → lines_of rest ≡ line ∷ lines_of more
    → HaveSame new (old ++ cons_option (label_at p line) []) → HaveSame (old ++ labels p (lines_of rest)) all → HaveSame (new ++ labels p (lines_of more)) all
one_more p rest line more old new all e h before q =
    more_same new (old ++ cons_option (label_at p line) []) (labels p (lines_of more)) h q
    ∙ ap (list_any (same q)) (append_assoc old (cons_option (label_at p line) []) (labels p (lines_of more)))
    ∙ ap (λ l. list_any (same q) (old ++ l)) (one_behind (label_at p line) (labels p (lines_of more)) ∙ sym (rw e (first_label p line (lines_of more))))
    ∙ before q
