-- A name that is new goes last.
use Rattle.std.proofs.Common.{◌≡◌, Bool, true, false, if◌then◌else◌, List, [], ◌∷◌, ◌++◌, refl, sym, ap, subst, ◌∙◌, true≢false}
use Rattle.std.specs.List.{AllByRecursion, IsDistinct}
use Rattle.std.specs.Map.{keys_of}
use Rattle.std.proofs.lemmas.Map.Keys.{IsDistinct-head, IsDistinct-tail}
use Rattle.std.proofs.lemmas.List.{append_assoc}
use Rattle.indexmap.specs.IndexMap.{insert_entry}
use Rattle.bts_names.specs.Names.{Name, Bytes, same, same_exact}

in_the_middle : (P : Name → Type 0) (es rest : List (Name × Bytes)) (n : Name) (b : Bytes) → AllByRecursion P (keys_of (es ++ (n, b) ∷ rest)) → P n
in_the_middle P [] rest n b all = all.0
in_the_middle P (e ∷ es) rest n b all = in_the_middle P es rest n b all.1

appended : (es rest : List (Name × Bytes)) (n : Name) (b : Bytes) → IsDistinct same (keys_of (es ++ (n, b) ∷ rest)) → insert_entry same es n b ≡ es ++ (n, b) ∷ []
appended [] rest n b d = refl
appended (e ∷ es) rest n b d = by (same n e.0) refl (appended es rest n b (IsDistinct-tail same e.0 (keys_of (es ++ (n, b) ∷ rest)) d))
  where
    apart : same e.0 n ≡ false
    apart = in_the_middle (λ k. same e.0 k ≡ false) es rest n b (IsDistinct-head same e.0 (keys_of (es ++ (n, b) ∷ rest)) d)

    by : (t : Bool) → same n e.0 ≡ t → insert_entry same es n b ≡ es ++ (n, b) ∷ [] → (if t then (e.0, b) ∷ es else e ∷ insert_entry same es n b) ≡ e ∷ es ++ (n, b) ∷ []
    by true h last =
        let q = same_exact n e.0 h in
        let met : same e.0 n ≡ true = subst (λ k. same k n ≡ true) q (subst (λ k. same n k ≡ true) (sym q) h) in
        absurd (true≢false (sym met ∙ apart))
    by false h last = ap (λ xs. e ∷ xs) last

-- one turn of a loop that puts containers one after the other
pub copied-more : (all done more rest : List (Name × Bytes)) (n : Name) (b : Bytes) → IsDistinct same (keys_of all) → done ++ more ≡ all → more ≡ (n, b) ∷ rest → insert_entry same done n b ++ rest ≡ all
copied-more all done more rest n b d e m =
    let whole : done ++ (n, b) ∷ rest ≡ all = sym (ap (λ xs. done ++ xs) m) ∙ e in
    let last = appended done rest n b (subst (λ xs. IsDistinct same (keys_of xs)) (sym whole) d) in
    ap (λ xs. xs ++ rest) last ∙ append_assoc done ((n, b) ∷ []) rest ∙ whole
