-- Words of a line that are written one after the other.
use Rattle.std.proofs.Common.{◌≡◌, List, [], ◌∷◌, ◌++◌, sym, ap, ◌∙◌, arith}
use Rattle.std.proofs.lemmas.List.{append-nil}
use Rattle.std.proofs.lemmas.Grind.{flat_map-append, common_steps}
use Rattle.bts_names.specs.Names.{Bytes}
use Rattle.bts_report.specs.Reports.{divided, spaced, line, inner_line}

-- behind the first word each one stands behind a space
pub divided-cons : (word : Bytes) (words : List Bytes) → divided (word ∷ words) ≡ word ++ spaced words
divided-cons word [] = sym (append-nil word)
divided-cons word (next ∷ words) = ap (λ (rest : Bytes). word ++ 32 ∷ rest) (divided-cons next words)

spaced-append : (front back : List Bytes) → spaced (front ++ back) ≡ spaced front ++ spaced back
spaced-append front back = flat_map-append (λ (word : Bytes). 32 ∷ word) front back

-- words behind a space are each behind one
spaced-divided : (front : List Bytes) (word : Bytes) (back : List Bytes) → 32 ∷ divided (front ++ word ∷ back) ≡ spaced front ++ spaced (word ∷ back)
spaced-divided [] word back = ap (λ (rest : Bytes). 32 ∷ rest) (divided-cons word back)
spaced-divided (first ∷ front) word back =
    ap (λ (rest : Bytes). 32 ∷ rest) (divided-cons first (front ++ word ∷ back))
    ∙ spaced-append (first ∷ front) (word ∷ back)

flattened : (out front back : Bytes) → (((out ++ 32 ∷ []) ++ front) ++ back) ++ 10 ∷ [] ≡ out ++ 32 ∷ ((front ++ back) ++ 10 ∷ [])
flattened out front back = grind (arith, common_steps)

flattened_unit : (out place kind moment end : Bytes) → ((((out ++ place) ++ kind) ++ moment) ++ end) ++ 10 ∷ [] ≡ out ++ ((place ++ (kind ++ (moment ++ end))) ++ 10 ∷ [])
flattened_unit out place kind moment end = grind (arith, common_steps)

-- a call's line, by its command and its reply
pub call_written : (out : Bytes) (front : List Bytes) (word : Bytes) (back : List Bytes) → (((out ++ 32 ∷ []) ++ spaced front) ++ spaced (word ∷ back)) ++ 10 ∷ [] ≡ out ++ inner_line (front ++ word ∷ back)
call_written out front word back =
    flattened out (spaced front) (spaced (word ∷ back))
    ∙ ap (λ (words : Bytes). out ++ 32 ∷ (words ++ 10 ∷ [])) (sym (spaced-divided front word back))

-- a unit's line, by its place, what it is, its moment and its end
pub unit_written : (out place : Bytes) (kind : List Bytes) (moment : Bytes) (end : List Bytes) → ((((out ++ place) ++ spaced kind) ++ 32 ∷ moment) ++ spaced end) ++ 10 ∷ [] ≡ out ++ line (place ∷ kind ++ moment ∷ end)
unit_written out place kind moment end =
    flattened_unit out place (spaced kind) (32 ∷ moment) (spaced end)
    ∙ ap (λ (words : Bytes). out ++ ((place ++ words) ++ 10 ∷ [])) (sym (spaced-append kind (moment ∷ end)))
    ∙ ap (λ (words : Bytes). out ++ (words ++ 10 ∷ [])) (sym (divided-cons place (kind ++ moment ∷ end)))
