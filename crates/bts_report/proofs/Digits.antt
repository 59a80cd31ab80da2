-- A number's digits in decimal, the last one behind the others.
use Rattle.std.proofs.Common.{◌≡◌, ℕ, ◌+◌, ◌<◌, ◌≤◌, ◌/◌, ◌%◌, ◌^◌, [], ◌∷◌, ◌++◌, ap, sym, ◌∙◌, append_assoc, arith}
use Rattle.std.specs.Fmt.{decimal}
use Rattle.std.proofs.lemmas.Fmt.{decimal_digit, decimal_step}
use Rattle.bts_names.specs.Names.{Bytes}

pub only_digit : (out : Bytes) (n : ℕ) → n < 10 → out ++ decimal n ≡ out ++ (48 + n % 10) ∷ []
only_digit out n one =
    let same : n ≡ n % 10 = omega arith in
    ap (λ (text : Bytes). out ++ text) (decimal_digit n one ∙ ap (λ (m : ℕ). (48 + m) ∷ []) same)

pub last_digit : (out : Bytes) (n : ℕ) → 10 ≤ n → n < 2 ^ 64 → out ++ decimal n ≡ (out ++ decimal (n / 10)) ++ (48 + n % 10) ∷ []
last_digit out n more fits =
    ap (λ (text : Bytes). out ++ text) (decimal_step n more fits) ∙ sym (append_assoc out (decimal (n / 10)) ((48 + n % 10) ∷ []))
