-- What is left of a map whose values are written one after the other.
use Rattle.std.proofs.Common.{◌≡◌, Bool, true, cond, List, [], ◌∷◌, subst, ◌∙◌}
use Rattle.std.specs.Map.Calls.{RetainsPairs}
use Rattle.std.specs.Prelude.{map}

-- a closure that always answers `true`, writes g of each key and value, and stays as it was
pub written_from_retain : {F K X : Type 0} (T : F → K → X → Bool → X → F → Type 0) (g : K → X → X) (f : F)
    → ((k : K) (v : X) (b : Bool) (w : X) (f' : F) → T f k v b w f' → (b ≡ true) × (w ≡ g k v) × (f' ≡ f))
    → (es kept : List (K × X)) → RetainsPairs T f es kept → kept ≡ map (λ e. (e.0, g e.0 e.1)) es
written_from_retain T g f told [] kept s = s
written_from_retain T g f told (e ∷ es) kept s =
    let t = told e.0 e.1 s.0 s.1 s.2 s.4 in
    let r = written_from_retain T g f told es s.3 (subst (λ h. RetainsPairs T h es s.3) t.2 s.5) in
    s.6 ∙ (λ i. cond (t.0 i) ((e.0, t.1 i) ∷ r i) (r i))
