-- When two pools are the same.
use Rattle.std.proofs.Common.{◌≡◌, Bool, ◌&&◌, List, nat_eq, refl, ap}
use Rattle.std.specs.Bool.{Decides}
use Rattle.std.specs.Cmp.Lexicographic.{pointwise}
use Rattle.std.proofs.lemmas.Bool.Decides.{Decides-eqb, Decides-and, Decides-like}
use Rattle.std.proofs.lemmas.Slice.Eq.{slice_eq-Decides}
use Rattle.bts_names.specs.Names.{Name, Bytes, same}
use Rattle.bts_names.proofs.Sameness.{same_where_equal}

bytes-Decides : (a b : Bytes) → Decides (pointwise nat_eq a b) (a ≡ b)
bytes-Decides a b = slice_eq-Decides Decides-eqb a b _ refl

container-Decides : (p q : Name × Bytes) → Decides (same p.0 q.0 && pointwise nat_eq p.1 q.1) (p ≡ q)
container-Decides p q =
    Decides-like _ (λ h i. (h.0 i, h.1 i)) (λ e. (ap (λ x. x.0) e, ap (λ x. x.1) e)) (Decides-and _ _ (same_where_equal p.0 q.0) (bytes-Decides p.1 q.1))

pub items-Decides : (xs ys : List (Name × Bytes)) (r : Bool) → r ≡ pointwise (λ p q. same p.0 q.0 && pointwise nat_eq p.1 q.1) xs ys → Decides r (xs ≡ ys)
items-Decides xs ys r e = slice_eq-Decides container-Decides xs ys r e
