-- Bytes as hexadecimal pairs.
use Rattle.std.proofs.Common.{◌≡◌, ℕ, List, [], ◌∷◌, ◌++◌, refl, ap, Option, Some, None, append_assoc}
use Rattle.std.specs.Option.{option_map}
use Rattle.bts_names.specs.Names.{Bytes}
use Rattle.bts_forms.specs.Texts.{◌>>=◌}
use Rattle.bts_forms.specs.Arguments.{hex_pair, hex_pairs}

-- one more value in front
pub with_more : (values : Option (List ℕ)) (front : List ℕ) (x : ℕ)
    → option_map (λ xs. (front ++ x ∷ []) ++ xs) values ≡ option_map (λ xs. front ++ xs) (values >>= (λ xs. Some (x ∷ xs)))
with_more None front x = refl
with_more (Some xs) front x = ap (λ (l : List ℕ). Some l) (append_assoc front (x ∷ []) xs)

pub pair_more : (a b x : ℕ) (bs front : Bytes) → hex_pair a b ≡ Some x
    → option_map (λ xs. (front ++ x ∷ []) ++ xs) (hex_pairs bs) ≡ option_map (λ xs. front ++ xs) (hex_pairs (a ∷ b ∷ bs))
unfolding hex_pairs
pair_more a b x bs front e = rw e (with_more (hex_pairs bs) front x)
