-- Where the newest old field at each path stands.
use Rattle.std.specs.Prelude.{◌≡◌, ℕ, ◌+◌, Bool, cond, nat_lt, List, [], ◌∷◌, ◌++◌, map, Some}
use Rattle.std.specs.Option.{unwrap_or}
use Rattle.bts_names.specs.Names.{ActivityPath, same}
use Rattle.bts_names.specs.Named.{lookup}
use Rattle.bts_tree.specs.Olds.{Olds}
use Rattle.bts_tree.specs.declared.olds.Entry.{Entry}

abbrev pub olds_in : List Entry → Olds
olds_in = map (λ e. e.old)

-- the number of a path, or 0
abbrev pub number_at : ActivityPath → List (ActivityPath × ℕ) → ℕ
number_at p ks = unwrap_or (lookup p ks) 0

abbrev pub one_more : ℕ → Bool → ℕ
one_more n here = cond (nat_lt 0 n) (n + 1) (cond here 1 0)

-- the place behind the newest one at a path, or 0
abbrev pub behind_last : ActivityPath → List Entry → ℕ
behind_last p [] = 0
behind_last p (e ∷ es) = one_more (behind_last p es) (same p e.old.path)

-- each knows the place behind the one before it at its path
abbrev pub KnowFormer : List Entry → List Entry → Type 0
KnowFormer front [] = Unit {0}
KnowFormer front (e ∷ es) = (e.former ≡ behind_last e.old.path front) × KnowFormer (front ++ e ∷ []) es

pub record AreNumbered (ks : List (ActivityPath × ℕ)) (es : List Entry) : Type 0 where
  pub newest : (p : ActivityPath) → number_at p ks ≡ behind_last p es
  pub formers : KnowFormer [] es

-- the numbers where a path's is another
abbrev pub HasNumber : ActivityPath → ℕ → List (ActivityPath × ℕ) → List (ActivityPath × ℕ) → Type 0
HasNumber p n ks more = (q : ActivityPath) → lookup q more ≡ cond (same p q) (Some n) (lookup q ks)
