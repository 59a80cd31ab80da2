-- The words of the command line.
use Rattle.std.specs.Prelude.{ℕ, ◌-◌, Bool, false, not, nat_eq, ◌&&◌, cond, List, [], ◌∷◌, take, drop, codes, Option, Some, None}
use Rattle.std.specs.Vec.Iter.{into_iter_items, into_iter_len}
use Rattle.std.specs.declared.vec.IntoIter.{IntoIter}
use Rattle.std.specs.Str.{bytes_eq}
use Rattle.bts_names.specs.Names.{Bytes}
use Rattle.bts_forms.specs.Texts.{number_within}

-- the arguments behind the first one, which is the program's own name
abbrev pub behind_first : {X Z : Type 0} → IntoIter X Z → List X
behind_first arguments = take (into_iter_len arguments - 1) (drop 1 (into_iter_items arguments))

-- a file has at least one byte, and doesn't begin with `-`
abbrev pub is_file : Bytes → Bool
is_file [] = false
is_file (b ∷ bs) = not (nat_eq b 45)

-- the most activations that may be allowed, and how many are where nothing is said
abbrev pub greatest_limit : ℕ
greatest_limit = 1_000_000

abbrev pub usual_limit : ℕ
usual_limit = 100_000

-- the activations that options allow: `--limit` and a number, or nothing
abbrev pub limit_in : List Bytes → Option ℕ
limit_in [] = Some usual_limit
limit_in (option ∷ number ∷ []) = cond (bytes_eq option (codes "--limit")) (number_within greatest_limit number) None
limit_in _ = None

-- `run FILE` and options: how many activations may end
unfoldable pub limit_of : List Bytes → Option ℕ
limit_of (verb ∷ file ∷ options) = cond (bytes_eq verb (codes "run") && is_file file) (limit_in options) None
limit_of _ = None
