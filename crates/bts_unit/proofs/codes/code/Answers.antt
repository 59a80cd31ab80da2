use Rattle.std.proofs.Common.{◌≡◌, Result, Ok, Err, Bool, true, false, refl, sym, ◌∙◌, true≢false}
use Rattle.std.specs.Result.{MatchResult, IsOk}
use Rattle.bts_unit.proofs.codes.code.Goals as goal

read_well : {T E : Type 0} (r : Result T E) (P : T → Type 0) (b : Bool) → MatchResult r P (λ _. b ≡ false) → b ≡ true → IsOk r
read_well (Ok x) P b m e = refl
read_well (Err y) P b m e = absurd (true≢false (sym e ∙ m))

pub unwrap-requires : goal.unwrap-requires
unwrap-requires c = read_well c.read.result _ _ c.read.ensures c.requires
