-- What the last call shows that shows something.
use Rattle.std.proofs.Common.{◌≡◌, List, [], ◌∷◌, ◌++◌, length, Option, None, Some, refl, ap, ◌∙◌, arith}
use Rattle.std.specs.Option.{option_or}
use Rattle.bts_command.specs.declared.command.Call.{Call}
use Rattle.bts_interp.specs.Facts.{latest}

module _ {A : Type 0} where
  or_none : (a : Option A) → a ≡ option_or a None
  or_none None = refl
  or_none (Some x) = refl

  or_assoc : (a b c : Option A) → option_or (option_or a b) c ≡ option_or a (option_or b c)
  or_assoc None b c = refl
  or_assoc (Some x) b c = refl

  at_last : (shows : Call → Option A) (before : List Call) (c : Call) → latest shows (before ++ c ∷ []) ≡ option_or (shows c) (latest shows before)
  at_last shows [] c = or_none (shows c)
  at_last shows (d ∷ ds) c = ap (λ o. option_or o (shows d)) (at_last shows ds c) ∙ or_assoc (shows c) (latest shows ds) (shows d)

  -- where the last call shows something, it is that; else it is what those before it show
  pub shown_last : (shows : Call → Option A) (calls before : List Call) (c : Call) (x : A) → calls ≡ before ++ c ∷ [] → shows c ≡ Some x → latest shows calls ≡ Some x
  shown_last shows calls before c x e h = ap (latest shows) e ∙ at_last shows before c ∙ ap (λ o. option_or o (latest shows before)) h

  pub shown_before : (shows : Call → Option A) (calls before : List Call) (c : Call) → calls ≡ before ++ c ∷ [] → shows c ≡ None → latest shows calls ≡ latest shows before
  shown_before shows calls before c e h = ap (latest shows) e ∙ at_last shows before c ∙ ap (λ o. option_or o (latest shows before)) h

  pub none_shown : (shows : Call → Option A) (calls : List Call) → length calls ≡ 0 → latest shows calls ≡ None
  none_shown shows [] h = refl
  none_shown shows (c ∷ cs) h = absurd (omega arith)
