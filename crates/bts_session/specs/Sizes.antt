-- Sessions whose statements give containers few bytes.
use Rattle.std.specs.Prelude.{ℕ}
use Rattle.std.specs.List.{AllByRecursion}
use Rattle.bts_forms.specs.Sizes.{IsShort}
use Rattle.bts_session.specs.declared.session.Item.{Item}
use Rattle.bts_session.specs.declared.session.Item.TheVariants as item
use Rattle.bts_session.specs.declared.session.Session.{Session}

abbrev pub IsShortItem : ℕ → Item → Type 0
IsShortItem most (item.Request key script) = AllByRecursion (IsShort most) script
IsShortItem most (item.Clock moment) = Unit {0}
IsShortItem most item.Settle = Unit {0}
IsShortItem most (item.Browse criteria) = Unit {0}

-- no statement says more bytes for a container than so many
pub record IsShortSession (most : ℕ) (s : Session) : Type 0 where
  pub items : AllByRecursion (IsShortItem most) s.items
  pub programs : AllByRecursion (λ p. AllByRecursion (IsShort most) p.1) s.programs
