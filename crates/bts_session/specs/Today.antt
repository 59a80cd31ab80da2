-- The sessions that can be read today.
use Rattle.std.specs.List.{AllByRecursion}
use Rattle.bts_forms.specs.Today.{IsOfToday}
use Rattle.bts_session.specs.declared.session.Item.{Item}
use Rattle.bts_session.specs.declared.session.Item.TheVariants as item
use Rattle.bts_session.specs.declared.session.Session.{Session}

-- a request whose statements are of today, or SETTLE
abbrev pub IsItemOfToday : Item → Type 0
IsItemOfToday (item.Request key script) = AllByRecursion IsOfToday script
IsItemOfToday item.Settle = Unit {0}
IsItemOfToday (item.Clock moment) = ⊥
IsItemOfToday (item.Browse criteria) = ⊥

pub record IsSessionOfToday (s : Session) : Type 0 where
  pub items : AllByRecursion IsItemOfToday s.items
  pub programs : AllByRecursion (λ p. AllByRecursion IsOfToday p.1) s.programs
