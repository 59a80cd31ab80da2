-- A session that is read can be done.
use Rattle.std.proofs.Common.{List, [], ◌∷◌}
use Rattle.std.specs.List.{AllByRecursion}
use Rattle.bts_names.specs.Names.{Name}
use Rattle.bts_forms.specs.Today as forms
use Rattle.bts_interp.specs.Ready.{IsExecutable}
use Rattle.bts_interp.specs.Steps.{Script}
use Rattle.bts_interp.proofs.OfToday.{executable}
use Rattle.bts_session.specs.Today.{IsItemOfToday, IsSessionOfToday}
use Rattle.bts_session.specs.declared.session.Item.{Item}
use Rattle.bts_session.specs.declared.session.Item.TheVariants as item
use Rattle.bts_session.specs.declared.session.Session.{Session}
use Rattle.bts_region.specs.Today.{IsOfToday, MayBeDone}

may_be_done : (i : Item) → IsItemOfToday i → MayBeDone i
may_be_done (item.Request key script) h = executable script h
may_be_done item.Settle h = tt
may_be_done (item.Clock moment) h = absurd h
may_be_done (item.Browse criteria) h = absurd h

all_items : (items : List Item) → AllByRecursion IsItemOfToday items → AllByRecursion MayBeDone items
all_items [] h = tt
all_items (i ∷ items) h = (may_be_done i h.0, all_items items h.1)

all_programs : (programs : List (Name × Script)) → AllByRecursion (λ p. AllByRecursion forms.IsOfToday p.1) programs → AllByRecursion (λ p. IsExecutable p.1) programs
all_programs [] h = tt
all_programs (p ∷ programs) h = (executable p.1 h.0, all_programs programs h.1)

pub of_today : (s : Session) → IsSessionOfToday s → IsOfToday s
of_today s h = record { items = all_items s.items h.items; programs = all_programs s.programs h.programs }
