-- The sessions that a region does today, and the openings that it can go on from.
use Rattle.std.specs.Prelude.{◌≡◌, ℕ, ◌+◌, ◌<◌, ◌≤◌, ◌^◌, length, true}
use Rattle.std.specs.List.{AllByRecursion, list_all}
use Rattle.bts_interp.specs.Ready.{IsExecutable}
use Rattle.bts_session.specs.declared.session.Item.{Item}
use Rattle.bts_session.specs.declared.session.Item.TheVariants as item
use Rattle.bts_rows.specs.Bounds.{is_lone}
use Rattle.bts_session.specs.declared.session.Session.{Session}
use Rattle.bts_tree.specs.Soundness.{AreSound, bound_of_units}
use Rattle.bts_tree.specs.declared.opening.Opening.{Opening}

-- an item that can be done: a request whose block can be executed, or SETTLE
abbrev pub MayBeDone : Item → Type 0
MayBeDone (item.Request key script) = IsExecutable script
MayBeDone item.Settle = Unit {0}
MayBeDone (item.Clock moment) = ⊥
MayBeDone (item.Browse criteria) = ⊥

pub record IsOfToday (session : Session) : Type 0 where
  pub items : AllByRecursion MayBeDone session.items
  pub programs : AllByRecursion (λ x. IsExecutable x.1) session.programs

-- an opening that a region can go on from: its processes are sound, without children and timers, and their numbers are
-- those of so few units
pub record MayOpen (o : Opening) : Type 0 where
  pub sound : AreSound o.repo.processes
  pub lone : list_all is_lone o.repo.processes.items ≡ true
  pub bound : bound_of_units o.units o.repo.processes ≡ true
  pub few : o.units ≤ 2 ^ 40

-- so few units that numbers stay far from their last ones, and so few items that each has a number
pub record IsSmall (session : Session) (limit : ℕ) : Type 0 where
  pub units : length session.items + limit < 2 ^ 40
  pub items : length session.items < 2 ^ 32
