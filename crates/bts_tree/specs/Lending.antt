-- What becomes of a slot and a scope behind a loan.
use Rattle.std.specs.Borrow.{Lends, MutBor, Fml}
use Rattle.std.specs.Prelude.{Option, Some}
use Rattle.bts_names.specs.Names.{ActivityPath}
use Rattle.bts_container.specs.Containers.{Containers}
use Rattle.bts_container.specs.contracts.pool.ContainerPool.{the_row as containers_row}
use Rattle.bts_tree.specs.Processes.{written, with_containers}
use Rattle.bts_tree.specs.Scopes.{HeldProcess, holding}
use Rattle.bts_tree.specs.declared.activity.Activity.{Activity}
use Rattle.bts_tree.specs.contracts.activity.Activity.{the_row as activity_row}
use Rattle.bts_tree.specs.contracts.scope.Scope.{the_row as scope_row}
use Rattle.bts_tree.specs.contracts.slot.Slot.{the_row as slot_row}

-- the slot ends with the last value behind r
abbrev pub LendsFromSlot : MutBor (Option Activity) → MutBor Activity → Fml
LendsFromSlot s r = Lends slot_row activity_row s r (λ w. Some w)

-- the process of a scope ends with the last value behind r at the path
abbrev pub LendsScopeActivity : MutBor HeldProcess → ActivityPath → MutBor Activity → Fml
LendsScopeActivity h p r = Lends scope_row activity_row h r (λ w. holding (written p w h.now.process) h.now)

-- it ends with the last value behind r as its containers
abbrev pub LendsContainers : MutBor HeldProcess → MutBor Containers → Fml
LendsContainers h r = Lends scope_row containers_row h r (λ w. holding (with_containers w h.now.process) h.now)
