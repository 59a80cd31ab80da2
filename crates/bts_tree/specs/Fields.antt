-- The fields of two activities, by groups.
use Rattle.std.specs.Prelude.{◌≡◌}
use Rattle.bts_tree.specs.declared.activity.Activity.{Activity}

abbrev pub AreNamedAlike : Activity → Activity → Type 0
AreNamedAlike a b = (a.name ≡ b.name) × (a.transid ≡ b.transid) × (a.program ≡ b.program) × (a.completion ≡ b.completion)

abbrev pub HaveOneState : Activity → Activity → Type 0
HaveOneState a b = (a.mode ≡ b.mode) × (a.status ≡ b.status) × (a.code ≡ b.code) × (a.suspended ≡ b.suspended) × (a.told ≡ b.told) × (a.made ≡ b.made)

abbrev pub HaveSamePools : Activity → Activity → Type 0
HaveSamePools a b = (a.pool ≡ b.pool) × (a.timers ≡ b.timers) × (a.containers ≡ b.containers)
