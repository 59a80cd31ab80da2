-- Commands one after the other.
use Rattle.std.specs.Prelude.{List, [], ◌∷◌}
use Rattle.bts_tree.specs.Scopes.{HeldProcess, LeavesMarks}

-- each of these is what a command leaves of the one before it
abbrev pub AreLeftByCommands : HeldProcess → List HeldProcess → Type 0
AreLeftByCommands h [] = Unit {0}
AreLeftByCommands h (next ∷ rest) = LeavesMarks h next × AreLeftByCommands next rest
