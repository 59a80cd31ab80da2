-- Commands are steps behind a mark.
use Rattle.std.proofs.Common.{ℕ, List, [], ◌∷◌}
use Rattle.bts_tree.specs.Scopes.{HeldProcess, AreSteps, Step}
use Rattle.bts_request.specs.Behind.{AreLeftByCommands}

pub are_steps : (n : ℕ) (h : HeldProcess) (left : List HeldProcess) → AreLeftByCommands h left → AreSteps n h left
are_steps n h [] f = record {}
are_steps n h (next ∷ rest) f = (Step.leaves f.0, are_steps n next rest f.1)
