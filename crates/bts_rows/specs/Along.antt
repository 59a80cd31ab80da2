-- Commands one after the other, each in whatever frame.
use Rattle.std.specs.Prelude.{ℕ, List, [], ◌∷◌}
use Rattle.bts_names.specs.Answer.{left_by}
use Rattle.bts_command.specs.declared.command.Command.{Command}
use Rattle.bts_tree.specs.Processes.{Process}
use Rattle.bts_rows.specs.Rows.{answer}
use Rattle.bts_rows.specs.declared.places.Held.{Held}
use Rattle.bts_rows.specs.declared.places.Here.{Here}

-- a command, where it stands and what is held there, how many frames are open, and the moment
pub record PlacedCommand : Type 0 where
  pub here : Here
  pub held : Held
  pub depth : ℕ
  pub now : ℕ
  pub command : Command

-- the process that one leaves
abbrev pub left_behind : PlacedCommand → Process → Process
left_behind c s = (left_by (s, c.held) (answer c.here c.held c.depth c.now s c.command)).0

-- and the one that all leave
abbrev pub left_along : List PlacedCommand → Process → Process
left_along [] s = s
left_along (c ∷ cs) s = left_along cs (left_behind c s)
