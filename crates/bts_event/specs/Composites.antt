-- Events that are computed from others.
use Rattle.std.specs.Prelude.{Bool, List}
use Rattle.std.specs.Bool.{beq}
use Rattle.std.specs.Ordering.{on, eq_of_both}
use Rattle.std.specs.Cmp.Lexicographic.{pointwise}
use Rattle.bts_names.specs.Names.{Name, same}

-- whether it asks for all its sub-events or for any, its sub-events, and those that fired and were not retrieved, oldest first
pub record Composite : Type 0 where
  pub all : Bool
  pub subs : List Name
  pub queued : List Name

abbrev pub same_composite : Composite → Composite → Bool
same_composite = eq_of_both (on (λ c. c.all) beq) (eq_of_both (on (λ c. c.subs) (pointwise same)) (on (λ c. c.queued) (pointwise same)))
