-- The serial history of a session.
use Rattle.std.specs.Prelude.{◌≡◌, ℕ, ◌≤◌, Bool, true, ◌&&◌, nat_eq, List, [], ◌∷◌, Option, Some, None, IsTrue}
use Rattle.std.specs.List.{count_by}
use Rattle.bts_command.specs.declared.ended.Ended.{Ended}
use Rattle.bts_command.specs.declared.ended.UnitKind.{UnitKind}
use Rattle.bts_region.specs.Enabled.{least}
use Rattle.bts_region.specs.Histories.{IsClocked, IsLegal}
use Rattle.bts_command.specs.Kinds.{is_activation}
use Rattle.bts_region.specs.Positions.{Position, behind, behind_all}
use Rattle.bts_session.specs.declared.session.Session.{Session}

-- each unit is the first work that is enabled where it stands
abbrev pub IsLeast : Session → Position → List Ended → Type 0
IsLeast session at [] = Unit {0}
IsLeast session at (e ∷ es) = (least session at ≡ Some e.unit) × IsLeast session (behind at e) es

abbrev pub activations_in : List Ended → ℕ
activations_in h = count_by (λ e. is_activation e.unit) h

-- a history in order, with at most so many activations
pub record IsInOrder (session : Session) (at : Position) (limit : ℕ) (h : List Ended) : Type 0 where
  pub legal : IsLegal session at h
  pub clocked : IsClocked session at h
  pub least : IsLeast session at h
  pub limited : activations_in h ≤ limit

-- whether nothing is next, or an activation past the limit
abbrev pub is_over : ℕ → ℕ → Option UnitKind → Bool
is_over limit made None = true
is_over limit made (Some u) = is_activation u && nat_eq made limit

-- the serial history is the one in order that can't go on
pub record IsSerial (session : Session) (at : Position) (limit : ℕ) (h : List Ended) : Type 0 where
  pub in_order : IsInOrder session at limit h
  pub over : IsTrue (is_over limit (activations_in h) (least session (behind_all at h)))
