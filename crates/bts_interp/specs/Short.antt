-- Texts whose statements say few bytes for a container, and what a unit that follows them carries.
use Rattle.std.specs.Prelude.{ℕ, ◌+◌}
use Rattle.std.specs.List.{AllByRecursion}
use Rattle.bts_container.specs.Formats.{size_limit}
use Rattle.bts_container.specs.declared.format.Format.{Format}
use Rattle.bts_forms.specs.Sizes.{IsShort}
use Rattle.bts_interp.specs.Budgets.{data_limit}
use Rattle.bts_interp.specs.Texts.{Texts}

pub record AreShortTexts (most : ℕ) (texts : Texts) : Type 0 where
  pub programs : AllByRecursion (λ x. AllByRecursion (IsShort most) x.1) texts.programs
  pub block : AllByRecursion (IsShort most) texts.block

-- the most that the calls of a unit carry on a process in this format: what stands in front of the last one, what that
-- one says, and what it is answered
abbrev pub most_data : Format → ℕ → ℕ
most_data f most = data_limit + most + size_limit f
