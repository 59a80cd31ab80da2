-- How long payloads are, by the data that their calls carry.
use Rattle.std.specs.Prelude.{ℕ, ◌≤◌, length}
use Rattle.std.specs.List.{AllByRecursion}
use Rattle.bts_command.specs.Given.{IsGiven}
use Rattle.bts_command.specs.declared.ended.Ended.{Ended}
use Rattle.bts_codec.specs.Units.{last_unit}

-- the most bytes of a payload without its calls: a kind, three numbers, a key of 44 bytes behind two lengths, a path of
-- 32 numbers, a name, an end, and three lengths, where a number and a length have ten bytes at most
abbrev pub most_around : ℕ
most_around = 466

-- the most bytes of a call without its data: a command with a path, and a reply with one
abbrev pub most_of_call : ℕ
most_of_call = 664

-- what holds of each unit that has a payload
pub record IsStored (e : Ended) : Type 0 where
  pub few : length e.calls ≤ 500
  pub given : AllByRecursion (λ c. IsGiven c.command) e.calls
  pub number : e.seq ≤ last_unit
