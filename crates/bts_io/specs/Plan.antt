-- Calls that fail by their numbers.
use Rattle.std.specs.Prelude.{ℕ, ◌+◌, Bool, ◌&&◌, nat_eq, nat_lt, List, if◌then◌else◌}
use Rattle.std.specs.List.{list_any}
use Rattle.bts_io.specs.Faults.{last_count, next_count}

-- the numbers of the calls that fail, how many calls there were, and how many of them failed
pub record Plan : Type 0 where
  pub failing : List ℕ
  pub calls : ℕ
  pub faults : ℕ

-- the plan before the first call
abbrev pub plan_of : List ℕ → Plan
plan_of failing = record { failing = failing; calls = 0; faults = 0 }

-- the number of the next call, from 1, stands in the list; a call behind the last count has none
abbrev pub is_next_failing : Plan → Bool
is_next_failing p = nat_lt p.calls last_count && list_any (λ n. nat_eq n (p.calls + 1)) p.failing

-- one more call, that failed or not
abbrev pub behind_call : Bool → Plan → Plan
behind_call failed p =
    record {
      failing = p.failing;
      calls = next_count p.calls;
      faults = if failed then next_count p.faults else p.faults;
    }
