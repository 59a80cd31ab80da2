-- Which end is due behind the calls of a unit, and how many statements were executed then.
use borrow.Author.Tests.{tests}
use Rattle.std.proofs.Common.{rules, ◌≡◌, ℕ, ◌+◌, ◌-◌, ◌<◌, ◌≤◌, true, false, nat_lt, nat_le, List, length, Option, None, Some, codes, refl, ap, arith}
use Rattle.bts_command.specs.declared.command.Call.{Call}
use Rattle.bts_command.specs.declared.ended.End.{End}
use Rattle.bts_command.specs.declared.ended.End.TheVariants.{Abend}
use Rattle.bts_unit.specs.Frames.{UnitOfWork}
use Rattle.bts_command.specs.Sizes.{data_bytes}
use Rattle.bts_interp.specs.Budgets.{call_limit, data_limit, due_end, end_before, end_by, end_of_open, on_the_way, statements_by, statements_of, statements_of_open, statements_to}
use Rattle.bts_unit.specs.Calls.{unit_behind}
use Rattle.bts_interp.specs.NextCalls.{next_call}
use Rattle.bts_interp.specs.Steps.{Reached, statement_limit}
use Rattle.bts_interp.specs.Texts.{Texts}
use Rattle.bts_interp.proofs.Places.{Cut}

-- ---- over numbers

past_last : (used left made : ℕ) (o : Option Reached) → used + left ≡ statement_limit → Cut left None o → end_before used made o ≡ Some (Abend (codes "STEP"))
past_last used left made None e h = refl
past_last used left made (Some r) e h =
    let past : statement_limit < used + r.count = omega arith in
    let over : nat_lt statement_limit (used + r.count) ≡ true = search (rules, tests, past) in
    rw over refl

all_executed : (used left : ℕ) (o : Option Reached) → used + left ≡ statement_limit → Cut left None o → on_the_way used o ≡ statement_limit
all_executed used left None e h = refl
all_executed used left (Some r) e h = omega arith

-- ---- of a unit that is open behind its calls

module _ (texts : Texts) (u : UnitOfWork) (calls : List Call) where
  abbrev IsOpen : Type 0
  IsOpen = (unit_behind u calls).end ≡ None

  -- an end, and the statements that were executed in all
  pub record IsEnd (e : End) (executed : ℕ) : Type 0 where
    pub due : due_end texts u calls ≡ Some e
    pub executed_then : statements_of texts u calls ≡ executed

  pub its_own : (e : End) → (unit_behind u calls).end ≡ Some e → IsEnd e (statements_to texts u calls)
  unfolding due_end
  its_own e h = record {
    due = ap (λ o. end_by o (end_of_open texts u calls)) h;
    executed_then = ap (λ o. statements_by o (statements_to texts u calls) (statements_of_open texts u calls)) h;
  }

  module _ (is_open : IsOpen) where
    pub too_much_data : data_limit < data_bytes calls → IsEnd (Abend (codes "SIZE")) (statements_to texts u calls)
    unfolding due_end
    too_much_data h =
        let much : nat_lt data_limit (data_bytes calls) ≡ true = search (rules, tests, h) in
        record { due = rw (is_open, much) refl; executed_then = rw (is_open, much) refl }

    module _ (fits : data_bytes calls ≤ data_limit) where
      much : nat_lt data_limit (data_bytes calls) ≡ false
      much = search (rules, tests, fits)

      pub too_many_statements : (left : ℕ) → statements_to texts u calls + left ≡ statement_limit → Cut left None (next_call texts u calls) → IsEnd (Abend (codes "STEP")) statement_limit
      unfolding due_end
      too_many_statements left e h = record {
        due = rw (is_open, much) (past_last (statements_to texts u calls) left (length calls) (next_call texts u calls) e h);
        executed_then = rw (is_open, much) (all_executed (statements_to texts u calls) left (next_call texts u calls) e h);
      }

      pub too_many_calls : (r : Reached) → next_call texts u calls ≡ Some r → 1 ≤ r.count → statements_to texts u calls + r.count ≤ statement_limit → call_limit ≤ length calls
          → IsEnd (Abend (codes "CMDS")) (statements_to texts u calls + (r.count - 1))
      unfolding due_end
      too_many_calls r n one steps many =
          let over : nat_lt statement_limit (statements_to texts u calls + r.count) ≡ false = search (rules, tests, steps) in
          let last : nat_le call_limit (length calls) ≡ true = search (rules, tests, many) in
          let executed : on_the_way (statements_to texts u calls) (Some r) ≡ statements_to texts u calls + (r.count - 1) = omega arith in
          record {
            due = rw (is_open, much, n, over, last) refl;
            executed_then = rw (is_open, much, n) executed;
          }
