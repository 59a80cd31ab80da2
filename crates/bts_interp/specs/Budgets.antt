-- What a unit may use, and the end that is due behind its calls.
use Rattle.std.specs.Prelude.{ℕ, ◌+◌, ◌-◌, min, cond, nat_le, nat_lt, List, [], ◌∷◌, ◌++◌, length, Option, Some, None, codes}
use Rattle.bts_command.specs.Sizes.{data_bytes}
use Rattle.bts_command.specs.declared.command.Call.{Call}
use Rattle.bts_command.specs.declared.ended.End.{End}
use Rattle.bts_command.specs.declared.ended.End.TheVariants.{Abend}
use Rattle.bts_unit.specs.Frames.{UnitOfWork}
use Rattle.bts_unit.specs.Calls.{unit_behind}
use Rattle.bts_interp.specs.NextCalls.{next_call}
use Rattle.bts_interp.specs.Steps.{Reached, statement_limit}
use Rattle.bts_interp.specs.Texts.{Texts}

abbrev pub call_limit : ℕ
call_limit = 500

abbrev pub data_limit : ℕ
data_limit = 8_388_608

-- ---- what calls use

abbrev pub count_of : Option Reached → ℕ
count_of None = 0
count_of (Some r) = r.count

-- the statements up to and with each of more calls, of which these were made before
unfoldable pub statements_with : Texts → UnitOfWork → List Call → List Call → ℕ
statements_with texts u made [] = 0
statements_with texts u made (c ∷ cs) = count_of (next_call texts u made) + statements_with texts u (made ++ c ∷ []) cs

-- the statements up to and with each call
abbrev pub statements_to : Texts → UnitOfWork → List Call → ℕ
statements_to texts u calls = statements_with texts u [] calls

-- ---- the end

-- where so many statements and calls were made and this comes next: the statement past the last, or the call past
-- the last, where one of them is next
abbrev pub end_before : ℕ → ℕ → Option Reached → Option End
end_before used made None = Some (Abend (codes "STEP"))
end_before used made (Some r) =
    cond (nat_lt statement_limit (used + r.count)) (Some (Abend (codes "STEP")))
    (cond (nat_le call_limit made) (Some (Abend (codes "CMDS"))) None)

-- of a unit whose first frame is open behind its calls
abbrev pub end_of_open : Texts → UnitOfWork → List Call → Option End
end_of_open texts u calls =
    cond (nat_lt data_limit (data_bytes calls)) (Some (Abend (codes "SIZE")))
    (end_before (statements_to texts u calls) (length calls) (next_call texts u calls))

abbrev pub end_by : Option End → Option End → Option End
end_by (Some e) due = Some e
end_by None due = due

-- the end that is due behind these calls, if one is: that of the unit, or that of what it may use
unfoldable pub due_end : Texts → UnitOfWork → List Call → Option End
due_end texts u calls = end_by (unit_behind u calls).end (end_of_open texts u calls)

-- ---- the statements that are executed

-- those on the way to a command that isn't made any more
abbrev pub on_the_way : ℕ → Option Reached → ℕ
on_the_way used None = statement_limit
on_the_way used (Some r) = min statement_limit (used + r.count - 1)

abbrev pub statements_of_open : Texts → UnitOfWork → List Call → ℕ
statements_of_open texts u calls =
    cond (nat_lt data_limit (data_bytes calls)) (statements_to texts u calls) (on_the_way (statements_to texts u calls) (next_call texts u calls))

abbrev pub statements_by : Option End → ℕ → ℕ → ℕ
statements_by (Some e) used executed = used
statements_by None used executed = executed

-- of a unit that ended behind these calls
abbrev pub statements_of : Texts → UnitOfWork → List Call → ℕ
statements_of texts u calls = statements_by (unit_behind u calls).end (statements_to texts u calls) (statements_of_open texts u calls)
