-- A unit that was run made no more calls than it may.
use Rattle.std.proofs.Common.{◌≤◌, length, sym, subst, lit≤}
use Rattle.bts_command.specs.declared.ended.UnitKind.{UnitKind}
use Rattle.bts_command.specs.declared.ended.UnitKind.TheVariants as unit
use Rattle.bts_interp.specs.Budgets.{call_limit}
use Rattle.bts_interp.specs.Jobs.{Done, FollowsTexts, HasNoCalls, IsDone}

none_few : (d : Done) → HasNoCalls d → length d.calls ≤ call_limit
none_few d h = subst (λ cs. length cs ≤ call_limit) (sym h.calls) (lit≤ tt)

few_of : (u : UnitKind) (d : Done) → FollowsTexts u d → length d.calls ≤ call_limit
few_of (unit.Request item key) d t = t.follows.count
few_of (unit.Activation key path) d t = t.follows.count
few_of (unit.Notice key path) d t = none_few d t
few_of (unit.Expiry key path timer) d t = none_few d t
few_of (unit.Clock item) d t = none_few d t
few_of (unit.Settle item) d t = none_few d t
few_of (unit.Browse item) d t = none_few d t

pub few_calls : (d : Done) → IsDone d → length d.calls ≤ call_limit
few_calls d i = few_of d.job.unit d i.texts
