use Rattle.std.proofs.Common.{◌≡◌, Option, length, Bor}
use Rattle.std.specs.Option.{option_copied}
use Rattle.bts_interp.specs.Facts as facts
use Rattle.bts_names.specs.declared.reply.Value.{Value}
use Rattle.bts_interp.proofs.facts.latest.Given as goal

abbrev pub invariant-loop-last : goal.invariant-loop-last
invariant-loop-last g l =
    (shown : Value → Option g.row.T.Denot) → ((v : Bor Value) (r : Option (Bor g.row.T.Denot)) → g.F.Fn.post l.shows (v, tt) r → option_copied r ≡ shown v.now)
    → facts.latest (λ c. shown c.reply.value) l.rest ≡ facts.latest (λ c. shown c.reply.value) l.fn.own

abbrev pub decreases-loop-last : goal.decreases-loop-last
decreases-loop-last g l = length l.rest
