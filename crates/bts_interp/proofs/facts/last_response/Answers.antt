use Rattle.std.proofs.Common.{Some, refl, sym}
use Rattle.bts_interp.proofs.Latest.{shown_last}
use Rattle.bts_interp.proofs.facts.last_response.Goals as goal

pub returns : goal.returns
returns c = sym (shown_last (λ y. Some y.reply.resp) c.args.own.now c.in_ok-last.field-0-1.now c.in_ok-last.last.now _ c.in_ok-last.ensures.cases.0 refl)
