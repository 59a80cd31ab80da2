-- What holds of a row that isn't refused.
use Rattle.std.proofs.Common.{◌≡◌, true, Option, Some, None, refl, ap, ◌∙◌}
use Rattle.bts_names.specs.Names.{Name}
use Rattle.bts_names.specs.Named.{lookup}
use Rattle.bts_names.specs.Answer.{Answer, refuse◌for◌otherwise◌}
use Rattle.bts_names.specs.declared.reply.Resp.{Resp}
use Rattle.bts_names.specs.declared.reply.Reason.{Reason}
use Rattle.bts_timer.specs.Timers.{Timers, is_unexpired_one, force_refusal}
use Rattle.bts_rows.proofs.Allowed.{running_case}
use Rattle.bts_act.specs.Does.{is_done}

pub allowed_for : {S : Type 0} (r : Resp) (why : Option Reason) (rest : Answer S) → is_done (refuse r for why otherwise rest) ≡ true → why ≡ None
allowed_for r None rest h = refl
allowed_for r (Some why) rest h = cc

pub is_running : (t : Name) (timers : Timers) → force_refusal t timers ≡ None → is_unexpired_one (lookup t timers) ≡ true
is_running t timers h = let r = running_case (lookup t timers) t timers refl h in ap is_unexpired_one r.found ∙ r.unexpired
