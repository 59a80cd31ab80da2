use Rattle.std.proofs.Common.{◌-◌, ◌∙◌, sym, ap, arith}
use Rattle.std.specs.List.{slice_get}
use Rattle.bts_interp.proofs.Numbered.{none_before, numbered_at}
use Rattle.bts_interp.proofs.texts.item_at.Goals as goal

pub returns-then-number-eq0 : goal.returns-then-number-eq0
returns-then-number-eq0 c = sym (none_before c.args.number 1 c.args.session.now.items (omega arith))

pub returns : goal.returns
returns c = c.nth.ensures ∙ ap (λ xs. slice_get xs (c.args.number - 1)) c.as_slice.ensures ∙ sym (numbered_at c.args.number 1 c.args.session.now.items (omega arith))
