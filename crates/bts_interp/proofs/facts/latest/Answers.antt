use Rattle.std.proofs.Common.{sym, ap, ◌∙◌}
use Rattle.std.specs.Option.{option_copied}
use Rattle.bts_interp.proofs.Latest.{shown_last, shown_before, none_shown}
use Rattle.bts_interp.proofs.facts.latest.Goals as goal

pub returns-in-Some-shows : goal.returns-in-Some-shows
returns-in-Some-shows g c = λ shown h.
    sym (shown_last (λ y. shown y.reply.value) c.loop-last.rest.now c.in-Some.before.now c.in-Some.last.now _ c.in-Some.ensures.cases.0 (sym (h _ _ c.shows.ensures) ∙ ap option_copied c.in-Some-shows.is)) ∙ c.loop-last.invariant shown h

pub loop-last-preserved : goal.loop-last-preserved
loop-last-preserved g c = λ shown h.
    sym (shown_before (λ y. shown y.reply.value) c.loop-last.rest.now c.in-Some.before.now c.in-Some.last.now c.in-Some.ensures.cases.0 (sym (h _ _ c.shows.ensures) ∙ ap option_copied c.in_default-shows.is)) ∙ c.loop-last.invariant shown h

pub returns : goal.returns
returns g c = λ shown h. sym (none_shown (λ y. shown y.reply.value) c.loop-last.rest.now c.in_default.ensures.cases) ∙ c.loop-last.invariant shown h
