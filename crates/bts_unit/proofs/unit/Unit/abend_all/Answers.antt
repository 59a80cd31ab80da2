use Rattle.std.proofs.Common.{is_none, sym, ap, ◌∙◌, subst}
use Rattle.bts_unit.specs.Ends.{abended_whole}
use Rattle.bts_unit.specs.Soundness.{IsSoundLone, IsSoundUnit, IsSoundWithin}
use Rattle.bts_unit.proofs.BoundedUnits.{stops_lone, stops_within}
use Rattle.bts_unit.proofs.Replayed.{stopped_whole, stopped_work}
use Rattle.bts_unit.proofs.SoundUnits.{stops_sound}
use Rattle.bts_unit.proofs.unit.Unit.abend_all.Goals as goal

pub invariant_of-self : goal.invariant_of-self
invariant_of-self c =
    let u = c.self.inside in
    stopped_work u.kind u.work u.calls.items u.stopped c.self.invariant (ap (λ v. is_none v.end) c.self.view_is ∙ c.requires) c.args.code c.abend.new.work c.abend.ensures

pub returns-clause-kept : goal.returns-clause-kept
returns-clause-kept c = λ sound.
    let u = c.self.inside in
    let goes_on = ap (λ v. is_none v.end) c.self.view_is ∙ c.requires in
    let stopped = stopped_whole u.kind u.work u.calls.items u.stopped c.self.invariant goes_on c.args.code c.abend.new.work c.abend.ensures in
    subst IsSoundUnit (sym (stopped ∙ ap (abended_whole c.args.code) c.self.view_is)) (stops_sound c.args.code c.args.self.now sound)

pub returns-clause-within : goal.returns-clause-within
returns-clause-within c = λ g n within.
    let u = c.self.inside in
    let goes_on = ap (λ v. is_none v.end) c.self.view_is ∙ c.requires in
    let stopped = stopped_whole u.kind u.work u.calls.items u.stopped c.self.invariant goes_on c.args.code c.abend.new.work c.abend.ensures in
    subst (IsSoundWithin g n) (sym (stopped ∙ ap (abended_whole c.args.code) c.self.view_is)) (stops_within g n c.args.code c.args.self.now within)

pub returns-clause-lone : goal.returns-clause-lone
returns-clause-lone c = λ lone.
    let u = c.self.inside in
    let goes_on = ap (λ v. is_none v.end) c.self.view_is ∙ c.requires in
    let stopped = stopped_whole u.kind u.work u.calls.items u.stopped c.self.invariant goes_on c.args.code c.abend.new.work c.abend.ensures in
    subst IsSoundLone (sym (stopped ∙ ap (abended_whole c.args.code) c.self.view_is)) (stops_lone c.args.code c.args.self.now lone)
