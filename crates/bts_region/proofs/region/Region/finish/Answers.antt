use Rattle.std.proofs.Common.{◌≡◌, ◌+◌, ◌≤◌, ◌++◌, ◌∷◌, [], length, rules, not, cond, true, is_some, None, Some, refl, sym, ap, ◌∙◌, subst, arith}
use Rattle.bts_command.specs.Kinds.{is_activation, is_rollback}
use Rattle.bts_interp.specs.Items.{item_of}
use Rattle.bts_region.specs.Answers.{CountsLast, Ends, IsDueUnder}
use Rattle.bts_region.specs.Awake.{AreOthersAwake}
use Rattle.bts_region.specs.Keeps.{state_of}
use Rattle.bts_region.specs.Regions.{RegionState}
use Rattle.bts_region.specs.declared.region.Region.TheInside.{Inside}
use Rattle.bts_tree.specs.Processes.{Process}
use Rattle.bts_tree.specs.Repositories.{has_room}
use Rattle.bts_unit.specs.Playing.{put_back}
use Rattle.bts_region.proofs.Counting.{counts_last, where_due}
use Rattle.bts_region.proofs.EndedAs.{ticket_out}
use Rattle.bts_region.proofs.Entering.{keeps_on}
use Rattle.bts_region.proofs.Finished.{IsOut, IsResult, Tells, counted_units, ended_by, ends, is_out, numbered_unit, one_at_most, own_key, result_of, told, where_fits}
use Rattle.bts_region.proofs.Runnable.{far_from_last, out_runnable}
use Rattle.bts_region.proofs.Still.{keeps_still}
use Rattle.bts_region.proofs.region.Region.finish.Given.{Over}
use Rattle.bts_region.proofs.region.Region.finish.Goals as goal

pub prepare-requires-clause-runnable : goal.prepare-requires-clause-runnable
prepare-requires-clause-runnable g c =
    let o = is_out g.N.Naming.name c.self.inside c.args.self.now c.self.view_is c.args.done.job.ticket c.ticket-ticket.result c.ticket-ticket.ensures c.in-Some.due c.in-Some.ensures in
    out_runnable g.N.Naming.name c.self.inside c.self.invariant c.in-Some.due.unit c.in-Some.due.key o.out o.process

-- ---- there was no memory

pub invariant_of-self : goal.invariant_of-self
invariant_of-self g c =
    keeps_still g.N.Naming.name c.self.inside _ c.self.invariant
    (record {
      session = refl;
      limit = refl;
      later = omega arith;
      history = c.prepare.ensures.history;
      out = refl;
      processes = c.prepare.ensures.processes;
      awake = c.in-Err.ensures.awake;
      units = refl;
      items = refl;
      activations = refl;
    })

pub returns-in-Err-clause-err : goal.returns-in-Err-clause-err
returns-in-Err-clause-err g c =
    let s : RegionState = state_of g.N.Naming.name c.self.inside in
    let still : RegionState = record s { history = c.prepare.new.history.items } in
    let same : still ≡ s = λ i. record { session = s.session; limit = s.limit; opening = s.opening; moment = s.moment; history = c.prepare.ensures.history i; out = s.out } in
    let d : IsDueUnder c.args.done.job.ticket c.args.self.now c.in-Some.due = subst (λ t. IsDueUnder t c.args.self.now c.in-Some.due) c.ticket-ticket.ensures c.in-Some.ensures in
    (c.in-Err.ensures.err, same ∙ c.self.view_is, ticket_out c.args.done.job.ticket c.in-Some.due.unit c.args.self.now.out d.out)

pub returns-in-Err-clause-steps : goal.returns-in-Err-clause-steps
returns-in-Err-clause-steps g c = λ f.
    c.prepare.ensures.taken (where_fits g.N.Naming.name c.self.inside c.self.invariant c.args.self.now c.self.view_is c.in-Some.due c.args.done (is_out g.N.Naming.name c.self.inside c.args.self.now c.self.view_is c.args.done.job.ticket c.ticket-ticket.result c.ticket-ticket.ensures c.in-Some.due c.in-Some.ensures) f)

pub returns-clause-steps : goal.returns-clause-steps
returns-clause-steps g c = λ f.
    c.prepare.ensures.taken (where_fits g.N.Naming.name c.self.inside c.self.invariant c.args.self.now c.self.view_is c.in-Some.due c.args.done (is_out g.N.Naming.name c.self.inside c.args.self.now c.self.view_is c.args.done.job.ticket c.ticket-ticket.result c.ticket-ticket.ensures c.in-Some.due c.in-Some.ensures) f)

-- ---- the unit has ended

pub put_back-requires : goal.put_back-requires
put_back-requires g c =
    let result = result_of c.self.inside c.args.done.job.ticket c.in-Some.due c.in-Ok.fitted (is_out g.N.Naming.name c.self.inside c.args.self.now c.self.view_is c.args.done.job.ticket c.ticket-ticket.result c.ticket-ticket.ensures c.in-Some.due c.in-Some.ensures) c.in-Ok.ensures.ok c.facts.ensures.done in
    let key = ap (λ (s : Process). s.key) c.into_result-calls.ensures.after ∙ own_key g.N.Naming.name c.self.inside c.self.invariant c.in-Some.due.unit c.in-Some.due.key c.in-Ok.fitted result in
    subst (λ k. has_room k c.prepare.new.repository ≡ true) (sym key) c.in-Ok.ensures.room

pub overflow_add-self : goal.overflow_add-self
overflow_add-self g c =
    let far = far_from_last g.N.Naming.name c.self.inside c.self.invariant in
    let one : c.from.result ≤ 1 = one_at_most _ c.from.result c.from.ensures in omega (arith, far, one)

pub push_reserved-requires : goal.push_reserved-requires
push_reserved-requires g c = c.in-Ok.ensures.place

abbrev behind_it : (g : Over) → goal.After-len g → Inside g.row.N.Denot
behind_it g c =
    record c.self.inside {
      history = c.push_reserved.new.self;
      out = None;
      repository = c.put_back.new.repository;
      units = c.self.inside.units + c.from.result;
      items_ended = c.self.inside.items_ended + c.from-3.result;
      activations = c.self.inside.activations + c.from-2.result;
    }

was_out : (g : Over) (c : goal.After-len g) → IsOut c.self.inside c.args.done.job.ticket c.in-Some.due
was_out g c = is_out g.N.Naming.name c.self.inside c.args.self.now c.self.view_is c.args.done.job.ticket c.ticket-ticket.result c.ticket-ticket.ensures c.in-Some.due c.in-Some.ensures

is_result : (g : Over) (c : goal.After-len g) → IsResult c.self.inside c.in-Some.due.unit c.in-Some.due.key c.in-Ok.fitted
is_result g c = result_of c.self.inside c.args.done.job.ticket c.in-Some.due c.in-Ok.fitted (was_out g c) c.in-Ok.ensures.ok c.facts.ensures.done

tells : (g : Over) (c : goal.After-len g) → Tells c.self.inside (behind_it g c) c.in-Some.due.unit c.in-Ok.fitted
tells g c =
    let o = was_out g c in
    let key = ap (λ (s : Process). s.key) c.into_result-calls.ensures.after ∙ own_key g.N.Naming.name c.self.inside c.self.invariant c.in-Some.due.unit c.in-Some.due.key c.in-Ok.fitted (is_result g c) in
    let committed : not c.is_rollback-is_committed.result ≡ not (is_rollback c.in-Ok.fitted.end) = ap not (c.is_rollback-is_committed.ensures ∙ ap is_rollback c.into_result-calls.ensures.end) in
    let number : c.number_of.result ≡ cond (not (is_rollback c.in-Ok.fitted.end)) (c.self.inside.units + 1) 0 =
    c.number_of.ensures ∙ numbered_unit (not c.is_rollback-is_committed.result) (not (is_rollback c.in-Ok.fitted.end)) c.self.inside.units c.from.result committed c.from.ensures in
    record {
      session = refl;
      limit = refl;
      moment = refl;
      history =
          c.push_reserved.ensures.items
          ∙ (λ i. c.prepare.ensures.history i ++ record { unit = c.in-Some.due.unit; moment = o.now i; end = c.into_result-calls.ensures.end i; calls = c.into_result-calls.ensures.calls i; rows = c.new.ensures i; seq = number i } ∷ []);
      gone = refl;
      processes = c.put_back.ensures.processes ∙ (λ i. put_back (c.into_result-calls.ensures.end i) (Some (c.into_result-calls.ensures.after i)) (c.prepare.ensures.processes i));
      units = counted_units (not c.is_rollback-is_committed.result) (not (is_rollback c.in-Ok.fitted.end)) c.self.inside.units c.from.result committed c.from.ensures;
      items = counted_units c.is_some.result (is_some (item_of c.in-Some.due.unit)) c.self.inside.items_ended c.from-3.result (c.is_some.ensures ∙ ap is_some c.item_of.ensures) c.from-3.ensures;
      activations = counted_units c.is_activation.result (is_activation c.in-Some.due.unit) c.self.inside.activations c.from-2.result c.is_activation.ensures c.from-2.ensures;
      awake = λ h. c.put_back.ensures.awake (subst (λ k. AreOthersAwake k c.prepare.new.repository) (sym key) (c.in-Ok.ensures.others h));
    }

pub invariant_of-self-2 : goal.invariant_of-self-2
invariant_of-self-2 g c =
    keeps_on g.N.Naming.name c.self.inside (behind_it g c) c.self.invariant (ended_by c.in-Some.due.unit c.self.inside.moment c.in-Ok.fitted c.self.inside.units)
    (ends g.N.Naming.name c.self.inside c.self.invariant c.in-Some.due.unit c.in-Some.due.key c.in-Ok.fitted (is_result g c) (behind_it g c) (tells g c))

pub returns-clause-ok : goal.returns-clause-ok
returns-clause-ok g c =
    let o = was_out g c in
    let place : c.len.result ≡ length c.push_reserved.new.self.items = search rules in
    subst (λ (z : RegionState). Ends z (state_of g.N.Naming.name (behind_it g c)) c.args.done c.len.result) c.self.view_is
    (told g.N.Naming.name c.self.inside c.self.invariant c.in-Some.due.unit c.in-Some.due.key c.in-Ok.fitted (is_result g c) (behind_it g c) (tells g c) c.args.done c.len.result o.first place)

pub returns-clause-again : goal.returns-clause-again
returns-clause-again g c = λ f.
    subst (λ (z : RegionState). CountsLast z (state_of g.N.Naming.name (behind_it g c)) c.args.steps.now c.prepare.new.steps) c.self.view_is
    (counts_last g.N.Naming.name c.self.inside c.self.invariant c.in-Some.due.unit c.in-Some.due.key c.in-Ok.fitted (is_result g c) (behind_it g c) (tells g c) c.args.steps.now c.prepare.new.steps
    (c.in-Ok.ensures.again (λ due. f (where_due g.N.Naming.name c.self.inside c.self.invariant c.args.self.now c.self.view_is c.in-Some.due c.args.done (was_out g c) due))))
