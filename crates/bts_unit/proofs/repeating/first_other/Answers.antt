use Rattle.std.proofs.Common.{◌≡◌, Bool, true, false, IsTrue, ◌↔◌, refl, subst}
use Rattle.bts_unit.proofs.Repeated.{IsSoFar, at_first, one_further, other_here}
use Rattle.bts_unit.proofs.repeating.first_other.Goals as goal

pub loop-call-init : goal.loop-call-init
loop-call-init c = at_first c.args.unit.now c.args.calls.now c.requires

not_so : {A : Type 0} (b : Bool) → b ≡ false → IsTrue b ↔ A → A → ⊥
not_so true e h a = cc
not_so false e h a = let x : IsTrue false = h.1 a in cc

so : {A : Type 0} (b : Bool) → b ≡ true → IsTrue b ↔ A → A
so true e h = h.0 refl
so false e h = cc

pub returns-then-not-branch : goal.returns-then-not-branch
returns-then-not-branch c =
    other_here c.args.unit.now c.loop-call.unit c.args.calls.now c.in-Some.call.now c.in-Some.others.now c.loop-call.number
    (subst (λ rest. IsSoFar c.args.unit.now c.loop-call.unit c.args.calls.now rest c.loop-call.number) c.in-Some.ensures.cases.0 c.loop-call.invariant)
    (not_so c.in_ok-repeats.field-0 c.if-not-branch.true c.in_ok-repeats.ensures.same)

pub loop-call-preserved : goal.loop-call-preserved
loop-call-preserved c =
    one_further c.args.unit.now c.loop-call.unit c.args.calls.now c.in-Some.call.now c.in-Some.others.now c.loop-call.number
    (subst (λ rest. IsSoFar c.args.unit.now c.loop-call.unit c.args.calls.now rest c.loop-call.number) c.in-Some.ensures.cases.0 c.loop-call.invariant)
    c.repeats.new.unit c.in_ok-repeats.ensures.behind (so c.in_ok-repeats.field-0 c.if-not-branch.false c.in_ok-repeats.ensures.same)
