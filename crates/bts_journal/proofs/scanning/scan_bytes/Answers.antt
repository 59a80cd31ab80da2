use Rattle.std.proofs.Common.{◌≡◌, ◌≤◌, false, rules, arith, length, Some, None, IsTrue}
use Rattle.bts_journal.specs.Gates.{first_gate, is_repository, is_closed, record_at}
use Rattle.bts_journal.proofs.SoFar.{one_more, reaches, record_long, repository_long, no_record, stops}
use Rattle.bts_journal.proofs.scanning.scan_bytes.Goals as goal

pub returns-in-Err-clause-err : goal.returns-in-Err-clause-err
returns-in-Err-clause-err c =
    let read : record_at c.loop-payload.rest.now ≡ Some (c.in-Some.payload.now, c.in-Some.behind.now) = search rules in
    let is : IsTrue (is_repository c.args.bytes.now) = search rules in
    stops c.in-Err.error _ _ _ _ _ _ _ is c.loop-payload.invariant read c.in-Err.ensures

pub overflow_add-offset-in-Some : goal.overflow_add-offset-in-Some
overflow_add-offset-in-Some c =
    let read : record_at c.loop-payload.rest.now ≡ Some (c.in-Some.payload.now, c.in-Some.behind.now) = search rules in
    let is : IsTrue (is_repository c.args.bytes.now) = search rules in
    let long : first_gate ≤ length c.args.bytes.now = repository_long c.args.bytes.now is in
    let whole = reaches c.args.bytes.now c.loop-payload.rest.now c.loop-payload.founds.items c.loop-payload.offset long c.loop-payload.invariant in
    let one = record_long c.loop-payload.rest.now c.in-Some.payload.now c.in-Some.behind.now read in
    omega (arith, whole, one)

pub loop-payload-smaller : goal.loop-payload-smaller
loop-payload-smaller c =
    let read : record_at c.loop-payload.rest.now ≡ Some (c.in-Some.payload.now, c.in-Some.behind.now) = search rules in
    omega (arith, record_long c.loop-payload.rest.now c.in-Some.payload.now c.in-Some.behind.now read)

pub loop-payload-preserved : goal.loop-payload-preserved
loop-payload-preserved c =
    let read : record_at c.loop-payload.rest.now ≡ Some (c.in-Some.payload.now, c.in-Some.behind.now) = search rules in
    let finds = c.in_default-add_next.ensures in
    one_more _ _ _ _ _ _ _ _ finds.0 c.loop-payload.invariant read finds.1 finds.2 (omega arith)

pub returns-then-not-is_closed-clause-err : goal.returns-then-not-is_closed-clause-err
returns-then-not-is_closed-clause-err c =
    let none : record_at c.loop-payload.rest.now ≡ None = search rules in
    let is : IsTrue (is_repository c.args.bytes.now) = search rules in
    let shut : is_closed c.loop-payload.rest.now ≡ false = search rules in
    no_record _ _ _ _ is c.loop-payload.invariant none shut
