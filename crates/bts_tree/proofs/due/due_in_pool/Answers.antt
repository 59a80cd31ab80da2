use Rattle.std.proofs.Common.{rules, ◌≡◌, true, sym}
use Rattle.std.specs.Prelude.{Some, None}
use Rattle.bts_timer.specs.Timers.{due_until}
use Rattle.bts_tree.proofs.Finds.{first_due, nothing_due}
use Rattle.bts_tree.proofs.due.due_in_pool.Goals as goal
use Rattle.bts_tree.specs.Repositories as repo

pub returns-in_err-first : goal.returns-in_err-first
returns-in_err-first c =
    let none : due_until c.args.now c.args.timers.now ≡ None = search rules in
    rw (nothing_due c.args.now c.args.key.now c.args.path.now c.args.timers.now none) (search rules)

pub returns-then-is_behind : goal.returns-then-is_behind
returns-then-is_behind c =
    let first : due_until c.args.now c.args.timers.now ≡ Some c.in_ok-first.first = search rules in
    let behind : repo.is_behind repo.timer_place_cmp c.args.after.now (c.args.key.now, c.args.path.now, c.in_ok-first.first) ≡ true = search rules in
    sym (first_due (repo.is_behind repo.timer_place_cmp c.args.after.now) c.args.now c.args.key.now c.args.path.now c.args.timers.now c.in_ok-first.first first behind)
