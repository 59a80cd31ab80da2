use Rattle.std.proofs.Common.{◌≡◌, ◌-◌, true, false, drop, rules, sym}
use Rattle.bts_journal.specs.Gates.{first_gate, is_repository, goes_on_within}
use Rattle.bts_journal.proofs.Ahead.{first_none, first_bad, first_passes}
use Rattle.bts_journal.proofs.scanning.look_at_front.Goals as goal

pub returns-then-not-is_repository-clause-err : goal.returns-then-not-is_repository-clause-err
returns-then-not-is_repository-clause-err c = λ bytes all is. first_none bytes c.args.front.now c.args.len all is c.requires.enough (sym c.if-not-is_repository.ensures)

pub returns-then-not-goes_on-clause-err : goal.returns-then-not-goes_on-clause-err
returns-then-not-goes_on-clause-err c = λ bytes all is.
    let yes : is_repository c.args.front.now ≡ true = search rules in
    let stops : goes_on_within (c.args.len - first_gate) (drop first_gate c.args.front.now) ≡ false = search rules in
    first_bad bytes c.args.front.now c.args.len all is c.requires.enough yes stops

pub returns-clause-ok : goal.returns-clause-ok
returns-clause-ok c = λ bytes all is.
    let yes : is_repository c.args.front.now ≡ true = search rules in
    let goes : goes_on_within (c.args.len - first_gate) (drop first_gate c.args.front.now) ≡ true = search rules in
    first_passes bytes c.args.front.now c.args.len all is c.requires.enough yes goes
