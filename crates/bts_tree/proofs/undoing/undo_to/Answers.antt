use Rattle.std.proofs.Common.{rules, ◌≡◌, ◌≤◌, ◌<◌, ◌+◌, ◌++◌, ◌∷◌, [], length, ap, ◌∙◌, option_to_list, arith, length-append}
use Rattle.bts_tree.proofs.Undone.{undo_step, nothing_left}
use Rattle.bts_tree.proofs.undoing.undo_to.Goals as goal

pub loop-olds-preserved-in-Some : goal.loop-olds-preserved-in-Some
loop-olds-preserved-in-Some c =
    let e : c.loop-olds.olds ≡ c.pop.new.self ++ c.in-Some.old ∷ [] = c.pop.ensures.items ∙ ap (λ o. c.pop.new.self ++ option_to_list o) c.in-Some.is in
    let h : c.args.place < length c.loop-olds.olds = search rules in
    let m : length c.loop-olds.olds ≡ length c.pop.new.self + 1 = ap length e ∙ length-append c.pop.new.self (c.in-Some.old ∷ []) in
    let l : c.args.place ≤ length c.pop.new.self = omega (arith, h, m) in
    let s = undo_step c.args.place c.loop-olds.olds c.pop.new.self c.in-Some.old c.loop-olds.own c.put_back.new.own c.loop-olds.map.entries c.put_back.new.map.entries e l c.put_back.ensures.own c.put_back.ensures.entries in
    (s.0 ∙ c.loop-olds.invariant.0, s.1 ∙ c.loop-olds.invariant.1, s.2 ∙ c.loop-olds.invariant.2)

pub loop-olds-smaller : goal.loop-olds-smaller
loop-olds-smaller c =
    let h : c.args.place < length c.loop-olds.olds = search rules in
    let none : length c.loop-olds.olds ≡ 0 = ap length c.in_default.ensures.empty in
    let less : length c.pop.new.self < length c.loop-olds.olds = omega (arith, h, none) in
    less

pub returns-clause-entries : goal.returns-clause-entries
returns-clause-entries c =
    let l : length c.loop-olds.olds ≤ c.args.place = search rules in
    nothing_left c.args.place c.loop-olds.olds c.loop-olds.map.entries _ l c.loop-olds.invariant.1
