use Rattle.std.proofs.Common.{rules, ◌≡◌, ◌<◌, ◌≤◌, ◌^◌, arith, ap, length}
use Rattle.bts_tree.proofs.Slotted.{filled_shorter}
use Rattle.bts_tree.proofs.slot_maps.count_filled.Goals as goal
use Rattle.bts_tree.specs.Slots.{filled}

pub loop-slot-init : goal.loop-slot-init
loop-slot-init c =
    let few : length c.args.map.now.entries < 2 ^ 63 = search rules in
    let fewer : length (filled c.args.map.now.entries) ≤ length c.args.map.now.entries = filled_shorter c.args.map.now.entries in
    let same : c.into_iter-slot-iterator.result ≡ c.args.map.now.entries = search rules in
    let all : length (filled c.into_iter-slot-iterator.result) ≡ length (filled c.args.map.now.entries) = ap (λ es. length (filled es)) same in
    (tt, tt, omega (arith, all), omega (arith, few, fewer))
