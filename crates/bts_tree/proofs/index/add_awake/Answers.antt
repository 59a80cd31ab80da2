use Rattle.std.proofs.Common.{rules, ◌≡◌, true}
use Rattle.bts_tree.proofs.Awake.{added_awake}
use Rattle.bts_tree.proofs.index.add_awake.Goals as goal
use Rattle.bts_tree.specs.Indexes.{is_slot_awake}

pub returns-in-Ok : goal.returns-in-Ok
returns-in-Ok c = λ k.
    let awake : is_slot_awake c.args.key.now c.args.slot.now ≡ true = search rules in
    added_awake c.args.key.now k c.args.slot.now c.args.keys.now.keys c.insert.new.self.keys (c.in-Ok.ensures.updates.0 k) awake
