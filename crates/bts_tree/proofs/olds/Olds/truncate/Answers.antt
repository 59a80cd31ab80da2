use Rattle.std.proofs.Common.{rules, ◌≤◌, ◌<◌, ◌∙◌, length, sym}
use Rattle.std.proofs.lemmas.List.{take_all}
use Rattle.bts_tree.proofs.Newest.{popped_front, popped_shorter}
use Rattle.bts_tree.proofs.olds.Olds.truncate.Goals as goal

pub loop-self-preserved : goal.loop-self-preserved
loop-self-preserved c =
    let more : c.args.place < length c.loop-self.self = search rules in
    popped_front c.args.place c.loop-self.self c.pop.new.self c.pop.result c.pop.ensures.items more ∙ c.loop-self.invariant

pub loop-self-smaller : goal.loop-self-smaller
loop-self-smaller c =
    let more : c.args.place < length c.loop-self.self = search rules in
    popped_shorter c.args.place c.loop-self.self c.pop.new.self c.pop.result c.pop.ensures.items c.pop.ensures.empty more

pub returns : goal.returns
returns c =
    let none_more : length c.loop-self.self ≤ c.args.place = search rules in
    sym (take_all c.args.place c.loop-self.self none_more) ∙ c.loop-self.invariant
