use Rattle.std.proofs.Common.{◌++◌, []}
use Rattle.std.specs.List.{cons_option}
use Rattle.bts_script.specs.Blocks.{labels_of, numbered, by_table}
use Rattle.bts_script.specs.Lines.{lines_of}
use Rattle.bts_script.specs.Begun.{HaveSame, label_at}
use Rattle.bts_script.proofs.Labels.{one_more}
use Rattle.bts_script.proofs.blocks.labels_of.Goals as goal

pub loop-next-preserved : goal.loop-next-preserved
loop-next-preserved c =
    let next = c.in-Some.next in
    let added : HaveSame c.add.new.labels.keys (c.loop-next.labels.keys ++ cons_option (label_at c.args.place next.0.now) []) = rw (← c.in_ok-label_at.ensures) c.in_ok-add.ensures in
    one_more c.args.place c.loop-next.rest.now next.0.now next.1.now c.loop-next.labels.keys c.add.new.labels.keys
    (labels_of by_table c.args.place (numbered 0 (lines_of c.args.text.now))) c.in-Some.ensures.lines added c.loop-next.invariant
