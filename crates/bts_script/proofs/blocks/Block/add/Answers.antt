use Rattle.std.proofs.Common.{◌≡◌, ◌∙◌, ◌++◌, [], refl}
use Rattle.std.specs.List.{cons_option}
use Rattle.bts_script.specs.Blocks.{label_of}
use Rattle.bts_script.specs.Begun.{HaveSame}
use Rattle.bts_script.proofs.blocks.Block.add.Goals as goal

pub returns : goal.returns
returns c =
    let label : c.copied.result ≡ label_of c.args.statement = c.copied.ensures ∙ c.label_of.ensures in
    let before : HaveSame c.add.new.labels.keys (c.args.self.now.before.keys ++ cons_option (label_of c.args.statement) []) = rw (← label) c.in_ok-add.ensures in
    record { place = refl; labels = refl; before = before; script = c.in_ok-push.ensures.ok }
