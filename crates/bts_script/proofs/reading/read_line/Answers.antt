use Rattle.std.proofs.Common.{◌≡◌, rules}
use Rattle.bts_script.specs.Blocks.{line_in, by_table}
use Rattle.bts_script.proofs.Today.{line_read}
use Rattle.bts_script.proofs.reading.read_line.Goals as goal

pub returns-clause-today : goal.returns-clause-today
returns-clause-today c =
    let said : c.in-Some.said ≡ line_in by_table c.args.at c.args.text.now = search rules in
    line_read c.args.at c.args.text.now c.in-Some.said said
