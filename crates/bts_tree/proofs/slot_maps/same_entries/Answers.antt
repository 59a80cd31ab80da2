use Rattle.std.proofs.Common.{rules, ◌≡◌, true, false}
use Rattle.bts_names.specs.Names.{same}
use Rattle.bts_tree.proofs.Alike.{entries_from_paths, entries_differ}
use Rattle.bts_tree.proofs.slot_maps.same_entries.Goals as goal

pub returns-then-ne : goal.returns-then-ne
returns-then-ne c =
    let h : same c.args.path.now c.args.place.now ≡ false = search rules in
    entries_differ c.args.path.now c.args.place.now h

pub returns : goal.returns
returns c =
    let h : same c.args.path.now c.args.place.now ≡ true = search rules in
    entries_from_paths c.args.path.now c.args.place.now c.same.result h c.same.ensures
