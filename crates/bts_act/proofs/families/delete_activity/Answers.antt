use Rattle.std.proofs.Common.{refl}
use Rattle.bts_names.specs.Answer.{mapped}
use Rattle.bts_tree.specs.Processes.{activity_at, child_of}
use Rattle.bts_rows.specs.OnFamily as family
use Rattle.bts_act.proofs.FamilyRows.{at_path_does}
use Rattle.bts_act.proofs.families.delete_activity.Goals as goal

pub returns-clause-row : goal.returns-clause-row
returns-clause-row c =
    let s = c.args.scope.now.process in
    let p = c.args.at.now in
    at_path_does s p (activity_at p s) refl c.requires.there c.delete_child.result c.delete_child.new.scope.process (mapped (λ change. change s) (family.delete_activity (child_of p c.args.name.now s))) c.delete_child.ensures.row
