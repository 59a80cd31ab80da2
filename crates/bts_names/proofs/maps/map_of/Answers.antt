use Rattle.std.proofs.Common.{◌∙◌, subst}
use Rattle.std.proofs.IntoIterSteps.{All-taken}
use Rattle.std.proofs.lemmas.Result.{IfOk-at_ok}
use Rattle.std.specs.BTreeMap.{IsFromIterResult}
use Rattle.bts_names.proofs.Made.{entries_of_all}
use Rattle.bts_names.proofs.maps.map_of.Goals as goal

pub returns-in-Ok : goal.returns-in-Ok
returns-in-Ok g c =
    let h = IfOk-at_ok _ c.in-Ok.is c.from_iter.ensures.ran in
    entries_of_all g.met.K.Ord.total c.requires.exact c.args.entries.items c.in-Ok.map c.requires.rising
    (subst (λ l. IsFromIterResult g.K.Ord.cmp l c.in-Ok.map) (All-taken h.0 h.1 ((h.3.2 tt).0, (h.3.0, h.3.1, (h.3.2 tt).1)) ∙ h.2.0) h.4)
