use Rattle.std.proofs.Common.{◌≡◌, ◌-◌, ℕ, length, drop, replicate}
use Rattle.std.proofs.lemmas.List.{drop-replicate}
use Rattle.bts_names.proofs.Padding.{front-padded, padded-made}
use Rattle.bts_names.proofs.name.Name.of.Goals as goal

pub invariant_of-result : goal.invariant_of-result
invariant_of-result g c =
    let text = c.args.bytes.now in
    let zeros : drop (length text) (replicate {A = ℕ} g.row.MOST 0) ≡ replicate (g.row.MOST - length text) 0 = drop-replicate (length text) g.row.MOST 0 in
    rw (c.copy_from_slice.ensures.after, zeros) (padded-made g.row.MOST text, rw (front-padded g.row.MOST text) c.requires)
