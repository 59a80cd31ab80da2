use Rattle.std.proofs.Common.{rules, sym, ◌≡◌, ◌∙◌, ap, ◌∷◌, ◌++◌}
use Rattle.std.specs.Vec.Iter.{into_iter_items}
use Rattle.bts_names.proofs.Made.{ok_from}
use Rattle.bts_container.proofs.Appended.{copied-more}
use Rattle.bts_container.proofs.pool.map_of.Goals as goal

pub loop-container-preserved : goal.loop-container-preserved
loop-container-preserved c =
    let put = ok_from c.insert.result c.insert.ensures.entries (sym c.is_err.ensures.value ∙ c.if-is_err.false) in
    let more : into_iter_items c.loop-container.rest ≡ c.in-Some.container ∷ into_iter_items c.next.new.self = search rules in
    ap (λ es. es ++ into_iter_items c.next.new.self) put ∙
    copied-more c.args.containers.items c.loop-container.map.entries _ (into_iter_items c.next.new.self) c.in-Some.container.0 c.in-Some.container.1
    c.requires c.loop-container.invariant more
