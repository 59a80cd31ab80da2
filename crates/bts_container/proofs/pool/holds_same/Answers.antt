use Rattle.std.proofs.Common.{◌≡◌, ◌∙◌, ◌&&◌, nat_eq}
use Rattle.std.specs.Cmp.Lexicographic.{pointwise}
use Rattle.bts_names.specs.Names.{same}
use Rattle.bts_container.proofs.Alike.{items-Decides}
use Rattle.bts_container.proofs.pool.holds_same.Goals as goal

pub returns : goal.returns
returns c =
    let e : c.eq.result ≡ pointwise (λ p q. same p.0 q.0 && pointwise nat_eq p.1 q.1) c.args.map.now.entries c.args.other.now.entries =
    c.eq.ensures ∙ (λ i. pointwise (λ p q. same p.0 q.0 && pointwise nat_eq p.1 q.1) (c.as_slice.ensures.entries i) (c.as_slice-2.ensures.entries i)) in
    items-Decides _ _ c.eq.result e
