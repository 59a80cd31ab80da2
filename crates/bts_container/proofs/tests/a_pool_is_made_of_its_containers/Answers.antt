use Rattle.std.proofs.Common.{rules, ◌≡◌, [], ◌∷◌, false, sym, subst, arith}
use Rattle.std.specs.List.{IsDistinct}
use Rattle.bts_container.specs.Containers.{Containers, IsPool, is_long}
use Rattle.bts_container.specs.declared.format.Format.TheVariants as format
use Rattle.bts_container.proofs.tests.a_pool_is_made_of_its_containers.Goals as goal

pub from_parts-requires : goal.from_parts-requires
unfolding IsDistinct
from_parts-requires g c =
    let items : c.push.new.self.items ≡ (c.in_ok-container.container, c.in_ok-bytes.bytes) ∷ [] = search rules in
    let short : is_long c.in_ok-bytes.bytes format.One ≡ false = search rules in
    subst (λ es. let x : Containers = record { format = format.One; items = es } in IsPool x) (sym items) (record { few = omega arith; short = (short, tt); distinct = (tt, tt) })
