use Rattle.std.proofs.Common.{◌≡◌, ◌∙◌, sym, subst, None}
use Rattle.bts_container.specs.Containers.{Containers}
use Rattle.bts_container.specs.Puts.{refusal_of_put}
use Rattle.bts_container.proofs.Kept.{IsPool-after}
use Rattle.bts_container.proofs.pool.ContainerPool.put.Goals as goal

pub invariant_of-self : goal.invariant_of-self
invariant_of-self c =
    let x : Containers = record { format = c.self.inside.format; items = c.self.inside.map.entries } in
    let passed = sym c.refuses_put.ensures ∙ c.in_default.is in
    let why : refusal_of_put c.args.name c.in-Ok.blob x ≡ None = subst (λ b. refusal_of_put c.args.name b x ≡ None) (sym c.in-Ok.ensures) passed in
    IsPool-after c.self.inside.format c.args.name x.items _ c.self.invariant c.in-Ok.blob c.insert.result why c.insert.ensures.unique c.insert.ensures.entries c.insert.ensures.err
