use Rattle.std.proofs.Common.{◌≡◌, true, sym, ap, subst, ◌∙◌}
use Rattle.bts_tree.proofs.Awake.{put_under, there_from_key}
use Rattle.bts_tree.proofs.Seen.{seen_put}
use Rattle.bts_tree.proofs.repository.Repository.put_scope.Goals as goal
use Rattle.bts_tree.specs.Indexes.{IsIndex, has_key}
use Rattle.bts_tree.specs.Repositories as repo

pub put-requires : goal.put-requires
put-requires c =
    let kept : has_key c.args.scope.process.key c.self.inside.awake.keys ≡ true = ap (λ (r : repo.Stored). repo.has_room c.args.scope.process.key r) c.self.view_is ∙ c.requires in
    there_from_key c.args.scope.process.key c.self.inside.map.entries (c.self.invariant.slots c.args.scope.process.key kept)

pub invariant_of-self : goal.invariant_of-self
invariant_of-self c =
    let kept : has_key c.args.scope.process.key c.self.inside.awake.keys ≡ true = ap (λ (r : repo.Stored). repo.has_room c.args.scope.process.key r) c.self.view_is ∙ c.requires in
    subst (IsIndex c.self.inside.format c.self.inside.awake.keys) (sym c.put.ensures.entries)
    (put_under c.self.inside.format c.self.inside.awake.keys c.self.inside.map.entries c.self.invariant c.put.ensures.rising c.args.scope.process kept)

pub returns : goal.returns
returns c =
    let kept : has_key c.args.scope.process.key c.self.inside.awake.keys ≡ true = ap (λ (r : repo.Stored). repo.has_room c.args.scope.process.key r) c.self.view_is ∙ c.requires in
    seen_put c.self.inside.format c.self.inside.awake.keys c.self.inside.map.entries c.put.new.map.entries c.args.scope c.put.ensures.rising
    (there_from_key c.args.scope.process.key c.self.inside.map.entries (c.self.invariant.slots c.args.scope.process.key kept)) c.put.ensures.entries
    ∙ ap (repo.put_held c.args.scope) c.self.view_is
