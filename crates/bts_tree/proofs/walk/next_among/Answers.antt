use Rattle.std.proofs.Common.{rules, ◌≡◌, ◌∷◌, ◌∙◌, ap, sym}
use Rattle.std.specs.BTreeMap.Range.{range_contains}
use Rattle.std.specs.List.{filter, flat_map}
use Rattle.std.specs.Prelude.{Some, None}
use Rattle.std.specs.declared.ops.Bound.TheVariants.{Unbounded}
use Rattle.bts_names.specs.Keys.{key_cmp}
use Rattle.bts_tree.proofs.Finds.{first_part, next_part}
use Rattle.bts_tree.proofs.Found.{from_key}
use Rattle.bts_tree.proofs.walk.next_among.Goals as goal
use Rattle.bts_tree.specs.Keeping as keeping
use Rattle.bts_tree.specs.Repositories as repo

pub loop-key-init : goal.loop-key-init
loop-key-init c =
    let es = c.args.map.now.entries in
    let test = keeping.wants c.args.wanted in
    let from : c.into_iter-key-iterator.result ≡ filter (range_contains key_cmp (keeping.first_key c.args.after.now) Unbounded) c.args.keys.now.keys = search rules in (
      tt,
      tt,
      sym (ap (λ ks. repo.first_behind repo.place_cmp c.args.after.now (flat_map (keeping.chosen_under test es) ks)) from ∙ from_key test es c.args.after.now c.args.keys.now.keys),
    )

pub returns-in-Some-next_under : goal.returns-in-Some-next_under
returns-in-Some-next_under c =
    let key = c.in-Some.key.now in
    let test = keeping.chosen_under (keeping.wants c.args.wanted) c.args.map.now.entries in
    let more : c.loop-key.key-iterator ≡ key ∷ c.next.new.self = search rules in
    let f : Some (key, c.in-Some-next_under.path) ≡ repo.first_behind repo.place_cmp c.args.after.now (test key) = search rules in
    first_part (repo.is_behind repo.place_cmp c.args.after.now) _ (flat_map test c.loop-key.key-iterator) (test key) (flat_map test c.next.new.self) (key, c.in-Some-next_under.path)
    c.loop-key.invariant.2 (ap (flat_map test) more) f

pub loop-key-preserved : goal.loop-key-preserved
loop-key-preserved c =
    let key = c.in-Some.key.now in
    let test = keeping.chosen_under (keeping.wants c.args.wanted) c.args.map.now.entries in
    let more : c.loop-key.key-iterator ≡ key ∷ c.next.new.self = search rules in
    let f : None ≡ repo.first_behind repo.place_cmp c.args.after.now (test key) = search rules in (
      tt,
      tt,
      next_part (repo.is_behind repo.place_cmp c.args.after.now) _ (flat_map test c.loop-key.key-iterator) (test key) (flat_map test c.next.new.self)
          c.loop-key.invariant.2 (ap (flat_map test) more) f,
    )
