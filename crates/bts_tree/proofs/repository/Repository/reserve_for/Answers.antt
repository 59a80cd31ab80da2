use Rattle.std.proofs.Common.{◌≡◌, OnOk, OnErr, sym, ap, subst, ◌∙◌}
use Rattle.bts_tree.proofs.Awake.{more_room, one_more, slot_made}
use Rattle.bts_tree.proofs.Seen.{seen_roomed, seen_same}
use Rattle.bts_tree.proofs.repository.Repository.reserve_for.Goals as goal
use Rattle.bts_tree.proofs.repository.Repository.reserve_for.Goals.{in-Ok, in-Err}
use Rattle.bts_tree.specs.Indexes.{IsIndex}
use Rattle.bts_tree.specs.Keeping.{stored_in, with_slot}
use Rattle.bts_tree.specs.Repositories as repo

pub invariant_of-self-2 : goal.invariant_of-self-2
invariant_of-self-2 c =
    let f = c.self.inside.format in
    let keys = c.self.inside.awake.keys in
    let key = c.args.key.now in
    let es = with_slot key c.self.inside.map.entries in
    let roomier : IsIndex f keys es = more_room f keys c.self.inside.map.entries c.self.invariant key in
    subst (IsIndex f c.insert.new.self.keys) (sym c.in_ok-make_room.ensures.ok)
    (elim c.match-insert.branch [
      | in-Ok w ↦ one_more f keys es roomier key c.insert.new.self.keys w.in-Ok.ensures.updates.0 (slot_made key c.self.inside.map.entries)
      | in-Err w ↦ subst (λ ks. IsIndex f ks es) (sym w.in-Err.ensures.err) roomier
    ])

pub returns-clause-ok : goal.returns-clause-ok
returns-clause-ok c =
    let f = c.self.inside.format in
    let keys = c.self.inside.awake.keys in
    let key = c.args.key.now in
    let es = c.self.inside.map.entries in
    let P : Type 0 = stored_in f c.insert.new.self.keys c.make_room.new.map.entries ≡ repo.with_room key c.args.self.now in
    elim c.match-insert.branch [
      | in-Ok w ↦ subst (λ r. OnOk r P) (sym w.result-is) (seen_roomed f keys es c.make_room.new.map.entries key c.insert.new.self.keys c.in_ok-make_room.ensures.ok w.in-Ok.ensures.keys ∙ ap (repo.with_room key) c.self.view_is)
      | in-Err w ↦ subst (λ r. OnOk r P) (sym w.result-is) tt
    ]

pub returns-clause-err : goal.returns-clause-err
returns-clause-err c =
    let f = c.self.inside.format in
    let keys = c.self.inside.awake.keys in
    let es = c.self.inside.map.entries in
    let P : Type 0 = stored_in f c.insert.new.self.keys c.make_room.new.map.entries ≡ c.args.self.now in
    elim c.match-insert.branch [
      | in-Ok w ↦ subst (λ r. OnErr r P) (sym w.result-is) tt
      | in-Err w ↦ subst (λ r. OnErr r P) (sym w.result-is) (seen_same f keys es c.make_room.new.map.entries c.args.key.now c.insert.new.self.keys c.in_ok-make_room.ensures.ok w.in-Err.ensures.err ∙ c.self.view_is)
    ]
