use Rattle.std.proofs.Common.{rules, ◌≡◌, ◌∷◌, ◌∙◌, ap}
use Rattle.std.specs.Prelude.{Some, None}
use Rattle.bts_names.specs.Keys.{key_cmp}
use Rattle.bts_tree.proofs.Finds.{first_part, next_part}
use Rattle.bts_tree.proofs.Slots.{keys_front}
use Rattle.bts_tree.proofs.walk.next_key.Goals as goal
use Rattle.bts_tree.specs.Keeping as keeping
use Rattle.bts_tree.specs.Repositories as repo

pub returns-in-Some-key_behind : goal.returns-in-Some-key_behind
returns-in-Some-key_behind c =
    let key = c.in-Some.key.now in
    let slot = c.in-Some.slot.now in
    let rest = keeping.processes_of c.next.new.self in
    let mine = keeping.keys_in key slot in
    let more : c.loop-key.key-iterator ≡ (key, slot) ∷ c.next.new.self = search rules in
    let f : Some c.in-Some-key_behind.found ≡ repo.first_behind key_cmp c.args.after.now mine = search rules in
    first_part (repo.is_behind key_cmp c.args.after.now) _ (keeping.keys_of_all c.loop-key.key-iterator) mine (keeping.keys_of_all c.next.new.self) c.in-Some-key_behind.found
    c.loop-key.invariant.2 (ap keeping.keys_of_all more ∙ keys_front key slot rest) f

pub loop-key-preserved : goal.loop-key-preserved
loop-key-preserved c =
    let key = c.in-Some.key.now in
    let slot = c.in-Some.slot.now in
    let rest = keeping.processes_of c.next.new.self in
    let mine = keeping.keys_in key slot in
    let more : c.loop-key.key-iterator ≡ (key, slot) ∷ c.next.new.self = search rules in
    let f : None ≡ repo.first_behind key_cmp c.args.after.now mine = search rules in (
      tt,
      tt,
      next_part (repo.is_behind key_cmp c.args.after.now) _ (keeping.keys_of_all c.loop-key.key-iterator) mine (keeping.keys_of_all c.next.new.self)
          c.loop-key.invariant.2 (ap keeping.keys_of_all more ∙ keys_front key slot rest) f,
    )
