use Rattle.std.proofs.Common.{rules, ◌≡◌, ◌∷◌, ◌∙◌, ap}
use Rattle.std.specs.List.{flat_map}
use Rattle.std.specs.Prelude.{Some, None}
use Rattle.bts_tree.proofs.Finds.{first_part, next_part}
use Rattle.bts_tree.proofs.Slots.{chosen_front}
use Rattle.bts_tree.proofs.walk.next_place.Goals as goal
use Rattle.bts_tree.specs.Keeping as keeping
use Rattle.bts_tree.specs.Repositories as repo

pub returns-in-Some-next_in_slot : goal.returns-in-Some-next_in_slot
returns-in-Some-next_in_slot c =
    let key = c.in-Some.key.now in
    let slot = c.in-Some.slot.now in
    let test = keeping.wants c.args.wanted in
    let rest = keeping.processes_of c.next.new.self in
    let mine = repo.chosen_at test key (keeping.activities_in slot) in
    let more : c.loop-key.key-iterator ≡ (key, slot) ∷ c.next.new.self = search rules in
    let f : Some (key, c.in-Some-next_in_slot.path) ≡ repo.first_behind repo.place_cmp c.args.after.now mine = search rules in
    first_part (repo.is_behind repo.place_cmp c.args.after.now) _ (flat_map (repo.chosen_of test) (keeping.processes_of c.loop-key.key-iterator)) mine (flat_map (repo.chosen_of test) rest) (key, c.in-Some-next_in_slot.path)
    c.loop-key.invariant.2 (ap (λ s. flat_map (repo.chosen_of test) (keeping.processes_of s)) more ∙ chosen_front test key slot rest) f

pub loop-key-preserved : goal.loop-key-preserved
loop-key-preserved c =
    let key = c.in-Some.key.now in
    let slot = c.in-Some.slot.now in
    let test = keeping.wants c.args.wanted in
    let rest = keeping.processes_of c.next.new.self in
    let mine = repo.chosen_at test key (keeping.activities_in slot) in
    let more : c.loop-key.key-iterator ≡ (key, slot) ∷ c.next.new.self = search rules in
    let f : None ≡ repo.first_behind repo.place_cmp c.args.after.now mine = search rules in (
      tt,
      tt,
      next_part (repo.is_behind repo.place_cmp c.args.after.now) _ (flat_map (repo.chosen_of test) (keeping.processes_of c.loop-key.key-iterator)) mine (flat_map (repo.chosen_of test) rest)
          c.loop-key.invariant.2 (ap (λ s. flat_map (repo.chosen_of test) (keeping.processes_of s)) more ∙ chosen_front test key slot rest) f,
    )
