use Rattle.std.proofs.Common.{rules, ◌≡◌, ◌∷◌, ◌∙◌, ap}
use Rattle.std.specs.List.{flat_map}
use Rattle.std.specs.Prelude.{Some, None}
use Rattle.bts_tree.proofs.Finds.{first_part, next_part}
use Rattle.bts_tree.proofs.Slots.{due_front}
use Rattle.bts_tree.proofs.due.next_due.Goals as goal
use Rattle.bts_tree.specs.Keeping as keeping
use Rattle.bts_tree.specs.Repositories as repo

pub returns-in-Some-due_in_slot : goal.returns-in-Some-due_in_slot
returns-in-Some-due_in_slot c =
    let key = c.in-Some.key.now in
    let slot = c.in-Some.slot.now in
    let rest = keeping.processes_of c.next.new.self in
    let mine = repo.due_among c.args.now key (keeping.activities_in slot) in
    let more : c.loop-key.key-iterator ≡ (key, slot) ∷ c.next.new.self = search rules in
    let f : Some c.in-Some-due_in_slot.place ≡ repo.first_behind repo.timer_place_cmp c.args.after.now mine = search rules in
    first_part (repo.is_behind repo.timer_place_cmp c.args.after.now) _ (flat_map (repo.due_of c.args.now) (keeping.processes_of c.loop-key.key-iterator)) mine (flat_map (repo.due_of c.args.now) rest) c.in-Some-due_in_slot.place
    c.loop-key.invariant.2 (ap (λ s. flat_map (repo.due_of c.args.now) (keeping.processes_of s)) more ∙ due_front c.args.now key slot rest) f

pub loop-key-preserved : goal.loop-key-preserved
loop-key-preserved c =
    let key = c.in-Some.key.now in
    let slot = c.in-Some.slot.now in
    let rest = keeping.processes_of c.next.new.self in
    let mine = repo.due_among c.args.now key (keeping.activities_in slot) in
    let more : c.loop-key.key-iterator ≡ (key, slot) ∷ c.next.new.self = search rules in
    let f : None ≡ repo.first_behind repo.timer_place_cmp c.args.after.now mine = search rules in (
      tt,
      tt,
      next_part (repo.is_behind repo.timer_place_cmp c.args.after.now) _ (flat_map (repo.due_of c.args.now) (keeping.processes_of c.loop-key.key-iterator)) mine (flat_map (repo.due_of c.args.now) rest)
          c.loop-key.invariant.2 (ap (λ s. flat_map (repo.due_of c.args.now) (keeping.processes_of s)) more ∙ due_front c.args.now key slot rest) f,
    )
