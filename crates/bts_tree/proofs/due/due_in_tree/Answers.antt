use Rattle.std.proofs.Common.{rules, ◌≡◌, [], ◌∷◌, ap, ◌∙◌}
use Rattle.std.specs.Prelude.{Some, None}
use Rattle.bts_tree.proofs.Finds.{first_part, next_part}
use Rattle.bts_tree.proofs.Slotted.{due_slot}
use Rattle.bts_tree.proofs.due.due_in_tree.Goals as goal
use Rattle.bts_tree.specs.Repositories as repo
use Rattle.bts_tree.specs.Slots.{filled, in_slot}

pub returns-in-Some-due_at : goal.returns-in-Some-due_at
returns-in-Some-due_at c =
    let key = c.args.key.now in
    let path = c.in-Some.path.now in
    let rest = filled c.next.new.self in
    let mine = repo.due_among c.args.now key (in_slot path c.in-Some.slot.now []) in
    let more : c.loop-path.path-iterator ≡ (path, c.in-Some.slot.now) ∷ c.next.new.self = search rules in
    let f : Some (key, path, c.in-Some-due_at.name) ≡ repo.first_behind repo.timer_place_cmp c.args.after.now mine = search rules in
    first_part (repo.is_behind repo.timer_place_cmp c.args.after.now) _ (repo.due_among c.args.now key (filled c.loop-path.path-iterator)) mine (repo.due_among c.args.now key rest) (key, path, c.in-Some-due_at.name)
    c.loop-path.invariant.2 (ap (λ es. repo.due_among c.args.now key (filled es)) more ∙ due_slot c.args.now key path c.in-Some.slot.now rest) f

pub loop-path-preserved : goal.loop-path-preserved
loop-path-preserved c =
    let key = c.args.key.now in
    let path = c.in-Some.path.now in
    let rest = filled c.next.new.self in
    let mine = repo.due_among c.args.now key (in_slot path c.in-Some.slot.now []) in
    let more : c.loop-path.path-iterator ≡ (path, c.in-Some.slot.now) ∷ c.next.new.self = search rules in
    let f : None ≡ repo.first_behind repo.timer_place_cmp c.args.after.now mine = search rules in (
      tt,
      tt,
      next_part (repo.is_behind repo.timer_place_cmp c.args.after.now) _ (repo.due_among c.args.now key (filled c.loop-path.path-iterator)) mine (repo.due_among c.args.now key rest)
          c.loop-path.invariant.2 (ap (λ es. repo.due_among c.args.now key (filled es)) more ∙ due_slot c.args.now key path c.in-Some.slot.now rest) f,
    )
