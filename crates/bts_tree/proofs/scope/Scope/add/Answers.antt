use Rattle.std.proofs.Common.{sym, ap, ◌∙◌, [], ◌∷◌}
use Rattle.bts_tree.specs.Paths.{parent_of}
use Rattle.bts_tree.specs.Processes.{added}
use Rattle.bts_tree.specs.Slots.{mapped, put_at, roomed}
use Rattle.bts_tree.proofs.Added.{add_place, add_step, put_undo, same_step}
use Rattle.bts_tree.proofs.Saved.{leaves_same, leaves_saving}
use Rattle.bts_tree.proofs.scope.Scope.add.Goals as goal

pub add_slot-requires : goal.add_slot-requires
add_slot-requires c = add_place c.self.inside.slots.entries c.self.inside.olds c.self.inside.marks.items c.last_place-place.result c.self.invariant c.last_place-place.ensures

pub returns-in-Err-add_slot-clause-err : goal.returns-in-Err-add_slot-clause-err
returns-in-Err-add_slot-clause-err c =
    same_step c.self.inside.key c.self.inside.own c.self.inside.slots.entries _ c.self.inside.olds _ c.self.inside.marks.items _ c.self.view_is c.in-Err-add_slot.ensures.same_olds c.in-Err-add_slot.ensures.same_map

pub invariant_of-self-2 : goal.invariant_of-self-2
invariant_of-self-2 c =
    put_undo c.self.inside.key c.self.inside.own c.self.inside.slots.entries c.self.inside.olds c.self.inside.marks.items c.args.path.now c.add_slot.ensures.rising c.self.invariant c.args.activity c.last_place-place.result _ _
    c.in_default.ensures.kept (c.in_default.ensures.put ∙ ap (λ x. mapped (put_at c.args.path.now x) (roomed c.args.path.now c.self.inside.slots.entries)) c.in-Ok.ensures.ok)

pub returns-clause-ok : goal.returns-clause-ok
returns-clause-ok c =
    add_step c.self.inside.key c.self.inside.own c.self.inside.slots.entries c.self.inside.olds c.self.inside.marks.items _ c.self.view_is c.self.invariant c.add_slot.ensures.rising c.last_place-place.result (sym c.last_place-place.ensures)
    c.args.path.now c.args.activity _ _ _ c.requires.parent c.in_default.ensures.room c.in_default.ensures.kept (c.in_default.ensures.put ∙ ap (λ x. mapped (put_at c.args.path.now x) (roomed c.args.path.now c.self.inside.slots.entries)) c.in-Ok.ensures.ok)

pub returns-in-Err-add_slot-clause-leaves : goal.returns-in-Err-add_slot-clause-leaves
returns-in-Err-add_slot-clause-leaves c =
    leaves_same c.args.self.now _
    (same_step c.self.inside.key c.self.inside.own c.self.inside.slots.entries _ c.self.inside.olds _ c.self.inside.marks.items _ c.self.view_is c.in-Err-add_slot.ensures.same_olds c.in-Err-add_slot.ensures.same_map)

pub returns-clause-leaves : goal.returns-clause-leaves
returns-clause-leaves c =
    leaves_saving (c.args.path.now ∷ []) (added c.args.path.now c.args.activity c.args.self.now.process) c.args.self.now _
    (add_step c.self.inside.key c.self.inside.own c.self.inside.slots.entries c.self.inside.olds c.self.inside.marks.items c.args.self.now c.self.view_is c.self.invariant c.add_slot.ensures.rising c.last_place-place.result (sym c.last_place-place.ensures)
    c.args.path.now c.args.activity (parent_of c.args.path.now) c.add_slot.new.olds c.add_slot.new.map.entries c.requires.parent c.in_default.ensures.room c.in_default.ensures.kept (c.in_default.ensures.put ∙ ap (λ x. mapped (put_at c.args.path.now x) (roomed c.args.path.now c.self.inside.slots.entries)) c.in-Ok.ensures.ok))
