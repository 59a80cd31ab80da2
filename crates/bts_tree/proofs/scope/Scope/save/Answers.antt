use Rattle.std.proofs.Common.{◌≡◌, sym, ◌∙◌, subst}
use Rattle.std.specs.Prelude.{Some, None, OnOk}
use Rattle.bts_tree.specs.Olds.{last_of, paths_in, shown}
use Rattle.bts_tree.specs.Scopes as scope
use Rattle.bts_tree.proofs.Saved.{last_place_within, saving_undo, saving_ok, saving_all, saving_marked, saving_leaves_all}
use Rattle.bts_tree.proofs.scope.Scope.save.Goals as goal

pub keep_from-requires : goal.keep_from-requires
keep_from-requires c =
    let last : last_of None c.self.inside.marks.items ≡ Some c.in-Some.place = sym c.last_place.ensures ∙ c.in-Some.is in
    last_place_within c.self.inside.marks.items _ c.in-Some.place c.self.invariant.order last

pub invariant_of-self : goal.invariant_of-self
invariant_of-self c =
    let last : last_of None c.self.inside.marks.items ≡ Some c.in-Some.place = sym c.last_place.ensures ∙ c.in-Some.is in
    let ps = paths_in c.args.path.now c.args.below c.self.inside.own c.self.inside.slots.entries in
    saving_undo c.self.inside.key c.self.inside.own _ c.self.inside.olds _ c.self.inside.marks.items c.in-Some.place _ ps c.self.view_is c.self.invariant c.keep_from.ensures.rising last c.keep_from.result c.keep_from.ensures.ok c.keep_from.ensures.err

pub returns-clause-ok : goal.returns-clause-ok
returns-clause-ok c =
    let last : last_of None c.self.inside.marks.items ≡ Some c.in-Some.place = sym c.last_place.ensures ∙ c.in-Some.is in
    let ps = paths_in c.args.path.now c.args.below c.self.inside.own c.self.inside.slots.entries in
    let r = saving_ok c.self.inside.key c.self.inside.own _ c.self.inside.olds _ c.self.inside.marks.items c.in-Some.place _ ps c.self.view_is c.self.invariant c.keep_from.ensures.rising last c.keep_from.result c.keep_from.ensures.ok in
    subst (λ (h : scope.HeldProcess). OnOk c.keep_from.result (shown c.self.inside.key c.self.inside.own c.self.inside.slots.entries c.keep_from.new.olds c.self.inside.marks.items ≡ scope.saving (scope.paths_from c.args.path.now c.args.below h) c.args.self.now)) c.self.view_is r

pub returns-clause-saved : goal.returns-clause-saved
returns-clause-saved c =
    let last : last_of None c.self.inside.marks.items ≡ Some c.in-Some.place = sym c.last_place.ensures ∙ c.in-Some.is in
    let ps = paths_in c.args.path.now c.args.below c.self.inside.own c.self.inside.slots.entries in
    saving_all c.self.inside.key c.self.inside.own _ c.self.inside.olds _ c.self.inside.marks.items c.in-Some.place _ ps c.self.view_is c.self.invariant c.keep_from.ensures.rising last c.keep_from.result c.keep_from.ensures.ok

pub returns-clause-marked : goal.returns-clause-marked
returns-clause-marked c =
    let last : last_of None c.self.inside.marks.items ≡ Some c.in-Some.place = sym c.last_place.ensures ∙ c.in-Some.is in
    let ps = paths_in c.args.path.now c.args.below c.self.inside.own c.self.inside.slots.entries in
    saving_marked c.self.inside.key c.self.inside.own _ c.self.inside.olds c.keep_from.new.olds c.self.inside.marks.items c.in-Some.place _ ps c.self.view_is c.self.invariant c.keep_from.ensures.rising last c.keep_from.result

pub returns-clause-leaves : goal.returns-clause-leaves
returns-clause-leaves c =
    let last : last_of None c.self.inside.marks.items ≡ Some c.in-Some.place = sym c.last_place.ensures ∙ c.in-Some.is in
    let ps = paths_in c.args.path.now c.args.below c.self.inside.own c.self.inside.slots.entries in
    saving_leaves_all c.self.inside.key c.self.inside.own _ c.self.inside.olds _ c.self.inside.marks.items c.in-Some.place _ ps c.self.view_is c.self.invariant c.keep_from.ensures.rising last c.keep_from.result c.keep_from.ensures.ok c.keep_from.ensures.err
