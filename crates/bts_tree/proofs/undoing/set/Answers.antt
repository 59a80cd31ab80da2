use Rattle.std.proofs.Common.{◌≡◌, ap, sym, ◌∙◌}
use Rattle.std.specs.Option.{option_copied_mut}
use Rattle.std.specs.Prelude.{None}
use Rattle.bts_names.specs.Named.{lookup}
use Rattle.bts_tree.proofs.Slotted.{set_nowhere}
use Rattle.bts_tree.proofs.undoing.set.Goals as goal

pub returns-in_default-clause-entries : goal.returns-in_default-clause-entries
returns-in_default-clause-entries c =
    let h : lookup c.args.path.now c.args.map.now.entries ≡ None = sym c.get_mut.ensures.value ∙ ap option_copied_mut c.in_default.is in
    ap (λ m. m.entries) c.get_mut.follows.holds-at-none ∙ sym (set_nowhere c.args.path.now c.args.activity c.args.map.now.entries h)
