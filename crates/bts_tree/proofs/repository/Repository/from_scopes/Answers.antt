use Rattle.std.proofs.Common.{rules, ◌≡◌, ◌∙◌, sym, ap, subst}
use Rattle.std.specs.List.Sorted.{IsStrictlySortedBy}
use Rattle.std.specs.Map.{keys_of}
use Rattle.std.specs.Prelude.{map}
use Rattle.bts_names.specs.Keys.{key_cmp}
use Rattle.bts_names.proofs.Sameness.{keys_exact}
use Rattle.bts_tree.proofs.Awake.{any_awake, awake_at, made_index}
use Rattle.bts_tree.proofs.Seen.{seen_made}
use Rattle.bts_tree.proofs.Slots.{keys_of_held}
use Rattle.bts_tree.proofs.repository.Repository.from_scopes.Goals as goal
use Rattle.bts_tree.specs.Keeping as keeping

pub map_of-requires-clause-exact : goal.map_of-requires-clause-exact
map_of-requires-clause-exact c = keys_exact

pub map_of-requires-clause-rising : goal.map_of-requires-clause-rising
map_of-requires-clause-rising c =
    let slots : c.in_ok-slots.slots.items ≡ keeping.slots_of (map (λ h. h.process) c.args.scopes.items) = search rules in
    subst (IsStrictlySortedBy key_cmp) (sym (ap keys_of slots ∙ keys_of_held c.args.scopes.items)) c.requires

pub invariant_of-result : goal.invariant_of-result
invariant_of-result c = made_index c.args.format c.in_ok-awake.awake.keys c.in_ok-map.map.entries c.awake_keys.ensures.rising c.in_ok-awake.ensures.keys

pub returns-clause-processes : goal.returns-clause-processes
returns-clause-processes c =
    let slots : c.in_ok-slots.slots.items ≡ keeping.slots_of (map (λ h. h.process) c.args.scopes.items) = search rules in
    let made : c.in_ok-map.map.entries ≡ c.in_ok-slots.slots.items = search rules in
    seen_made c.args.format (map (λ h. h.process) c.args.scopes.items) c.in_ok-map.map.entries (made ∙ slots)

pub returns-clause-keys : goal.returns-clause-keys
returns-clause-keys c = λ key.
    let es = c.in_ok-map.map.entries in
    let s = c.awake_keys.ensures.rising in
    c.in_ok-awake.ensures.keys key ∙ any_awake key es s ∙ sym (awake_at c.args.format key es s)
