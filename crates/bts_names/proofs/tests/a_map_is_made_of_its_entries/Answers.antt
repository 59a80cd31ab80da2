use Rattle.std.specs.Ordering.{is_eq}
use Rattle.std.specs.declared.cmp.Ordering.{Ordering}
use Rattle.std.specs.declared.cmp.Ordering.TheVariants.{Less, Equal, Greater}
use Rattle.std.proofs.Common.{rules, refl, true, ◌≡◌, [], ◌∷◌, nat_cmp, sym, subst}
use Rattle.std.proofs.lemmas.Map.Lookups.{exact_unsigned}
use Rattle.std.specs.List.Sorted.{IsStrictlySortedBy}
use Rattle.std.specs.Map.{keys_of}
use Rattle.bts_names.proofs.tests.a_map_is_made_of_its_entries.Goals as goal

equal_from : (o : Ordering) → is_eq o ≡ true → o ≡ Equal
equal_from Less h = cc
equal_from Equal h = refl
equal_from Greater h = cc

pub map_of-requires-clause-exact : goal.map_of-requires-clause-exact
map_of-requires-clause-exact g c a b h = exact_unsigned a b (equal_from (nat_cmp a b) h)

pub map_of-requires-clause-rising : goal.map_of-requires-clause-rising
unfolding IsStrictlySortedBy
map_of-requires-clause-rising g c =
    let items : c.push-2.new.self.items ≡ (1, 97) ∷ (2, 98) ∷ [] = search rules in
    let sorted : IsStrictlySortedBy nat_cmp (1 ∷ 2 ∷ []) = search rules in
    subst (λ es. IsStrictlySortedBy nat_cmp (keys_of es)) (sym items) sorted
