-- Keys that a list has, also behind changes of the list.
use Rattle.std.proofs.Common.{◌≡◌, Bool, true, false, ◌||◌, List, [], ◌∷◌, refl, sym, ap, ◌∙◌}
use Rattle.std.proofs.Math.Bool.{or-true}
use Rattle.std.specs.BTreeSet.{insert_key}
use Rattle.std.specs.List.{AllByRecursion}
use Rattle.std.specs.Ordering.{is_eq, match_ordering}
use Rattle.std.specs.declared.cmp.Ordering.{Ordering}
use Rattle.std.specs.declared.cmp.Ordering.TheVariants.{Less, Equal, Greater}
use Rattle.bts_names.specs.Keys.{key_cmp}
use Rattle.bts_names.specs.declared.key.Key.{Key}
use Rattle.bts_names.proofs.Sameness.{keys_exact}
use Rattle.bts_tree.proofs.Slots.{key_self}
use Rattle.bts_tree.specs.Indexes.{has_key}
use Rattle.bts_tree.specs.Repositories.{same_key}

pub or_second : (b c : Bool) → c ≡ true → (b || c) ≡ true
or_second b c h = ap (λ x. b || x) h ∙ or-true b

pub turned_same : (a b : Key) → same_key a b ≡ true → same_key b a ≡ true
turned_same a b e = ap (λ k. same_key k a) (sym (keys_exact a b e)) ∙ key_self a

pub turned_other : (a b : Key) → same_key a b ≡ false → same_key b a ≡ false
turned_other a b e = by (same_key b a) refl
  where
    by : (c : Bool) → same_key b a ≡ c → c ≡ false
    by true h = sym (turned_same b a h) ∙ e
    by false h = refl

-- a list in which a key comes first in order has all keys that it had
pub has_more : (key new : Key) (keys : List Key) → has_key key keys ≡ true → has_key key (insert_key key_cmp keys new) ≡ true
has_more key new [] h = cc
has_more key new (k ∷ keys) h = by (key_cmp new k) (same_key key k) refl h (has_more key new keys)
  where
    by : (o : Ordering) (b : Bool) → same_key key k ≡ b → (b || has_key key keys) ≡ true
        → (has_key key keys ≡ true → has_key key (insert_key key_cmp keys new) ≡ true)
        → has_key key (match_ordering o (new ∷ k ∷ keys) (k ∷ keys) (k ∷ insert_key key_cmp keys new)) ≡ true
    by Less b e g i = or_second (same_key key new) _ (ap (λ c. c || has_key key keys) e ∙ g)
    by Equal b e g i = ap (λ c. c || has_key key keys) e ∙ g
    by Greater true e g i = ap (λ c. c || has_key key (insert_key key_cmp keys new)) e
    by Greater false e g i = or_second (same_key key k) _ (i g)

-- it has that key
pub has_new : (key : Key) (keys : List Key) → has_key key (insert_key key_cmp keys key) ≡ true
has_new key [] = ap (λ b. b || false) (key_self key)
has_new key (k ∷ keys) = by (key_cmp key k) refl (has_new key keys)
  where
    by : (o : Ordering) → key_cmp key k ≡ o → has_key key (insert_key key_cmp keys key) ≡ true → has_key key (match_ordering o (key ∷ k ∷ keys) (k ∷ keys) (k ∷ insert_key key_cmp keys key)) ≡ true
    by Less h i = ap (λ b. b || has_key key (k ∷ keys)) (key_self key)
    by Equal h i = ap (λ o. is_eq o || has_key key keys) h
    by Greater h i = or_second (same_key key k) _ i

-- and no other one
pub has_only : (key new : Key) (keys : List Key) → has_key key (insert_key key_cmp keys new) ≡ true → (same_key new key || has_key key keys) ≡ true
has_only key new [] h = by (same_key key new) refl h
  where
    by : (b : Bool) → same_key key new ≡ b → (b || false) ≡ true → (same_key new key || false) ≡ true
    by true e g = ap (λ c. c || false) (turned_same key new e)
    by false e g = cc
has_only key new (k ∷ keys) h = by (key_cmp new k) h (has_only key new keys)
  where
    first : (c : Bool) → (same_key key new || c) ≡ true → (same_key new key || c) ≡ true
    first c g = of (same_key key new) refl g
      where
        of : (b : Bool) → same_key key new ≡ b → (b || c) ≡ true → (same_key new key || c) ≡ true
        of true e f = ap (λ x. x || c) (turned_same key new e)
        of false e f = or_second (same_key new key) c f

    behind : (b : Bool) (c d : Bool) → (c ≡ true → (same_key new key || d) ≡ true) → (b || c) ≡ true → (same_key new key || (b || d)) ≡ true
    behind true c d i g = or-true (same_key new key)
    behind false c d i g = i g

    by : (o : Ordering) → has_key key (match_ordering o (new ∷ k ∷ keys) (k ∷ keys) (k ∷ insert_key key_cmp keys new)) ≡ true
        → (has_key key (insert_key key_cmp keys new) ≡ true → (same_key new key || has_key key keys) ≡ true)
        → (same_key new key || has_key key (k ∷ keys)) ≡ true
    by Less g i = first (has_key key (k ∷ keys)) g
    by Equal g i = or_second (same_key new key) (has_key key (k ∷ keys)) g
    by Greater g i = behind (same_key key k) (has_key key (insert_key key_cmp keys new)) (has_key key keys) i g

-- a key that stands before all of a list isn't in it
pub has_none : (key : Key) (keys : List Key) → AllByRecursion (λ k. key_cmp key k ≡ Less) keys → has_key key keys ≡ false
has_none key [] h = refl
has_none key (k ∷ keys) h = ap (λ o. is_eq o || has_key key keys) h.0 ∙ has_none key keys h.1

-- whether a list has a key that isn't its first one
pub has_rest : (key k : Key) (keys : List Key) → same_key key k ≡ false → has_key key (k ∷ keys) ≡ has_key key keys
has_rest key k keys e = ap (λ b. b || has_key key keys) e
