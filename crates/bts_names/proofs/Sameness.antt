-- When names and paths are the same.
use Rattle.std.proofs.Common.{◌≡◌, ◌↔◌, ◌∙◌, ℕ, Bool, List, true, false, ◌&&◌, sym, ap, refl}
use Rattle.std.specs.Ordering.{is_eq, nat_cmp, ordering_then}
use Rattle.std.specs.declared.cmp.Ordering.{Ordering}
use Rattle.std.specs.declared.cmp.Ordering.TheVariants.{Less, Equal, Greater}
use Rattle.std.specs.Cmp.Lexicographic.{slice_cmp, bytes_decides, texts_ties}
use Rattle.bts_names.specs.Keys.{key_cmp}
use Rattle.bts_names.specs.Names.{same, same_exact}
use Rattle.bts_names.specs.declared.key.Key.{Key}

pub same_where_equal : (a b : List ℕ) → (same a b ≡ true) ↔ (a ≡ b)
same_where_equal a b = (same_exact a b, λ e. sym (texts_ties a b) ∙ (bytes_decides a b).1 e)

both : (s t : Bool) → s ≡ true → t ≡ true → (s && t) ≡ true
both true true h g = refl
both true false h g = g
both false t h g = h

first : (s t : Bool) → (s && t) ≡ true → s ≡ true
first true t h = refl
first false t h = h

second : (s t : Bool) → (s && t) ≡ true → t ≡ true
second true t h = h
second false t h = cc

pub keys_same_where_equal : (a b : Key) → ((same a.ptype b.ptype && same a.pname b.pname) ≡ true) ↔ (a ≡ b)
keys_same_where_equal a b = (
  λ h.
      let ptype = same_exact a.ptype b.ptype (first _ _ h) in
      let pname = same_exact a.pname b.pname (second _ _ h) in
      λ i. record { ptype = ptype i; pname = pname i },
  λ e.
      both _ _ ((same_where_equal a.ptype b.ptype).1 (ap (λ (k : Key). k.ptype) e))
      ((same_where_equal a.pname b.pname).1 (ap (λ (k : Key). k.pname) e)),
)

both_equal : (o p : Ordering) → is_eq (ordering_then o p) ≡ true → (is_eq o ≡ true) × (is_eq p ≡ true)
both_equal Less p h = cc
both_equal Equal p h = (refl, h)
both_equal Greater p h = cc

pub keys_exact : (a b : Key) → is_eq (key_cmp a b) ≡ true → a ≡ b
keys_exact a b h =
    let parts = both_equal (slice_cmp nat_cmp a.ptype b.ptype) (slice_cmp nat_cmp a.pname b.pname) h in
    let ptype = same_exact a.ptype b.ptype parts.0 in
    let pname = same_exact a.pname b.pname parts.1 in
    λ i. record { ptype = ptype i; pname = pname i }
