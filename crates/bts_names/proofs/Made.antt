-- A map that is made of entries by rising key has exactly these.
use Rattle.std.proofs.Common.{◌≡◌, List, [], ◌∷◌, Result, Ok, Err, Option, None, Some, Bool, true, false, refl, ap, sym, ◌∙◌}
use Rattle.std.specs.Cmp.{IsTotalOrder}
use Rattle.std.proofs.lemmas.Cmp.{eq_by_cmp_equiv, tied_itself}
use Rattle.std.proofs.lemmas.Map.{lookup-none}
use Rattle.std.proofs.lemmas.Option.{none-some}
use Rattle.std.specs.Result.{OnOk, is_err}
use Rattle.std.specs.Option.{unwrap_or}
use Rattle.std.specs.Map.{keys_of, lookup}
use Rattle.std.specs.BTreeMap.{BTreeMap, IsFromIterResult, is_at}
use Rattle.std.specs.List.Sorted.{IsStrictlySortedBy}
use Rattle.std.specs.Ordering.{is_eq, eq_by_cmp, ordering_reverse}
use Rattle.std.specs.declared.cmp.Ordering.{Ordering}
use Rattle.std.specs.declared.cmp.Ordering.TheVariants.{Less, Equal, Greater}
use Rattle.std.proofs.lemmas.Map.Entries.{lookup_head, lookup_tail, none_past_head, none_below_head}
use Rattle.std.proofs.lemmas.Map.Keys.{IsDistinct-from_sorted, sorted_tail}
use Rattle.std.proofs.lemmas.Map.Made.{update_all_none}

pub ok_from : {T E P : Type 0} (r : Result T E) → OnOk r P → is_err r ≡ false → P
ok_from (Ok x) p h = p
ok_from (Err x) p h = cc

module _ {K V : Type 0} {cmp : K → K → Ordering} (total : IsTotalOrder cmp) (exact : (a b : K) → is_eq (cmp a b) ≡ true → a ≡ b) where
  abbrev find : List (K × V) → K → Option V
  find es q = lookup (is_at (cmp q)) es

  abbrev IsRising : List (K × V) → Type 0
  IsRising es = IsStrictlySortedBy cmp (keys_of es)

  at_head : (x : K × V) (xs : List (K × V)) → find (x ∷ xs) x.0 ≡ Some x.1
  at_head x xs = lookup_head (is_at (cmp x.0)) x xs (ap is_eq (tied_itself total x.0))

  past_head : (x : K × V) (xs : List (K × V)) → IsRising (x ∷ xs) → find xs x.0 ≡ None
  past_head x xs s = lookup-none (is_at (cmp x.0)) xs (none_past_head (eq_by_cmp_equiv total) x.0 x xs (IsDistinct-from_sorted cmp _ s) (ap is_eq (tied_itself total x.0)))

  below_head : (q : K) (x : K × V) (xs : List (K × V)) → IsRising (x ∷ xs) → cmp q x.0 ≡ Less → find (x ∷ xs) q ≡ None
  below_head q x xs s l = lookup-none (is_at (cmp q)) (x ∷ xs) (none_below_head total q x xs s l)

  module _ (x y : K × V) (xs ys : List (K × V)) (s : IsRising (x ∷ xs)) (t : IsRising (y ∷ ys)) (same : (q : K) → find (x ∷ xs) q ≡ find (y ∷ ys) q) where
    -- the lesser of the two first keys would be in one list alone
    first_by : (o : Ordering) → cmp x.0 y.0 ≡ o → x.0 ≡ y.0
    first_by Less e = absurd (none-some x.1 (sym (same x.0 ∙ below_head x.0 y ys t e) ∙ at_head x xs))
    first_by Equal e = exact x.0 y.0 (ap is_eq e)
    first_by Greater e = absurd (none-some y.1 (sym (sym (same y.0) ∙ below_head y.0 x xs s (total.antisymm y.0 x.0 ∙ ap ordering_reverse e)) ∙ at_head y ys))

    first : x ≡ y
    first =
        let k = first_by (cmp x.0 y.0) refl in
        let v = ap (λ u. unwrap_or u x.1) (sym (at_head x xs) ∙ same x.0 ∙ ap (find (y ∷ ys)) k ∙ at_head y ys) in
        λ i. (k i, v i)

    rest : (q : K) → find xs q ≡ find ys q
    rest q = by (is_at (cmp q) x.0) refl
      where
        by : (b : Bool) → is_at (cmp q) x.0 ≡ b → find xs q ≡ find ys q
        by true e =
            let k = exact q x.0 e in
            ap (find xs) k ∙ past_head x xs s ∙ sym (past_head y ys t) ∙ ap (find ys) (sym (k ∙ ap (λ p. p.0) first))
        by false e = sym (lookup_tail (is_at (cmp q)) x xs e) ∙ same q ∙ lookup_tail (is_at (cmp q)) y ys (ap (λ p. is_at (cmp q) p.0) (sym first) ∙ e)

  same_entries : (es fs : List (K × V)) → IsRising es → IsRising fs → ((q : K) → find es q ≡ find fs q) → es ≡ fs
  same_entries [] [] s t h = refl
  same_entries [] (y ∷ ys) s t h = absurd (none-some y.1 (h y.0 ∙ at_head y ys))
  same_entries (x ∷ xs) [] s t h = absurd (none-some x.1 (sym (h x.0) ∙ at_head x xs))
  same_entries (x ∷ xs) (y ∷ ys) s t h =
      let e = first x y xs ys s t h in
      let r = same_entries xs ys (sorted_tail cmp x.0 (keys_of xs) s) (sorted_tail cmp y.0 (keys_of ys) t) (rest x y xs ys s t h) in
      λ i. e i ∷ r i

  pub entries_of_all : (es : List (K × V)) (map : BTreeMap K V) → IsRising es → IsFromIterResult cmp es map → map.entries ≡ es
  entries_of_all es map s made =
      same_entries map.entries es made.1 s (λ q. made.0 q ∙ update_all_none (eq_by_cmp_equiv total) (eq_by_cmp cmp) (λ x y. refl) es q (IsDistinct-from_sorted cmp _ s))
