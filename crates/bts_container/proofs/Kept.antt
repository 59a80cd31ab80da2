-- What every pool keeps, through a put, a delete and a change of format.
use Rattle.std.proofs.Common.{◌≡◌, ℕ, suc, ◌+◌, ◌≤◌, Bool, true, false, not, ◌&&◌, cond, if◌then◌else◌, nat_le, [], ◌∷◌, List, length, Some, None, is_some, Result, Ok, Err, OnOk, OnErr, refl, subst, sym, arith}
use Rattle.std.proofs.lemmas.Bool.Decides.{nat_tests}
use Rattle.std.specs.List.{AllByRecursion, IsDistinct}
use Rattle.std.specs.Map.{keys_of, lookup}
use Rattle.indexmap.specs.IndexMap.{insert_entry}
use Rattle.bts_names.specs.Names.{Name, Bytes, same}
use Rattle.bts_names.specs.Named.{is_there, without}
use Rattle.bts_container.specs.Containers.{Containers, IsPool, is_long, has_no_room, raised}
use Rattle.bts_container.specs.declared.format.Format.{Format}
use Rattle.bts_container.specs.declared.format.Format.TheVariants as format
use Rattle.bts_container.specs.Puts.{refusal_of_put}
use Rattle.bts_container.specs.declared.put_error.PutError.TheVariants as put_error

abbrev Items : Type 0
Items = List (Name × Bytes)

abbrev Short : Format → Items → Type 0
Short f es = AllByRecursion (λ c. is_long c.1 f ≡ false) es

abbrev of : Format → Items → Containers
of f es = record { format = f; items = es }

short-put : (f : Format) (n : Name) (b : Bytes) (es : Items) → is_long b f ≡ false → Short f es → Short f (insert_entry same es n b)
short-put f n b [] l a = (l, tt)
short-put f n b (e ∷ es) l a = by (same n e.0) (short-put f n b es l a.1)
  where
    by : (t : Bool) → Short f (insert_entry same es n b) → Short f (if t then (e.0, b) ∷ es else e ∷ insert_entry same es n b)
    by true rest = (l, a.1)
    by false rest = (a.0, rest)

short-delete : (f : Format) (n : Name) (es : Items) → Short f es → Short f (without n es)
short-delete f n [] a = a
short-delete f n (e ∷ es) a = by (same n e.0) (short-delete f n es a.1)
  where
    by : (t : Bool) → Short f (without n es) → Short f (cond t es (e ∷ without n es))
    by true rest = a.1
    by false rest = (a.0, rest)

one_more : (a b k : ℕ) → a ≡ b + k → suc a ≡ suc b + k
one_more a b k h = omega arith

length-put : (n : Name) (b : Bytes) (es : Items) → length (insert_entry same es n b) ≡ length es + (if is_there n es then 0 else 1)
length-put n b [] = refl
length-put n b (e ∷ es) = by (same n e.0) (length-put n b es)
  where
    by : (t : Bool) → length (insert_entry same es n b) ≡ length es + (if is_there n es then 0 else 1) → length (if t then (e.0, b) ∷ es else e ∷ insert_entry same es n b) ≡ length (e ∷ es) + (if is_some (cond t (Some e.1) (lookup (same n) es)) then 0 else 1)
    by true rest = omega arith
    by false rest = one_more _ _ _ rest

length-delete : (n : Name) (es : Items) → length (without n es) ≤ length es
length-delete n [] = omega arith
length-delete n (e ∷ es) = by (same n e.0) (length-delete n es)
  where
    by : (t : Bool) → length (without n es) ≤ length es → length (cond t es (e ∷ without n es)) ≤ length (e ∷ es)
    by true rest = omega arith
    by false rest = omega arith

room : (len : ℕ) (there : Bool) → len ≤ 64 → (nat_le 64 len && not there) ≡ false → len + (if there then 0 else 1) ≤ 64
room len true few h = omega arith
room len false few h = by (nat_le 64 len) refl
  where
    by : (t : Bool) → nat_le 64 len ≡ t → len + 1 ≤ 64
    by true e = cc
    by false e = grind arith

passed : (l r : Bool) → (if l then Some put_error.Long else if r then Some put_error.Limit else None) ≡ None → (l ≡ false) × (r ≡ false)
passed true r h = cc
passed false true h = cc
passed false false h = (refl, refl)

module _ (f : Format) (n : Name) (es new : Items) (old : IsPool (of f es)) where
  pub IsPool-put : (b : Bytes) → refusal_of_put n b (of f es) ≡ None → IsDistinct same (keys_of new) → new ≡ insert_entry same es n b → IsPool (of f new)
  IsPool-put b h d e =
      let why = passed (is_long b f) (has_no_room n (of f es)) h in
      record {
        few = subst (λ xs. length xs ≤ 64) (sym e) (subst (λ k. k ≤ 64) (sym (length-put n b es)) (room (length es) (is_there n es) old.few why.1));
        short = subst (Short f) (sym e) (short-put f n b es why.0 old.short);
        distinct = d;
      }

  -- a put that finds no memory leaves the pool
  pub IsPool-after : {T E : Type 0} (b : Bytes) (r : Result T E) → refusal_of_put n b (of f es) ≡ None → IsDistinct same (keys_of new)
      → OnOk r (new ≡ insert_entry same es n b) → OnErr r (new ≡ es) → IsPool (of f new)
  IsPool-after b (Ok x) h d ok err = IsPool-put b h d ok
  IsPool-after b (Err x) h d ok err = subst (λ xs. IsPool (of f xs)) (sym err) old

  pub IsPool-delete : IsDistinct same (keys_of new) → new ≡ without n es → IsPool (of f new)
  IsPool-delete d e =
      let few = old.few in
      let less = length-delete n es in
      let at : length (without n es) ≤ 64 = omega arith in
      record {
        few = subst (λ xs. length xs ≤ 64) (sym e) at;
        short = subst (Short f) (sym e) (short-delete f n es old.short);
        distinct = d;
      }

-- what is short in one format is short in the second
below_the_second : (f : Format) (b : Bytes) → is_long b f ≡ false → is_long b format.Two ≡ false
below_the_second format.One b h = grind (arith, nat_tests)
below_the_second format.Two b h = h

short-raised : (f : Format) (es : Items) → Short f es → Short format.Two es
short-raised f [] a = a
short-raised f (e ∷ es) a = (below_the_second f e.1 a.0, short-raised f es a.1)

pub IsPool-raised : (x : Containers) → IsPool x → IsPool (raised x)
IsPool-raised x p = record { few = p.few; short = short-raised x.format x.items p.short; distinct = p.distinct }
