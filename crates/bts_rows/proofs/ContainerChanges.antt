-- What every pool of containers keeps, through a put and a delete.
use Rattle.std.proofs.Common.{◌≡◌, ℕ, suc, ◌+◌, ◌≤◌, Bool, true, false, not, ◌&&◌, ◌||◌, cond, if◌then◌else◌, nat_le, List, [], ◌∷◌, ◌++◌, length, Some, is_some, refl, sym, ap, subst, ◌∙◌, arith}
use Rattle.std.specs.List.{list_any, AllByRecursion, IsDistinct}
use Rattle.std.specs.Map.{keys_of}
use Rattle.std.proofs.lemmas.Map.Keys.{IsDistinct-cons, IsDistinct-head, IsDistinct-push, IsDistinct-tail}
use Rattle.bts_names.specs.Names.{Name, Bytes, same}
use Rattle.bts_names.specs.Named.{is_there, lookup, without}
use Rattle.bts_event.proofs.Same.{same_laws}
use Rattle.bts_container.specs.Containers.{Containers, IsPool, is_long, has_no_room, put_container, delete_container}
use Rattle.bts_container.specs.declared.format.Format.{Format}
use Rattle.bts_container.specs.declared.format.Format.TheVariants.{One}

abbrev Items : Type 0
Items = List (Name × Bytes)

-- the same in every format
abbrev put_in : Name → Bytes → Items → Items
put_in n b es = (put_container n b (record { format = One; items = es })).items

-- ---- the names

there_any : (n : Name) (es : Items) → is_there n es ≡ list_any (same n) (keys_of es)
there_any n [] = refl
there_any n (e ∷ es) = by (same n e.0) (there_any n es)
  where
    by : (t : Bool) → is_there n es ≡ list_any (same n) (keys_of es) → is_some (cond t (Some e.1) (lookup n es)) ≡ (t || list_any (same n) (keys_of es))
    by true h = refl
    by false h = h

put_keys : (n : Name) (b : Bytes) (es : Items) → keys_of (put_in n b es) ≡ cond (is_there n es) (keys_of es) (keys_of es ++ n ∷ [])
put_keys n b [] = refl
put_keys n b (e ∷ es) = by (same n e.0) (put_keys n b es)
  where
    more : (c : Bool) (k : Name) (ks ls : List Name) → k ∷ cond c ks ls ≡ cond c (k ∷ ks) (k ∷ ls)
    more true k ks ls = refl
    more false k ks ls = refl

    by : (t : Bool) → keys_of (put_in n b es) ≡ cond (is_there n es) (keys_of es) (keys_of es ++ n ∷ [])
        → keys_of (if t then (e.0, b) ∷ es else e ∷ put_in n b es) ≡ cond (is_some (cond t (Some e.1) (lookup n es))) (e.0 ∷ keys_of es) ((e.0 ∷ keys_of es) ++ n ∷ [])
    by true h = refl
    by false h = ap (λ ks. e.0 ∷ ks) h ∙ more (is_there n es) e.0 (keys_of es) (keys_of es ++ n ∷ [])

distinct_put : (n : Name) (es : Items) (t : Bool) → is_there n es ≡ t → IsDistinct same (keys_of es) → IsDistinct same (cond t (keys_of es) (keys_of es ++ n ∷ []))
distinct_put n es true e d = d
distinct_put n es false e d = IsDistinct-push same_laws (keys_of es) n d (sym (there_any n es) ∙ e)

all_delete : (P : Name → Type 0) (n : Name) (es : Items) → AllByRecursion P (keys_of es) → AllByRecursion P (keys_of (without n es))
all_delete P n [] a = a
all_delete P n (e ∷ es) a = by (same n e.0) (all_delete P n es a.1)
  where
    by : (t : Bool) → AllByRecursion P (keys_of (without n es)) → AllByRecursion P (keys_of (cond t es (e ∷ without n es)))
    by true rest = a.1
    by false rest = (a.0, rest)

distinct_delete : (n : Name) (es : Items) → IsDistinct same (keys_of es) → IsDistinct same (keys_of (without n es))
distinct_delete n [] d = d
distinct_delete n (e ∷ es) d = by (same n e.0) (distinct_delete n es (IsDistinct-tail same e.0 (keys_of es) d))
  where
    by : (t : Bool) → IsDistinct same (keys_of (without n es)) → IsDistinct same (keys_of (cond t es (e ∷ without n es)))
    by true rest = IsDistinct-tail same e.0 (keys_of es) d
    by false rest = IsDistinct-cons same e.0 (keys_of (without n es)) (all_delete (λ y. same e.0 y ≡ false) n es (IsDistinct-head same e.0 (keys_of es) d)) rest

-- ---- the bytes and the number

abbrev Short : Format → Items → Type 0
Short f es = AllByRecursion (λ c. is_long c.1 f ≡ false) es

short_put : (f : Format) (n : Name) (b : Bytes) (es : Items) → is_long b f ≡ false → Short f es → Short f (put_in n b es)
short_put f n b [] l a = (l, tt)
short_put f n b (e ∷ es) l a = by (same n e.0) (short_put f n b es l a.1)
  where
    by : (t : Bool) → Short f (put_in n b es) → Short f (if t then (e.0, b) ∷ es else e ∷ put_in n b es)
    by true rest = (l, a.1)
    by false rest = (a.0, rest)

short_delete : (f : Format) (n : Name) (es : Items) → Short f es → Short f (without n es)
short_delete f n [] a = a
short_delete f n (e ∷ es) a = by (same n e.0) (short_delete f n es a.1)
  where
    by : (t : Bool) → Short f (without n es) → Short f (cond t es (e ∷ without n es))
    by true rest = a.1
    by false rest = (a.0, rest)

one_more : (a b k : ℕ) → a ≡ b + k → suc a ≡ suc b + k
one_more a b k h = omega arith

length-put : (n : Name) (b : Bytes) (es : Items) → length (put_in n b es) ≡ length es + cond (is_there n es) 0 1
length-put n b [] = refl
length-put n b (e ∷ es) = by (same n e.0) (length-put n b es)
  where
    by : (t : Bool) → length (put_in n b es) ≡ length es + cond (is_there n es) 0 1
        → length (if t then (e.0, b) ∷ es else e ∷ put_in n b es) ≡ length (e ∷ es) + cond (is_some (cond t (Some e.1) (lookup n es))) 0 1
    by true rest = omega arith
    by false rest = one_more _ _ _ rest

length-delete : (n : Name) (es : Items) → length (without n es) ≤ length es
length-delete n [] = omega arith
length-delete n (e ∷ es) = by (same n e.0) (length-delete n es)
  where
    by : (t : Bool) → length (without n es) ≤ length es → length (cond t es (e ∷ without n es)) ≤ length (e ∷ es)
    by true rest = omega arith
    by false rest = omega arith

room : (len : ℕ) (there : Bool) → len ≤ 64 → (nat_le 64 len && not there) ≡ false → len + cond there 0 1 ≤ 64
room len true few h = omega arith
room len false few h = by (nat_le 64 len) refl
  where
    by : (t : Bool) → nat_le 64 len ≡ t → len + 1 ≤ 64
    by true e = cc
    by false e = grind arith

-- ---- the pool

pub pool_put : (n : Name) (b : Bytes) (x : Containers) → IsPool x → is_long b x.format ≡ false → has_no_room n x ≡ false → IsPool (put_container n b x)
pool_put n b x old l r =
    let es : Items = x.items in
    record {
      few = subst (λ k. k ≤ 64) (sym (length-put n b es)) (room (length es) (is_there n es) old.few r);
      short = short_put x.format n b es l old.short;
      distinct = subst (IsDistinct same) (sym (put_keys n b es)) (distinct_put n es (is_there n es) refl old.distinct);
    }

pub pool_delete : (n : Name) (x : Containers) → IsPool x → IsPool (delete_container n x)
pool_delete n x old =
    let few = old.few in
    let less = length-delete n x.items in
    record {
      few = omega arith;
      short = short_delete x.format n x.items old.short;
      distinct = distinct_delete n x.items old.distinct;
    }
