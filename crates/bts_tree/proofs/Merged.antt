-- What two lists of keys give, where each has the keys that give something.
use Rattle.std.proofs.Common.{◌≡◌, Bool, true, false, not, ◌||◌, List, [], ◌∷◌, ◌++◌, refl, sym, ap, ◌∙◌}
use Rattle.std.specs.List.{AllByRecursion, flat_map}
use Rattle.std.specs.List.Sorted.{IsStrictlySortedBy}
use Rattle.std.specs.Ordering.{is_eq, ordering_reverse}
use Rattle.std.specs.declared.cmp.Ordering.{Ordering}
use Rattle.std.specs.declared.cmp.Ordering.TheVariants.{Less, Equal, Greater}
use Rattle.std.proofs.lemmas.Map.Keys.{sorted_head, sorted_tail}
use Rattle.bts_names.specs.Keys.{key_cmp}
use Rattle.bts_names.specs.declared.key.Key.{Key}
use Rattle.bts_names.proofs.Sameness.{keys_exact}
use Rattle.bts_tree.proofs.Keys.{has_none, has_rest}
use Rattle.bts_tree.proofs.Slots.{key_self, key_total}
use Rattle.bts_tree.specs.Indexes.{has_key}
use Rattle.bts_tree.specs.Repositories.{same_key}
use Rattle.bts_tree.specs.Scopes.{is_empty}

abbrev Rising : List Key → Type 0
Rising = IsStrictlySortedBy key_cmp

before_all : (a s : Key) (keys : List Key) → key_cmp a s ≡ Less → AllByRecursion (λ k. key_cmp s k ≡ Less) keys → AllByRecursion (λ k. key_cmp a k ≡ Less) keys
before_all a s [] l h = tt
before_all a s (k ∷ keys) l h = (key_total.trans a s k l h.0, before_all a s keys l h.1)

module _ {X : Type 0} (f : Key → List X) where
  abbrev gives : Key → Bool
  gives k = not (is_empty (f k))

  -- each list has the keys of the other that give something
  abbrev pub AlikeWhereGiven : List Key → List Key → Type 0
  AlikeWhereGiven ks ls = (k : Key) → gives k ≡ true → has_key k ks ≡ has_key k ls

  none_given : (k : Key) → gives k ≡ false → f k ≡ []
  none_given k e = by (f k) e
    where
      by : (xs : List X) → not (is_empty xs) ≡ false → xs ≡ []
      by [] g = refl
      by (x ∷ xs) g = cc

  -- a key that gives something isn't one that gives nothing
  other_than : (k a : Key) → gives k ≡ true → gives a ≡ false → same_key k a ≡ false
  other_than k a g e = by (same_key k a) refl
    where
      by : (b : Bool) → same_key k a ≡ b → b ≡ false
      by true h = let same = ap gives (keys_exact k a h) in let no : true ≡ false = sym g ∙ same ∙ e in cc
      by false h = refl

  -- the first key of one list, which the other lacks, gives nothing
  lacking : (a : Key) (ks ls : List Key) → AlikeWhereGiven (a ∷ ks) ls → has_key a ls ≡ false → gives a ≡ false
  lacking a ks ls h n = by (gives a) refl
    where
      by : (b : Bool) → gives a ≡ b → b ≡ false
      by true g = let both : has_key a (a ∷ ks) ≡ false = h a g ∙ n in let here : has_key a (a ∷ ks) ≡ true = ap (λ b. b || has_key a ks) (key_self a) in let no : true ≡ false = sym here ∙ both in cc
      by false g = refl

  skipped : (a : Key) (ks ls : List Key) → AlikeWhereGiven (a ∷ ks) ls → gives a ≡ false → AlikeWhereGiven ks ls
  skipped a ks ls h n = λ k g. sym (has_rest k a ks (other_than k a g n)) ∙ h k g

  -- without the first key of both
  both_tails : (a s : Key) (ks ls : List Key) → a ≡ s → Rising (a ∷ ks) → Rising (s ∷ ls) → AlikeWhereGiven (a ∷ ks) (s ∷ ls) → AlikeWhereGiven ks ls
  both_tails a s ks ls e ra rs h = λ k g. by k g (same_key k a) refl
    where
      by : (k : Key) → gives k ≡ true → (b : Bool) → same_key k a ≡ b → has_key k ks ≡ has_key k ls
      by k g true q =
          let k_is = keys_exact k a q in
          ap (λ z. has_key z ks) k_is ∙ has_none a ks (sorted_head key_cmp a ks ra) ∙ sym (has_none s ls (sorted_head key_cmp s ls rs)) ∙ ap (λ z. has_key z ls) (sym e ∙ sym k_is)
      by k g false q = sym (has_rest k a ks q) ∙ h k g ∙ has_rest k s ls (ap (same_key k) (sym e) ∙ q)

  turned : (ks ls : List Key) → AlikeWhereGiven ks ls → AlikeWhereGiven ls ks
  turned ks ls h = λ k g. sym (h k g)

  nothing_more : (ls : List Key) → AlikeWhereGiven [] ls → [] ≡ flat_map f ls
  nothing_more [] h = refl
  nothing_more (s ∷ ls) h =
      let none = lacking s ls [] (turned [] (s ∷ ls) h) refl in
      nothing_more ls (turned ls [] (skipped s ls [] (turned [] (s ∷ ls) h) none)) ∙ ap (λ xs. xs ++ flat_map f ls) (sym (none_given s none))

  abbrev Merges : List Key → List Key → Type 0
  Merges ks ls = Rising ks → Rising ls → AlikeWhereGiven ks ls → flat_map f ks ≡ flat_map f ls

  merged_with : (a : Key) (ks : List Key) → ((ls : List Key) → Merges ks ls) → (ls : List Key) → Merges (a ∷ ks) ls
  merged_with a ks rec [] ra rs h =
      let none = lacking a ks [] h refl in
      ap (λ xs. xs ++ flat_map f ks) (none_given a none) ∙ rec [] (sorted_tail key_cmp a ks ra) rs (skipped a ks [] h none)
  merged_with a ks rec (s ∷ ls) ra rs h = by (key_cmp a s) refl (merged_with a ks rec ls)
    where
      by : (o : Ordering) → key_cmp a s ≡ o → Merges (a ∷ ks) ls → flat_map f (a ∷ ks) ≡ flat_map f (s ∷ ls)
      by Less l inner =
          let none = lacking a ks (s ∷ ls) h (has_none a (s ∷ ls) (l, before_all a s ls l (sorted_head key_cmp s ls rs))) in
          ap (λ xs. xs ++ flat_map f ks) (none_given a none) ∙ rec (s ∷ ls) (sorted_tail key_cmp a ks ra) rs (skipped a ks (s ∷ ls) h none)
      by Equal e inner =
          let same = keys_exact a s (ap is_eq e) in
          ap (λ k. f k ++ flat_map f ks) same ∙ ap (λ xs. f s ++ xs) (rec ls (sorted_tail key_cmp a ks ra) (sorted_tail key_cmp s ls rs) (both_tails a s ks ls same ra rs h))
      by Greater g inner =
          let l : key_cmp s a ≡ Less = key_total.antisymm s a ∙ ap ordering_reverse g in
          let none = lacking s ls (a ∷ ks) (turned (a ∷ ks) (s ∷ ls) h) (has_none s (a ∷ ks) (l, before_all s a ks l (sorted_head key_cmp a ks ra))) in
          inner ra (sorted_tail key_cmp s ls rs) (turned ls (a ∷ ks) (skipped s ls (a ∷ ks) (turned (a ∷ ks) (s ∷ ls) h) none)) ∙ ap (λ xs. xs ++ flat_map f ls) (sym (none_given s none))

  -- two rising lists of keys give the same where each has the keys of the other that give something
  pub merged : (ks ls : List Key) → Merges ks ls
  merged [] ls ra rs h = nothing_more ls h
  merged (a ∷ ks) ls ra rs h = merged_with a ks (λ ts. merged ks ts) ls ra rs h
