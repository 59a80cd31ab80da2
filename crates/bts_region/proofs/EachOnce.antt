-- In a legal history no item stands twice, and where no work is left behind it each stands once.
use Rattle.std.proofs.Common.{true≢false, ◌≡◌, ◌<◌, ◌≤◌, ℕ, zero, suc, ◌+◌, Bool, true, false, not, ◌&&◌, ◌||◌, nat_eq, List, [], ◌∷◌, length, Option, None, Some, refl, sym, ap, ◌∙◌, subst, arith}
use Rattle.std.specs.List.{cons_option, count_by, enumerate_from, list_all, list_any}
use Rattle.std.proofs.Math.Nat.{add-zero}
use Rattle.std.proofs.lemmas.Bool.{and_parts}
use Rattle.bts_command.specs.declared.ended.Ended.{Ended}
use Rattle.bts_region.specs.Enabled.{is_enabled_as, is_item_enabled, works}
use Rattle.bts_region.specs.Histories.{IsLegal}
use Rattle.bts_region.specs.Items.{EachItemOnce, has_ended, items_of}
use Rattle.bts_interp.specs.Items.{Numbered, numbered, item_of}
use Rattle.bts_region.specs.Positions.{Position, behind, behind_all, with_item}
use Rattle.bts_region.proofs.AllDone.{all_ended}
use Rattle.bts_region.proofs.Counts.{counted_first, equal_numbers, one_if}
use Rattle.bts_session.specs.declared.session.Item.{Item}
use Rattle.bts_session.specs.declared.session.Session.{Session}
use Rattle.bts_tree.specs.Repositories.{Processes}

-- how often a number stands in a list
abbrev count : ℕ → List ℕ → ℕ
count n ns = count_by (nat_eq n) ns

-- ---- an item that is enabled hasn't ended

turn_in : (session : Session) (now : ℕ) (repo : Processes) (ended : List ℕ) (n : ℕ) (xs : List Numbered)
    → list_any (λ x. nat_eq x.0 n && is_item_enabled session now repo ended x) xs ≡ true → has_ended ended n ≡ false
turn_in session now repo ended n [] h = cc
turn_in session now repo ended n (x ∷ xs) h = by (nat_eq x.0 n) (has_ended ended x.0) _ _ refl refl (turn_in session now repo ended n xs) h
  where
    by : (same done waited settled : Bool) → nat_eq x.0 n ≡ same → has_ended ended x.0 ≡ done → (list_any (λ y. nat_eq y.0 n && is_item_enabled session now repo ended y) xs ≡ true → has_ended ended n ≡ false)
        → (same && ((not done && waited) && settled)) || list_any (λ y. nat_eq y.0 n && is_item_enabled session now repo ended y) xs ≡ true → has_ended ended n ≡ false
    by false done waited settled p q others g = others g
    by true true waited settled p q others g = others g
    by true false waited settled p q others g = subst (λ k. has_ended ended k ≡ false) (equal_numbers x.0 n p) q

free : (session : Session) (at : Position) (e : Ended) (o : Option ℕ) (m : ℕ) → is_enabled_as session e.moment at.processes at.ended e.unit o ≡ true → o ≡ Some m → has_ended at.ended m ≡ false
free session at e None m h q = cc
free session at e (Some k) m h q = subst (λ z. has_ended at.ended z ≡ false) (ap (number_or k) q) (turn_in session e.moment at.processes at.ended k (numbered session) h)
  where
    number_or : ℕ → Option ℕ → ℕ
    number_or d None = d
    number_or d (Some z) = z

-- ---- the account of one item

moved_by : (same done : Bool) (others all : ℕ) → all ≡ one_if same + others → (same ≡ true → done ≡ false) → one_if done + all ≡ one_if (same || done) + others
moved_by true true others all e h = absurd (true≢false (h refl))
moved_by true false others all e h = omega (arith, e)
moved_by false true others all e h = omega (arith, e)
moved_by false false others all e h = omega (arith, e)

step_by : (n : ℕ) (o : Option ℕ) (ended ns : List ℕ) → ((m : ℕ) → o ≡ Some m → has_ended ended m ≡ false)
    → one_if (has_ended ended n) + count n (cons_option o ns) ≡ one_if (has_ended (with_item o ended) n) + count n ns
step_by n None ended ns h = refl
step_by n (Some m) ended ns h =
    moved_by (nat_eq n m) (has_ended ended n) (count n ns) (count n (m ∷ ns)) (counted_first (nat_eq n) m ns)
    (λ s. subst (λ z. has_ended ended z ≡ false) (sym (equal_numbers n m s)) (h m refl))

-- an item that had ended, or stands in a legal history, has ended behind it
account : (session : Session) (h : List Ended) (at : Position) (n : ℕ) → IsLegal session at h
    → one_if (has_ended at.ended n) + count n (items_of h) ≡ one_if (has_ended (behind_all at h).ended n)
account session [] at n l = omega arith
account session (e ∷ es) at n l =
    step_by n (item_of e.unit) at.ended (items_of es) (λ m q. free session at e (item_of e.unit) m l.0.enabled q)
    ∙ account session es (behind at e) n l.1

-- ---- once

at_most_one : (before behind : Bool) (k : ℕ) → one_if before + k ≡ one_if behind → k ≤ 1
at_most_one true true k e = omega (arith, e)
at_most_one true false k e = omega (arith, e)
at_most_one false true k e = omega (arith, e)
at_most_one false false k e = omega (arith, e)

pub once_at_most : (session : Session) (at : Position) (h : List Ended) (n : ℕ) → IsLegal session at h → count n (items_of h) ≤ 1
once_at_most session at h n l = at_most_one _ _ (count n (items_of h)) (account session h at n l)

each_number : (ended : List ℕ) (xs : List Item) (k i : ℕ) → list_all (λ x. has_ended ended x.0) (enumerate_from k xs) ≡ true → i < length xs → has_ended ended (k + i) ≡ true
each_number ended [] k i h l = absurd (omega (arith, l))
each_number ended (x ∷ xs) k zero h l = subst (λ n. has_ended ended n ≡ true) (sym (add-zero k)) (and_parts _ _ h).0
each_number ended (x ∷ xs) k (suc i) h l =
    let e : k + 1 + i ≡ k + suc i = omega arith in
    subst (λ n. has_ended ended n ≡ true) e (each_number ended xs (k + 1) i (and_parts _ _ h).1 (omega (arith, l)))

one_from : (behind : Bool) (k : ℕ) → behind ≡ true → 0 + k ≡ one_if behind → k ≡ 1
one_from true k h e = omega (arith, e)
one_from false k h e = cc

pub each_once : (session : Session) (at : Position) (h : List Ended) → at.ended ≡ [] → IsLegal session at h → works session (behind_all at h) ≡ [] → EachItemOnce session h
each_once session at h fresh l none i b =
    let e : 1 + i ≡ i + 1 = omega arith in
    let done : has_ended (behind_all at h).ended (i + 1) ≡ true = subst (λ n. has_ended (behind_all at h).ended n ≡ true) e (each_number (behind_all at h).ended session.items 1 i (all_ended session (behind_all at h) none) b) in
    let a : one_if (has_ended [] (i + 1)) + count (i + 1) (items_of h) ≡ one_if (has_ended (behind_all at h).ended (i + 1)) = subst (λ z. one_if (has_ended z (i + 1)) + count (i + 1) (items_of h) ≡ one_if (has_ended (behind_all at h).ended (i + 1))) fresh (account session h at (i + 1) l) in
    one_from (has_ended (behind_all at h).ended (i + 1)) (count (i + 1) (items_of h)) done a
