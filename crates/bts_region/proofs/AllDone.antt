-- Where no work is enabled, every item has ended.
use borrow.Author.Tests.{tests}
use Rattle.std.proofs.Common.{true≢false, rules, ◌≡◌, ◌<◌, ◌≤◌, ℕ, zero, suc, Bool, true, false, cond, not, ◌&&◌, ◌||◌, nat_lt, List, [], ◌∷◌, ◌++◌, map, Option, None, Some, refl, sym, ap, ◌∙◌, subst, arith}
use Rattle.std.specs.List.{filter, list_all, slice_get}
use Rattle.bts_command.specs.declared.ended.UnitKind.TheVariants as unit
use Rattle.bts_region.specs.Enabled.{is_item_enabled, is_settled, items_enabled, works}
use Rattle.bts_region.specs.Items.{earlier, has_ended, has_turn, is_of_another, is_settle, waited_for}
use Rattle.bts_interp.specs.Items.{Numbered, numbered}
use Rattle.bts_region.specs.Positions.{Position}
use Rattle.bts_session.specs.declared.session.Item.{Item}
use Rattle.bts_session.specs.declared.session.Item.TheVariants as item
use Rattle.bts_session.specs.declared.session.Session.{Session}
use Rattle.bts_tree.specs.Repositories.{due_in, ready_in, untold_in}

-- ---- tests

and_both : (a b : Bool) → a ≡ true → b ≡ true → a && b ≡ true
and_both true true p q = refl
and_both true false p q = cc
and_both false b p q = cc

or_first : (a b : Bool) → a ≡ true → a || b ≡ true
or_first true b p = refl
or_first false b p = cc

less : (n m : ℕ) → nat_lt n m ≡ true → n < m
less n m h = search (rules, tests)

not_less : (n m : ℕ) → nat_lt n m ≡ false → m ≤ n
not_less n m h = search (rules, tests)

-- ---- lists

module _ {X : Type 0} where
  empty_parts : (xs ys : List X) → xs ++ ys ≡ [] → (xs ≡ []) × (ys ≡ [])
  empty_parts [] ys e = (refl, e)
  empty_parts (x ∷ xs) ys e = cc

  empty_under : {Y : Type 0} (f : X → Y) (xs : List X) → map f xs ≡ [] → xs ≡ []
  empty_under f [] e = refl
  empty_under f (x ∷ xs) e = cc

  some_value : X → Option X → X
  some_value d None = d
  some_value d (Some x) = x

  kept_first : (t : X → Bool) (y : X) (rest : List X) (b : Bool) → t y ≡ b → cond b (y ∷ rest) rest ≡ [] → (t y ≡ false) × (rest ≡ [])
  kept_first t y rest true q e = cc
  kept_first t y rest false q e = (q, e)

  -- what a test that keeps none says of each
  none_kept : (t : X → Bool) (xs : List X) (i : ℕ) (x : X) → filter t xs ≡ [] → slice_get xs i ≡ Some x → t x ≡ false
  unfolding some_value
  none_kept t [] i x e g = cc
  none_kept t (y ∷ ys) zero x e g = subst (λ z. t z ≡ false) (ap (some_value y) g) (kept_first t y (filter t ys) (t y) refl e).0
  none_kept t (y ∷ ys) (suc i) x e g = none_kept t ys i x (kept_first t y (filter t ys) (t y) refl e).1 g

  all_first : (t : X → Bool) (y : X) (rest : List X) (b : Bool) → (b ≡ true → t y ≡ true) → list_all t rest ≡ true → list_all t (cond b (y ∷ rest) rest) ≡ true
  all_first t y rest true h others = and_both (t y) (list_all t rest) (h refl) others
  all_first t y rest false h others = others

  -- a test holds of all that another one keeps
  all_kept : (t p : X → Bool) (xs : List X) → ((i : ℕ) (x : X) → slice_get xs i ≡ Some x → p x ≡ true → t x ≡ true) → list_all t (filter p xs) ≡ true
  all_kept t p [] h = refl
  all_kept t p (y ∷ ys) h = all_first t y (filter p ys) (p y) (h 0 y refl) (all_kept t p ys (λ i x g. h (suc i) x g))

  pub all_where : (t : X → Bool) (xs : List X) → ((i : ℕ) (x : X) → slice_get xs i ≡ Some x → t x ≡ true) → list_all t xs ≡ true
  all_where t [] h = refl
  all_where t (y ∷ ys) h = and_both (t y) (list_all t ys) (h 0 y refl) (all_where t ys (λ i x g. h (suc i) x g))

-- ---- turns

module _ (session : Session) (ended : List ℕ) where
  abbrev pub HasEndedBelow : ℕ → Type 0
  HasEndedBelow n = (i : ℕ) (x : Numbered) → slice_get (numbered session) i ≡ Some x → x.0 < n → has_ended ended x.0 ≡ true

  all_earlier : (n : ℕ) (t : Numbered → Bool) → HasEndedBelow n → ((x : Numbered) → has_ended ended x.0 ≡ true → t x ≡ true) → list_all t (earlier session n) ≡ true
  all_earlier n t below h = all_kept t (λ x. nat_lt x.0 n) (numbered session) (λ i x g q. h x (below i x g (less x.0 n q)))

  pub all_waited_for : (n : ℕ) (x : Item) → HasEndedBelow n → waited_for session ended n x ≡ true
  all_waited_for n (item.Request key script) below = all_earlier n (λ x. has_ended ended x.0 || is_of_another key x.1) below (λ x e. or_first (has_ended ended x.0) (is_of_another key x.1) e)
  all_waited_for n (item.Clock moment) below = all_earlier n (λ x. has_ended ended x.0) below (λ x e. e)
  all_waited_for n item.Settle below = all_earlier n (λ x. has_ended ended x.0) below (λ x e. e)
  all_waited_for n (item.Browse criteria) below = all_earlier n (λ x. has_ended ended x.0) below (λ x e. e)

-- ---- no work

module _ (session : Session) (at : Position) (none : works session at ≡ []) where
  abbrev enabled : Numbered → Bool
  enabled x = is_item_enabled session at.moment at.processes at.ended x

  -- each part of the work is empty
  record HasNone : Type 0 where
    items : items_enabled (λ x. not (is_settle x.1)) session at ≡ []
    notices : map (λ x. unit.Notice x.0 x.1) (untold_in at.processes) ≡ []
    expiries : map (λ x. unit.Expiry x.0 x.1 x.2) (due_in at.moment at.processes) ≡ []
    activations : map (λ x. unit.Activation x.0 x.1) (ready_in at.processes) ≡ []
    settles : items_enabled (λ x. is_settle x.1) session at ≡ []

  has_none : HasNone
  unfolding works
  has_none =
      let e = empty_parts _ (items_enabled (λ x. is_settle x.1) session at) none in
      let d = empty_parts _ (map (λ x. unit.Activation x.0 x.1) (ready_in at.processes)) e.0 in
      let c = empty_parts _ (map (λ x. unit.Expiry x.0 x.1 x.2) (due_in at.moment at.processes)) d.0 in
      let b = empty_parts (items_enabled (λ x. not (is_settle x.1)) session at) (map (λ x. unit.Notice x.0 x.1) (untold_in at.processes)) c.0 in
      record { items = b.0; notices = b.1; expiries = c.1; activations = d.1; settles = e.1 }

  settled : is_settled at.moment at.processes ≡ true
  settled =
      let a : untold_in at.processes ≡ [] = empty_under _ _ has_none.notices in
      let b : due_in at.moment at.processes ≡ [] = empty_under _ _ has_none.expiries in
      let c : ready_in at.processes ≡ [] = empty_under _ _ has_none.activations in
      rw (a, b, c) refl

  -- no item is enabled
  not_enabled_by : (settle : Bool) (turn : Bool) → not settle && (turn && (not settle || is_settled at.moment at.processes)) ≡ false → settle && (turn && (not settle || is_settled at.moment at.processes)) ≡ false → turn ≡ false
  not_enabled_by settle false a b = refl
  not_enabled_by false true a b = cc
  not_enabled_by true true a b = absurd (true≢false (sym settled ∙ b))

  no_turn : (i : ℕ) (x : Numbered) → slice_get (numbered session) i ≡ Some x → has_turn session at.ended x.0 x.1 ≡ false
  no_turn i x g =
      not_enabled_by (is_settle x.1) (has_turn session at.ended x.0 x.1)
      (none_kept (λ y. not (is_settle y.1) && enabled y) (numbered session) i x (empty_under _ _ has_none.items) g)
      (none_kept (λ y. is_settle y.1 && enabled y) (numbered session) i x (empty_under _ _ has_none.settles) g)

  -- ---- so every item has ended

  not_its_turn : (ended waited : Bool) → waited ≡ true → not ended && waited ≡ false → ended ≡ true
  not_its_turn true waited w h = refl
  not_its_turn false true w h = cc
  not_its_turn false false w h = cc

  next_ended : (n : ℕ) → HasEndedBelow session at.ended n → (i : ℕ) (x : Numbered) → slice_get (numbered session) i ≡ Some x → x.0 < suc n → (b : Bool) → nat_lt x.0 n ≡ b → has_ended at.ended x.0 ≡ true
  next_ended n below i x g h true q = below i x g (less x.0 n q)
  next_ended n below i x g h false q =
      let e : x.0 ≡ n = let l : n ≤ x.0 = not_less x.0 n q in omega (arith, l, h) in
      not_its_turn (has_ended at.ended x.0) (waited_for session at.ended x.0 x.1) (all_waited_for session at.ended x.0 x.1 (subst (HasEndedBelow session at.ended) (sym e) below)) (no_turn i x g)

  ended_below : (n : ℕ) → HasEndedBelow session at.ended n
  ended_below zero i x g h = absurd (omega (arith, h))
  ended_below (suc n) i x g h = next_ended n (ended_below n) i x g h (nat_lt x.0 n) refl

  pub all_ended : list_all (λ x. has_ended at.ended x.0) (numbered session) ≡ true
  all_ended = all_where (λ x. has_ended at.ended x.0) (numbered session) (λ i x g. ended_below (suc x.0) i x g (omega arith))
