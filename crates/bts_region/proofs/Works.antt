-- The work that is enabled, where the items that have ended are the first ones.
use borrow.Author.Tests.{tests}
use Rattle.std.proofs.Common.{rules, ◌≡◌, nat_eq, ◌<◌, ◌≤◌, ℕ, ◌+◌, Bool, true, false, not, ◌&&◌, ◌||◌, nat_lt, List, [], ◌∷◌, ◌++◌, append-nil, map, None, Some, refl, sym, ap, ◌∙◌, subst, arith}
use Rattle.std.proofs.lemmas.Bool.{and_from, and_right, eqb-false, eqb-true, lt-ltb, ltb-false, ltb-true}
use Rattle.std.specs.List.{list_all, slice_get}
use Rattle.bts_command.specs.declared.ended.UnitKind.{UnitKind}
use Rattle.bts_command.specs.declared.ended.UnitKind.TheVariants as unit
use Rattle.bts_names.specs.declared.key.Key.{Key}
use Rattle.bts_interp.specs.Items.{Numbered, numbered}
use Rattle.bts_interp.specs.Steps.{Script}
use Rattle.bts_region.proofs.AllDone.{HasEndedBelow, all_waited_for}
use Rattle.bts_region.proofs.Numbered.{before_none, ended_below, first_where, none_where, not_all_where, not_ended_from, number_at, numbered_at, only_where, same_some}
use Rattle.bts_region.specs.Enabled.{is_item_enabled, is_settled, items_enabled, works}
use Rattle.bts_region.specs.Items.{earlier, has_ended, has_turn, is_of_another, is_settle, unit_of, waited_for}
use Rattle.bts_region.specs.Keeps.{AreFirst}
use Rattle.bts_region.specs.Positions.{Position}
use Rattle.bts_session.specs.declared.session.Item.{Item}
use Rattle.bts_session.specs.declared.session.Item.TheVariants as item
use Rattle.bts_session.specs.declared.session.Session.{Session}
use Rattle.bts_tree.specs.Repositories.{Place, due_in, ready_in, untold_in}
use Rattle.bts_tree.specs.Scopes.{is_empty}

-- ---- tests

no_turn : (a turn b : Bool) → turn ≡ false → a && (turn && b) ≡ false
no_turn true false b e = refl
no_turn false turn b e = refl
no_turn true true b e = cc

unsettled : (settle turn settled : Bool) → settled ≡ false → settle && (turn && (not settle || settled)) ≡ false
unsettled false turn settled e = refl
unsettled true true settled e = e
unsettled true false settled e = refl

no_settle : (settle b : Bool) → settle ≡ true → not settle && b ≡ false
no_settle true b e = refl
no_settle false b e = cc

passed : (i k : ℕ) → (i ≡ k → ⊥) → k ≤ i → k < i
passed i k other l = search (rules, tests)

-- ---- whose turn it is

module _ (session : Session) (ended : List ℕ) (k : ℕ) (are_first : AreFirst k ended) where
  -- an item that has ended has no turn any more
  pub turn_is_over : (i : ℕ) (x : Numbered) → i < k → slice_get (numbered session) i ≡ Some x → has_turn session ended x.0 x.1 ≡ false
  turn_is_over i x l g =
      let e : has_ended ended x.0 ≡ true = ap (has_ended ended) (number_at session i x g).0 ∙ ended_below ended k are_first i l in
      ap (λ b. not b && waited_for session ended x.0 x.1) e

  all_below : HasEndedBelow session ended (k + 1)
  all_below i x g l =
      let n : x.0 ≡ i + 1 = (number_at session i x g).0 in
      ap (has_ended ended) n ∙ ended_below ended k are_first i (omega (arith, n, l))

  -- it is the turn of the one behind them
  pub turn_is_next : (x : Item) → has_turn session ended (k + 1) x ≡ true
  turn_is_next x = and_from _ _ (ap not (not_ended_from ended k are_first k (omega arith))) (all_waited_for session ended (k + 1) x all_below)

  -- all behind a SETTLE that hasn't ended wait for it
  module _ (settle : slice_get session.items k ≡ Some item.Settle) where
    some_wait : (test : Numbered → Bool) (n : ℕ) → k + 1 < n → test (k + 1, item.Settle) ≡ false → list_all test (earlier session n) ≡ false
    some_wait test n l t = not_all_where test (λ x. nat_lt x.0 n) (numbered session) k (k + 1, item.Settle) (numbered_at session k item.Settle settle) (lt-ltb (k + 1) n l) t

    settle_waits : has_ended ended (k + 1) ≡ false
    settle_waits = not_ended_from ended k are_first k (omega arith)

    all_wait : (n : ℕ) (x : Item) → k + 1 < n → waited_for session ended n x ≡ false
    all_wait n (item.Request key script) l = some_wait (λ x. has_ended ended x.0 || is_of_another key x.1) n l (ap (λ b. b || false) settle_waits)
    all_wait n (item.Clock moment) l = some_wait (λ x. has_ended ended x.0) n l settle_waits
    all_wait n item.Settle l = some_wait (λ x. has_ended ended x.0) n l settle_waits
    all_wait n (item.Browse criteria) l = some_wait (λ x. has_ended ended x.0) n l settle_waits

    pub only_turn : (i : ℕ) (x : Numbered) → (i ≡ k → ⊥) → slice_get (numbered session) i ≡ Some x → has_turn session ended x.0 x.1 ≡ false
    only_turn i x other g = by (nat_lt i k) refl
      where
        by : (b : Bool) → nat_lt i k ≡ b → has_turn session ended x.0 x.1 ≡ false
        by true q = turn_is_over i x (ltb-true i k q) g
        by false q =
            let l : k ≤ i = ltb-false i k q in
            let later : k < i = passed i k other l in
            let n : x.0 ≡ i + 1 = (number_at session i x g).0 in
            and_right (not (has_ended ended x.0)) (waited_for session ended x.0 x.1) (all_wait x.0 x.1 (omega (arith, n, later)))

-- ---- the items that are enabled

module _ (session : Session) (at : Position) (k : ℕ) (are_first : AreFirst k at.ended) where
  abbrev settled : Bool
  settled = is_settled at.moment at.processes

  -- a request that stands next comes first
  pub requests_first : (key : Key) (script : Script) → slice_get session.items k ≡ Some (item.Request key script)
      → (rest : List UnitKind) × (items_enabled (λ x. not (is_settle x.1)) session at ≡ unit.Request (k + 1) key ∷ rest)
  requests_first key script g =
      let r =
      first_where (λ x. not (is_settle x.1) && is_item_enabled session at.moment at.processes at.ended x) (numbered session) k (k + 1, item.Request key script)
      (numbered_at session k (item.Request key script) g)
      (ap (λ b. b && true) (turn_is_next session at.ended k are_first (item.Request key script)))
      (λ i x l q. no_turn (not (is_settle x.1)) (has_turn session at.ended x.0 x.1) (not (is_settle x.1) || settled) (turn_is_over session at.ended k are_first i x l q)) in
      (map (λ (x : Numbered). unit_of x.0 x.1) r.0, ap (map (λ (x : Numbered). unit_of x.0 x.1)) r.1)

  -- no item is enabled where all have ended
  pub none_left : (test : Numbered → Bool) → slice_get session.items k ≡ None → items_enabled test session at ≡ []
  none_left test none =
      ap (map (λ (x : Numbered). unit_of x.0 x.1))
      (none_where (λ x. test x && is_item_enabled session at.moment at.processes at.ended x) (numbered session)
      (λ i x g. no_turn (test x) (has_turn session at.ended x.0 x.1) (not (is_settle x.1) || settled) (turn_is_over session at.ended k are_first i x (before_none session.items k i x.1 none (number_at session i x g).1) g)))

  module _ (settle : slice_get session.items k ≡ Some item.Settle) where
    -- where a SETTLE stands next, no other item is enabled
    pub no_requests : items_enabled (λ x. not (is_settle x.1)) session at ≡ []
    no_requests =
        ap (map (λ (x : Numbered). unit_of x.0 x.1))
        (none_where (λ x. not (is_settle x.1) && is_item_enabled session at.moment at.processes at.ended x) (numbered session) (λ i x g. by i x g (nat_eq i k) refl))
      where
        by : (i : ℕ) (x : Numbered) → slice_get (numbered session) i ≡ Some x → (b : Bool) → nat_eq i k ≡ b → not (is_settle x.1) && is_item_enabled session at.moment at.processes at.ended x ≡ false
        by i x g true q =
            let here : slice_get session.items k ≡ Some x.1 = subst (λ n. slice_get session.items n ≡ Some x.1) (eqb-true i k q) (number_at session i x g).1 in
            no_settle (is_settle x.1) (is_item_enabled session at.moment at.processes at.ended x) (ap is_settle (same_some x.1 item.Settle (sym here ∙ settle)))
        by i x g false q =
            no_turn (not (is_settle x.1)) (has_turn session at.ended x.0 x.1) (not (is_settle x.1) || settled) (only_turn session at.ended k are_first settle i x (eqb-false i k q) g)

    -- and it is enabled where nothing else is left to do
    pub settle_alone : settled ≡ true → items_enabled (λ x. is_settle x.1) session at ≡ unit.Settle (k + 1) ∷ []
    settle_alone done =
        ap (map (λ (x : Numbered). unit_of x.0 x.1))
        (only_where (λ x. is_settle x.1 && is_item_enabled session at.moment at.processes at.ended x) (numbered session) k (k + 1, item.Settle) (numbered_at session k item.Settle settle)
        (and_from _ _ (turn_is_next session at.ended k are_first item.Settle) done)
        (λ i x other g. no_turn (is_settle x.1) (has_turn session at.ended x.0 x.1) (not (is_settle x.1) || settled) (only_turn session at.ended k are_first settle i x other g)))

-- no SETTLE is enabled where something is left to do
pub no_settles : (session : Session) (at : Position) → is_settled at.moment at.processes ≡ false → items_enabled (λ x. is_settle x.1) session at ≡ []
no_settles session at left =
    ap (map (λ (x : Numbered). unit_of x.0 x.1))
    (none_where (λ x. is_settle x.1 && is_item_enabled session at.moment at.processes at.ended x) (numbered session)
    (λ i x g. unsettled (is_settle x.1) (has_turn session at.ended x.0 x.1) (is_settled at.moment at.processes) left))

pub unsettled_by : (at : Position) (p : Place) (ps : List Place) → ready_in at.processes ≡ p ∷ ps → is_settled at.moment at.processes ≡ false
unsettled_by at p ps ready =
    and_right (is_empty (untold_in at.processes) && is_empty (due_in at.moment at.processes)) (is_empty (ready_in at.processes)) (ap is_empty ready)

-- ---- all work

pub settled_where : (at : Position) → untold_in at.processes ≡ [] → due_in at.moment at.processes ≡ [] → ready_in at.processes ≡ [] → is_settled at.moment at.processes ≡ true
settled_where at untold due ready = rw (untold, due, ready) refl

-- without notices and expiries
pub works_are : (session : Session) (at : Position) → untold_in at.processes ≡ [] → due_in at.moment at.processes ≡ []
    → works session at ≡ items_enabled (λ x. not (is_settle x.1)) session at ++ map (λ x. unit.Activation x.0 x.1) (ready_in at.processes) ++ items_enabled (λ x. is_settle x.1) session at
unfolding works
works_are session at untold due =
    let front : List UnitKind = items_enabled (λ x. not (is_settle x.1)) session at in
    let e : front ++ map (λ x. unit.Notice x.0 x.1) (untold_in at.processes) ++ map (λ x. unit.Expiry x.0 x.1 x.2) (due_in at.moment at.processes) ≡ front =
    ap (λ us. front ++ map (λ x. unit.Notice x.0 x.1) us ++ map (λ x. unit.Expiry x.0 x.1 x.2) (due_in at.moment at.processes)) untold
    ∙ ap (λ us. front ++ [] ++ map (λ x. unit.Expiry x.0 x.1 x.2) us) due
    ∙ append-nil (front ++ [])
    ∙ append-nil front in
    ap (λ us. us ++ map (λ x. unit.Activation x.0 x.1) (ready_in at.processes) ++ items_enabled (λ x. is_settle x.1) session at) e
