-- A region: what has ended, which units are out, and what is answered to whoever asks for work.
use Rattle.std.specs.Prelude.{◌≡◌, ℕ, ◌+◌, ◌≤◌, ◌<◌, Bool, true, false, not, ◌&&◌, ◌||◌, nat_eq, nat_le, nat_lt, List, [], ◌∷◌, map, Option, Some, None, IsTrue}
use Rattle.std.specs.List.{AllByRecursion, count_by, find, list_all, list_any}
use Rattle.bts_names.specs.declared.key.Key.{Key}
use Rattle.bts_command.specs.declared.ended.Ended.{Ended}
use Rattle.bts_command.specs.declared.ended.UnitKind.{UnitKind}
use Rattle.bts_interp.specs.Stations.{Out}
use Rattle.bts_region.specs.Enabled.{is_enabled, least, works}
use Rattle.bts_region.specs.Histories.{IsLegal}
use Rattle.bts_command.specs.Kinds.{is_activation, key_of}
use Rattle.bts_region.specs.Items.{items_of}
use Rattle.bts_region.specs.Positions.{Position, behind_all}
use Rattle.bts_region.specs.Serial.{IsInOrder, activations_in}
use Rattle.bts_session.specs.declared.session.Session.{Session}
use Rattle.bts_tree.specs.Repositories.{same_key}
use Rattle.bts_tree.specs.Scopes.{is_empty}

-- the session, the most activations, where the history began, the moment, the ended units, and those that are out
pub record RegionState : Type 0 where
  pub session : Session
  pub limit : ℕ
  pub opening : Position
  pub moment : ℕ
  pub history : List Ended
  pub out : List Out

abbrev pub kinds_out : RegionState → List UnitKind
kinds_out r = map (λ o. o.1) r.out

abbrev pub tickets_out : RegionState → List ℕ
tickets_out r = map (λ o. o.0) r.out

-- where the history has come to, at the region's moment
abbrev pub position_of : RegionState → Position
position_of r = record (behind_all r.opening r.history) { moment = r.moment }

-- ---- units side by side

-- units are apart where their keys differ; one that holds no process is apart from all
abbrev pub are_apart_at : Option Key → Option Key → Bool
are_apart_at (Some a) (Some b) = not (same_key a b)
are_apart_at _ _ = true

abbrev pub are_apart : UnitKind → UnitKind → Bool
are_apart a b = are_apart_at (key_of a) (key_of b)

abbrev pub are_all_apart : List UnitKind → Bool
are_all_apart [] = true
are_all_apart (u ∷ us) = list_all (are_apart u) us && are_all_apart us

-- ---- taking work

-- the activations that ended and those that are out
abbrev pub activations_of : RegionState → ℕ
activations_of r = activations_in r.history + count_by is_activation (kinds_out r)

-- whether a unit may be taken beside those that are out
abbrev pub may_take : RegionState → UnitKind → Bool
may_take r u = list_all (are_apart u) (kinds_out r) && (not (is_activation u) || nat_lt (activations_of r) r.limit)

-- the first work that may be taken
abbrev pub next_work : RegionState → Option UnitKind
next_work r = find (may_take r) (works r.session (position_of r))

-- the least ticket that isn't out
pub record IsNextTicket (r : RegionState) (ticket : ℕ) : Type 0 where
  pub is_free : list_any (nat_eq ticket) (tickets_out r) ≡ false
  pub least : (n : ℕ) → n < ticket → IsTrue (list_any (nat_eq n) (tickets_out r))

-- what is answered: work, that something must come back first, that the count of activations has reached the limit, or
-- that all is done
pub data Offer : Type 0 where
  work : UnitKind → Offer
  wait : Offer
  limit_met : ℕ → Offer
  all_done : Offer

-- where nothing may be taken: whether something is out, and whether something is enabled
abbrev pub idle : Bool → Bool → ℕ → Offer
idle true enabled count = wait
idle false true count = limit_met count
idle false false count = all_done

abbrev pub offered : RegionState → Option UnitKind → Offer
offered r (Some u) = work u
offered r None = idle (not (is_empty r.out)) (not (is_empty (works r.session (position_of r)))) (activations_in r.history)

abbrev pub offer : RegionState → Offer
offer r = offered r (next_work r)

-- ---- what a region keeps

abbrev pub is_once_at_most : List ℕ → ℕ → Bool
is_once_at_most items n = nat_le (count_by (nat_eq n) items) 1

pub record IsKept (r : RegionState) : Type 0 where
  pub legal : IsLegal r.session r.opening r.history
  pub items : IsTrue (list_all (is_once_at_most (items_of r.history)) (items_of r.history))
  pub later : (behind_all r.opening r.history).moment ≤ r.moment
  pub enabled : AllByRecursion (λ u. IsTrue (is_enabled r.session r.moment (position_of r).processes (position_of r).ended u)) (kinds_out r)
  pub apart : IsTrue (are_all_apart (kinds_out r))

-- the units that are out are the least work, which is one at most
abbrev pub IsLeastOut : RegionState → List UnitKind → Type 0
IsLeastOut r [] = Unit {0}
IsLeastOut r (u ∷ us) = (us ≡ []) × (least r.session (position_of r) ≡ Some u)

-- a region in order: nothing but the least work was taken, and time passed by CLOCK alone
pub record IsRegionInOrder (r : RegionState) : Type 0 where
  pub history : IsInOrder r.session r.opening r.limit r.history
  pub moment : r.moment ≡ (behind_all r.opening r.history).moment
  pub out : IsLeastOut r (kinds_out r)
