-- What ending a unit, and taking one back, does as a station's.
use Rattle.std.proofs.Common.{◌≡◌, ◌<◌, ◌≤◌, ◌*◌, ℕ, ◌+◌, Bool, true, false, cond, not, ◌||◌, nat_eq, List, [], ◌∷◌, ◌++◌, length, length-append, map, is_some, IfOk, IfErr, MatchResult, Option, None, Some, Result, Ok, Err, refl, sym, ap, ◌∙◌, subst, arith}
use Rattle.std.specs.List.{AllByRecursion, cons_option, find}
use Rattle.std.specs.Option.{option_map}
use Rattle.bts_command.specs.declared.ended.Ended.{Ended}
use Rattle.bts_command.specs.declared.ended.UnitKind.{UnitKind}
use Rattle.bts_interp.specs.Items.{item_of}
use Rattle.bts_interp.specs.Jobs as jobs
use Rattle.bts_interp.specs.Stations.{Finishes, Out, PutsNone, PutsOne, has_ticket, without}
use Rattle.bts_interp.specs.declared.station.FinishError.{FinishError}
use Rattle.bts_interp.specs.declared.station.FinishError.TheVariants as failure
use Rattle.bts_region.specs.Answers.{Ends, Refuses, unit_out, with_ended, with_out}
use Rattle.bts_region.specs.AsStation.{IsNothingOwed, IsRegionWithin, MayEnd, left_of, rest_of}
use Rattle.bts_region.specs.Enabled.{least}
use Rattle.bts_region.specs.Histories.{IsLegal}
use Rattle.bts_region.specs.Items.{items_of}
use Rattle.bts_command.specs.Kinds.{is_activation}
use Rattle.bts_region.specs.Positions.{Position, behind_all}
use Rattle.bts_region.specs.Regions.{IsKept, IsLeastOut, IsRegionInOrder, RegionState, kinds_out, position_of}
use Rattle.bts_region.proofs.Appending.{activations_more, behind_more, clocked_more, items_more, least_more, legal_more, within_more}
use Rattle.bts_region.proofs.Counts.{one_if}
use Rattle.bts_region.proofs.FewItems.{items_fit}

-- ---- what is out

abbrev kinds_of : List Out → List UnitKind
kinds_of out = map (λ o. o.1) out

-- the unit of a ticket is one of those that are out
pub found_out : (P : UnitKind → Type 0) (ticket : ℕ) (u : UnitKind) (out : List Out) → AllByRecursion P (kinds_of out) → unit_out ticket out ≡ Some u → P u
found_out P ticket u [] all e = cc
found_out P ticket u (o ∷ os) all e = by (nat_eq o.0 ticket) (λ f. found_out P ticket u os all.1 f) e
  where
    same_in : (a b : UnitKind) → Some a ≡ Some b → a ≡ b
    same_in a b q = cc

    by : (b : Bool) → (unit_out ticket os ≡ Some u → P u) → option_map (λ (x : Out). x.1) (cond b (Some o) (find (λ x. nat_eq x.0 ticket) os)) ≡ Some u → P u
    by true others e = subst P (same_in o.1 u e) all.0
    by false others e = others e

pub ticket_out : (ticket : ℕ) (u : UnitKind) (out : List Out) → unit_out ticket out ≡ Some u → has_ticket ticket out ≡ true
ticket_out ticket u [] e = cc
ticket_out ticket u (o ∷ os) e = by (nat_eq o.0 ticket) (λ f. ticket_out ticket u os f) e
  where
    by : (b : Bool) → (unit_out ticket os ≡ Some u → has_ticket ticket os ≡ true) → option_map (λ (x : Out). x.1) (cond b (Some o) (find (λ x. nat_eq x.0 ticket) os)) ≡ Some u → b || has_ticket ticket os ≡ true
    by true others e = refl
    by false others e = others e

-- the only one
record IsOnly (r : RegionState) (ticket : ℕ) (u : UnitKind) (out : List Out) : Type 0 where
  least : least r.session (position_of r) ≡ Some u
  none : without ticket out ≡ []

only_out : (r : RegionState) (ticket : ℕ) (u : UnitKind) (out : List Out) → IsLeastOut r (kinds_of out) → unit_out ticket out ≡ Some u → IsOnly r ticket u out
only_out r ticket u [] l e = cc
only_out r ticket u (o ∷ []) l e = by (nat_eq o.0 ticket) refl e
  where
    by : (b : Bool) → nat_eq o.0 ticket ≡ b → option_map (λ (x : Out). x.1) (cond b (Some o) None) ≡ Some u → IsOnly r ticket u (o ∷ [])
    by true q e = record { least = l.1 ∙ e; none = ap (λ b. cond (not b) (o ∷ []) []) q }
    by false q e = cc
only_out r ticket u (o ∷ p ∷ os) l e = cc

-- what is left of them
least_without : (r : RegionState) (ticket : ℕ) (out : List Out) → IsLeastOut r (kinds_of out) → IsLeastOut r (kinds_of (without ticket out))
least_without r ticket [] l = tt
least_without r ticket (o ∷ []) l = by (not (nat_eq o.0 ticket))
  where
    by : (b : Bool) → IsLeastOut r (kinds_of (cond b (o ∷ []) []))
    by true = l
    by false = tt
least_without r ticket (o ∷ p ∷ os) l = cc

-- ---- a region where a unit ended

one_at_least : (o : Option ℕ) (a : Bool) → is_some o || a ≡ true → 1 ≤ length (cons_option o []) + one_if a
one_at_least (Some n) a h = omega arith
one_at_least None true h = omega arith
one_at_least None false h = cc

-- each unit that is counted stands for more than is owed where nothing is
pub less_is_left : (left left' owing owing' : ℕ) → left' < left → owing' ≡ 0 → 2_000 * left' + owing' < 2_000 * left + owing
less_is_left left left' owing owing' l none = omega (arith, l, none)

module _ (old new : RegionState) (d : jobs.Done) (place : ℕ) (kept : IsKept old) (may : AllByRecursion (MayEnd old) (kinds_out old)) (none : IsNothingOwed new) (h : Ends old new d place) where
  abbrev e : Ended
  e = h.0

  abbrev ended : RegionState
  ended = with_out (without d.job.ticket old.out) (with_ended e old)

  one_may : MayEnd old e.unit
  one_may = found_out (MayEnd old) d.job.ticket e.unit old.out may h.4

  legal : IsLegal old.session old.opening (old.history ++ e ∷ [])
  legal = legal_more old.session old.history old.opening e kept.legal h.2

  fewer_left : left_of new < left_of old
  fewer_left =
      let same = ap left_of h.1 in
      let fits = items_fit old.session old.opening (old.history ++ e ∷ []) legal in
      let items = ap length (items_more old.history e) ∙ length-append (items_of old.history) (cons_option (item_of e.unit) []) in
      let made = activations_more old.history e in
      let one = one_at_least (item_of e.unit) (is_activation e.unit) one_may.counted in
      let limited = one_may.limited in omega (arith, same, fits, items, made, one, limited)

  rest_falls : rest_of new < rest_of old
  rest_falls = less_is_left (left_of old) (left_of new) _ _ fewer_left none

  pub one_put : PutsOne old.history new.history (rest_of old) (rest_of new)
  one_put = record { one = (e, ap (λ s. s.history) h.1); falls = rest_falls }

  pub ended_within : (b : ℕ) → IsRegionWithin b old → IsRegionWithin b new
  ended_within b w =
      let now = h.3 in
      let moment = w.1 in
      subst (IsRegionWithin b) (sym h.1) (within_more old.session b old.opening old.history e w.0 (omega (arith, now, moment)), moment)

  pub ended_in_order : IsRegionInOrder old → IsRegionInOrder new
  ended_in_order o =
      let at : Position = behind_all old.opening old.history in
      let only = only_out old d.job.ticket e.unit old.out o.out h.4 in
      let now : (behind_all old.opening (old.history ++ e ∷ [])).moment ≡ e.moment = ap (λ (p : Position). p.moment) (behind_more old.history old.opening e) in
      let first_here : least old.session at ≡ Some e.unit = ap (λ m. (let p : Position = record at { moment = m } in least old.session p)) (sym o.moment) ∙ only.least in
      let clock = h.2.clock in
      let moment = h.3 in
      let here = o.moment in
      let limited = one_may.limited in
      let made = activations_more old.history e in
      let all : IsRegionInOrder ended = record {
        history = record {
          legal = legal;
          clocked = clocked_more old.session old.history old.opening e o.history.clocked (omega (arith, clock, moment, here));
          least = least_more old.session old.history old.opening e o.history.least first_here;
          limited = omega (arith, made, limited);
        };
        moment = omega (arith, now, moment);
        out = subst (λ (out : List Out). IsLeastOut ended (kinds_of out)) (sym only.none) tt;
      } in
      subst IsRegionInOrder (sym h.1) all

-- ---- what the call tells

pub no_more : (rest rest' : ℕ) → rest' ≡ rest → rest' ≤ rest
no_more rest rest' e = omega (arith, e)

pub none_put : (old new : RegionState) → new ≡ old → PutsNone old.history new.history (rest_of old) (rest_of new)
none_put old new same = record { same = ap (λ s. s.history) same; stays = no_more (rest_of old) (rest_of new) (ap rest_of same) }

module _ (old new : RegionState) (d : jobs.Done) (kept : IsKept old) (may : AllByRecursion (MayEnd old) (kinds_out old)) (none : IsNothingOwed new) where
  abbrev HasEnded : Result ℕ (FinishError × jobs.Done) → Type 0
  HasEnded r = IfOk r (λ place. Ends old new d place)

  abbrev HasNotEnded : Result ℕ (FinishError × jobs.Done) → Type 0
  HasNotEnded r = IfErr r (λ x. (x.1 ≡ d) × (new ≡ old) × Refuses old d x.0)

  pub finishes : (r : Result ℕ (FinishError × jobs.Done)) → HasEnded r → HasNotEnded r → Finishes (λ x. x) old.history new.history (rest_of old) (rest_of new) old.out new.out d r
  finishes (Ok place) h n = (one_put old new d place kept may none h, h.5, ticket_out d.job.ticket h.0.unit old.out h.4, ap (λ s. s.out) h.1)
  finishes (Err (failure.NotOut t, x)) h n = (none_put old new n.1, n.2.0, n.2.1, ap (λ s. s.out) n.1, n.0)
  finishes (Err (failure.NoMemory, x)) h n = (none_put old new n.1, n.2, ap (λ s. s.out) n.1, n.0)

  pub finishes_within : (r : Result ℕ (FinishError × jobs.Done)) → HasEnded r → HasNotEnded r → (b : ℕ) → IsRegionWithin b old → IsRegionWithin b new
  finishes_within (Ok place) h n b w = ended_within old new d place kept may none h b w
  finishes_within (Err x) h n b w = subst (IsRegionWithin b) (sym n.1) w

  pub finishes_in_order : (r : Result ℕ (FinishError × jobs.Done)) → HasEnded r → HasNotEnded r → IsRegionInOrder old → IsRegionInOrder new
  finishes_in_order (Ok place) h n o = ended_in_order old new d place kept may none h o
  finishes_in_order (Err x) h n o = subst IsRegionInOrder (sym n.1) o

-- ---- a unit was taken back

still_in_order : (old : RegionState) (ticket : ℕ) → IsRegionInOrder old → IsRegionInOrder (with_out (without ticket old.out) old)
still_in_order old ticket o = record { history = o.history; moment = o.moment; out = least_without old ticket old.out o.out }

pub back_in_order : (old new : RegionState) (j : jobs.Job) (r : Result (Unit {0}) jobs.Job)
    → MatchResult r (λ x. (has_ticket j.ticket old.out ≡ true) × (new ≡ with_out (without j.ticket old.out) old)) (λ back. (has_ticket j.ticket old.out ≡ false) × (back ≡ j) × (new ≡ old))
    → IsRegionInOrder old → IsRegionInOrder new
back_in_order old new j (Ok x) h o = subst IsRegionInOrder (sym h.1) (still_in_order old j.ticket o)
back_in_order old new j (Err back) h o = subst IsRegionInOrder (sym h.2) o
