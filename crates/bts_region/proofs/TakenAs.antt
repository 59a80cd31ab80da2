-- What taking work does, as a station's.
use Rattle.std.proofs.Common.{◌≡◌, ◌<◌, ◌≤◌, ℕ, ◌+◌, Bool, true, false, cond, max, nat_eq, List, [], ◌∷◌, ◌++◌, length, length-append, map, Option, None, Some, Result, Ok, Err, refl, sym, ap, ◌∙◌, subst, arith}
use Rattle.std.specs.List.{cons_option, enumerate_from, find, fold}
use Rattle.std.specs.Option.{option_map}
use Rattle.std.proofs.Math.Nat.{add-zero}
use Rattle.bts_names.specs.declared.key.Key.{Key}
use Rattle.bts_command.specs.declared.ended.Ended.{Ended}
use Rattle.bts_command.specs.declared.ended.UnitKind.{UnitKind}
use Rattle.bts_command.specs.declared.ended.UnitKind.TheVariants as unit
use Rattle.bts_interp.specs.Items.{Numbered, item_done, item_in, item_of}
use Rattle.bts_interp.specs.Stations.{Out, has_ticket}
use Rattle.bts_interp.specs.Jobs as jobs
use Rattle.bts_interp.specs.Stations as station
use Rattle.bts_interp.specs.declared.station.Refused.{Refused}
use Rattle.bts_interp.specs.declared.station.Work.{Work}
use Rattle.bts_interp.specs.declared.station.Work.TheVariants as work
use Rattle.bts_region.proofs.Appending.{activations_more, behind_more, clocked_more, items_more, least_more, within_more}
use Rattle.bts_region.proofs.Counts.{one_if}
use Rattle.bts_region.proofs.EndedAs.{less_is_left, no_more, none_put}
use Rattle.bts_region.proofs.FewItems.{items_fit}
use Rattle.bts_region.proofs.Offers.{least_on_offer, not_waiting}
use Rattle.bts_region.specs.Answers.{Takes, TakesOffer, ended_at_once, offer_alone, with_ended, with_moment, with_out}
use Rattle.bts_region.specs.AsStation.{IsNothingOwed, IsRegionWithin, left_of, rest_of}
use Rattle.bts_region.specs.Enabled.{least}
use Rattle.bts_region.specs.Histories.{IsLegal, last_clock}
use Rattle.bts_region.specs.Items.{clock_in, items_of}
use Rattle.bts_command.specs.Kinds.{is_activation, key_of}
use Rattle.bts_region.specs.Positions.{Position, behind_all}
use Rattle.bts_region.specs.Regions.{IsKept, IsLeastOut, IsRegionInOrder, Offer, RegionState, all_done, limit_met, position_of, wait}
use Rattle.bts_region.specs.Regions as regions
use Rattle.bts_region.specs.Serial.{activations_in}
use Rattle.bts_session.specs.declared.session.Item.{Item}
use Rattle.bts_session.specs.declared.session.Session.{Session}

-- ---- offers

alone_at_work : (r : RegionState) (out : List Out) (u : UnitKind) → offer_alone r out ≡ regions.work u → out ≡ []
alone_at_work r [] u e = refl
alone_at_work r (o ∷ os) u e = cc

-- ---- units that hold no process

item_without_key : (u : UnitKind) → key_of u ≡ None → (n : ℕ) × (item_of u ≡ Some n)
item_without_key (unit.Request n key) e = cc
item_without_key (unit.Activation key path) e = cc
item_without_key (unit.Notice key path) e = cc
item_without_key (unit.Expiry key path timer) e = cc
item_without_key (unit.Clock n) e = (n, refl)
item_without_key (unit.Settle n) e = (n, refl)
item_without_key (unit.Browse n) e = (n, refl)

other_without_key : (u : UnitKind) → key_of u ≡ None → is_activation u ≡ false
other_without_key (unit.Request n key) e = refl
other_without_key (unit.Activation key path) e = cc
other_without_key (unit.Notice key path) e = refl
other_without_key (unit.Expiry key path timer) e = refl
other_without_key (unit.Clock n) e = refl
other_without_key (unit.Settle n) e = refl
other_without_key (unit.Browse n) e = refl

-- ---- clocks

abbrev later_of : ℕ → Item → ℕ
later_of m i = max m (clock_in (Some i))

most_from : (m : ℕ) (xs : List Item) → m ≤ fold later_of m xs
most_from m [] = omega arith
most_from m (x ∷ xs) = let r = most_from (later_of m x) xs in omega (arith, r)

clock_below : (test : Numbered → Bool) (k m : ℕ) (xs : List Item) → clock_in (option_map (λ x. x.1) (find test (enumerate_from k xs))) ≤ fold later_of m xs
clock_below test k m [] = omega arith
clock_below test k m (x ∷ xs) = by (test (k, x)) (clock_below test (k + 1) (later_of m x) xs)
  where
    by : (b : Bool) → clock_in (option_map (λ x. x.1) (find test (enumerate_from (k + 1) xs))) ≤ fold later_of (later_of m x) xs
        → clock_in (option_map (λ (y : Numbered). y.1) (cond b (Some (k, x)) (find test (enumerate_from (k + 1) xs)))) ≤ fold later_of (later_of m x) xs
    by true i = let r = most_from (later_of m x) xs in omega (arith, r)
    by false i = i

clock_within : (session : Session) (o : Option ℕ) → clock_in (item_in session o) ≤ last_clock session
clock_within session None = omega arith
clock_within session (Some n) = clock_below (λ x. nat_eq x.0 n) 1 0 session.items

-- ---- a region where an item was ended

module _ (old new : RegionState) (u : UnitKind) (keyless : key_of u ≡ None) (kept : IsKept new) (none : IsNothingOwed new) where
  abbrev e : Ended
  e = ended_at_once u old

  abbrev ended : RegionState
  ended = with_moment e.moment (with_ended e old)

  module _ (is : new ≡ ended) where
    one_named : length (items_of (old.history ++ e ∷ [])) ≡ length (items_of old.history) + 1
    one_named =
        ap length (items_more old.history e ∙ ap (λ o. items_of old.history ++ cons_option o []) (item_without_key u keyless).1)
        ∙ length-append (items_of old.history) ((item_without_key u keyless).0 ∷ [])

    none_more : activations_in (old.history ++ e ∷ []) ≡ activations_in old.history
    none_more = activations_more old.history e ∙ ap (λ b. activations_in old.history + one_if b) (other_without_key u keyless) ∙ add-zero (activations_in old.history)

    legal : IsLegal old.session old.opening (old.history ++ e ∷ [])
    legal = subst (λ (s : RegionState). IsLegal s.session s.opening s.history) is kept.legal

    fewer_left : left_of new < left_of old
    fewer_left =
        let same = ap left_of is in
        let fits = items_fit old.session old.opening (old.history ++ e ∷ []) legal in
        let named = one_named in
        let made = none_more in omega (arith, same, fits, named, made)

    rest_falls : rest_of new < rest_of old
    rest_falls = less_is_left (left_of old) (left_of new) _ _ fewer_left none

    ended_within : (b : ℕ) → IsRegionWithin b old → IsRegionWithin b new
    ended_within b w =
        let clock = clock_within old.session (item_of u) in
        let moment = w.1 in
        subst (IsRegionWithin b) (sym is)
        (within_more old.session b old.opening old.history e w.0 (omega (arith, clock, moment)), omega (arith, clock, moment))

    ended_in_order : old.out ≡ [] → least old.session (position_of old) ≡ Some u → IsRegionInOrder old → IsRegionInOrder new
    ended_in_order alone first o =
        let at : Position = behind_all old.opening old.history in
        let now : (behind_all old.opening (old.history ++ e ∷ [])).moment ≡ e.moment = ap (λ (p : Position). p.moment) (behind_more old.history old.opening e) in
        let first_here : least old.session at ≡ Some u = ap (λ m. (let p : Position = record at { moment = m } in least old.session p)) (sym o.moment) ∙ first in
        let limited = o.history.limited in
        let made = none_more in
        let all : IsRegionInOrder ended = record {
          history = record {
            legal = legal;
            clocked = clocked_more old.session old.history old.opening e o.history.clocked (ap (λ m. max m (clock_in (item_done old.session u))) o.moment);
            least = least_more old.session old.history old.opening e o.history.least first_here;
            limited = omega (arith, made, limited);
          };
          moment = omega (arith, now);
          out = subst (λ (out : List Out). IsLeastOut ended (map (λ x. x.1) out)) (sym alone) tt;
        } in
        subst IsRegionInOrder (sym is) all

-- ---- what is taken

module _ (old new : RegionState) (kept : IsKept new) (none : IsNothingOwed new) where
  abbrev T : Result (Work jobs.Job) Refused → Type 0
  T r = station.Takes (λ j. j) old.history new.history (rest_of old) (rest_of new) old.out new.out r

  unit_taken : (u : UnitKind) → old.out ≡ [] → (key : Option Key) → key_of u ≡ key → (r : Result (Work jobs.Job) Refused) → Takes old new u key r → T r
  unit_taken u alone (Some key) k (Ok (work.Job j)) h = (
    record { same = ap (λ s. s.history) h.1; stays = no_more (rest_of old) (rest_of new) (ap rest_of h.1) },
    ap (has_ticket j.ticket) alone,
    ap (λ s. s.out) h.1 ∙ ap (λ v. old.out ++ (j.ticket, v) ∷ []) (sym h.0.unit),
  )
  unit_taken u alone (Some key) k (Ok (work.Ended place)) h = absurd h
  unit_taken u alone (Some key) k (Ok work.Wait) h = absurd h
  unit_taken u alone (Some key) k (Ok (work.Limit n)) h = absurd h
  unit_taken u alone (Some key) k (Ok work.Done) h = absurd h
  unit_taken u alone None k (Ok (work.Job j)) h = absurd h
  unit_taken u alone None k (Ok (work.Ended place)) h = (
    record { one = (ended_at_once u old, ap (λ s. s.history) h.0); falls = rest_falls old new u k kept none h.0 },
    h.1,
    ap (λ s. s.out) h.0,
  )
  unit_taken u alone None k (Ok work.Wait) h = absurd h
  unit_taken u alone None k (Ok (work.Limit n)) h = absurd h
  unit_taken u alone None k (Ok work.Done) h = absurd h
  unit_taken u alone (Some key) k (Err x) h = (none_put old new h, ap (λ s. s.out) h)
  unit_taken u alone None k (Err x) h = (none_put old new h, ap (λ s. s.out) h)

  pub taken : (o : Offer) → offer_alone old old.out ≡ o → (r : Result (Work jobs.Job) Refused) → TakesOffer old new o r → T r
  taken (regions.work u) is r h = unit_taken u (alone_at_work old old.out u is) (key_of u) refl r h
  taken wait is r h = subst T (sym h.0) (none_put old new h.1, (λ alone. not_waiting old alone (sym (ap (offer_alone old) alone) ∙ is)), ap (λ s. s.out) h.1)
  taken (limit_met n) is r h = subst T (sym h.0) (none_put old new h.1, ap (λ s. s.out) h.1)
  taken all_done is r h = subst T (sym h.0) (none_put old new h.1, ap (λ s. s.out) h.1)

  -- ---- what holds on

  module _ (P : RegionState → Type 0) (p : P old)
      (gone : (u : UnitKind) (ticket : ℕ) → offer_alone old old.out ≡ regions.work u → new ≡ with_out (old.out ++ (ticket, u) ∷ []) old → P new)
      (done : (u : UnitKind) → offer_alone old old.out ≡ regions.work u → key_of u ≡ None → new ≡ with_moment (ended_at_once u old).moment (with_ended (ended_at_once u old) old) → P new) where
    unit_holds : (u : UnitKind) → offer_alone old old.out ≡ regions.work u → (key : Option Key) → key_of u ≡ key → (r : Result (Work jobs.Job) Refused) → Takes old new u key r → P new
    unit_holds u is (Some key) k (Ok (work.Job j)) h = gone u j.ticket is h.1
    unit_holds u is (Some key) k (Ok (work.Ended place)) h = absurd h
    unit_holds u is (Some key) k (Ok work.Wait) h = absurd h
    unit_holds u is (Some key) k (Ok (work.Limit n)) h = absurd h
    unit_holds u is (Some key) k (Ok work.Done) h = absurd h
    unit_holds u is None k (Ok (work.Job j)) h = absurd h
    unit_holds u is None k (Ok (work.Ended place)) h = done u is k h.0
    unit_holds u is None k (Ok work.Wait) h = absurd h
    unit_holds u is None k (Ok (work.Limit n)) h = absurd h
    unit_holds u is None k (Ok work.Done) h = absurd h
    unit_holds u is (Some key) k (Err x) h = subst P (sym h) p
    unit_holds u is None k (Err x) h = subst P (sym h) p

    holds_on : (o : Offer) → offer_alone old old.out ≡ o → (r : Result (Work jobs.Job) Refused) → TakesOffer old new o r → P new
    holds_on (regions.work u) is r h = unit_holds u is (key_of u) refl r h
    holds_on wait is r h = subst P (sym h.1) p
    holds_on (limit_met n) is r h = subst P (sym h.1) p
    holds_on all_done is r h = subst P (sym h.1) p

  pub taken_within : (r : Result (Work jobs.Job) Refused) → TakesOffer old new (offer_alone old old.out) r → (b : ℕ) → IsRegionWithin b old → IsRegionWithin b new
  taken_within r h b w =
      holds_on (IsRegionWithin b) w (λ u t is same. subst (IsRegionWithin b) (sym same) w) (λ u is keyless same. ended_within old new u keyless kept none same b w) (offer_alone old old.out) refl r h

  pub taken_in_order : (r : Result (Work jobs.Job) Refused) → TakesOffer old new (offer_alone old old.out) r → old.out ≡ [] → IsRegionInOrder old → IsRegionInOrder new
  taken_in_order r h alone o =
      holds_on IsRegionInOrder o
      (λ u t is same.
      let s : RegionState = with_out (old.out ++ (t, u) ∷ []) old in
      let all : IsRegionInOrder s = record {
        history = o.history;
        moment = o.moment;
        out = subst (λ (out : List Out). IsLeastOut s (map (λ x. x.1) (out ++ (t, u) ∷ []))) (sym alone) (refl, least_on_offer old alone u (sym (ap (offer_alone old) alone) ∙ is));
      } in
      subst IsRegionInOrder (sym same) all)
      (λ u is keyless same. ended_in_order old new u keyless kept none same alone (least_on_offer old alone u (sym (ap (offer_alone old) alone) ∙ is)) o) (offer_alone old old.out) refl r h
