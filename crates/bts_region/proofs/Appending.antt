-- A history with one unit more.
use Rattle.std.proofs.Common.{◌≡◌, ◌≤◌, ℕ, ◌+◌, Bool, true, false, ◌&&◌, ◌||◌, nat_eq, nat_le, nat_lt, List, [], ◌∷◌, ◌++◌, max, Some, refl, ap, ◌∙◌, arith}
use Rattle.std.specs.List.{AllByRecursion, cons_option, count_by, list_all}
use Rattle.std.proofs.Math.Nat.{zero-add}
use Rattle.std.proofs.lemmas.Bool.{le-leb}
use Rattle.std.proofs.lemmas.Bool.Decides.{nat_tests}
use Rattle.std.proofs.lemmas.List.Elements.{filter_map-append}
use Rattle.std.proofs.lemmas.List.Sums.{sum_by-append}
use Rattle.bts_command.specs.declared.ended.Ended.{Ended}
use Rattle.bts_interp.specs.Items.{item_done, item_of}
use Rattle.bts_region.specs.Enabled.{least}
use Rattle.bts_region.specs.Histories.{IsClocked, IsLegal, IsNext, IsWithin, last_clock}
use Rattle.bts_region.specs.Items.{clock_in, items_of}
use Rattle.bts_region.specs.Keeps.{AreFirst}
use Rattle.bts_command.specs.Kinds.{is_activation}
use Rattle.bts_region.specs.Positions.{Position, behind, behind_all, with_item}
use Rattle.bts_region.specs.Regions.{is_once_at_most}
use Rattle.bts_region.specs.Serial.{IsLeast, activations_in}
use Rattle.bts_region.proofs.Counts.{one_if}
use Rattle.bts_region.proofs.EachOnce.{once_at_most}
use Rattle.bts_session.specs.declared.session.Session.{Session}

-- ---- where it has come to

pub behind_more : (h : List Ended) (at : Position) (e : Ended) → behind_all at (h ++ e ∷ []) ≡ behind (behind_all at h) e
behind_more [] at e = refl
behind_more (x ∷ h) at e = behind_more h (behind at x) e

-- ---- what holds of each unit where it stands

module _ (session : Session) where
  pub legal_more : (h : List Ended) (at : Position) (e : Ended) → IsLegal session at h → IsNext session (behind_all at h) e → IsLegal session at (h ++ e ∷ [])
  legal_more [] at e l n = (n, tt)
  legal_more (x ∷ h) at e l n = (l.0, legal_more h (behind at x) e l.1 n)

  pub clocked_more : (h : List Ended) (at : Position) (e : Ended) → IsClocked session at h
      → e.moment ≡ max (behind_all at h).moment (clock_in (item_done session e.unit)) → IsClocked session at (h ++ e ∷ [])
  clocked_more [] at e c n = (n, tt)
  clocked_more (x ∷ h) at e c n = (c.0, clocked_more h (behind at x) e c.1 n)

  pub least_more : (h : List Ended) (at : Position) (e : Ended) → IsLeast session at h → least session (behind_all at h) ≡ Some e.unit → IsLeast session at (h ++ e ∷ [])
  least_more [] at e l n = (n, tt)
  least_more (x ∷ h) at e l n = (l.0, least_more h (behind at x) e l.1 n)

  pub within_more : (latest : ℕ) (at : Position) (h : List Ended) (e : Ended) → IsWithin latest session at h
      → e.moment ≤ max latest (max at.moment (last_clock session)) → IsWithin latest session at (h ++ e ∷ [])
  within_more latest at h e w n = by (max latest (max at.moment (last_clock session))) h w n
    where
      by : (b : ℕ) (xs : List Ended) → AllByRecursion (λ x. x.moment ≤ b) xs → e.moment ≤ b → AllByRecursion (λ x. x.moment ≤ b) (xs ++ e ∷ [])
      by b [] w n = (n, tt)
      by b (x ∷ xs) w n = (w.0, by b xs w.1 n)

-- ---- counts

pub activations_more : (h : List Ended) (e : Ended) → activations_in (h ++ e ∷ []) ≡ activations_in h + one_if (is_activation e.unit)
activations_more h e = sum_by-append (λ x. one_if (is_activation x.unit)) h (e ∷ []) ∙ ap (λ n. activations_in h + n) (zero-add (one_if (is_activation e.unit)))

pub items_more : (h : List Ended) (e : Ended) → items_of (h ++ e ∷ []) ≡ items_of h ++ cons_option (item_of e.unit) []
items_more h e = filter_map-append (λ x. item_of x.unit) h (e ∷ [])

-- ---- the items that have ended

-- in a legal history each stands once
pub items_stand_once : (session : Session) (at : Position) (h : List Ended) → IsLegal session at h → list_all (is_once_at_most (items_of h)) (items_of h) ≡ true
items_stand_once session at h l = each (items_of h)
  where
    both : (a b : Bool) → a ≡ true → b ≡ true → a && b ≡ true
    both true b p q = q
    both false b p q = cc

    each : (ns : List ℕ) → list_all (is_once_at_most (items_of h)) ns ≡ true
    each [] = refl
    each (n ∷ ns) = both _ _ (le-leb (count_by (nat_eq n) (items_of h)) 1 (once_at_most session at h n l)) (each ns)

next_number : (n count : ℕ) → nat_eq n (count + 1) || (nat_lt 0 n && nat_le n count) ≡ nat_lt 0 n && nat_le n (count + 1)
next_number n count = grind (arith, nat_tests)

-- the first ones, and the next
pub first_more : (count : ℕ) (ended : List ℕ) → AreFirst count ended → AreFirst (count + 1) (with_item (Some (count + 1)) ended)
first_more count ended first n = ap (λ b. nat_eq n (count + 1) || b) (first n) ∙ next_number n count
