-- What a region keeps at its beginning.
use Rattle.std.proofs.Common.{◌≡◌, ◌≤◌, ℕ, true, [], None, refl, sym, ap, ◌∙◌, subst, arith}
use Rattle.std.proofs.lemmas.Bool.Decides.{nat_tests}
use Rattle.std.specs.List.{list_all}
use Rattle.bts_interp.specs.Names.{Named}
use Rattle.bts_region.specs.Answers.{begun}
use Rattle.bts_region.specs.Awake.{AreAwake}
use Rattle.bts_region.specs.Keeps.{AreFirst, IsNextOut, Keeps, out_of, state_of}
use Rattle.bts_region.specs.Owed.{owed}
use Rattle.bts_region.specs.Positions.{opened_at}
use Rattle.bts_region.specs.Regions.{IsKept, activations_of, position_of}
use Rattle.bts_region.specs.Serial.{activations_in}
use Rattle.bts_region.specs.Today.{IsOfToday, IsSmall, MayOpen}
use Rattle.bts_region.specs.declared.region.Region.TheInside.{Inside}
use Rattle.bts_rows.specs.Bounds.{is_lone}
use Rattle.bts_container.specs.declared.format.Format.TheVariants as format
use Rattle.bts_tree.specs.Repositories.{Stored, nothing_stored}
use Rattle.bts_tree.specs.Soundness.{AreSound, bound_of_units}
use Rattle.bts_tree.proofs.New.{nothing_is_sound}

-- nothing ended yet, and the fields are those of the opening
pub record Begins {N : Type 0} (name : Named) (s : Inside N) : Type 0 where
  pub session : s.session.value ≡ name.session
  pub limit : s.limit ≡ name.limit
  pub moment : s.moment ≡ name.opening.moment
  pub history : s.history.items ≡ []
  pub out : s.out ≡ None
  pub processes : s.repository.processes ≡ name.opening.repo.processes
  pub awake : AreAwake s.repository
  pub units : s.units ≡ name.opening.units
  pub items : s.items_ended ≡ 0
  pub activations : s.activations ≡ 0

none_first : AreFirst 0 []
none_first n = grind (arith, nat_tests)

module _ {N : Type 0} (name : Named) (s : Inside N) (b : Begins name s) where
  pub is_begun : begun name ≡ state_of name s
  is_begun = λ i. record { session = sym b.session i; limit = sym b.limit i; opening = opened_at name.opening; moment = sym b.moment i; history = sym b.history i; out = out_of (sym b.out i) }

  first_kept : IsKept (begun name)
  first_kept = record { legal = tt; items = refl; later = omega arith; enabled = tt; apart = refl }

  pub keeps_first : MayOpen name.opening → IsOfToday name.session → IsSmall name.session name.limit → Keeps name s
  keeps_first may today small = record {
    session = b.session;
    limit = b.limit;
    kept = subst IsKept is_begun first_kept;
    processes = b.processes ∙ ap (λ z. (position_of z).processes) is_begun;
    units = b.units ∙ ap (λ z. (position_of z).units) is_begun;
    items = subst (λ z. AreFirst s.items_ended (position_of z).ended) is_begun (subst (λ n. AreFirst n []) (sym b.items) none_first);
    few_items = let e = b.items in omega (arith, e);
    activations = b.activations ∙ ap activations_in (sym b.history);
    limited = subst (λ z. activations_of z ≤ z.limit) is_begun (omega arith);
    few_units = let e = b.units in let f = ap owed b.processes in omega (arith, e, f);
    next_out = subst (IsNextOut s.session.value s.items_ended) (sym b.out) tt;
    sound = subst AreSound (sym b.processes) may.sound;
    within = subst (λ n. bound_of_units n s.repository.processes ≡ true) (sym b.units) (subst (λ repo. bound_of_units name.opening.units repo ≡ true) (sym b.processes) may.bound);
    lone = subst (λ repo. list_all is_lone repo.items ≡ true) (sym b.processes) may.lone;
    awake = b.awake;
    may_open = may;
    today = subst IsOfToday (sym b.session) today;
    small = subst (λ x. IsSmall x s.limit) (sym b.session) (subst (IsSmall name.session) (sym b.limit) small);
  }

-- what has no process and no unit can be gone on from
pub opens_nowhere : (repo : Stored) (moment : ℕ) → repo ≡ nothing_stored → MayOpen (record { repo = repo; units = 0; moment = moment })
opens_nowhere repo moment e = record {
  sound = subst (λ (r : Stored). AreSound r.processes) (sym e) (nothing_is_sound format.One);
  lone = subst (λ (r : Stored). list_all is_lone r.processes.items ≡ true) (sym e) refl;
  bound = subst (λ (r : Stored). bound_of_units 0 r.processes ≡ true) (sym e) refl;
  few = omega arith;
}
