-- When two units are the same, and the key of what stands under a key.
use Rattle.std.proofs.Common.{◌≡◌, ◌↔◌, Bool, true, false, not, ◌&&◌, ℕ, IsTrue, refl, sym, ap, ◌∙◌}
use Rattle.std.specs.Bool.{Decides}
use Rattle.std.proofs.lemmas.Bool.Decides.{Decides-and, Decides-eqb, Decides-like}
use Rattle.bts_command.specs.contracts.ended.UnitKindPartialEq.TheImpl as unit_eq
use Rattle.bts_command.specs.declared.ended.UnitKind.{UnitKind}
use Rattle.bts_command.specs.declared.ended.UnitKind.TheVariants as unit
use Rattle.bts_interp.specs.Jobs as jobs
use Rattle.bts_names.specs.declared.key.Key.{Key}
use Rattle.bts_names.specs.Names.{ActivityPath, same}
use Rattle.bts_names.proofs.Sameness.{keys_same_where_equal, same_where_equal}
use Rattle.bts_region.specs.Fitting.{IsOfDue}
use Rattle.bts_tree.specs.Repositories.{Processes, process_at}
use Rattle.bts_unit.proofs.Applied.{key_there}

pub not_not : {b : Bool} → not b ≡ false → b ≡ true
not_not {b} h = by b h
  where
    by : (b : Bool) → not b ≡ false → b ≡ true
    by true h = refl
    by false h = cc

-- ---- what stands under a key

pub fits_so : (j : jobs.Job) (u : UnitKind) (key : Key) (repo : Processes) (moment : ℕ) (r : Bool) → j.moment ≡ moment → j.unit ≡ u → j.base.key ≡ key
    → IsTrue r ↔ (process_at j.base.key repo ≡ j.base) → IsTrue r ↔ IsOfDue j (record { unit = u; base = process_at key repo; moment = moment })
fits_so j u key repo moment r m n k same = (
  λ h. record { unit = n; from = sym (same.0 h) ∙ ap (λ z. process_at z repo) k; at = m },
  λ h. same.1 (ap (λ z. process_at z repo) k ∙ sym h.from),
)

pub fits_not : (j : jobs.Job) (u : UnitKind) (key : Key) (repo : Processes) (moment : ℕ) → (j.base.key ≡ key → ⊥) → IsTrue false ↔ IsOfDue j (record { unit = u; base = process_at key repo; moment = moment })
fits_not j u key repo moment other = (λ h. cc, λ h. absurd (other (ap (λ s. s.key) h.from ∙ key_there key repo)))

-- ---- units

abbrev paths-Decides : (a b : ActivityPath) → Decides (same a b) (a ≡ b)
paths-Decides a b = same_where_equal a b

keys-Decides : (a b : Key) → Decides (same a.ptype b.ptype && same a.pname b.pname) (a ≡ b)
keys-Decides a b = keys_same_where_equal a b

pub units-Decides : (a b : UnitKind) → Decides (unit_eq.ghosts.eq a b) (a ≡ b)
units-Decides (unit.Request n k) (unit.Request m l) =
    Decides-like _ (λ h i. unit.Request (h.0 i) (h.1 i)) (λ e. (cc, cc)) (Decides-and _ _ (Decides-eqb n m) (keys-Decides k l))
units-Decides (unit.Activation k p) (unit.Activation l q) =
    Decides-like _ (λ h i. unit.Activation (h.0 i) (h.1 i)) (λ e. (cc, cc)) (Decides-and _ _ (keys-Decides k l) (paths-Decides p q))
units-Decides (unit.Notice k p) (unit.Notice l q) =
    Decides-like _ (λ h i. unit.Notice (h.0 i) (h.1 i)) (λ e. (cc, cc)) (Decides-and _ _ (keys-Decides k l) (paths-Decides p q))
units-Decides (unit.Expiry k p t) (unit.Expiry l q v) =
    Decides-like _ (λ h i. unit.Expiry (h.0 i) (h.1.0 i) (h.1.1 i)) (λ e. (cc, (cc, cc))) (Decides-and _ _ (keys-Decides k l) (Decides-and _ _ (paths-Decides p q) (paths-Decides t v)))
units-Decides (unit.Clock n) (unit.Clock m) = Decides-like _ (λ h i. unit.Clock (h i)) (λ e. cc) (Decides-eqb n m)
units-Decides (unit.Settle n) (unit.Settle m) = Decides-like _ (λ h i. unit.Settle (h i)) (λ e. cc) (Decides-eqb n m)
units-Decides (unit.Browse n) (unit.Browse m) = Decides-like _ (λ h i. unit.Browse (h i)) (λ e. cc) (Decides-eqb n m)
units-Decides a b = (λ h. cc, λ e. cc)
