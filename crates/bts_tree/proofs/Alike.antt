-- When two activities, and what is left of two trees, are the same.
use Rattle.std.proofs.Common.{◌≡◌, ◌↔◌, Bool, true, false, ◌&&◌, List, ◌∷◌, IsTrue, refl, ap, sym, ◌∙◌}
use mathlib.Core.Bool.{beq}
use Rattle.std.specs.Bool.{Decides}
use Rattle.std.specs.Cmp.{booleans_Decides}
use Rattle.std.specs.Option.{option_eq}
use Rattle.std.specs.Prelude.{Option, Some, None, nat_eq}
use Rattle.std.proofs.lemmas.Bool.Decides.{Decides-eqb, Decides-and, Decides-like}
use Rattle.bts_names.proofs.Sameness.{same_where_equal}
use Rattle.bts_names.specs.Names.{Name, same, same_exact}
use Rattle.bts_names.specs.declared.state.Mode.{Mode}
use Rattle.bts_names.specs.declared.state.Mode.TheVariants as mode
use Rattle.bts_names.specs.declared.state.Status.{Status}
use Rattle.bts_names.specs.declared.state.Status.TheVariants as status
use Rattle.bts_names.specs.contracts.state.ModePartialEq.TheImpl as mode_eq
use Rattle.bts_names.specs.contracts.state.StatusPartialEq.TheImpl as status_eq
use Rattle.bts_tree.specs.Fields.{AreNamedAlike, HaveOneState, HaveSamePools}
use Rattle.bts_tree.specs.declared.activity.Activity.{Activity}

-- ---- the fields of an activity

pub name_or_none-Decides : (a b : Option Name) → Decides (option_eq same a b) (a ≡ b)
name_or_none-Decides None None = (λ h. refl, λ h. refl)
name_or_none-Decides None (Some b) = (λ h. cc, λ h. cc)
name_or_none-Decides (Some a) None = (λ h. cc, λ h. cc)
name_or_none-Decides (Some a) (Some b) = Decides-like _ (λ e. ap Some e) (λ e. cc) (same_where_equal a b)

pub mode-Decides : (a b : Mode) → Decides (mode_eq.ghosts.eq a b) (a ≡ b)
mode-Decides mode.Initial mode.Initial = (λ h. refl, λ h. refl)
mode-Decides mode.Initial mode.Active = (λ h. cc, λ h. cc)
mode-Decides mode.Initial mode.Dormant = (λ h. cc, λ h. cc)
mode-Decides mode.Initial mode.Complete = (λ h. cc, λ h. cc)
mode-Decides mode.Active mode.Initial = (λ h. cc, λ h. cc)
mode-Decides mode.Active mode.Active = (λ h. refl, λ h. refl)
mode-Decides mode.Active mode.Dormant = (λ h. cc, λ h. cc)
mode-Decides mode.Active mode.Complete = (λ h. cc, λ h. cc)
mode-Decides mode.Dormant mode.Initial = (λ h. cc, λ h. cc)
mode-Decides mode.Dormant mode.Active = (λ h. cc, λ h. cc)
mode-Decides mode.Dormant mode.Dormant = (λ h. refl, λ h. refl)
mode-Decides mode.Dormant mode.Complete = (λ h. cc, λ h. cc)
mode-Decides mode.Complete mode.Initial = (λ h. cc, λ h. cc)
mode-Decides mode.Complete mode.Active = (λ h. cc, λ h. cc)
mode-Decides mode.Complete mode.Dormant = (λ h. cc, λ h. cc)
mode-Decides mode.Complete mode.Complete = (λ h. refl, λ h. refl)

pub status-Decides : (a b : Status) → Decides (status_eq.ghosts.eq a b) (a ≡ b)
status-Decides status.Incomplete status.Incomplete = (λ h. refl, λ h. refl)
status-Decides status.Incomplete status.Normal = (λ h. cc, λ h. cc)
status-Decides status.Incomplete status.Abend = (λ h. cc, λ h. cc)
status-Decides status.Incomplete status.Forced = (λ h. cc, λ h. cc)
status-Decides status.Normal status.Incomplete = (λ h. cc, λ h. cc)
status-Decides status.Normal status.Normal = (λ h. refl, λ h. refl)
status-Decides status.Normal status.Abend = (λ h. cc, λ h. cc)
status-Decides status.Normal status.Forced = (λ h. cc, λ h. cc)
status-Decides status.Abend status.Incomplete = (λ h. cc, λ h. cc)
status-Decides status.Abend status.Normal = (λ h. cc, λ h. cc)
status-Decides status.Abend status.Abend = (λ h. refl, λ h. refl)
status-Decides status.Abend status.Forced = (λ h. cc, λ h. cc)
status-Decides status.Forced status.Incomplete = (λ h. cc, λ h. cc)
status-Decides status.Forced status.Normal = (λ h. cc, λ h. cc)
status-Decides status.Forced status.Abend = (λ h. cc, λ h. cc)
status-Decides status.Forced status.Forced = (λ h. refl, λ h. refl)

pub names-Decides : (a b : Activity) → Decides (((same a.name b.name && same a.transid b.transid) && same a.program b.program) && option_eq same a.completion b.completion) (AreNamedAlike a b)
names-Decides a b =
    Decides-like _ (λ h. (h.0.0.0, h.0.0.1, h.0.1, h.1)) (λ h. (((h.0, h.1), h.2), h.3))
    (Decides-and _ _ (Decides-and _ _ (Decides-and _ _ (same_where_equal a.name b.name) (same_where_equal a.transid b.transid)) (same_where_equal a.program b.program)) (name_or_none-Decides a.completion b.completion))

pub state-Decides : (a b : Activity)
    → Decides (((((mode_eq.ghosts.eq a.mode b.mode && status_eq.ghosts.eq a.status b.status) && option_eq same a.code b.code) && beq a.suspended b.suspended) && beq a.told b.told) && nat_eq a.made b.made) (HaveOneState a b)
state-Decides a b =
    Decides-like _ (λ h. (h.0.0.0.0.0, h.0.0.0.0.1, h.0.0.0.1, h.0.0.1, h.0.1, h.1)) (λ h. (((((h.0, h.1), h.2), h.3), h.4), h.5))
    (Decides-and _ _
    (Decides-and _ _
    (Decides-and _ _ (Decides-and _ _ (Decides-and _ _ (mode-Decides a.mode b.mode) (status-Decides a.status b.status)) (name_or_none-Decides a.code b.code)) (booleans_Decides a.suspended b.suspended))
    (booleans_Decides a.told b.told)) (Decides-eqb a.made b.made))

-- ---- groups of fields

-- a test that fails where what it tests follows
pub fails_where : {P Q : Type 0} (r : Bool) → IsTrue r ↔ P → r ≡ false → (Q → P) → IsTrue false ↔ Q
fails_where r i f q = (λ h. cc, λ h. cc (i.1 (q h), f))

-- activities whose fields are the same are the same
same_from_fields : (a b : Activity) → AreNamedAlike a b → HaveOneState a b → HaveSamePools a b → a ≡ b
same_from_fields a b n s p = λ i. record {
  name = n.0 i;
  transid = n.1 i;
  program = n.2 i;
  completion = n.3 i;
  mode = s.0 i;
  status = s.1 i;
  code = s.2 i;
  suspended = s.3 i;
  told = s.4 i;
  pool = p.0 i;
  timers = p.1 i;
  containers = p.2 i;
  made = s.5 i;
}

module _ (a b : Activity) (e : a ≡ b) where
  pub names_from_same : AreNamedAlike a b
  names_from_same = (ap (λ (x : Activity). x.name) e, ap (λ (x : Activity). x.transid) e, ap (λ (x : Activity). x.program) e, ap (λ (x : Activity). x.completion) e)

  pub state_from_same : HaveOneState a b
  state_from_same = (ap (λ (x : Activity). x.mode) e, ap (λ (x : Activity). x.status) e, ap (λ (x : Activity). x.code) e, ap (λ (x : Activity). x.suspended) e, ap (λ (x : Activity). x.told) e, ap (λ (x : Activity). x.made) e)

  pub pools_from_same : HaveSamePools a b
  pools_from_same = (ap (λ (x : Activity). x.pool) e, ap (λ (x : Activity). x.timers) e, ap (λ (x : Activity). x.containers) e)

pub same_by_pools : (a b : Activity) (r : Bool) → AreNamedAlike a b → HaveOneState a b → IsTrue r ↔ HaveSamePools a b → IsTrue r ↔ (a ≡ b)
same_by_pools a b r n s p = (λ h. same_from_fields a b n s (p.0 h), λ e. p.1 (pools_from_same a b e))

-- ---- what is left of two trees

module _ {X : Type 0} (all other left rest : List X) (x : X) (more : List X) (y : X) (others : List X) (so_far : (all ≡ other) ↔ (left ≡ rest)) (l : left ≡ x ∷ more) (r : rest ≡ y ∷ others) where
  -- what is first in both is the same, and what is left decides
  pub same_step : x ≡ y → (all ≡ other) ↔ (more ≡ others)
  same_step e = (λ h. let w : left ≡ rest = so_far.0 h in cc, λ h. so_far.1 (l ∙ (λ i. e i ∷ h i) ∙ sym r))

  -- or it isn't, and all differs
  pub heads_from_same : all ≡ other → x ≡ y
  heads_from_same h = let w : left ≡ rest = so_far.0 h in cc

-- entries are the same where their paths are, and a test says so of what stands there
pub entries_from_paths : {A : Type 0} (p q : Name) (r : Bool) → same p q ≡ true → IsTrue r ↔ A → IsTrue r ↔ ((p ≡ q) × A)
entries_from_paths p q r h i = (λ t. (same_exact p q h, i.0 t), λ e. i.1 e.1)

pub entries_differ : {A : Type 0} (p q : Name) → same p q ≡ false → IsTrue false ↔ ((p ≡ q) × A)
entries_differ p q h = (λ t. cc, λ e. let s : same p q ≡ true = (same_where_equal p q).1 e.0 in cc)
