-- A unit that holds a process of a region, and may begin on it, can be run.
use Rattle.std.proofs.Common.{◌≡◌, ◌≤◌, ◌*◌, ◌^◌, ℕ, true, List, map, Option, Some, refl, sym, subst, arith}
use Rattle.std.specs.List.{AllByRecursion}
use Rattle.bts_command.specs.declared.ended.UnitKind.{UnitKind}
use Rattle.bts_command.specs.declared.ended.UnitKind.TheVariants as unit
use Rattle.bts_interp.specs.Items.{block_in, item_of, texts_of}
use Rattle.bts_interp.specs.Names.{Named}
use Rattle.bts_interp.specs.Ready.{AreExecutable, IsExecutable, IsRunnable, MayBeExecuted}
use Rattle.bts_interp.specs.Stations.{Out}
use Rattle.bts_interp.proofs.Leads.{block_all}
use Rattle.bts_names.specs.declared.key.Key.{Key}
use Rattle.bts_region.specs.Enabled.{is_enabled}
use Rattle.bts_region.proofs.Owing.{nothing_owed}
use Rattle.bts_region.specs.Keeps.{IsNextOut, Keeps, out_of, state_of}
use Rattle.bts_command.specs.Kinds.{key_of}
use Rattle.bts_region.specs.Regions.{position_of}
use Rattle.bts_region.specs.Today.{IsOfToday, MayBeDone}
use Rattle.bts_region.specs.declared.region.Region.TheInside.{Inside}
use Rattle.bts_rows.proofs.Bounds.{within_more}
use Rattle.bts_rows.proofs.Repositories.{sound_at, within_at}
use Rattle.bts_session.specs.declared.session.Item.{Item}
use Rattle.bts_session.specs.declared.session.Item.TheVariants as item
use Rattle.bts_session.specs.declared.session.Session.{Session}
use Rattle.bts_tree.specs.Repositories.{Processes, process_at}
use Rattle.bts_unit.specs.OneFrame.{may_begin}

-- ---- the texts of a session of today

executable_block : (i : Item) → MayBeDone i → IsExecutable (block_in (Some i))
executable_block (item.Request key script) m = m
executable_block (item.Clock moment) m = tt
executable_block item.Settle m = tt
executable_block (item.Browse criteria) m = tt

pub texts_executable : (session : Session) (u : UnitKind) → IsOfToday session → AreExecutable (texts_of session u)
texts_executable session u t = record { programs = t.programs; block = block_all MayBeDone MayBeExecuted executable_block session (item_of u) t.items }

-- ---- what is out may begin

same_key_in : (a b : Key) → Some a ≡ Some b → a ≡ b
same_key_in a b e = cc

pub out_begins : (session : Session) (count : ℕ) (now : ℕ) (repo : Processes) (ended : List ℕ) (u : UnitKind) (key : Key)
    → IsNextOut session count (Some u) → is_enabled session now repo ended u ≡ true → key_of u ≡ Some key → may_begin u (process_at key repo) ≡ true
out_begins session count now repo ended (unit.Request n k) key o e h = refl
out_begins session count now repo ended (unit.Activation k path) key o e h = subst (λ z. may_begin (unit.Activation k path) (process_at z repo) ≡ true) (same_key_in k key h) e
out_begins session count now repo ended (unit.Notice k path) key o e h = absurd o
out_begins session count now repo ended (unit.Expiry k path timer) key o e h = absurd o
out_begins session count now repo ended (unit.Clock n) key o e h = absurd o
out_begins session count now repo ended (unit.Settle n) key o e h = absurd o
out_begins session count now repo ended (unit.Browse n) key o e h = absurd o

-- ---- in a region

module _ {N : Type 0} (name : Named) (r : Inside N) (k : Keeps name r) where
  pub far_from_last : 512 * r.units ≤ 2 ^ 62
  far_from_last =
      let a = k.few_units in
      let b = k.few_items in
      let c = k.activations in
      let d = k.limited in
      let e = k.small.units in
      let few = k.may_open.few in
      let none = nothing_owed name.opening.repo.processes k.may_open.sound k.may_open.lone in omega (arith, a, b, c, d, e, few, none)

  pub runnable : (u : UnitKind) (key : Key) → may_begin u (process_at key r.repository.processes) ≡ true → IsRunnable u (process_at key r.repository.processes) (texts_of r.session.value u)
  runnable u key begins = record {
    sound = sound_at key r.repository.processes k.sound;
    begins = begins;
    bounded =
        let far = far_from_last in
        within_more r.units (512 * r.units) (2 ^ 62) (2 ^ 62) (process_at key r.repository.processes) (within_at r.units (512 * r.units) key r.repository.processes k.within) (omega (arith, far)) far;
    texts = texts_executable r.session.value u k.today;
  }

  -- ---- the unit that is out

  pub out_enabled : (u : UnitKind) → r.out ≡ Some u → is_enabled r.session.value r.moment (position_of (state_of name r)).processes (position_of (state_of name r)).ended u ≡ true
  out_enabled u o =
      let Enabled : Option UnitKind → Type 0 = λ x. AllByRecursion (λ v. is_enabled r.session.value r.moment (position_of (state_of name r)).processes (position_of (state_of name r)).ended v ≡ true) (map (λ (z : Out). z.1) (out_of x)) in
      (subst Enabled o k.kept.enabled).0

  pub out_next : (u : UnitKind) → r.out ≡ Some u → IsNextOut r.session.value r.items_ended (Some u)
  out_next u o = subst (IsNextOut r.session.value r.items_ended) o k.next_out

  pub out_runnable : (u : UnitKind) (key : Key) → r.out ≡ Some u → key_of u ≡ Some key → IsRunnable u (process_at key r.repository.processes) (texts_of r.session.value u)
  out_runnable u key o h =
      runnable u key
      (subst (λ repo. may_begin u (process_at key repo) ≡ true) (sym k.processes)
      (out_begins r.session.value r.items_ended r.moment (position_of (state_of name r)).processes (position_of (state_of name r)).ended u key (out_next u o) (out_enabled u o) h))
