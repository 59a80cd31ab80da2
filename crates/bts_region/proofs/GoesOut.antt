-- A unit that is on offer can be run, and what a region keeps where it goes out.
use Rattle.std.proofs.Common.{is_eq, ◌≡◌, ◌≤◌, ◌+◌, true, ◌&&◌, nat_eq, List, [], ◌∷◌, Some, refl, sym, ap, ◌∙◌, arith}
use Rattle.std.proofs.lemmas.Bool.{and_from, eq-eqb}
use Rattle.std.specs.List.{list_any}
use Rattle.bts_command.specs.declared.ended.UnitKind.{UnitKind}
use Rattle.bts_command.specs.declared.ended.UnitKind.TheVariants as unit
use Rattle.bts_names.specs.declared.key.Key.{Key}
use Rattle.bts_names.specs.Names.{ActivityPath}
use Rattle.bts_interp.specs.Items.{item_at, numbered, texts_of}
use Rattle.bts_interp.specs.Names.{Named}
use Rattle.bts_interp.specs.Ready.{IsRunnable}
use Rattle.bts_region.proofs.Counts.{one_if}
use Rattle.bts_region.proofs.Finds.{is_quiet, offers_next, place}
use Rattle.bts_region.proofs.FirstReady.{first_is_ready, itself}
use Rattle.bts_region.proofs.NextWork.{IsNextWork}
use Rattle.bts_region.proofs.Numbered.{any_where, item_there, numbered_at}
use Rattle.bts_region.proofs.Runnable.{out_runnable}
use Rattle.bts_region.proofs.Works.{turn_is_next}
use Rattle.bts_region.specs.Enabled.{is_enabled, is_item_enabled}
use Rattle.bts_region.specs.Items.{is_for}
use Rattle.bts_region.specs.Keeps.{IsNextOut, Keeps, state_of}
use Rattle.bts_command.specs.Kinds.{is_activation, key_of}
use Rattle.bts_region.specs.Positions.{Position}
use Rattle.bts_region.specs.Regions.{offer, work}
use Rattle.bts_region.specs.declared.region.Region.TheInside.{Inside}
use Rattle.bts_session.specs.declared.session.Item.TheVariants as item
use Rattle.bts_tree.specs.Repositories.{Place, Processes, is_ready_at, process_at, ready_in}

module _ {N : Type 0} (name : Named) (r : Inside N) (keeps : Keeps name r) (alone : (state_of name r).out ≡ []) (u : UnitKind) (offered : offer (state_of name r) ≡ work u) where
  abbrev at : Position
  at = place name r keeps

  abbrev repo : Processes
  repo = r.repository.processes

  abbrev IsNext : UnitKind → Type 0
  IsNext = IsNextWork r.session.value at r.items_ended (is_quiet name r keeps) r.activations r.limit

  next : IsNext u
  next = offers_next name r keeps alone u offered

  ready_here : (key : Key) (path : ActivityPath) (ps : List Place) → ready_in at.processes ≡ (key, path) ∷ ps → is_ready_at key path repo ≡ true
  ready_here key path ps e = first_is_ready repo keeps.sound (key, path) ps (ap ready_in keeps.processes ∙ e)

  enabled_now : (v : UnitKind) (key : Key) → key_of v ≡ Some key → IsNext v → is_enabled r.session.value r.moment at.processes at.ended v ≡ true
  enabled_now (unit.Request n k) key e x =
      ap (λ m. list_any (λ z. nat_eq z.0 m && is_item_enabled r.session.value r.moment at.processes at.ended z) (numbered r.session.value)) x.0
      ∙ any_where (λ z. nat_eq z.0 (r.items_ended + 1) && is_item_enabled r.session.value r.moment at.processes at.ended z) (numbered r.session.value) r.items_ended (r.items_ended + 1, item.Request k x.1)
      (numbered_at r.session.value r.items_ended (item.Request k x.1) x.2)
      (and_from _ _ (eq-eqb (r.items_ended + 1) (r.items_ended + 1) refl) (and_from _ _ (turn_is_next r.session.value at.ended r.items_ended keeps.items (item.Request k x.1)) refl))
  enabled_now (unit.Activation k path) key e x = ap (is_ready_at k path) (sym keeps.processes) ∙ ready_here k path x.1 x.2
  enabled_now (unit.Notice k path) key e x = absurd x
  enabled_now (unit.Expiry k path timer) key e x = absurd x
  enabled_now (unit.Clock n) key e x = absurd x
  enabled_now (unit.Settle n) key e x = cc
  enabled_now (unit.Browse n) key e x = absurd x

  next_out : (v : UnitKind) (key : Key) → key_of v ≡ Some key → IsNext v → IsNextOut r.session.value r.items_ended (Some v)
  next_out (unit.Request n k) key e x =
      let there : item_at r.session.value n ≡ Some (item.Request k x.1) = ap (item_at r.session.value) x.0 ∙ item_there r.session.value r.items_ended (item.Request k x.1) x.2 in
      (x.0, ap (λ o. is_for o (unit.Request n k)) there ∙ ap is_eq (itself k))
  next_out (unit.Activation k path) key e x = tt
  next_out (unit.Notice k path) key e x = absurd x
  next_out (unit.Expiry k path timer) key e x = absurd x
  next_out (unit.Clock n) key e x = absurd x
  next_out (unit.Settle n) key e x = cc
  next_out (unit.Browse n) key e x = absurd x

  made_within : r.activations ≤ r.limit
  made_within = let made = keeps.activations in let limited = keeps.limited in omega (arith, made, limited)

  -- an activation that goes out is one of those that the limit allows
  below_limit : (v : UnitKind) → IsNext v → r.activations + one_if (is_activation v) ≤ r.limit
  below_limit (unit.Activation k path) x = let l = x.0 in omega (arith, l)
  below_limit (unit.Request n k) x = let l = made_within in omega (arith, l)
  below_limit (unit.Notice k path) x = absurd x
  below_limit (unit.Expiry k path timer) x = absurd x
  below_limit (unit.Clock n) x = absurd x
  below_limit (unit.Settle n) x = let l = made_within in omega (arith, l)
  below_limit (unit.Browse n) x = absurd x

  pub still_keeps : (key : Key) → key_of u ≡ Some key → let s : Inside N = record r { out = Some u } in Keeps name s
  still_keeps key e = record {
    session = keeps.session;
    limit = keeps.limit;
    kept = record { legal = keeps.kept.legal; items = keeps.kept.items; later = keeps.kept.later; enabled = (enabled_now u key e next, tt); apart = refl };
    processes = keeps.processes;
    units = keeps.units;
    items = keeps.items;
    few_items = keeps.few_items;
    activations = keeps.activations;
    limited = let made = keeps.activations in let l = below_limit u next in omega (arith, made, l);
    few_units = keeps.few_units;
    next_out = next_out u key e next;
    sound = keeps.sound;
    within = keeps.within;
    lone = keeps.lone;
    awake = keeps.awake;
    may_open = keeps.may_open;
    today = keeps.today;
    small = keeps.small;
  }

  pub can_be_run : (key : Key) → key_of u ≡ Some key → IsRunnable u (process_at key repo) (texts_of r.session.value u)
  can_be_run key e = let s : Inside N = record r { out = Some u } in out_runnable name s (still_keeps key e) u key refl e
