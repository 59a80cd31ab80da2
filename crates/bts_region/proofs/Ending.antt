-- A unit ends with the result that fits.
use Rattle.std.proofs.Common.{◌≡◌, ◌≤◌, ◌*◌, ℕ, ◌+◌, Bool, true, false, not, cond, nat_eq, List, [], ◌∷◌, length, is_some, Option, None, Some, refl, sym, ap, ◌∙◌, subst, arith}
use Rattle.std.specs.List.{enumerate_from, find, list_all}
use Rattle.std.specs.Option.{option_map}
use Rattle.std.proofs.lemmas.Bool.{eqb-true}
use Rattle.bts_command.specs.declared.command.Call.{Call}
use Rattle.bts_command.specs.declared.ended.End.{End}
use Rattle.bts_command.specs.declared.ended.End.TheVariants.{Commit, Rollback, Abend}
use Rattle.bts_command.specs.declared.ended.Ended.{Ended}
use Rattle.bts_command.specs.declared.ended.UnitKind.{UnitKind}
use Rattle.bts_command.specs.declared.ended.UnitKind.TheVariants as unit
use Rattle.bts_interp.specs.Items.{Numbered, item_at, item_of}
use Rattle.bts_interp.specs.Jobs as jobs
use Rattle.bts_unit.specs.Calls.{unit_behind}
use Rattle.bts_names.specs.Names.{Name}
use Rattle.bts_names.specs.declared.key.Key.{Key}
use Rattle.bts_region.specs.AsStation.{is_counted}
use Rattle.bts_region.specs.Enabled.{is_enabled}
use Rattle.bts_region.specs.Fitting.{job_of}
use Rattle.bts_region.specs.Histories.{IsNext, number_behind}
use Rattle.bts_region.specs.Items.{clock_in, is_for, rows_in}
use Rattle.bts_region.specs.Keeps.{IsNextOut}
use Rattle.bts_command.specs.Kinds.{is_kept, is_rollback, key_of}
use Rattle.bts_region.specs.Positions.{Position}
use Rattle.bts_rows.specs.Bounds.{is_lone}
use Rattle.bts_rows.proofs.Bounds.{within_more}
use Rattle.bts_rows.proofs.Repositories.{put_all}
use Rattle.bts_session.specs.declared.session.Item.{Item}
use Rattle.bts_session.specs.declared.session.Item.TheVariants as item
use Rattle.bts_session.specs.declared.session.Session.{Session}
use Rattle.bts_tree.specs.Processes.{Process}
use Rattle.bts_tree.specs.Repositories.{Processes, process_at, put}
use Rattle.bts_tree.specs.Soundness.{bound_of_units, is_within}
use Rattle.bts_unit.proofs.Applied.{within_all}
use Rattle.bts_unit.specs.Frames.{OpenFrame, UnitOfWork}
use Rattle.bts_unit.specs.Ends.{abended_whole}
use Rattle.bts_unit.specs.Playing.{after, budgeted, budgeted_by, is_budget, put_back, replayed}

-- ---- the end of a unit that used all that it may leaves its calls

module _ (code : Name) (u : UnitOfWork) where
  whole_leaves : (frames : List OpenFrame) → (abended_whole code (record u { frames = frames })).calls ≡ u.calls
  whole_leaves [] = refl
  whole_leaves (f ∷ fs) = refl

  by_code_leaves : (o : Option End) → (budgeted_by code o u).calls ≡ u.calls
  by_code_leaves None = by (is_budget code)
    where
      by : (b : Bool) → (cond b (abended_whole code u) u).calls ≡ u.calls
      by true = whole_leaves u.frames
      by false = refl
  by_code_leaves (Some e) = refl

budget_leaves : (e : End) (u : UnitOfWork) → (budgeted e u).calls ≡ u.calls
budget_leaves Commit u = refl
budget_leaves Rollback u = refl
budget_leaves (Abend code) u = by_code_leaves code u u.end

-- ---- the item of a request

record IsRequest (o : Option Item) : Type 0 where
  clock : clock_in o ≡ 0
  none : (repo : Processes) → rows_in o repo ≡ []

request_item : (o : Option Item) (n : ℕ) (key : Key) → is_for o (unit.Request n key) ≡ true → IsRequest o
request_item None n key h = cc
request_item (Some (item.Request k script)) n key h = record { clock = refl; none = λ repo. refl }
request_item (Some (item.Clock moment)) n key h = cc
request_item (Some item.Settle) n key h = cc
request_item (Some (item.Browse criteria)) n key h = cc

-- ---- the unit stands next

module _ (session : Session) (at : Position) (ticket moment seq : ℕ) (calls : List Call) (left : Process) (end : End) where
  abbrev done_of : UnitKind → Key → jobs.Done
  done_of u key = record { job = job_of ticket session u (process_at key at.processes) moment; calls = calls; after = left; end = end }

  abbrev ended_of : UnitKind → Ended
  ended_of u = record { unit = u; moment = moment; end = end; calls = calls; rows = []; seq = seq }

  -- what a unit is for, beside its result
  pub record Stands (u : UnitKind) : Type 0 where
    pub enabled : is_enabled session moment at.processes at.ended u ≡ true
    pub number : seq ≡ number_behind at.units (ended_of u)
    pub later : at.moment ≤ moment

  same_key_in : (a b : Key) → Some a ≡ Some b → b ≡ a
  same_key_in a b e = cc

  pub next_is : (count : ℕ) (u : UnitKind) (key : Key) → key_of u ≡ Some key → IsNextOut session count (Some u) → jobs.IsDone (done_of u key) → Stands u → IsNext session at (ended_of u)
  unfolding unit_behind
  next_is count (unit.Request n k) key h o d s =
      let own = subst (λ z. jobs.IsDone (done_of (unit.Request n k) z)) (same_key_in k key h) d in
      let i = request_item (item_at session n) n k o.1 in
      record {
        enabled = s.enabled;
        item = o.1;
        plays = record { enabled = refl; given = record { calls = sym (budget_leaves end (replayed (ended_of (unit.Request n k)) (process_at k at.processes))) ∙ own.calls; end = own.end } };
        text = own.texts;
        number = s.number;
        later = s.later;
        clock = let c = i.clock in omega (arith, c);
        rows = sym (i.none at.processes);
      }
  next_is count (unit.Activation k p) key h o d s =
      let own = subst (λ z. jobs.IsDone (done_of (unit.Activation k p) z)) (same_key_in k key h) d in
      record {
        enabled = s.enabled;
        item = refl;
        plays = record { enabled = s.enabled; given = record { calls = sym (budget_leaves end (replayed (ended_of (unit.Activation k p)) (process_at k at.processes))) ∙ own.calls; end = own.end } };
        text = own.texts;
        number = s.number;
        later = s.later;
        clock = omega arith;
        rows = refl;
      }
  next_is count (unit.Notice k p) key h o d s = absurd o
  next_is count (unit.Expiry k p t) key h o d s = absurd o
  next_is count (unit.Clock n) key h o d s = absurd o
  next_is count (unit.Settle n) key h o d s = absurd o
  next_is count (unit.Browse n) key h o d s = absurd o

  -- and leaves the process of its result
  pub left_behind : (count : ℕ) (u : UnitKind) (key : Key) → key_of u ≡ Some key → IsNextOut session count (Some u) → jobs.IsDone (done_of u key) → after at.processes (ended_of u) ≡ put_back end (Some left) at.processes
  unfolding unit_behind
  left_behind count (unit.Request n k) key h o d =
      let own = subst (λ z. jobs.IsDone (done_of (unit.Request n k) z)) (same_key_in k key h) d in ap (λ s. put_back end (Some s) at.processes) own.after
  left_behind count (unit.Activation k p) key h o d =
      let own = subst (λ z. jobs.IsDone (done_of (unit.Activation k p) z)) (same_key_in k key h) d in ap (λ s. put_back end (Some s) at.processes) own.after
  left_behind count (unit.Notice k p) key h o d = absurd o
  left_behind count (unit.Expiry k p t) key h o d = absurd o
  left_behind count (unit.Clock n) key h o d = absurd o
  left_behind count (unit.Settle n) key h o d = absurd o
  left_behind count (unit.Browse n) key h o d = absurd o

-- ---- the counts

pub kept_out : (session : Session) (count : ℕ) (u : UnitKind) → IsNextOut session count (Some u) → is_kept u ≡ true
kept_out session count (unit.Request n k) o = refl
kept_out session count (unit.Activation k p) o = refl
kept_out session count (unit.Notice k p) o = absurd o
kept_out session count (unit.Expiry k p t) o = absurd o
kept_out session count (unit.Clock n) o = absurd o
kept_out session count (unit.Settle n) o = absurd o
kept_out session count (unit.Browse n) o = absurd o

pub item_out : (session : Session) (count : ℕ) (u : UnitKind) → IsNextOut session count (Some u) → item_of u ≡ cond (is_some (item_of u)) (Some (count + 1)) None
item_out session count (unit.Request n k) o = ap Some o.0
item_out session count (unit.Activation k p) o = refl
item_out session count (unit.Notice k p) o = absurd o
item_out session count (unit.Expiry k p t) o = absurd o
item_out session count (unit.Clock n) o = absurd o
item_out session count (unit.Settle n) o = absurd o
item_out session count (unit.Browse n) o = absurd o

pub counted_out : (session : Session) (count : ℕ) (u : UnitKind) → IsNextOut session count (Some u) → is_counted u ≡ true
counted_out session count (unit.Request n k) o = refl
counted_out session count (unit.Activation k p) o = refl
counted_out session count (unit.Notice k p) o = absurd o
counted_out session count (unit.Expiry k p t) o = absurd o
counted_out session count (unit.Clock n) o = absurd o
counted_out session count (unit.Settle n) o = absurd o
counted_out session count (unit.Browse n) o = absurd o

-- an item that is there has a number up to their count
found_below : (n k : ℕ) (items : List Item) (i : Item) → option_map (λ (x : Numbered). x.1) (find (λ (x : Numbered). nat_eq x.0 n) (enumerate_from k items)) ≡ Some i → n + 1 ≤ k + length items
found_below n k [] i e = cc
found_below n k (x ∷ items) i e = by (nat_eq k n) refl (λ f. found_below n (k + 1) items i f) e
  where
    by : (b : Bool) → nat_eq k n ≡ b → (option_map (λ (y : Numbered). y.1) (find (λ (y : Numbered). nat_eq y.0 n) (enumerate_from (k + 1) items)) ≡ Some i → n + 1 ≤ k + 1 + length items)
        → option_map (λ (y : Numbered). y.1) (cond b (Some (k, x)) (find (λ (y : Numbered). nat_eq y.0 n) (enumerate_from (k + 1) items))) ≡ Some i → n + 1 ≤ k + length (x ∷ items)
    by true same others e = let q : k ≡ n = eqb-true k n same in omega (arith, q)
    by false same others e = let l = others e in omega (arith, l)

pub item_below : (session : Session) (n : ℕ) (i : Item) → item_at session n ≡ Some i → n ≤ length session.items
item_below session n i e = let l : n + 1 ≤ 1 + length session.items = found_below n 1 session.items i e in omega (arith, l)

request_below : (session : Session) (n : ℕ) (key : Key) (o : Option Item) → item_at session n ≡ o → is_for o (unit.Request n key) ≡ true → n ≤ length session.items
request_below session n key None e h = cc
request_below session n key (Some i) e h = item_below session n i e

pub few_out : (session : Session) (count : ℕ) (u : UnitKind) → IsNextOut session count (Some u) → count ≤ length session.items → cond (is_some (item_of u)) (count + 1) count ≤ length session.items
few_out session count (unit.Request n k) o l = let b : n ≤ length session.items = request_below session n k (item_at session n) refl o.1 in let e = o.0 in omega (arith, b, e)
few_out session count (unit.Activation k p) o l = l
few_out session count (unit.Notice k p) o l = absurd o
few_out session count (unit.Expiry k p t) o l = absurd o
few_out session count (unit.Clock n) o l = absurd o
few_out session count (unit.Settle n) o l = absurd o
few_out session count (unit.Browse n) o l = absurd o

-- ---- the processes

module _ (s : Process) (repo : Processes) where
  pub lone_behind : (e : End) → list_all is_lone repo.items ≡ true → is_lone s ≡ true → list_all is_lone (put_back e (Some s) repo).items ≡ true
  lone_behind Commit all own = put_all is_lone s repo all own
  lone_behind Rollback all own = all
  lone_behind (Abend code) all own = put_all is_lone s repo all own

  within_put : (units : ℕ) → bound_of_units units repo ≡ true → is_within (units + 1) (512 * units + 500) s ≡ true → bound_of_units (units + 1) (put s repo) ≡ true
  within_put units all own =
      put_all (is_within (units + 1) (512 * (units + 1))) s repo (within_all units (512 * units) (units + 1) (512 * (units + 1)) (omega arith) (omega arith) repo.items all)
      (within_more (units + 1) (512 * units + 500) (units + 1) (512 * (units + 1)) s own (omega arith) (omega arith))

  pub within_behind : (e : End) (units : ℕ) → bound_of_units units repo ≡ true → is_within (units + 1) (512 * units + 500) s ≡ true
      → bound_of_units (cond (not (is_rollback e)) (units + 1) units) (put_back e (Some s) repo) ≡ true
  within_behind Commit units all own = within_put units all own
  within_behind Rollback units all own = all
  within_behind (Abend code) units all own = within_put units all own
