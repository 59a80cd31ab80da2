-- What a region keeps where the unit that was out ended.
use Rattle.std.proofs.Common.{◌≡◌, ◌≤◌, ◌*◌, ℕ, ◌+◌, Bool, true, false, not, cond, ◌&&◌, nat_eq, [], ◌∷◌, ◌++◌, length, map, Option, None, Some, Result, Ok, Err, OnErr, OnOk, is_err, is_some, refl, sym, ap, ◌∙◌, subst, arith}
use Rattle.std.specs.List.{count_by, list_all}
use Rattle.std.specs.Int.{from_bool}
use Rattle.std.specs.Option.{option_map}
use Rattle.std.proofs.lemmas.Bool.{eqb-true}
use Rattle.std.proofs.Math.Nat.{zero-add}
use Rattle.bts_command.specs.declared.ended.Ended.{Ended}
use Rattle.bts_command.specs.declared.ended.UnitKind.{UnitKind}
use Rattle.bts_interp.specs.Items.{item_of}
use Rattle.bts_interp.specs.Jobs as jobs
use Rattle.bts_interp.specs.Names.{Named}
use Rattle.bts_interp.specs.Ready.{IsRunnable}
use Rattle.bts_interp.specs.Stations.{Out, without}
use Rattle.bts_names.specs.declared.key.Key.{Key}
use Rattle.bts_region.specs.Answers.{Ends, Fits, IsDueUnder, unit_out, with_ended, with_out}
use Rattle.bts_region.specs.Fitting.{IsOfDue, due_here, job_here, job_of}
use Rattle.bts_region.specs.Histories.{IsNext}
use Rattle.bts_region.specs.Awake.{AreAwake}
use Rattle.bts_region.specs.Keeps.{Keeps, out_of, state_of}
use Rattle.bts_command.specs.Kinds.{is_activation, is_kept, is_rollback, key_of}
use Rattle.bts_region.specs.Positions.{Position, behind_all, opened_at}
use Rattle.bts_region.specs.Regions.{RegionState}
use Rattle.bts_region.specs.Serial.{activations_in}
use Rattle.bts_region.specs.declared.finishing.Due.{Due}
use Rattle.bts_region.specs.declared.region.Region.TheInside.{Inside}
use Rattle.bts_region.proofs.Counts.{one_if}
use Rattle.bts_region.proofs.Ending.{counted_out, few_out, item_out, kept_out, left_behind, lone_behind, next_is, within_behind}
use Rattle.bts_region.proofs.Entering.{Enters, is_entered}
use Rattle.bts_region.proofs.Left.{done_format, done_key, done_lone, done_sound, done_within}
use Rattle.bts_region.proofs.Runnable.{out_enabled, out_next, out_runnable}
use Rattle.bts_unit.proofs.Applied.{key_there}
use Rattle.bts_unit.proofs.Committed.{put_back_sound}
use Rattle.bts_rows.specs.Bounds.{is_lone}
use Rattle.bts_rows.proofs.Repositories.{format_at, lone_at, within_at}
use Rattle.bts_tree.specs.Processes.{Process, format_of}
use Rattle.bts_tree.specs.Repositories.{process_at}
use Rattle.bts_tree.specs.Soundness.{AreSound, bound_of_units, is_within}
use Rattle.bts_unit.specs.Playing.{after, put_back}

-- the unit with the result of a job
abbrev pub ended_by : UnitKind → ℕ → jobs.Done → ℕ → Ended
ended_by u moment d units = record { unit = u; moment = moment; end = d.end; calls = d.calls; rows = []; seq = cond (not (is_rollback d.end)) (units + 1) 0 }

-- the unit that is out, which is due
pub record IsOut {N : Type 0} (r : Inside N) (ticket : ℕ) (due : Due) : Type 0 where
  pub out : r.out ≡ Some due.unit
  pub process : key_of due.unit ≡ Some due.key
  pub first : ticket ≡ 0
  pub now : due.moment ≡ r.moment

only_out : (o : Option UnitKind) (ticket : ℕ) (u : UnitKind) → unit_out ticket (out_of o) ≡ Some u → (o ≡ Some u) × (ticket ≡ 0)
only_out None ticket u e = cc
only_out (Some v) ticket u e = by (nat_eq 0 ticket) refl e
  where
    by : (b : Bool) → nat_eq 0 ticket ≡ b → option_map (λ (x : Out). x.1) (cond b (Some (0, v)) None) ≡ Some u → (Some v ≡ Some u) × (ticket ≡ 0)
    by true q e = (e, sym (eqb-true 0 ticket q))
    by false q e = cc

pub is_out : {N : Type 0} (name : Named) (r : Inside N) (now : RegionState) → state_of name r ≡ now → (ticket asked : ℕ) → asked ≡ ticket → (due : Due) → IsDueUnder asked now due → IsOut r ticket due
is_out name r now view ticket asked same due d =
    let one : (r.out ≡ Some due.unit) × (ticket ≡ 0) = only_out r.out ticket due.unit (ap (λ (z : RegionState). unit_out ticket z.out) view ∙ ap (λ t. unit_out t now.out) (sym same) ∙ d.out) in
    record { out = one.0; process = d.process; first = one.1; now = d.moment ∙ sym (ap (λ (z : RegionState). z.moment) view) }

-- the result is that of the unit that is out
pub record IsResult {N : Type 0} (r : Inside N) (u : UnitKind) (key : Key) (d : jobs.Done) : Type 0 where
  pub out : r.out ≡ Some u
  pub process : key_of u ≡ Some key
  pub from : d.job ≡ job_of d.job.ticket r.session.value u (process_at key r.repository.processes) r.moment
  pub done : jobs.IsDone d

pub result_of : {N : Type 0} (r : Inside N) (ticket : ℕ) (due : Due) (d : jobs.Done) → IsOut r ticket due → d.job ≡ job_here d.job.ticket r.session.value (due_here due r.repository.processes) → jobs.IsDone d → IsResult r due.unit due.key d
result_of r ticket due d o from done = record {
  out = o.out;
  process = o.process;
  from = from ∙ ap (job_of d.job.ticket r.session.value due.unit (process_at due.key r.repository.processes)) o.now;
  done = done;
}

-- and the fields tell that it ended
pub record Tells {N : Type 0} (r s : Inside N) (u : UnitKind) (d : jobs.Done) : Type 0 where
  pub session : s.session.value ≡ r.session.value
  pub limit : s.limit ≡ r.limit
  pub moment : s.moment ≡ r.moment
  pub history : s.history.items ≡ r.history.items ++ ended_by u r.moment d r.units ∷ []
  pub gone : s.out ≡ None
  pub processes : s.repository.processes ≡ put_back d.end (Some d.after) r.repository.processes
  pub units : s.units ≡ cond (not (is_rollback d.end)) (r.units + 1) r.units
  pub items : s.items_ended ≡ cond (is_some (item_of u)) (r.items_ended + 1) r.items_ended
  pub activations : s.activations ≡ cond (is_activation u) (r.activations + 1) r.activations
  pub awake : AreAwake r.repository → AreAwake s.repository

module _ {N : Type 0} (name : Named) (r : Inside N) (k : Keeps name r) (u : UnitKind) (key : Key) (d : jobs.Done) (f : IsResult r u key d) where
  abbrev at : Position
  at = behind_all (opened_at name.opening) r.history.items

  abbrev e : Ended
  e = ended_by u r.moment d r.units

  is_runnable : IsRunnable d.job.unit d.job.base d.job.texts
  is_runnable = subst (λ (j : jobs.Job). IsRunnable j.unit j.base j.texts) (sym f.from) (out_runnable name r k u key f.out f.process)

  base : d.job.base ≡ process_at key r.repository.processes
  base = ap (λ (j : jobs.Job). j.base) f.from

  pub own_key : d.after.key ≡ key
  own_key = done_key d is_runnable f.done ∙ ap (λ (s : Process). s.key) base ∙ key_there key r.repository.processes

  done_here : jobs.IsDone (record { job = job_of d.job.ticket r.session.value u (process_at key at.processes) r.moment; calls = d.calls; after = d.after; end = d.end })
  done_here =
      subst (λ (j : jobs.Job). jobs.IsDone (record { job = j; calls = d.calls; after = d.after; end = d.end }))
      (f.from ∙ ap (λ repo. job_of d.job.ticket r.session.value u (process_at key repo) r.moment) k.processes) f.done

  kept : is_kept u ≡ true
  kept = kept_out r.session.value r.items_ended u (out_next name r k u f.out)

  pub next : IsNext r.session.value at e
  next =
      next_is r.session.value at d.job.ticket r.moment e.seq d.calls d.after d.end r.items_ended u key f.process (out_next name r k u f.out) done_here
      (record {
        enabled = out_enabled name r k u f.out;
        number = ap (λ n. cond (not (is_rollback d.end)) (n + 1) 0) k.units ∙ sym (ap (λ b. cond (b && not (is_rollback d.end)) (at.units + 1) 0) kept);
        later = k.kept.later;
      })

  one_out : activations_in r.history.items + one_if (is_activation u) ≤ r.limit
  one_out =
      let Limited : Option UnitKind → Type 0 = λ o. activations_in r.history.items + count_by is_activation (map (λ (z : Out). z.1) (out_of o)) ≤ r.limit in
      subst (λ n. activations_in r.history.items + n ≤ r.limit) (zero-add (one_if (is_activation u))) (subst Limited f.out k.limited)

  module _ (s : Inside N) (t : Tells r s u d) where
    pub ends : Enters name r s e
    ends = record {
      next = next;
      now = refl;
      counted = counted_out r.session.value r.items_ended u (out_next name r k u f.out);
      item = item_out r.session.value r.items_ended u (out_next name r k u f.out);
      few_items = subst (λ n. n ≤ length r.session.value.items) (sym t.items) (few_out r.session.value r.items_ended u (out_next name r k u f.out) k.few_items);
      limited = one_out;
      session = t.session;
      limit = t.limit;
      moment = t.moment;
      history = t.history;
      out = t.gone;
      processes =
          t.processes
          ∙ ap (put_back d.end (Some d.after)) k.processes
          ∙ sym (left_behind r.session.value at d.job.ticket r.moment e.seq d.calls d.after d.end r.items_ended u key f.process (out_next name r k u f.out) done_here)
          ∙ ap (λ repo. after repo e) (sym k.processes);
      units = t.units ∙ sym (ap (λ b. cond (b && not (is_rollback d.end)) (r.units + 1) r.units) kept);
      items = t.items;
      activations = t.activations;
      sound =
          let format = done_format d is_runnable f.done ∙ ap format_of base ∙ format_at key r.repository.processes k.sound in
          subst AreSound (sym t.processes) (put_back_sound d.end d.after r.repository.processes k.sound format (done_sound d is_runnable f.done));
      within =
          let own = done_within d is_runnable f.done r.units (512 * r.units) (subst (λ b. is_within r.units (512 * r.units) b ≡ true) (sym base) (within_at r.units (512 * r.units) key r.repository.processes k.within)) in
          subst (λ n. bound_of_units n s.repository.processes ≡ true) (sym t.units)
          (subst (λ repo. bound_of_units (cond (not (is_rollback d.end)) (r.units + 1) r.units) repo ≡ true) (sym t.processes)
          (within_behind d.after r.repository.processes d.end r.units k.within own));
      lone =
          let own = done_lone d is_runnable f.done (subst (λ b. is_lone b ≡ true) (sym base) (lone_at key r.repository.processes k.lone)) in
          subst (λ repo. list_all is_lone repo.items ≡ true) (sym t.processes) (lone_behind d.after r.repository.processes d.end k.lone own);
      awake = t.awake k.awake;
    }

    -- what is told of it
    pub told : (done : jobs.Done) (place : ℕ) → done.job.ticket ≡ 0 → place ≡ length s.history.items → Ends (state_of name r) (state_of name s) done place
    told done place ticket here =
        let none : without done.job.ticket (out_of r.out) ≡ [] = ap (λ n. without n (out_of r.out)) ticket ∙ ap (λ o. without 0 (out_of o)) f.out in
        let one : unit_out done.job.ticket (out_of r.out) ≡ Some u = ap (λ n. unit_out n (out_of r.out)) ticket ∙ ap (λ o. unit_out 0 (out_of o)) f.out in
        (e, sym (is_entered name r s k e ends) ∙ ap (λ o. with_out o (with_ended e (state_of name r))) (sym none), next, refl, one, here)

-- a result that can be taken over is that of the unit that is out
pub due_fits : {N : Type 0} (name : Named) (r : Inside N) (k : Keeps name r) (u : UnitKind) (key : Key) → r.out ≡ Some u → key_of u ≡ Some key
    → (done : jobs.Done) → done.job.ticket ≡ 0 → Fits (state_of name r) done → IsOfDue done.job (record { unit = u; base = process_at key r.repository.processes; moment = r.moment })
due_fits name r k u key out process done ticket f =
    let one : unit_out done.job.ticket (out_of r.out) ≡ Some u = ap (λ n. unit_out n (out_of r.out)) ticket ∙ ap (λ o. unit_out 0 (out_of o)) out in
    let same : done.job.unit ≡ u = same_in done.job.unit u (sym f.unit ∙ one) in
    record {
      unit = same;
      from = f.base key (ap key_of same ∙ process) ∙ ap (process_at key) (sym k.processes);
      at = f.moment;
    }
  where
    same_in : (a b : UnitKind) → Some a ≡ Some b → a ≡ b
    same_in a b e = cc

pub where_fits : {N : Type 0} (name : Named) (r : Inside N) (k : Keeps name r) (now : RegionState) → state_of name r ≡ now → (due : Due) (done : jobs.Done) → IsOut r done.job.ticket due
    → Fits now done → IsOfDue done.job (due_here due r.repository.processes)
where_fits name r k now view due done o f =
    subst (λ m. IsOfDue done.job (record { unit = due.unit; base = process_at due.key r.repository.processes; moment = m })) (sym o.now)
    (due_fits name r k due.unit due.key o.out o.process done o.first (subst (λ (z : RegionState). Fits z done) (sym view) f))

-- ---- numbers that count a test

pub one_at_most : (b : Bool) (m : ℕ) → m ≡ from_bool b → m ≤ 1
one_at_most true m h = omega (arith, h)
one_at_most false m h = omega (arith, h)

pub counted_units : (b c : Bool) (n m : ℕ) → b ≡ c → m ≡ from_bool b → n + m ≡ cond c (n + 1) n
counted_units b true n m e h = let f : m ≡ 1 = h ∙ ap from_bool e in omega (arith, f)
counted_units b false n m e h = let f : m ≡ 0 = h ∙ ap from_bool e in omega (arith, f)

pub numbered_unit : (b c : Bool) (n m : ℕ) → b ≡ c → m ≡ from_bool b → cond b (n + m) 0 ≡ cond c (n + 1) 0
numbered_unit b true n m e h = ap (λ x. cond x (n + m) 0) e ∙ ap (λ x. n + x) (h ∙ ap from_bool e)
numbered_unit b false n m e h = ap (λ x. cond x (n + m) 0) e

pub where_err : {T E : Type 0} (x : Result T E) (P : Type 0) → is_err x ≡ true → OnErr x P → P
where_err (Ok v) P e p = cc
where_err (Err w) P e p = p

pub where_ok : {T E : Type 0} (x : Result T E) (P : Type 0) → is_err x ≡ false → OnOk x P → P
where_ok (Ok v) P e p = p
where_ok (Err w) P e p = cc
