-- What the grammar of payloads gives of a unit.
use Rattle.std.proofs.Common.{◌≡◌, ◌≤◌, Bool, true, false, ◌&&◌, List, [], ◌∷◌, ◌++◌, length, refl, subst, arith, Option, Some, None}
use Rattle.std.specs.Prelude.{not, nat_eq, option_to_list}
use Rattle.std.specs.List.{list_all, list_any, AllByRecursion}
use Rattle.std.proofs.lemmas.Bool.{and_parts, or_parts, or_from}
use Rattle.bts_names.specs.Names.{Name, same, same_exact, initial_name, root_name}
use Rattle.bts_names.specs.Grammar.{is_name_within, is_word_within, is_system}
use Rattle.bts_names.specs.declared.key.Key.{Key}
use Rattle.bts_command.specs.Given.{IsGiven, is_systems, names_in, names_of_target, names_of_option, names_of_spot, subs_in}
use Rattle.bts_command.specs.declared.command.Call.{Call}
use Rattle.bts_command.specs.declared.command.Command.{Command}
use Rattle.bts_command.specs.declared.command.Command.TheVariants as command
use Rattle.bts_command.specs.declared.command.Target.{Target}
use Rattle.bts_command.specs.declared.command.Target.TheVariants as of
use Rattle.bts_command.specs.declared.command.Spot.{Spot}
use Rattle.bts_command.specs.declared.command.Spot.TheVariants as spot
use Rattle.bts_command.specs.declared.ended.Ended.{Ended}
use Rattle.bts_command.specs.declared.ended.UnitKind.{UnitKind}
use Rattle.bts_command.specs.declared.ended.UnitKind.TheVariants as unit
use Rattle.bts_codec.specs.Formats.{Format, ◌&◌, at_most, number_from, optional, string}
use Rattle.bts_codec.specs.Fields as field
use Rattle.bts_codec.specs.Commands as form
use Rattle.bts_codec.specs.Replies.{reply}
use Rattle.bts_codec.specs.Units.{back, back_of, call, calls, end, front, front_of, is_quiet, is_unit, kind_written, last_unit, parts, quiet_parts}
use Rattle.bts_codec.specs.Sizes.{IsStored}
use Rattle.bts_codec.proofs.Lengths.{at_most_high}

both : {A B : Type 0} (f : Format A) (g : Format B) (x : A) (y : B) → (f & g).fits (x, y) ≡ true → (f.fits x ≡ true) × (g.fits y ≡ true)
both f g x y h = and_parts (f.fits x) (g.fits y) h

-- ---- names

differs : (n other : Name) (t : Bool) → same n other ≡ t → is_system other ≡ true → not (is_system n) ≡ true → t ≡ false
differs n other true e systems h =
    let there : not (is_system other) ≡ true = subst (λ m. not (is_system m) ≡ true) (same_exact n other e) h in
    let never : false ≡ true = rw systems at there in
    cc
differs n other false e systems h = refl

free : (n : Name) → field.name.fits n ≡ true → is_systems n ≡ false
free n h =
    let grammar = (and_parts (string.fits n) (is_name_within 16 n) h).1 in
    let users = (and_parts (is_word_within 16 n) (not (is_system n)) grammar).1 in
    or_from (same n initial_name) (same n root_name) (differs n initial_name (same n initial_name) refl refl users) (differs n root_name (same n root_name) refl refl users)

one : (n : Name) (ns : List Name) → field.name.fits n ≡ true → list_any is_systems ns ≡ false → list_any is_systems (n ∷ ns) ≡ false
one n ns h k = or_from (is_systems n) (list_any is_systems ns) (free n h) k

alone : (n : Name) → field.name.fits n ≡ true → list_any is_systems (n ∷ []) ≡ false
alone n h = one n [] h refl

maybe : (o : Option Name) → (optional field.name).fits o ≡ true → list_any is_systems (option_to_list o) ≡ false
maybe None h = refl
maybe (Some n) h = alone n h

many : (ns : List Name) → list_all field.name.fits ns ≡ true → list_any is_systems ns ≡ false
many [] h = refl
many (n ∷ ns) h =
    let p = and_parts (field.name.fits n) (list_all field.name.fits ns) h in
    one n ns p.0 (many ns p.1)

joined : (ns ms : List Name) → list_any is_systems ns ≡ false → list_any is_systems ms ≡ false → list_any is_systems (ns ++ ms) ≡ false
joined [] ms h k = k
joined (n ∷ ns) ms h k =
    let p = or_parts (is_systems n) (list_any is_systems ns) h in
    or_from (is_systems n) (list_any is_systems (ns ++ ms)) p.0 (joined ns ms p.1 k)

target_free : (t : Target) → form.target.fits t ≡ true → list_any is_systems (names_of_target t) ≡ false
target_free (of.Activity a) h = alone a h
target_free of.AcqProcess h = refl
target_free of.AcqActivity h = refl

acquired_free : (t : Option Target) → form.acquired.fits t ≡ true → list_any is_systems (names_of_option t) ≡ false
acquired_free None h = refl
acquired_free (Some (of.Activity a)) h = absurd (cc h)
acquired_free (Some of.AcqProcess) h = refl
acquired_free (Some of.AcqActivity) h = refl

spot_free : (s : Spot) → form.spot.fits s ≡ true → list_any is_systems (names_of_spot s) ≡ false
spot_free spot.Own h = refl
spot_free spot.Process h = refl
spot_free (spot.Of t) h = target_free t h

-- ---- commands

at_spot : (c : Name) (s : Spot) → (field.name & form.spot).fits (c, s) ≡ true → list_any is_systems (c ∷ names_of_spot s) ≡ false
at_spot c s h = let p = both field.name form.spot c s h in one c (names_of_spot s) p.0 (spot_free s p.1)

two : (n m : Name) → (field.name & field.name).fits (n, m) ≡ true → list_any is_systems (n ∷ m ∷ []) ≡ false
two n m h = let p = both field.name field.name n m h in one n (m ∷ []) p.0 (alone m p.1)

on_target : (t : Target) (i : Option Name) → form.target.fits t ≡ true → (optional field.name).fits i ≡ true → list_any is_systems (names_of_target t ++ option_to_list i) ≡ false
on_target t i h k = joined (names_of_target t) (option_to_list i) (target_free t h) (maybe i k)

names_free : (c : Command) → form.command.fits c ≡ true → list_any is_systems (names_in c) ≡ false
unfolding form.command_written
names_free (command.DefineProcess t p) h = refl
names_free command.AcquireProcess h = refl
names_free (command.AcquireActivity p) h = refl
names_free command.PurgeProcess h = refl
names_free (command.DefineActivity a e t p) h =
    let x = both field.name (optional field.name & field.transid & field.program) a (e, (t, p)) h in
    let y = both (optional field.name) (field.transid & field.program) e (t, p) x.1 in
    one a (option_to_list e) x.0 (maybe e y.0)
names_free (command.DeleteActivity a) h = alone a h
names_free (command.Run t s i) h =
    let x = both form.target (field.flag & optional field.name) t (s, i) h in
    let y = both field.flag (optional field.name) s i x.1 in
    on_target t i x.0 y.1
names_free (command.Link t i) h = let x = both form.target (optional field.name) t i h in on_target t i x.0 x.1
names_free (command.Check t) h = target_free t h
names_free (command.Cancel t) h = target_free t h
names_free (command.Reset t) h = target_free t h
names_free (command.Suspend t) h = target_free t h
names_free (command.Resume t) h = target_free t h
names_free (command.PutContainer c s d) h =
    let x = both field.name (form.spot & string) c (s, d) h in
    let y = both form.spot string s d x.1 in
    one c (names_of_spot s) x.0 (spot_free s y.0)
names_free (command.GetContainer c s) h = at_spot c s h
names_free (command.DeleteContainer c s) h = at_spot c s h
names_free (command.DefineInput e) h = alone e h
names_free (command.DefineComposite e all subs) h =
    let x = both field.name (field.flag & at_most 8 field.name) e (all, subs) h in
    let y = both field.flag (at_most 8 field.name) all subs x.1 in
    let z = and_parts ((number_from 0 8).fits (length subs)) (list_all field.name.fits subs) y.1 in
    one e subs x.0 (many subs z.1)
names_free (command.AddSubevent s e) h = two s e h
names_free (command.RemoveSubevent s e) h = two s e h
names_free (command.DeleteEvent e) h = alone e h
names_free (command.TestEvent e) h = alone e h
names_free command.RetrieveReattach h = refl
names_free (command.RetrieveSubevent e) h = alone e h
names_free (command.DefineTimer t e d) h =
    let x = both field.name (optional field.name & form.due) t (e, d) h in
    let y = both (optional field.name) form.due e d x.1 in
    one t (option_to_list e) x.0 (maybe e y.0)
names_free (command.ForceTimer t o) h = let x = both field.name form.acquired t o h in one t (names_of_option o) x.0 (acquired_free o x.1)
names_free (command.CheckTimer t) h = alone t h
names_free (command.DeleteTimer t) h = alone t h
names_free (command.Return b) h = refl
names_free (command.Abend c) h = refl
names_free command.Rollback h = refl

few_subs : (c : Command) → form.command.fits c ≡ true → length (subs_in c) ≤ 8
unfolding form.command_written
few_subs (command.DefineComposite e all subs) h =
    let x = both field.name (field.flag & at_most 8 field.name) e (all, subs) h in
    let y = both field.flag (at_most 8 field.name) all subs x.1 in
    at_most_high 0 8 (length subs) (and_parts ((number_from 0 8).fits (length subs)) (list_all field.name.fits subs) y.1).0
few_subs _ h = omega arith

given : (cs : List Call) → list_all call.fits cs ≡ true → AllByRecursion (λ c. IsGiven c.command) cs
given [] h = tt
given (c ∷ cs) h =
    let p = and_parts (call.fits c) (list_all call.fits cs) h in
    let x = both form.command reply c.command c.reply p.0 in
    (record { names = names_free c.command x.0; few_subs = few_subs c.command x.0 }, given cs p.1)

-- ---- units

ended : (e : Ended) (k : Key) → front.fits (front_of e k) ≡ true → back.fits (back_of e) ≡ true → IsStored e
ended e k h b =
    let x = both (number_from 1 last_unit) (field.moment & field.key) e.seq (e.moment, k) h in
    let y = both end calls e.end e.calls b in
    let z = and_parts ((number_from 0 500).fits (length e.calls)) (list_all call.fits e.calls) y.1 in
    record {
      few = at_most_high 0 500 (length e.calls) z.0;
      given = given e.calls z.1;
      number = at_most_high 1 last_unit e.seq x.0;
    }

loud : {A : Type 0} (f : Format A) (e : Ended) (k : Key) (x : A) → (parts f).fits (front_of e k, (x, back_of e)) ≡ true → IsStored e
loud f e k x h =
    let p = both front (f & back) (front_of e k) (x, back_of e) h in
    ended e k p.0 (both f back x (back_of e) p.1).1

quiet : {A : Type 0} (f : Format A) (e : Ended) (k : Key) (x : A) → (quiet_parts f).fits (front_of e k, (x, back_of e)) ≡ true → IsStored e
quiet f e k x h =
    let p = and_parts (front.fits (front_of e k)) (f.fits x && (back.fits (back_of e) && is_quiet (back_of e))) h in
    let q = and_parts (f.fits x) (back.fits (back_of e) && is_quiet (back_of e)) p.1 in
    ended e k p.0 (and_parts (back.fits (back_of e)) (is_quiet (back_of e)) q.1).0

of_kind : (e : Ended) (u : UnitKind) → (kind_written e u).fits ≡ true → IsStored e
of_kind e (unit.Request n k) h = loud (field.u32_from 1) e k n h
of_kind e (unit.Activation k p) h = loud field.path e k p h
of_kind e (unit.Notice k p) h = quiet field.path e k p h
of_kind e (unit.Expiry k p t) h = quiet (field.path & field.name) e k (p, t) h
of_kind e (unit.Clock n) h = absurd (cc h)
of_kind e (unit.Settle n) h = absurd (cc h)
of_kind e (unit.Browse n) h = absurd (cc h)

pub is_stored : (e : Ended) → is_unit e ≡ true → IsStored e
is_stored e h = of_kind e e.unit (and_parts ((kind_written e e.unit).fits) (nat_eq (length e.rows) 0) h).0
