-- What the lines that are let through say, form by form.
use Rattle.std.proofs.Common.{◌≡◌, ℕ, zero, suc, ◌≤◌, Bool, true, false, List, [], refl, subst, arith, lit≤, length, cond, Option, Some, None, Ok, Err}
use Rattle.std.specs.Prelude.{codes, not, is_some, option_to_list}
use Rattle.std.specs.Option.{option_map}
use Rattle.std.specs.List.{list_any}
use Rattle.std.proofs.lemmas.Bool.{and_parts}
use Rattle.bts_names.specs.Names.{Bytes, Name, same, same_exact, initial_name, root_name}
use Rattle.bts_names.specs.Grammar.{is_name_within, is_word_within, is_system}
use Rattle.bts_command.specs.Given.{is_systems, names_of_target, names_of_spot}
use Rattle.bts_command.specs.declared.command.Command.TheVariants as command
use Rattle.bts_command.specs.declared.command.Target.{Target}
use Rattle.bts_command.specs.declared.command.Target.TheVariants as of
use Rattle.bts_command.specs.declared.command.Spot.{Spot}
use Rattle.bts_command.specs.declared.command.Spot.TheVariants as place
use Rattle.bts_forms.specs.declared.line.Word.{Word}
use Rattle.bts_forms.specs.declared.line.Word.TheVariants as word
use Rattle.bts_forms.specs.declared.statement.Statement.TheVariants as statement
use Rattle.bts_forms.specs.Texts.{◌>>=◌}
use Rattle.bts_forms.specs.Arguments.{name, transid, program_name, path, code, source}
use Rattle.bts_forms.specs.Pieces.{Piece, Said, says, bare, given, given_to_last, up_to, and_then, in_front, applied, result_of, behind_word, argument_in, ◌▸◌, ◌▹◌, ◌or◌}
use Rattle.bts_forms.specs.Forms.{target, spot, either, synchrony, connective, input, condition, define_process, acquire_process, acquire_activity, purge_process, run, check, put_container, get_container, delete_container, define_input, define_composite, add_subevent, remove_subevent, delete_event, test_event, retrieve_reattach, retrieve_subevent, plain_return, return_ending, abend, rollback, label_line, goto_line, when_line, holds_of, isnt_child, isnt_synchronous, behind_target, behind_container, asynchronous, run_through, check_through, container_through}
use Rattle.bts_forms.specs.Today.{is_acquired, is_no_childs, IsCommandOfToday, IsOfToday}
use Rattle.bts_forms.proofs.Saying.{Of, With, Always, Behind, Any, saying, anything, either_of, first_or, with_argument, everywhere, ◌▸▸◌, ◌▹▹◌}

-- ---- names

-- a name that isn't the system's
record IsFree (n : Name) : Type 0 where
  free : is_systems n ≡ false

record IsFreeOption (n : Option Name) : Type 0 where
  free : list_any is_systems (option_to_list n) ≡ false

differs : (n other : Name) (t : Bool) → same n other ≡ t → is_system other ≡ true → not (is_system n) ≡ true → t ≡ false
differs n other true e systems h =
    let there : not (is_system other) ≡ true = subst (λ m. not (is_system m) ≡ true) (same_exact n other e) h in
    let never : false ≡ true = rw systems at there in
    cc
differs n other false e systems h = refl

free_name : (n : Name) → not (is_system n) ≡ true → is_systems n ≡ false
free_name n h = rw (differs n initial_name (same n initial_name) refl refl h, differs n root_name (same n root_name) refl refl h) refl

name_on : (bytes rest : Bytes) (t : Bool) → is_name_within 16 bytes ≡ t → Of IsFree (Some (cond t (Ok bytes) (Err word.Name), rest))
name_on bytes rest true h = record { free = free_name bytes (and_parts (is_word_within 16 bytes) (not (is_system bytes)) h).1 }
name_on bytes rest false h = record {}

named_on : (found : Option (Bytes × Bytes)) → Of IsFree (option_map (λ x. (name x.0, x.1)) found)
named_on None = record {}
named_on (Some (bytes, rest)) = name_on bytes rest (is_name_within 16 bytes) refl

named : (word : Bytes) → Always IsFree (given word name)
named word = record { on = λ text. named_on (argument_in word text) }

maybe_on : (text : Bytes) (said : Said Name) → Of IsFree said → Of IsFreeOption (elim said [ None ↦ Some (Ok None, text) | Some x ↦ Some (result_of Some x.0, x.1) ])
maybe_on text None h = record { free = refl }
maybe_on text (Some (Err why, rest)) h = record {}
maybe_on text (Some (Ok n, rest)) h = record { free = rw h.free refl }

in_input : Always IsFreeOption input
unfolding input
in_input = record { on = λ text. maybe_on text (given (codes "INPUTEVENT") name text) ((named (codes "INPUTEVENT")).on text) }

-- so many names or fewer
record AreFree (most : ℕ) (names : List Name) : Type 0 where
  free : list_any is_systems names ≡ false
  few : length names ≤ most

more_free : (most : ℕ) (n : Name) (said : Said (List Name)) → IsFree n → Of (AreFree most) said → Of (AreFree (suc most)) (in_front (Ok n) said)
more_free most n None h k = record {}
more_free most n (Some (Err why, rest)) h k = record {}
more_free most n (Some (Ok names, rest)) h k = record { free = rw (h.free, k.free) refl; few = let few = k.few in omega arith }

refused_free : (most : ℕ) (why : Word) (said : Said (List Name)) → Of (AreFree most) (in_front (Err why) said)
refused_free most why None = record {}
refused_free most why (Some x) = record {}

next_free : (most : ℕ) (others : Piece (List Name)) (text : Bytes) (said : Said Name) → Of IsFree said → ((rest : Bytes) → Of (AreFree most) (others rest))
    → Of (AreFree (suc most)) (and_then others text said)
next_free most others text None h k = record { free = refl; few = omega arith }
next_free most others text (Some (Err why, rest)) h k = refused_free (suc most) why (others rest)
next_free most others text (Some (Ok n, rest)) h k = more_free most n (others rest) h (k rest)

all_free : (most : ℕ) (p : Piece Name) → Always IsFree p → (text : Bytes) → Of (AreFree most) (up_to most p text)
unfolding up_to
all_free zero p h text = record { free = refl; few = omega arith }
all_free (suc n) p h text = next_free n (up_to n p) text (p text) (h.on text) (all_free n p h)

in_subs : Always (AreFree 8) (up_to 8 (given (codes "SUBEVENT") name))
in_subs = record { on = all_free 8 (given (codes "SUBEVENT") name) (named (codes "SUBEVENT")) }

-- ---- targets and places that aren't a child's

record IsAcquired (t : Target) : Type 0 where
  acquired : is_acquired t ≡ true
  nameless : names_of_target t ≡ []

record IsNoChilds (s : Spot) : Type 0 where
  no_childs : is_no_childs s ≡ true
  nameless : names_of_spot s ≡ []

-- a name that was found, and what it is made into
abbrev said_name : Option (Bytes × Bytes) → Said Name
said_name found = option_map (λ x. (name x.0, x.1)) found

abbrev made_by : {A : Type 0} → (Name → A) → Said Name → Said A
made_by f said = elim said [ None ↦ None | Some y ↦ Some (applied (Ok f) y.0, y.1) ]

in_other_targets : Always IsAcquired (says of.AcqProcess ▸ codes "ACQPROCESS" or says of.AcqActivity ▸ codes "ACQACTIVITY")
in_other_targets = either_of (saying of.AcqProcess (record { acquired = refl; nameless = refl }) ▸▸ codes "ACQPROCESS") (saying of.AcqActivity (record { acquired = refl; nameless = refl }) ▸▸ codes "ACQACTIVITY")

target_on : (rest : Bytes) (found : Option (Bytes × Bytes)) → not (is_some found) ≡ true
    → Of IsAcquired (elim (made_by of.Activity (said_name found)) [ None ↦ (says of.AcqProcess ▸ codes "ACQPROCESS" or says of.AcqActivity ▸ codes "ACQACTIVITY") rest | Some x ↦ Some x ])
target_on rest None h = in_other_targets.on rest
target_on rest (Some x) h = let never : false ≡ true = h in cc

acquired_target : (rest : Bytes) → isnt_child rest ≡ true → Of IsAcquired (target rest)
unfolding isnt_child target
acquired_target rest h = target_on rest (argument_in (codes "ACTIVITY") rest) h

no_childs_spot : (rest : Bytes) → isnt_child rest ≡ true → Of IsNoChilds (spot rest)
unfolding spot
no_childs_spot rest h =
    let other : Always IsNoChilds (says place.Process ▸ codes "PROCESS" or says place.Own) = either_of (saying place.Process (record { no_childs = refl; nameless = refl }) ▸▸ codes "PROCESS") (saying place.Own (record { no_childs = refl; nameless = refl })) in
    first_or IsNoChilds (says place.Process ▸ codes "PROCESS" or says place.Own) rest ((says place.Of ▹ target) rest)
    (with_argument IsAcquired IsNoChilds target (Some (Ok place.Of, rest)) (λ t k. record { no_childs = k.acquired; nameless = k.nameless }) (acquired_target rest h)) (other.on rest)

-- what stands behind a word
abbrev said_behind : {A : Type 0} → A → Option Bytes → Said A
said_behind x opened = option_map (λ rest. (Ok x, rest)) opened

word_on : {A : Type 0} (x : A) (test : Bytes → Bool) (R : Bytes → Type 0) → ((rest : Bytes) → test rest ≡ true → R rest)
    → (opened : Option Bytes) → holds_of test opened ≡ true → Behind R (said_behind x opened)
word_on x test R h None k = record {}
word_on x test R h (Some rest) k = h rest k

-- and behind a container's name
container_on : {A : Type 0} (f : Name → A) (found : Option (Bytes × Bytes)) → holds_of isnt_child (option_map (λ x. x.1) found) ≡ true → Behind (λ rest. Of IsNoChilds (spot rest)) (made_by f (said_name found))
container_on f None h = record {}
container_on f (Some x) h = no_childs_spot x.1 h

opened_on : {A : Type 0} (f : Name → A) (opened : Option Bytes) → holds_of isnt_child (opened >>= (λ rest. option_map (λ x. x.1) (argument_in (codes "CONTAINER") rest))) ≡ true
    → Behind (λ rest. Of IsNoChilds (spot rest)) (elim (said_behind f opened) [ None ↦ None | Some x ↦ elim (given (codes "CONTAINER") name x.1) [ None ↦ None | Some y ↦ Some (applied x.0 y.0, y.1) ] ])
opened_on f None h = record {}
opened_on f (Some rest) h = container_on f (argument_in (codes "CONTAINER") rest) h

behind_containers : {A : Type 0} (f : Name → A) (word text : Bytes) → container_through word text ≡ true → Behind (λ rest. Of IsNoChilds (spot rest)) ((says f ▸ word ▹ given (codes "CONTAINER") name) text)
unfolding container_through behind_container
behind_containers f word text h = opened_on f (behind_word word text) h

-- ---- commands without a target

pub in_define_process : Always IsCommandOfToday define_process
unfolding define_process
in_define_process =
    saying command.DefineProcess (λ t _ p _. record { done = refl; given = record { names = refl; few_subs = lit≤ tt } }) ▸▸ codes "DEFINE" ▸▸ codes "PROCESS" ▹▹ anything (given (codes "TRANSID") transid) ▹▹ anything (given (codes "PROGRAM") program_name)

pub in_acquire_process : Always IsCommandOfToday acquire_process
unfolding acquire_process
in_acquire_process = saying command.AcquireProcess (record { done = refl; given = record { names = refl; few_subs = lit≤ tt } }) ▸▸ codes "ACQUIRE" ▸▸ codes "PROCESS"

pub in_acquire_activity : Always IsCommandOfToday acquire_activity
unfolding acquire_activity
in_acquire_activity = saying command.AcquireActivity (λ p _. record { done = refl; given = record { names = refl; few_subs = lit≤ tt } }) ▸▸ codes "ACQUIRE" ▹▹ anything (given (codes "ACTIVITYID") path)

pub in_purge_process : Always IsCommandOfToday purge_process
unfolding purge_process
in_purge_process = saying command.PurgeProcess (record { done = refl; given = record { names = refl; few_subs = lit≤ tt } }) ▸▸ codes "PURGE" ▸▸ codes "ACQPROCESS"

pub in_define_input : Always IsCommandOfToday define_input
unfolding define_input
in_define_input = saying command.DefineInput (λ e h. record { done = refl; given = record { names = rw h.free refl; few_subs = lit≤ tt } }) ▸▸ codes "DEFINE" ▸▸ codes "INPUT" ▹▹ named (codes "EVENT")

pub in_define_composite : Always IsCommandOfToday define_composite
unfolding define_composite
in_define_composite =
    saying command.DefineComposite (λ e h all _ subs k. record { done = refl; given = record { names = rw (h.free, k.free) refl; few_subs = k.few } }) ▸▸ codes "DEFINE" ▸▸ codes "COMPOSITE" ▹▹ named (codes "EVENT") ▹▹ anything connective ▹▹ in_subs

pub in_add_subevent : Always IsCommandOfToday add_subevent
unfolding add_subevent
in_add_subevent = saying command.AddSubevent (λ s h e k. record { done = refl; given = record { names = rw (h.free, k.free) refl; few_subs = lit≤ tt } }) ▸▸ codes "ADD" ▹▹ named (codes "SUBEVENT") ▹▹ named (codes "EVENT")

pub in_remove_subevent : Always IsCommandOfToday remove_subevent
unfolding remove_subevent
in_remove_subevent = saying command.RemoveSubevent (λ s h e k. record { done = refl; given = record { names = rw (h.free, k.free) refl; few_subs = lit≤ tt } }) ▸▸ codes "REMOVE" ▹▹ named (codes "SUBEVENT") ▹▹ named (codes "EVENT")

pub in_delete_event : Always IsCommandOfToday delete_event
unfolding delete_event
in_delete_event = saying command.DeleteEvent (λ e h. record { done = refl; given = record { names = rw h.free refl; few_subs = lit≤ tt } }) ▸▸ codes "DELETE" ▹▹ named (codes "EVENT")

pub in_test_event : Always IsCommandOfToday test_event
unfolding test_event
in_test_event = saying command.TestEvent (λ e h. record { done = refl; given = record { names = rw h.free refl; few_subs = lit≤ tt } }) ▸▸ codes "TEST" ▹▹ named (codes "EVENT")

pub in_retrieve_reattach : Always IsCommandOfToday retrieve_reattach
unfolding retrieve_reattach
in_retrieve_reattach = saying command.RetrieveReattach (record { done = refl; given = record { names = refl; few_subs = lit≤ tt } }) ▸▸ codes "RETRIEVE" ▸▸ codes "REATTACH" ▸▸ codes "EVENT"

pub in_retrieve_subevent : Always IsCommandOfToday retrieve_subevent
unfolding retrieve_subevent
in_retrieve_subevent = saying command.RetrieveSubevent (λ e h. record { done = refl; given = record { names = rw h.free refl; few_subs = lit≤ tt } }) ▸▸ codes "RETRIEVE" ▸▸ codes "SUBEVENT" ▹▹ named (codes "EVENT")

pub in_plain_return : Always IsCommandOfToday plain_return
unfolding plain_return
in_plain_return = saying (command.Return false) (record { done = refl; given = record { names = refl; few_subs = lit≤ tt } }) ▸▸ codes "RETURN"

pub in_return_ending : Always IsCommandOfToday return_ending
unfolding return_ending
in_return_ending = saying (command.Return true) (record { done = refl; given = record { names = refl; few_subs = lit≤ tt } }) ▸▸ codes "RETURN" ▸▸ codes "ENDACTIVITY"

pub in_abend : Always IsCommandOfToday abend
unfolding abend
in_abend = saying command.Abend (λ c _. record { done = refl; given = record { names = refl; few_subs = lit≤ tt } }) ▸▸ codes "ABEND" ▹▹ anything (given (codes "ABCODE") code)

pub in_rollback : Always IsCommandOfToday rollback
unfolding rollback
in_rollback = saying command.Rollback (record { done = refl; given = record { names = refl; few_subs = lit≤ tt } }) ▸▸ codes "ROLLBACK"

-- ---- statements that are no commands

pub in_label : Always IsOfToday label_line
unfolding label_line
in_label = saying statement.Label (λ l _. tt) ▸▸ codes "LABEL" ▹▹ anything (bare name)

pub in_goto : Always IsOfToday goto_line
unfolding goto_line
in_goto = saying statement.Goto (λ l _. tt) ▸▸ codes "GOTO" ▹▹ anything (bare name)

pub in_when : Always IsOfToday when_line
unfolding when_line
in_when = saying statement.When (λ c _ l _. tt) ▸▸ codes "WHEN" ▹▹ anything condition ▸▸ codes "GOTO" ▹▹ anything (bare name)

-- ---- commands with a target, or a place that may name one

pub in_check : (text : Bytes) → check_through text ≡ true → Of IsCommandOfToday (check text)
unfolding check check_through
in_check text h =
    let front : Always (With IsAcquired IsCommandOfToday) (says command.Check ▸ codes "CHECK") = saying command.Check (λ t k. record { done = k.acquired; given = record { names = rw k.nameless refl; few_subs = lit≤ tt } }) ▸▸ codes "CHECK" in
    with_argument IsAcquired IsCommandOfToday target ((says command.Check ▸ codes "CHECK") text) (front.on text)
    (word_on command.Check isnt_child (λ rest. Of IsAcquired (target rest)) acquired_target (behind_word (codes "CHECK") text) h)

pub in_get_container : (text : Bytes) → container_through (codes "GET") text ≡ true → Of IsCommandOfToday (get_container text)
unfolding get_container
in_get_container text h =
    let front : Always (With IsNoChilds IsCommandOfToday) (says command.GetContainer ▸ codes "GET" ▹ given (codes "CONTAINER") name) =
    saying command.GetContainer (λ c k s l. record { done = l.no_childs; given = record { names = rw (l.nameless, k.free) refl; few_subs = lit≤ tt } }) ▸▸ codes "GET" ▹▹ named (codes "CONTAINER") in
    with_argument IsNoChilds IsCommandOfToday spot ((says command.GetContainer ▸ codes "GET" ▹ given (codes "CONTAINER") name) text) (front.on text)
    (behind_containers (λ c s. command.GetContainer c s) (codes "GET") text h)

pub in_delete_container : (text : Bytes) → container_through (codes "DELETE") text ≡ true → Of IsCommandOfToday (delete_container text)
unfolding delete_container
in_delete_container text h =
    let front : Always (With IsNoChilds IsCommandOfToday) (says command.DeleteContainer ▸ codes "DELETE" ▹ given (codes "CONTAINER") name) =
    saying command.DeleteContainer (λ c k s l. record { done = l.no_childs; given = record { names = rw (l.nameless, k.free) refl; few_subs = lit≤ tt } }) ▸▸ codes "DELETE" ▹▹ named (codes "CONTAINER") in
    with_argument IsNoChilds IsCommandOfToday spot ((says command.DeleteContainer ▸ codes "DELETE" ▹ given (codes "CONTAINER") name) text) (front.on text)
    (behind_containers (λ c s. command.DeleteContainer c s) (codes "DELETE") text h)

pub in_put_container : (text : Bytes) → container_through (codes "PUT") text ≡ true → Of IsOfToday (put_container text)
unfolding put_container
in_put_container text h =
    let front : Always (With IsNoChilds (With Any IsOfToday)) (says statement.Put ▸ codes "PUT" ▹ given (codes "CONTAINER") name) =
    saying statement.Put (λ c k s l g _ bytes. record { done = l.no_childs; given = record { names = rw (l.nameless, k.free) refl; few_subs = lit≤ tt } }) ▸▸ codes "PUT" ▹▹ named (codes "CONTAINER") in
    with_argument Any IsOfToday (given_to_last (codes "FROM") source) ((says statement.Put ▸ codes "PUT" ▹ given (codes "CONTAINER") name ▹ spot) text)
    (with_argument IsNoChilds (With Any IsOfToday) spot ((says statement.Put ▸ codes "PUT" ▹ given (codes "CONTAINER") name) text) (front.on text)
    (behind_containers (λ c s g. statement.Put c s g) (codes "PUT") text h))
    (everywhere (λ rest. Of Any (given_to_last (codes "FROM") source rest)) ((says statement.Put ▸ codes "PUT" ▹ given (codes "CONTAINER") name ▹ spot) text) (anything (given_to_last (codes "FROM") source)).on)

-- RUN
record IsUnset (b : Bool) : Type 0 where
  unset : b ≡ false

in_no_wait : Always IsUnset (says false ▸ codes "ASYNCHRONOUS")
in_no_wait = saying false (record { unset = refl }) ▸▸ codes "ASYNCHRONOUS"

synchrony_on : (rest : Bytes) (found : Option Bytes) → not (is_some found) ≡ true → Of IsUnset (elim (said_behind true found) [ None ↦ (says false ▸ codes "ASYNCHRONOUS") rest | Some x ↦ Some x ])
synchrony_on rest None h = in_no_wait.on rest
synchrony_on rest (Some x) h = let never : false ≡ true = h in cc

no_wait : (rest : Bytes) → isnt_synchronous rest ≡ true → Of IsUnset (synchrony rest)
unfolding isnt_synchronous synchrony either
no_wait rest h = synchrony_on rest (behind_word (codes "SYNCHRONOUS") rest) h

asynchronous_parts : (rest : Bytes) → asynchronous rest ≡ true → (isnt_child rest ≡ true) × (holds_of isnt_synchronous (behind_target rest) ≡ true)
unfolding asynchronous
asynchronous_parts rest h = and_parts (isnt_child rest) (holds_of isnt_synchronous (behind_target rest)) h

-- what stands behind a target
target_said : {A : Type 0} (f : Target → A) (said : Said Target) → holds_of isnt_synchronous (option_map (λ x. x.1) said) ≡ true
    → Behind (λ rest. Of IsUnset (synchrony rest)) (elim said [ None ↦ None | Some y ↦ Some (applied (Ok f) y.0, y.1) ])
target_said f None h = record {}
target_said f (Some x) h = no_wait x.1 h

target_behind : {A : Type 0} (f : Target → A) (opened : Option Bytes) → holds_of asynchronous opened ≡ true
    → Behind (λ rest. Of IsUnset (synchrony rest)) (elim (said_behind f opened) [ None ↦ None | Some x ↦ elim (target x.1) [ None ↦ None | Some y ↦ Some (applied x.0 y.0, y.1) ] ])
unfolding behind_target
target_behind f None h = record {}
target_behind f (Some rest) h = target_said f (target rest) (asynchronous_parts rest h).1

pub in_run : (text : Bytes) → run_through text ≡ true → Of IsCommandOfToday (run text)
unfolding run run_through
in_run text h =
    let front : Always (With IsAcquired (With IsUnset (With IsFreeOption IsCommandOfToday))) (says command.Run ▸ codes "RUN") =
    saying command.Run (λ t k s l e m. record { done = rw (k.acquired, l.unset) refl; given = record { names = rw k.nameless m.free; few_subs = lit≤ tt } }) ▸▸ codes "RUN" in
    let at_target : Bytes → Type 0 = λ rest. Of IsAcquired (target rest) in
    with_argument IsFreeOption IsCommandOfToday input ((says command.Run ▸ codes "RUN" ▹ target ▹ synchrony) text)
    (with_argument IsUnset (With IsFreeOption IsCommandOfToday) synchrony ((says command.Run ▸ codes "RUN" ▹ target) text)
    (with_argument IsAcquired (With IsUnset (With IsFreeOption IsCommandOfToday)) target ((says command.Run ▸ codes "RUN") text) (front.on text)
    (word_on (λ t s e. command.Run t s e) asynchronous at_target (λ rest k. acquired_target rest (asynchronous_parts rest k).0) (behind_word (codes "RUN") text) h))
    (target_behind (λ t s e. command.Run t s e) (behind_word (codes "RUN") text) h))
    (everywhere (λ rest. Of IsFreeOption (input rest)) ((says command.Run ▸ codes "RUN" ▹ target ▹ synchrony) text) in_input.on)
