-- How long commands, replies and whole payloads are.
use Rattle.std.proofs.Common.{◌≡◌, ℕ, ◌+◌, ◌*◌, ◌≤◌, ◌<◌, ◌^◌, ◌&&◌, List, [], ◌∷◌, ◌++◌, length, flat_map, Option, Some, None, IsTrue, ap, inl, inr, arith, length-append}
use Rattle.std.specs.Prelude.{nat_eq}
use Rattle.std.specs.List.{list_all}
use Rattle.std.specs.Str.{bytes_eq}
use Rattle.std.proofs.lemmas.Bool.{and_parts, or_cases}
use Rattle.std.proofs.lemmas.List.Sums.{sum_by-cons}
use Rattle.std.proofs.lemmas.Slice.Eq.{bytes_eq-Decides}
use Rattle.bts_names.specs.Grammar.{is_name_within}
use Rattle.bts_names.specs.Vocabulary.{resp_number, reason_number, mode_number, status_number, kind_number, timer_number}
use Rattle.bts_names.specs.declared.key.Key.{Key}
use Rattle.bts_names.specs.declared.reply.Leaving.TheVariants as leaving_
use Rattle.bts_names.specs.declared.reply.Reply.{Reply}
use Rattle.bts_names.specs.declared.reply.Value.{Value}
use Rattle.bts_names.specs.declared.reply.Value.TheVariants as value_
use Rattle.bts_command.specs.Sizes.{data_bytes, got_bytes, put_bytes}
use Rattle.bts_command.specs.declared.command.Call.{Call}
use Rattle.bts_command.specs.declared.command.Command.{Command}
use Rattle.bts_command.specs.declared.command.Command.TheVariants as command_
use Rattle.bts_command.specs.declared.command.Due.TheVariants as due_
use Rattle.bts_command.specs.declared.command.Spot.TheVariants as spot_
use Rattle.bts_command.specs.declared.command.Target.TheVariants as target_
use Rattle.bts_command.specs.declared.ended.End.TheVariants as end_
use Rattle.bts_command.specs.declared.ended.Ended.{Ended}
use Rattle.bts_command.specs.declared.ended.UnitKind.{UnitKind}
use Rattle.bts_command.specs.declared.ended.UnitKind.TheVariants as unit_
use Rattle.bts_names.specs.Names.{Name, initial_name}
use Rattle.bts_codec.specs.Formats.{Format, numbered, ◌&◌, number, number_from, string, at_most, optional}
use Rattle.bts_codec.specs.Fields.{name, name_within, transid, program, code, path, key, moment, u32_from, flag, flag_number, resp, reason, mode, status, kind, timer_status}
use Rattle.bts_codec.specs.Commands.{target, spot, due, acquired, command, command_written}
use Rattle.bts_codec.specs.Replies.{event_name, code_or_none, code_bytes, is_code_or_none, is_event_name, leaving, value, reply, any_reply, is_reply}
use Rattle.bts_codec.specs.Sizes.{most_around, most_of_call}
use Rattle.bts_codec.specs.Units.{call, calls, end, front, front_of, back, back_of, is_quiet, is_unit, kind_written, last_unit, parts, quiet_parts, payload}
use Rattle.bts_codec.proofs.Lengths.{IsWithin, pair_within, tagged_within, at_most_within, optional_within, number_within, number_from_within, name_length, string_long, name_within_within, path_within}
use Rattle.bts_codec.proofs.StoredUnits.{is_stored}

-- ---- words

word-long : (n : Option ℕ) → length (numbered n).bytes ≤ 1
word-long None = omega arith
word-long (Some n) = omega arith

flag_within : IsWithin 1 flag
flag_within b fits = word-long (Some (flag_number b))

resp_within : IsWithin 1 resp
resp_within r fits = word-long (Some (resp_number r))

reason_within : IsWithin 1 reason
reason_within r fits = word-long (Some (reason_number r))

mode_within : IsWithin 1 mode
mode_within m fits = word-long (mode_number m)

status_within : IsWithin 1 status
status_within s fits = word-long (Some (status_number s))

kind_within : IsWithin 1 kind
kind_within k fits = word-long (Some (kind_number k))

timer_status_within : IsWithin 1 timer_status
timer_status_within s fits = word-long (Some (timer_number s))

-- ---- arguments

name_is_within : IsWithin 26 name
name_is_within = name_within_within 16

optional_name_within : IsWithin 27 (optional name)
optional_name_within = optional_within name 26 27 name_is_within (omega arith) (omega arith)

code_within : IsWithin 14 code
code_within = name_within_within 4

transid_within : IsWithin 14 transid
transid_within = name_within_within 4

program_within : IsWithin 18 program
program_within = name_within_within 8

target_within : IsWithin 27 target
target_within (target_.Activity a) fits = tagged_within name 26 name_is_within a fits 1 27 (omega arith)
target_within target_.AcqProcess fits = omega arith
target_within target_.AcqActivity fits = omega arith

spot_within : IsWithin 27 spot
spot_within spot_.Own fits = omega arith
spot_within spot_.Process fits = omega arith
spot_within (spot_.Of t) fits = target_within t fits

due_within : IsWithin 11 due
due_within (due_.After n) fits = tagged_within (u32_from 0) 10 (number_from_within 0 4_294_967_295) n fits 0 11 (omega arith)
due_within (due_.At m) fits = tagged_within moment 10 (number_from_within 0 _) m fits 1 11 (omega arith)

acquired_within : IsWithin 1 acquired
acquired_within None fits = omega arith
acquired_within (Some (target_.Activity a)) fits = absurd (cc fits)
acquired_within (Some target_.AcqProcess) fits = omega arith
acquired_within (Some target_.AcqActivity) fits = omega arith

name_spot_within : IsWithin 53 (name & spot)
name_spot_within = pair_within name spot 26 27 53 name_is_within spot_within (omega arith)

names_within : IsWithin 270 (at_most 8 name)
names_within = at_most_within name 8 26 270 name_is_within (omega arith)

-- ---- commands

-- behind a tag, and in no more than the bytes of a path behind one
within_path : {A : Type 0} (f : Format A) (j : ℕ) → IsWithin j f → j ≤ 330 → (x : A) → IsTrue (f.fits x) → (tag : ℕ) → length (tag ∷ f.spell x) ≤ 331
within_path f j hf fit x fits tag = tagged_within f j hf x fits tag 331 (omega (arith, fit))

put_long : (c : Name) (s : _) (d : List ℕ) → IsTrue ((name & spot & string).fits (c, (s, d))) → length (14 ∷ (name & spot & string).spell (c, (s, d))) ≤ 331 + length d
put_long c s d fits =
    let both = and_parts (name.fits c) ((spot & string).fits (s, d)) fits in
    let one : length (name.spell c) ≤ 26 = name_is_within c both.0 in
    let two : length (spot.spell s) ≤ 27 = spot_within s (and_parts (spot.fits s) (string.fits d) both.1).0 in
    omega (arith, one, two, string_long d, length-append (name.spell c) (spot.spell s ++ string.spell d), length-append (spot.spell s) (string.spell d))

command_long : (c : Command) → IsTrue (command.fits c) → length (command.spell c) ≤ 331 + put_bytes c
unfolding command_written
command_long (command_.DefineProcess a b) fits = within_path (transid & program) 32 (pair_within transid program 14 18 32 transid_within program_within (omega arith)) (omega arith) (a, b) fits 1
command_long command_.AcquireProcess fits = omega arith
command_long (command_.AcquireActivity a) fits = within_path path 330 path_within (omega arith) a fits 3
command_long command_.PurgeProcess fits = omega arith
command_long (command_.DefineActivity a b c d) fits =
    within_path (name & optional name & transid & program) 85
    (pair_within name (optional name & transid & program) 26 59 85 name_is_within
    (pair_within (optional name) (transid & program) 27 32 59 optional_name_within (pair_within transid program 14 18 32 transid_within program_within (omega arith)) (omega arith)) (omega arith))
    (omega arith) (a, (b, (c, d))) fits 5
command_long (command_.DeleteActivity a) fits = within_path name 26 name_is_within (omega arith) a fits 6
command_long (command_.Run a b c) fits =
    within_path (target & flag & optional name) 55
    (pair_within target (flag & optional name) 27 28 55 target_within (pair_within flag (optional name) 1 27 28 flag_within optional_name_within (omega arith)) (omega arith))
    (omega arith) (a, (b, c)) fits 7
command_long (command_.Link a b) fits = within_path (target & optional name) 54 (pair_within target (optional name) 27 27 54 target_within optional_name_within (omega arith)) (omega arith) (a, b) fits 8
command_long (command_.Check a) fits = within_path target 27 target_within (omega arith) a fits 9
command_long (command_.Cancel a) fits = within_path target 27 target_within (omega arith) a fits 10
command_long (command_.Reset a) fits = within_path target 27 target_within (omega arith) a fits 11
command_long (command_.Suspend a) fits = within_path target 27 target_within (omega arith) a fits 12
command_long (command_.Resume a) fits = within_path target 27 target_within (omega arith) a fits 13
command_long (command_.PutContainer c s d) fits = put_long c s d fits
command_long (command_.GetContainer a b) fits = within_path (name & spot) 53 name_spot_within (omega arith) (a, b) fits 15
command_long (command_.DeleteContainer a b) fits = within_path (name & spot) 53 name_spot_within (omega arith) (a, b) fits 16
command_long (command_.DefineInput a) fits = within_path name 26 name_is_within (omega arith) a fits 17
command_long (command_.DefineComposite a b c) fits =
    within_path (name & flag & at_most 8 name) 297
    (pair_within name (flag & at_most 8 name) 26 271 297 name_is_within (pair_within flag (at_most 8 name) 1 270 271 flag_within names_within (omega arith)) (omega arith))
    (omega arith) (a, (b, c)) fits 18
command_long (command_.AddSubevent a b) fits = within_path (name & name) 52 (pair_within name name 26 26 52 name_is_within name_is_within (omega arith)) (omega arith) (a, b) fits 19
command_long (command_.RemoveSubevent a b) fits = within_path (name & name) 52 (pair_within name name 26 26 52 name_is_within name_is_within (omega arith)) (omega arith) (a, b) fits 20
command_long (command_.DeleteEvent a) fits = within_path name 26 name_is_within (omega arith) a fits 21
command_long (command_.TestEvent a) fits = within_path name 26 name_is_within (omega arith) a fits 22
command_long command_.RetrieveReattach fits = omega arith
command_long (command_.RetrieveSubevent a) fits = within_path name 26 name_is_within (omega arith) a fits 24
command_long (command_.DefineTimer a b c) fits =
    within_path (name & optional name & due) 64
    (pair_within name (optional name & due) 26 38 64 name_is_within (pair_within (optional name) due 27 11 38 optional_name_within due_within (omega arith)) (omega arith))
    (omega arith) (a, (b, c)) fits 25
command_long (command_.ForceTimer a b) fits = within_path (name & acquired) 27 (pair_within name acquired 26 1 27 name_is_within acquired_within (omega arith)) (omega arith) (a, b) fits 26
command_long (command_.CheckTimer a) fits = within_path name 26 name_is_within (omega arith) a fits 27
command_long (command_.DeleteTimer a) fits = within_path name 26 name_is_within (omega arith) a fits 28
command_long (command_.Return a) fits = within_path flag 1 flag_within (omega arith) a fits 29
command_long (command_.Abend a) fits = within_path code 14 code_within (omega arith) a fits 30
command_long command_.Rollback fits = omega arith

-- ---- replies

event-length : (n : Name) → IsTrue (is_event_name n) → length n ≤ 16
event-length n fits = elim (or_cases (is_name_within 16 n) (bytes_eq n initial_name) fits) [
  | inl users ↦ name_length 16 n users
  | inr systems ↦
      let is : n ≡ initial_name = (bytes_eq-Decides n initial_name).0 systems in
      omega (arith, ap length is)
]

event_within : IsWithin 26 event_name
event_within n fits = omega (arith, string_long n, event-length n (and_parts (string.fits n) (is_event_name n) fits).1)

code-length : (c : Option Name) → IsTrue (is_code_or_none c) → length (code_bytes c) ≤ 4
code-length None fits = omega arith
code-length (Some c) fits = name_length 4 c fits

code_or_none_within : IsWithin 14 code_or_none
code_or_none_within c fits = omega (arith, string_long (code_bytes c), code-length c (and_parts (string.fits (code_bytes c)) (is_code_or_none c) fits).1)

leaving_within : IsWithin 15 leaving
leaving_within leaving_.Dormant fits = omega arith
leaving_within leaving_.Complete fits = omega arith
leaving_within (leaving_.Abended c) fits = tagged_within code 14 code_within c fits 2 15 (omega arith)

event_kind_within : IsWithin 27 (event_name & kind)
event_kind_within = pair_within event_name kind 26 1 27 event_within kind_within (omega arith)

activity_within : IsWithin 17 (mode & status & flag & code_or_none)
activity_within =
    pair_within mode (status & flag & code_or_none) 1 16 17 mode_within
    (pair_within status (flag & code_or_none) 1 15 16 status_within (pair_within flag code_or_none 1 14 15 flag_within code_or_none_within (omega arith)) (omega arith)) (omega arith)

value_long : (v : Value) → IsTrue (value.fits v) → length (value.spell v) ≤ 331 + got_bytes v
value_long value_.Nothing fits = omega arith
value_long (value_.Bytes bytes) fits = omega (arith, string_long bytes)
value_long (value_.Id p) fits = within_path path 330 path_within (omega arith) p fits 2
value_long (value_.Event n k) fits = within_path (event_name & kind) 27 event_kind_within (omega arith) (n, k) fits 3
value_long (value_.Fired b) fits = within_path flag 1 flag_within (omega arith) b fits 4
value_long (value_.Activity m s b c) fits = within_path (mode & status & flag & code_or_none) 17 activity_within (omega arith) (m, (s, (b, c))) fits 5
value_long (value_.Timer t) fits = within_path timer_status 1 timer_status_within (omega arith) t fits 6
value_long (value_.Ran b) fits = within_path flag 1 flag_within (omega arith) b fits 7
value_long (value_.Left l) fits = within_path leaving 15 leaving_within (omega arith) l fits 8

reply_long : (r : Reply) → IsTrue (reply.fits r) → length (reply.spell r) ≤ 333 + got_bytes r.value
reply_long r fits =
    let any = (and_parts (any_reply.fits r) (is_reply r) fits).0 in
    let first = and_parts (resp.fits r.resp) ((reason & value).fits (r.reason, r.value)) any in
    let second = and_parts (reason.fits r.reason) (value.fits r.value) first.1 in
    let one : length (resp.spell r.resp) ≤ 1 = resp_within r.resp first.0 in
    let two : length (reason.spell r.reason) ≤ 1 = reason_within r.reason second.0 in
    let three : length (value.spell r.value) ≤ 331 + got_bytes r.value = value_long r.value second.1 in
    omega (arith, one, two, three, length-append (resp.spell r.resp) (reason.spell r.reason ++ value.spell r.value), length-append (reason.spell r.reason) (value.spell r.value))

call_long : (c : Call) → IsTrue (call.fits c) → length (call.spell c) ≤ 664 + (put_bytes c.command + got_bytes c.reply.value)
call_long c fits =
    let both = and_parts (command.fits c.command) (reply.fits c.reply) fits in
    let one : length (command.spell c.command) ≤ 331 + put_bytes c.command = command_long c.command both.0 in
    let two : length (reply.spell c.reply) ≤ 333 + got_bytes c.reply.value = reply_long c.reply both.1 in
    omega (arith, one, two, length-append (command.spell c.command) (reply.spell c.reply))

each_long : (cs : List Call) → IsTrue (list_all call.fits cs) → length (flat_map call.spell cs) ≤ 664 * length cs + data_bytes cs
each_long [] fits = omega arith
each_long (c ∷ cs) fits =
    let both = and_parts (call.fits c) (list_all call.fits cs) fits in
    let one : length (call.spell c) ≤ 664 + (put_bytes c.command + got_bytes c.reply.value) = call_long c both.0 in
    let more : length (flat_map call.spell cs) ≤ 664 * length cs + data_bytes cs = each_long cs both.1 in
    let carried : data_bytes (c ∷ cs) ≡ (put_bytes c.command + got_bytes c.reply.value) + data_bytes cs = sum_by-cons (λ (x : Call). put_bytes x.command + got_bytes x.reply.value) c cs in
    omega (arith, one, more, carried, length-append (call.spell c) (flat_map call.spell cs))

-- ---- units

end_within : IsWithin 15 end
end_within end_.Commit fits = omega arith
end_within end_.Rollback fits = absurd (cc fits)
end_within (end_.Abend c) fits = tagged_within code 14 code_within c fits 2 15 (omega arith)

key_within : IsWithin 64 key
key_within k fits = pair_within (name_within 8) (name_within 36) 18 46 64 (name_within_within 8) (name_within_within 36) (omega arith) (k.ptype, k.pname) fits

front_within : IsWithin 84 front
front_within f fits =
    pair_within (number_from 1 last_unit) (moment & key) 10 74 84 (number_from_within 1 last_unit)
    (pair_within moment key 10 64 74 (number_from_within 0 _) key_within (omega arith)) (omega arith) (f.seq, (f.moment, f.key)) fits

back_long : (e : Ended) → IsTrue (back.fits (back_of e)) → length (back.spell (back_of e)) ≤ 25 + 664 * length e.calls + data_bytes e.calls
back_long e fits =
    let both = and_parts (end.fits e.end) (calls.fits e.calls) fits in
    let all = and_parts ((number_from 0 500).fits (length e.calls)) (list_all call.fits e.calls) both.1 in
    let one : length (end.spell e.end) ≤ 15 = end_within e.end both.0 in
    let count : length (number.spell (length e.calls)) ≤ 10 = number_within (length e.calls) in
    let each : length (flat_map call.spell e.calls) ≤ 664 * length e.calls + data_bytes e.calls = each_long e.calls all.1 in
    omega (arith, one, count, each, length-append (end.spell e.end) (calls.spell e.calls), length-append (number.spell (length e.calls)) (flat_map call.spell e.calls))

module _ {A : Type 0} (f : Format A) (within : IsWithin 356 f) (e : Ended) (k : Key) (x : A) where
  unit-long : IsTrue (front.fits (front_of e k)) → IsTrue (f.fits x) → IsTrue (back.fits (back_of e)) → (tag : ℕ)
      → length (tag ∷ (front.spell (front_of e k) ++ (f.spell x ++ back.spell (back_of e)))) ≤ 466 + 664 * length e.calls + data_bytes e.calls
  unit-long hf hx hb tag =
      let one : length (front.spell (front_of e k)) ≤ 84 = front_within (front_of e k) hf in
      let two : length (f.spell x) ≤ 356 = within x hx in
      let three : length (back.spell (back_of e)) ≤ 25 + 664 * length e.calls + data_bytes e.calls = back_long e hb in
      omega (arith, one, two, three, length-append (front.spell (front_of e k)) (f.spell x ++ back.spell (back_of e)), length-append (f.spell x) (back.spell (back_of e)))

  loud : IsTrue ((parts f).fits (front_of e k, (x, back_of e))) → (tag : ℕ) → length (tag ∷ (parts f).spell (front_of e k, (x, back_of e))) ≤ 466 + 664 * length e.calls + data_bytes e.calls
  loud fits tag =
      let p = and_parts (front.fits (front_of e k)) (f.fits x && back.fits (back_of e)) fits in
      let q = and_parts (f.fits x) (back.fits (back_of e)) p.1 in
      unit-long p.0 q.0 q.1 tag

  quiet : IsTrue ((quiet_parts f).fits (front_of e k, (x, back_of e))) → (tag : ℕ) → length (tag ∷ (quiet_parts f).spell (front_of e k, (x, back_of e))) ≤ 466 + 664 * length e.calls + data_bytes e.calls
  quiet fits tag =
      let p = and_parts (front.fits (front_of e k)) (f.fits x && (back.fits (back_of e) && is_quiet (back_of e))) fits in
      let q = and_parts (f.fits x) (back.fits (back_of e) && is_quiet (back_of e)) p.1 in
      unit-long p.0 q.0 (and_parts (back.fits (back_of e)) (is_quiet (back_of e)) q.1).0 tag

wider : {A : Type 0} (f : Format A) (j : ℕ) → j ≤ 356 → IsWithin j f → IsWithin 356 f
wider f j fit within x fits = let one : length (f.spell x) ≤ j = within x fits in omega (arith, fit, one)

kind_long : (e : Ended) (u : UnitKind) → IsTrue ((kind_written e u).fits) → length ((kind_written e u).bytes) ≤ 466 + 664 * length e.calls + data_bytes e.calls
kind_long e (unit_.Request n k) fits = loud (u32_from 1) (wider (u32_from 1) 10 (omega arith) (number_from_within 1 4_294_967_295)) e k n fits 1
kind_long e (unit_.Activation k p) fits = loud path (wider path 330 (omega arith) path_within) e k p fits 2
kind_long e (unit_.Notice k p) fits = quiet path (wider path 330 (omega arith) path_within) e k p fits 3
kind_long e (unit_.Expiry k p t) fits = quiet (path & name) (pair_within path name 330 26 356 path_within name_is_within (omega arith)) e k (p, t) fits 4
kind_long e (unit_.Clock n) fits = absurd (cc fits)
kind_long e (unit_.Settle n) fits = absurd (cc fits)
kind_long e (unit_.Browse n) fits = absurd (cc fits)

pub payload_long : (e : Ended) → IsTrue (is_unit e) → length (payload e) ≤ most_around + most_of_call * length e.calls + data_bytes e.calls
payload_long e fits = kind_long e e.unit (and_parts ((kind_written e e.unit).fits) (nat_eq (length e.rows) 0) fits).0

pub payload_fits : (e : Ended) → IsTrue (is_unit e) → data_bytes e.calls < 2 ^ 30 → length (payload e) < 2 ^ 31
payload_fits e fits little =
    let few : length e.calls ≤ 500 = (is_stored e fits).few in
    let long : length (payload e) ≤ most_around + most_of_call * length e.calls + data_bytes e.calls = payload_long e fits in
    omega (arith, few, long, little)
