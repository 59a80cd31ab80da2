-- A text is read as a moment exactly where jiff prints it of that moment, and so it is printed.
use Rattle.std.proofs.Common.{◌≡◌, ℕ, ◌*◌, ◌<◌, ◌≤◌, Bool, true, false, cond, ℤ, pos, refl, sym, ap, subst, ◌∙◌, arith, Option, Some, None, Result, Ok, Err, unsigned_abs, w64, to_z, of_z}
use Rattle.std.specs.Bool.{Decides, then_some}
use Rattle.std.specs.Int.{FitsUnsignedBits}
use Rattle.std.specs.Result.{result_ok, OkIff}
use Rattle.bts_names.specs.Names.{Bytes}
use Rattle.bts_names.specs.Grammar.{last_second}
use Rattle.jiff.specs.Types.{DateTime}
use Rattle.jiff.specs.Words.{Error, civil_nanos, civil_seconds, iso_datetime_text, parse_datetime, date_parts, time_parts, datetime_view}
use Rattle.jiff_fmt.specs.Temporal.{DateParts, TimeParts}
use Rattle.jiff.proofs.Family.{civil_nanos-parts, civil_nanos-civil_seconds, civil_nanos_range, same_datetime, parse_datetime-datetime_text}
use Rattle.jiff_core.proofs.SignedLemmas.{signed_arith, back_small}
use Rattle.jiff_core.proofs.CalendarLemmas.{days_in_month_bounds}
use Rattle.bts_timer.specs.Calendar.{Civil, is_civil, seconds_of, civil_of}
use Rattle.bts_timer.specs.Moments.{civil_text, moment_text, IsMomentText, civil_in, moment_in}
use Rattle.bts_timer.proofs.Days.{day_number}
use Rattle.bts_timer.proofs.Dates.{IsThere, there_parts, there_from, date_made}
use Rattle.bts_timer.proofs.Texts.{some_then, some_if, IsShort, civil_found, civil_takes}

-- ---- jiff's datetime of a date and time

abbrev datetime_of : (c : Civil) → IsThere c → DateTime
datetime_of c t = record {
  date = record { year = pos c.year; month = c.month; day = c.day; year_in = (omega (arith, signed_arith), omega (arith, signed_arith)); month_in = (t.month_from, t.month_to); day_in = (t.day_from, t.day_to) };
  time = record { hour = c.hour; minute = c.minute; second = c.second; subsec_nanosecond = 0; hour_in = t.hour_to; minute_in = t.minute_to; second_in = t.second_to; subsec_in = omega arith };
}

nanos_of : (c : Civil) (t : IsThere c) → civil_nanos (datetime_of c t) ≡ pos (1_000_000_000 * seconds_of c)
nanos_of c t =
    omega (arith, signed_arith, civil_nanos-parts (datetime_of c t), day_number c.year c.month c.day t.year_from t.day_from)

text_of_civil : (c : Civil) (t : IsThere c) → civil_text c ≡ iso_datetime_text (datetime_of c t)
unfolding civil_text
text_of_civil c t = refl

made_of : (c : Civil) (m : ℕ) → IsThere c → seconds_of c ≡ m → IsMomentText m (civil_text c)
made_of c m t e = record { at = datetime_of c t; seconds = rw (← e) (nanos_of c t); spelled = text_of_civil c t }

-- ---- printing

-- what jiff prints of a moment
pub printed : (m : ℕ) → m ≤ last_second → (at : DateTime) → civil_nanos at ≡ pos (1_000_000_000 * m) → iso_datetime_text at ≡ moment_text m
printed m h at seconds =
    let made = date_made m h in
    let nanos : civil_nanos (datetime_of (civil_of m) made.there) ≡ pos (1_000_000_000 * m) = rw made.seconds at (nanos_of (civil_of m) made.there) in
    ap iso_datetime_text (same_datetime at (datetime_of (civil_of m) made.there) (seconds ∙ sym nanos)) ∙ sym (text_of_civil (civil_of m) made.there)

pub spelled_is_in_range : (bytes : Bytes) (m : ℕ) → IsMomentText m bytes → m ≤ last_second
spelled_is_in_range bytes m t =
    let seconds = t.seconds in
    omega (arith, signed_arith, civil_nanos_range t.at)

pub printed_is_spelled : (m : ℕ) → m ≤ last_second → IsMomentText m (moment_text m)
printed_is_spelled m h = let made = date_made m h in made_of (civil_of m) m made.there made.seconds

pub spelled_is_printed : (bytes : Bytes) (m : ℕ) → IsMomentText m bytes → bytes ≡ moment_text m
spelled_is_printed bytes m t = t.spelled ∙ printed m (spelled_is_in_range bytes m t) t.at t.seconds

-- ---- reading

day_short : (c : Civil) → IsThere c → c.day < 100
day_short c t =
    let to = t.day_to in
    let most = days_in_month_bounds (pos c.year) c.month in
    omega arith

is_short : (c : Civil) → IsThere c → IsShort c
is_short c t =
    let year = t.year_to in
    let month = t.month_to in
    let hour = t.hour_to in
    let minute = t.minute_to in
    let second = t.second_to in
    record { year = omega arith; month = omega arith; day = day_short c t; hour = omega arith; minute = omega arith; second = omega arith }

spelled_read : (c : Civil) (m : ℕ) → is_civil c ≡ true → seconds_of c ≡ m → moment_in (civil_text c) ≡ Some m
unfolding moment_in
spelled_read c m there seconds =
    rw (civil_found c (is_short c (there_parts c there)), there, seconds) refl

pub read_of_printed : (m : ℕ) → m ≤ last_second → moment_in (moment_text m) ≡ Some m
read_of_printed m h = let made = date_made m h in spelled_read (civil_of m) m (there_from (civil_of m) made.there) made.seconds

pub read_of_spelled : (bytes : Bytes) (m : ℕ) → IsMomentText m bytes → moment_in bytes ≡ Some m
read_of_spelled bytes m t =
    rw (spelled_is_printed bytes m t) (read_of_printed m (spelled_is_in_range bytes m t))

moment_or : Option ℕ → ℕ
moment_or None = 0
moment_or (Some m) = m

pub spelled_of_read : (bytes : Bytes) (m : ℕ) → moment_in bytes ≡ Some m → IsMomentText m bytes
unfolding moment_in moment_or
spelled_of_read bytes m e =
    let civil = some_then (civil_in bytes) (λ c. cond (is_civil c) (Some (seconds_of c)) None) m e in
    let test = some_if (is_civil civil.0) (Some (seconds_of civil.0)) m civil.2 in
    rw (civil_takes bytes civil.0 civil.1) (made_of civil.0 m (there_parts civil.0 test.0) (ap moment_or test.1))

-- ---- what jiff reads in the text of a moment

abbrev parts : DateTime → DateParts × TimeParts
parts at = (date_parts at.date, time_parts at.time)

parts_or : Result (DateParts × TimeParts) Error → DateParts × TimeParts → DateParts × TimeParts
parts_or (Ok x) other = x
parts_or (Err e) other = other

datetime_or : Option DateTime → DateTime → DateTime
datetime_or None other = other
datetime_or (Some at) other = at

same_seconds : (a b : DateTime) → parts a ≡ parts b → civil_seconds a ≡ civil_seconds b
unfolding civil_seconds
same_seconds a b e =
    let year : a.date.year ≡ b.date.year = ap (λ (x : DateParts × TimeParts). x.0.year) e in
    let month : a.date.month ≡ b.date.month = ap (λ (x : DateParts × TimeParts). x.0.month) e in
    let day : a.date.day ≡ b.date.day = ap (λ (x : DateParts × TimeParts). x.0.day) e in
    let hour : a.time.hour ≡ b.time.hour = ap (λ (x : DateParts × TimeParts). x.1.hour) e in
    let minute : a.time.minute ≡ b.time.minute = ap (λ (x : DateParts × TimeParts). x.1.minute) e in
    let second : a.time.second ≡ b.time.second = ap (λ (x : DateParts × TimeParts). x.1.second) e in
    rw (year, month, day, hour, minute, second) refl

parsed : (bytes : Bytes) (m : ℕ) (t : IsMomentText m bytes) → parse_datetime bytes ≡ Ok (parts t.at)
parsed bytes m t = rw t.spelled (parse_datetime-datetime_text t.at)

whole_seconds : (m : ℕ) (at : DateTime) → civil_nanos at ≡ pos (1_000_000_000 * m) → civil_seconds at ≡ pos m
whole_seconds m at nanos = omega (arith, signed_arith, civil_nanos-civil_seconds at)

-- it reads some datetime there, and one that lies so many seconds behind 1970
pub is_read : (bytes : Bytes) (m : ℕ) (r : Result DateTime Error) → datetime_view r ≡ parse_datetime bytes → moment_in bytes ≡ Some m → result_ok r ≡ None → ⊥
is_read bytes m (Ok at) view read none = cc
is_read bytes m (Err e) view read none =
    let t = spelled_of_read bytes m read in
    let ok : ◌≡◌ {A = Result (DateParts × TimeParts) Error} (Err e) (Ok (parts t.at)) = view ∙ parsed bytes m t in
    cc

seconds_read : (bytes : Bytes) (m : ℕ) (r : Result DateTime Error) (at : DateTime) → datetime_view r ≡ parse_datetime bytes → moment_in bytes ≡ Some m → result_ok r ≡ Some at → civil_seconds at ≡ pos m
unfolding parts_or datetime_or
seconds_read bytes m (Ok b) at view read is =
    let t = spelled_of_read bytes m read in
    let same : parts b ≡ parts t.at = ap (λ (x : Result (DateParts × TimeParts) Error). parts_or x (parts b)) (view ∙ parsed bytes m t) in
    ap civil_seconds (sym (ap (λ (o : Option DateTime). datetime_or o b) is)) ∙ same_seconds b t.at same ∙ whole_seconds m t.at t.seconds
seconds_read bytes m (Err e) at view read is = cc

fits : {E : Type 0} (m : ℕ) (s : Result ℕ E) → m ≤ last_second → OkIff s (FitsUnsignedBits 64 (pos m)) m → result_ok s ≡ Some m
fits m (Ok n) h is = ap Some is.1
fits m (Err e) h is = absurd (is (omega arith))

-- which are taken as a number that is not negative
pub seconds_taken : {E : Type 0} (bytes : Bytes) (m : ℕ) (r : Result DateTime Error) (at : DateTime) (z : ℤ) (s : Result ℕ E) → datetime_view r ≡ parse_datetime bytes → moment_in bytes ≡ Some m → result_ok r ≡ Some at → z ≡ civil_seconds at
    → OkIff s (FitsUnsignedBits 64 (to_z w64 (of_z w64 z))) (unsigned_abs (to_z w64 (of_z w64 z))) → result_ok s ≡ Some m
seconds_taken bytes m r at z s view read is seconds taken =
    let range = spelled_is_in_range bytes m (spelled_of_read bytes m read) in
    let same : z ≡ pos m = seconds ∙ seconds_read bytes m r at view read is in
    let back : to_z w64 (of_z w64 z) ≡ pos m = rw same (back_small w64 (pos m) (omega arith)) in
    fits m s range (rw back at taken)

pub unread : (o : Option ℕ) → ((m : ℕ) → o ≡ Some m → ⊥) → None ≡ o
unread None h = refl
unread (Some m) h = absurd (h m refl)

-- where it reads one, that one's text decides
pub compared : (bytes text : Bytes) (m : ℕ) (same : Bool) → m ≤ last_second → text ≡ moment_text m → Decides same (text ≡ bytes) → ((n : ℕ) → moment_in bytes ≡ Some n → n ≡ m) → then_some same m ≡ moment_in bytes
compared bytes text m true h e d only =
    subst (λ (b : Bytes). Some m ≡ moment_in b) (sym e ∙ d.0 refl) (sym (read_of_printed m h))
compared bytes text m false h e d only =
    unread (moment_in bytes) (λ n read.
    let printed_so : bytes ≡ moment_text n = spelled_is_printed bytes n (spelled_of_read bytes n read) in
    let test = d.1 (e ∙ ap moment_text (sym (only n read)) ∙ sym printed_so) in
    cc)
