-- Each moment has a date and time in closed form.
use Rattle.std.proofs.Common.{◌≡◌, ℕ, ◌-◌, ◌/◌, ◌%◌, ◌<◌, ◌≤◌, pos, true, refl, arith, lt-ltb, le-leb}
use Rattle.std.proofs.lemmas.Bool.{leb-true, ltb-true, and_parts}
use Rattle.bts_names.specs.Grammar.{last_second}
use Rattle.jiff_core.specs.Calendar.{days_in_month}
use Rattle.bts_timer.specs.Calendar.{Civil, days_to_year, is_civil, seconds_of, year_of, month_within, civil_of}
use Rattle.bts_timer.proofs.Days.{year_days}
use Rattle.bts_timer.proofs.Years.{LiesIn, year_lies, year_bounds}
use Rattle.bts_timer.proofs.Months.{IsDayOf, month_found}

pub record IsThere (c : Civil) : Type 0 where
  pub year_from : 1970 ≤ c.year
  pub year_to : c.year ≤ 9999
  pub month_from : 1 ≤ c.month
  pub month_to : c.month ≤ 12
  pub day_from : 1 ≤ c.day
  pub day_to : c.day ≤ days_in_month (pos c.year) c.month
  pub hour_to : c.hour < 24
  pub minute_to : c.minute < 60
  pub second_to : c.second < 60

pub there_parts : (c : Civil) → is_civil c ≡ true → IsThere c
there_parts c h =
    let seconds = and_parts _ _ h in
    let minutes = and_parts _ _ seconds.0 in
    let hours = and_parts _ _ minutes.0 in
    let days = and_parts _ _ hours.0 in
    let months = and_parts _ _ days.0 in
    let day = and_parts _ _ days.1 in
    let month = and_parts _ _ months.1 in
    let year = and_parts _ _ months.0 in
    record {
      year_from = leb-true 1970 c.year year.0;
      year_to = leb-true c.year 9999 year.1;
      month_from = leb-true 1 c.month month.0;
      month_to = leb-true c.month 12 month.1;
      day_from = leb-true 1 c.day day.0;
      day_to = leb-true c.day (days_in_month (pos c.year) c.month) day.1;
      hour_to = ltb-true c.hour 24 hours.1;
      minute_to = ltb-true c.minute 60 minutes.1;
      second_to = ltb-true c.second 60 seconds.1;
    }

pub there_from : (c : Civil) → IsThere c → is_civil c ≡ true
there_from c t =
    rw (le-leb 1970 c.year t.year_from, le-leb c.year 9999 t.year_to, le-leb 1 c.month t.month_from, le-leb c.month 12 t.month_to, le-leb 1 c.day t.day_from, le-leb c.day (days_in_month (pos c.year) c.month) t.day_to, lt-ltb c.hour 24 t.hour_to, lt-ltb c.minute 60 t.minute_to, lt-ltb c.second 60 t.second_to) refl

-- ---- the date of a moment is there, and lies so many seconds behind the first

month_of_day : (d y : ℕ) → LiesIn d y → 1970 ≤ y → IsDayOf y 12 (d - days_to_year y) (month_within y 12 (d - days_to_year y))
month_of_day d y lies from =
    let begun = lies.begun in
    let over = lies.not_over in
    let year = year_days y from in
    month_found y 12 (d - days_to_year y) (omega arith)

-- a year, a month and a day of it that make up a day, with a time of day
pub record Makes (s : ℕ) (c : Civil) : Type 0 where
  pub there : IsThere c
  pub seconds : seconds_of c ≡ s

put_together : (s y : ℕ) (at : ℕ × ℕ) → LiesIn (s / 86_400) y → 1970 ≤ y → y ≤ 9999 → IsDayOf y 12 (s / 86_400 - days_to_year y) at
    → Makes s (record { year = y; month = at.0; day = at.1; hour = s % 86_400 / 3_600; minute = s % 3_600 / 60; second = s % 60 })
put_together s y at lies from to month =
    let begun = lies.begun in
    let same = month.same in
    record {
      there = record { year_from = from; year_to = to; month_from = month.from; month_to = month.to; day_from = month.first; day_to = month.last; hour_to = omega arith; minute_to = omega arith; second_to = omega arith };
      seconds = omega arith;
    }

pub date_made : (s : ℕ) → s ≤ last_second → Makes s (civil_of s)
unfolding civil_of
date_made s h =
    let lies : LiesIn (s / 86_400) (year_of (s / 86_400)) = year_lies (s / 86_400) (omega arith) in
    let bounds = year_bounds (s / 86_400) (year_of (s / 86_400)) (omega arith) lies in
    put_together s (year_of (s / 86_400)) (month_within (year_of (s / 86_400)) 12 (s / 86_400 - days_to_year (year_of (s / 86_400)))) lies bounds.0 bounds.1 (month_of_day (s / 86_400) (year_of (s / 86_400)) lies bounds.0)
