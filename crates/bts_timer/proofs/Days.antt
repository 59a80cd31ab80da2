-- The days to a year and to a date in closed form are those of jiff's calendar.
use Rattle.std.proofs.Common.{◌≡◌, ℕ, suc, ◌+◌, ◌-◌, ◌≤◌, pos, ◌+ℤ◌, arith}
use Rattle.jiff_core.specs.Calendar.{day_count, days_from_civil}
use Rattle.jiff_core.proofs.SignedLemmas.{signed_arith}
use Rattle.jiff_core.proofs.MarchLemmas.{day_count-early}
use Rattle.jiff_core.proofs.CalendarLemmas.{days_from_civil-day_count, day_count-day_of_year, day_count-next_year, days_of_months_all}
use Rattle.bts_timer.specs.Calendar.{days_of_months, days_to_year}

-- a year begins that many days behind 1970
year_begins : (y : ℕ) → 1970 ≤ y → day_count (pos y) 1 1 ≡ 4_371_953 + days_to_year y
year_begins y from =
    let shift : pos y +ℤ pos 10000 ≡ pos (suc (y + 9999)) = omega (arith, signed_arith) in
    omega (arith, day_count-early (pos y) (y + 9999) 1 1 shift (omega arith) (omega arith) (omega arith))

-- and has the days of its twelve months
pub year_days : (y : ℕ) → 1970 ≤ y → days_to_year (y + 1) ≡ days_to_year y + days_of_months (pos y) 12
year_days y from =
    omega (arith, year_begins y from, year_begins (y + 1) (omega arith), day_count-next_year (pos y) (pos (y + 1)) (omega (arith, signed_arith)) (omega (arith, signed_arith)), days_of_months_all (pos y))

-- jiff's day number of a date from 1970 on
pub day_number : (y m d : ℕ) → 1970 ≤ y → 1 ≤ d → days_from_civil (pos y) m d ≡ pos (days_to_year y + days_of_months (pos y) (m - 1) + (d - 1))
day_number y m d from first =
    omega (arith, signed_arith, days_from_civil-day_count (pos y) m d, day_count-day_of_year (pos y) m d first, year_begins y from)
