-- The Gregorian calendar, by the lengths of its months and years (ISO 8601, 3.2.1), counted from 1904 on, as times of
-- boxes are (ISO/IEC 14496-12, 8.2.2).
use Rattle.std.specs.Prelude.{◌≡◌, ℕ, zero, suc, ◌+◌, ◌-◌, ◌*◌, ◌%◌, ◌<◌, ◌≤◌, Bool, not, ◌&&◌, ◌||◌, ◌==◌}
use Rattle.std.specs.Prelude.{if◌then◌else◌}
use Rattle.mp4_readable.specs.declared.date.Day.{Day}
use Rattle.mp4_readable.specs.declared.date.MarchDay.{MarchDay}
use Rattle.mp4_readable.specs.declared.date.TimeOfDay.{TimeOfDay}

-- each fourth year has a day more, but of the years that end a century each fourth alone
abbrev pub is_leap_year : ℕ → Bool
is_leap_year year = (year % 4 == 0) && (not (year % 100 == 0) || (year % 400 == 0))

-- how many days a year has
abbrev pub days_of_year : ℕ → ℕ
days_of_year year = if is_leap_year year then 366 else 365

-- how many days February has
abbrev pub days_of_february : ℕ → ℕ
days_of_february year = if is_leap_year year then 29 else 28

-- how many days a month of a year has, January being 1
abbrev pub days_of_month : ℕ → ℕ → ℕ
days_of_month year month =
    if month == 2 then days_of_february year else
    if (month == 4) || (month == 6) || (month == 9) || (month == 11) then 30 else 31

-- how many days so many years have from 1904 on
unfoldable pub days_of_years : ℕ → ℕ
days_of_years zero = 0
days_of_years (suc years) = days_of_years years + days_of_year (1904 + years)

-- how many days the first months of a year have
unfoldable pub days_of_months : ℕ → ℕ → ℕ
days_of_months year zero = 0
days_of_months year (suc months) = days_of_months year months + days_of_month year (suc months)

-- how many days so many years have that begin in March, from that of the year 0 on: as many as the years in which they
-- end, in whose February the day is that a leap year has more
unfoldable pub days_of_march_years : ℕ → ℕ
days_of_march_years zero = 0
days_of_march_years (suc years) = days_of_march_years years + days_of_year (years + 1)

-- a day of a year that begins in March, which has so many days before it from March of the year 0 on
pub record IsMarchDayAfter (days : ℕ) (date : MarchDay) : Type 0 where
  pub count : days_of_march_years date.year + date.days ≡ days
  pub last : date.days < days_of_year (date.year + 1)

-- a day of the calendar that has so many days before it, from the first of January of 1904 on
pub record IsDayAfter (days : ℕ) (date : Day) : Type 0 where
  pub first_year : 1904 ≤ date.year
  pub first_month : 1 ≤ date.month
  pub last_month : date.month ≤ 12
  pub first_day : 1 ≤ date.day
  pub last_day : date.day ≤ days_of_month date.year date.month
  pub count : days_of_years (date.year - 1904) + days_of_months date.year (date.month - 1) + (date.day - 1) ≡ days

-- a time of a day that has so many seconds before it, of days that have no leap second
pub record IsTimeAfter (seconds : ℕ) (time : TimeOfDay) : Type 0 where
  pub hour : time.hour < 24
  pub minute : time.minute < 60
  pub second : time.second < 60
  pub count : (time.hour * 60 + time.minute) * 60 + time.second ≡ seconds
