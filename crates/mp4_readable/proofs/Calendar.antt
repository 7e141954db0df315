-- Years that begin in March, and those of the calendar.
use Rattle.std.proofs.Common.{◌≡◌, ℕ, ◌+◌, ◌-◌, ◌*◌, ◌/◌, ◌^◌, ◌<◌, ◌≤◌, zero, suc, ◌⊎◌, true, refl, sym, arith}
use Rattle.std.proofs.lemmas.Bool.Decides.{nat_tests}
use Rattle.mp4_readable.specs.declared.date.MarchDay.{MarchDay}
use Rattle.mp4_readable.specs.Calendar.{days_of_february, days_of_march_years, days_of_month, days_of_months}
use Rattle.mp4_readable.specs.Calendar.{days_of_year, days_of_years}
use Rattle.mp4_readable.specs.Calendar.{IsDayAfter, IsMarchDayAfter, is_leap_year}

-- the days of so many years that begin in March, in closed form
abbrev pub march_days : ℕ → ℕ
march_days n = n * 365 + n / 4 - n / 100 + n / 400

march_days-suc : (n : ℕ) → march_days (suc n) ≡ march_days n + days_of_year (n + 1)
march_days-suc n = grind (arith, nat_tests)

pub march_days_closed : (n : ℕ) → days_of_march_years n ≡ march_days n
unfolding days_of_march_years
march_days_closed zero = refl
march_days_closed (suc n) =
    let before = march_days_closed n in
    let step = march_days-suc n in
    rw (step, ← before)

-- the years of the calendar from 1904 on end ten months after those that begin in March
pub years_by_march : (n : ℕ) → days_of_years n + 695055 ≡ days_of_march_years (1903 + n)
unfolding days_of_years days_of_march_years
years_by_march zero = sym (march_days_closed 1903)
years_by_march (suc n) =
    let before = years_by_march n in
    let next : 1903 + suc n ≡ suc (1903 + n) = omega arith in
    let year : 1903 + n + 1 ≡ 1904 + n = omega arith in
    rw (next, year, ← before) (omega arith)

-- the days of years in eras, centuries and fours
in_march_years : (e c f y : ℕ) → c < 4 → f < 25 → y < 4
    → days_of_march_years (e * 400 + c * 100 + f * 4 + y) ≡ e * 146097 + c * 36524 + f * 1461 + y * 365
in_march_years e c f y few_centuries few_fours few_years =
    let years = e * 400 + c * 100 + f * 4 + y in
    let fours : years / 4 ≡ e * 100 + c * 25 + f = omega arith in
    let centuries : years / 100 ≡ e * 4 + c = omega arith in
    let eras : years / 400 ≡ e = omega arith in
    rw (march_days_closed, fours, centuries, eras) (omega arith)

-- a year before that of a leap day, which isn't the last of a century, or is the last of four
pub leap_day : (e c f : ℕ) → f < 24 → is_leap_year (e * 400 + c * 100 + f * 4 + 3 + 1) ≡ true
leap_day e c f few = grind (arith, nat_tests)

pub leap_era : (e : ℕ) → is_leap_year (e * 400 + 3 * 100 + 24 * 4 + 3 + 1) ≡ true
leap_era e = grind (arith, nat_tests)

-- a year has 365 days or more
pub least_year : (y : ℕ) → 365 ≤ days_of_year y
least_year y = grind (arith, nat_tests)

-- the last day of a year that begins in March is that of a leap year, or it is no 366th
pub last_day : (e c f y d : ℕ) → c < 4 → f < 25 → d < 366 → (d ≡ 365 → (y ≡ 3) × (f < 24 ⊎ (c ≡ 3)))
    → d < days_of_year (e * 400 + c * 100 + f * 4 + y + 1)
last_day e c f y d few_centuries few_fours few leap = grind (arith, nat_tests)

-- the days before a day, by eras, centuries, fours and years
pub record IsDivided (days e c f y d : ℕ) : Type 0 where
  pub centuries : c < 4
  pub fours : f < 25
  pub years : y < 4
  pub last : d < 366
  pub leap : d ≡ 365 → (y ≡ 3) × (f < 24 ⊎ (c ≡ 3))
  pub count : e * 146097 + c * 36524 + f * 1461 + y * 365 + d ≡ days

pub march_day : (days e c f y d : ℕ) → IsDivided days e c f y d
    → IsMarchDayAfter days (record { year = e * 400 + c * 100 + f * 4 + y; days = d })
march_day days e c f y d h = record {
  count = rw (in_march_years e c f y h.centuries h.fours h.years) h.count;
  last = last_day e c f y d h.centuries h.fours h.last h.leap;
}

-- the days of the months from March on, each five of which have 153: of those before one, and of that one
months_from_march : (y k : ℕ) → k < 10 → days_of_months y (suc (suc k)) ≡ 31 + days_of_february y + (153 * k + 2) / 5
unfolding days_of_months
months_from_march y zero few = grind arith
months_from_march y (suc zero) few = grind arith
months_from_march y (suc (suc zero)) few = grind arith
months_from_march y (suc (suc (suc zero))) few = grind arith
months_from_march y (suc (suc (suc (suc zero)))) few = grind arith
months_from_march y (suc (suc (suc (suc (suc zero))))) few = grind arith
months_from_march y (suc (suc (suc (suc (suc (suc zero)))))) few = grind arith
months_from_march y (suc (suc (suc (suc (suc (suc (suc zero))))))) few = grind arith
months_from_march y (suc (suc (suc (suc (suc (suc (suc (suc zero)))))))) few = grind arith
months_from_march y (suc (suc (suc (suc (suc (suc (suc (suc (suc zero))))))))) few = grind arith
months_from_march y (suc (suc (suc (suc (suc (suc (suc (suc (suc (suc n)))))))))) few = absurd (omega arith)

month_from_march : (y k : ℕ) → k < 10 → days_of_month y (k + 3) + (153 * k + 2) / 5 ≡ (153 * (k + 1) + 2) / 5
month_from_march y zero few = grind arith
month_from_march y (suc zero) few = grind arith
month_from_march y (suc (suc zero)) few = grind arith
month_from_march y (suc (suc (suc zero))) few = grind arith
month_from_march y (suc (suc (suc (suc zero)))) few = grind arith
month_from_march y (suc (suc (suc (suc (suc zero))))) few = grind arith
month_from_march y (suc (suc (suc (suc (suc (suc zero)))))) few = grind arith
month_from_march y (suc (suc (suc (suc (suc (suc (suc zero))))))) few = grind arith
month_from_march y (suc (suc (suc (suc (suc (suc (suc (suc zero)))))))) few = grind arith
month_from_march y (suc (suc (suc (suc (suc (suc (suc (suc (suc zero))))))))) few = grind arith
month_from_march y (suc (suc (suc (suc (suc (suc (suc (suc (suc (suc n)))))))))) few = absurd (omega arith)

-- a year has the days of its February and 337 others
year_by_february : (y : ℕ) → days_of_year y ≡ 337 + days_of_february y
year_by_february y = grind (arith, nat_tests)

-- a day of a year that begins in March, from March to December
pub until_december : (days k : ℕ) (m : MarchDay) → IsMarchDayAfter (days + 695361) m → k ≡ (5 * m.days + 2) / 153
    → k < 10 → IsDayAfter days (record { year = m.year; month = k + 3; day = m.days - (153 * k + 2) / 5 + 1 })
unfolding days_of_years
until_december days k m h month few =
    let closed = march_days_closed m.year in
    let first : 1904 ≤ m.year = omega (arith, closed, h.count) in
    let n = m.year - 1904 in
    let next : 1903 + suc n ≡ m.year = omega arith in
    let year : 1904 + n ≡ m.year = omega arith in
    let years = rw (next, year) at (years_by_march (suc n)) in
    let before : k + 3 - 1 ≡ suc (suc k) = omega arith in
    let months = months_from_march m.year k few in
    let feb = year_by_february m.year in
    record {
      first_year = first;
      first_month = omega arith;
      last_month = omega arith;
      first_day = omega arith;
      last_day = omega (arith, month_from_march m.year k few);
      count = rw before (omega (arith, years, months, h.count, feb));
    }

most_february : (y : ℕ) → days_of_february y ≤ 29
most_february y = grind (arith, nat_tests)

january_and_february : (y k : ℕ) → k < 2 → days_of_months y (10 + k - 9 - 1) + 306 ≡ (153 * (10 + k) + 2) / 5
unfolding days_of_months
january_and_february y zero few = grind arith
january_and_february y (suc zero) few = grind arith
january_and_february y (suc (suc k)) few = absurd (omega arith)

-- a day of a year's last two months from March on lies in its month
last_of_two : (y k d : ℕ) → k ≡ (5 * d + 2) / 153 → 10 ≤ k → k < 12 → d < 337 + days_of_february y
    → d - (153 * k + 2) / 5 + 1 ≤ days_of_month y (k - 9)
last_of_two y k d month least few last = grind (arith, nat_tests)

-- the days of the months before January and February, and of those two
months_to_march : (y k : ℕ) → 10 ≤ k → k < 12 → days_of_months y (k - 9 - 1) + 306 ≡ (153 * k + 2) / 5
unfolding days_of_months
months_to_march y k least few =
    let before = k - 10 in
    let here : k ≡ 10 + before = omega arith in
    let small : before < 2 = omega arith in
    rw here (january_and_february y before small)

-- the same in January and in February
pub until_february : (days k : ℕ) (m : MarchDay) → IsMarchDayAfter (days + 695361) m → k ≡ (5 * m.days + 2) / 153
    → 10 ≤ k → IsDayAfter days (record { year = m.year + 1; month = k - 9; day = m.days - (153 * k + 2) / 5 + 1 })
until_february days k m h month least =
    let closed = march_days_closed m.year in
    let feb = year_by_february (m.year + 1) in
    let short : days_of_february (m.year + 1) ≤ 29 = most_february (m.year + 1) in
    let few : k < 12 = omega (arith, h.last) in
    let first : 1904 ≤ m.year + 1 = omega (arith, closed, h.count, h.last) in
    let n = m.year + 1 - 1904 in
    let year : 1903 + n ≡ m.year = omega arith in
    let years = rw year at (years_by_march n) in
    let months = months_to_march (m.year + 1) k least few in
    record {
      first_year = first;
      first_month = omega arith;
      last_month = omega arith;
      first_day = omega arith;
      last_day = last_of_two (m.year + 1) k m.days month least few (omega (arith, h.last));
      count = omega (arith, years, months, h.count);
    }

-- the number of a day's year is far below 64 bits
pub few_years : (days : ℕ) (m : MarchDay) → days < 2 ^ 62 → IsMarchDayAfter (days + 695361) m → m.year < 2 ^ 62
few_years days m few h = omega (arith, march_days_closed m.year, h.count)
