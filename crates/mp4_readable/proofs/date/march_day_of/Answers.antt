use Rattle.std.proofs.Common.{◌-◌, ◌*◌, ◌/◌, ◌%◌, ◌<◌, ◌≤◌, arith}
use Rattle.mp4_readable.proofs.Calendar.{march_day}
use Rattle.mp4_readable.proofs.date.march_day_of.Goals as goal

pub returns : goal.returns
returns c =
    let century = c.min-century.result in
    let year = c.min-year.result in
    let in_era = c.args.days % 146097 in
    let in_century = in_era - century * 36524 in
    let in_four_years = in_century % 1461 in
    let few_centuries : century < 4 = omega arith in
    let whole_centuries : century * 36524 ≤ in_era = omega arith in
    let few_years : year < 4 = omega arith in
    let whole_years : year * 365 ≤ in_four_years = omega arith in
    march_day c.args.days (c.args.days / 146097) century (in_century / 1461) year (in_four_years - year * 365) record {
      centuries = few_centuries;
      fours = omega arith;
      years = few_years;
      last = omega arith;
      leap = λ full. (omega arith, grind arith);
      count = omega arith;
    }
