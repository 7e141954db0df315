use Rattle.std.proofs.Common.{refl, arith}
use Rattle.mp4_readable.proofs.Calendar.{few_years, until_december, until_february}
use Rattle.mp4_readable.proofs.date.day_of.Goals as goal

pub overflow_add-result-else-month-lt10 : goal.overflow_add-result-else-month-lt10
overflow_add-result-else-month-lt10 c =
    let few = few_years c.args.days c.march_day_of-march.result c.requires c.march_day_of-march.ensures in
    omega arith

pub returns-then-month-lt10 : goal.returns-then-month-lt10
returns-then-month-lt10 c =
    until_december c.args.days _ c.march_day_of-march.result c.march_day_of-march.ensures refl c.if-month-lt10.true

pub returns-else-month-lt10 : goal.returns-else-month-lt10
returns-else-month-lt10 c =
    until_february c.args.days _ c.march_day_of-march.result c.march_day_of-march.ensures refl c.if-month-lt10.false
