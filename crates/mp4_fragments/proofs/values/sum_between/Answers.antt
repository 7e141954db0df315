use Rattle.std.proofs.Common.{◌-◌, arith}
use Rattle.mp4_fragments.proofs.ListedValues.{sum_of_first-on}
use Rattle.mp4_fragments.proofs.values.sum_between.Goals as goal

pub returns : goal.returns
returns c =
    let unlisted = c.from.result - (c.min-end.result - c.min-start.result) in
    rw (c.sum_listed.ensures.sum, c.from-2.ensures)
    (sum_of_first-on c.args.from c.args.to c.min-start.result c.min-end.result unlisted
    c.args.values.now c.args.default_value c.requires
    (omega arith) (omega arith) (omega arith))
