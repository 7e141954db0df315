use Rattle.std.proofs.Common.{arith}
use Rattle.mp4_fragments.proofs.ListedValues.{sum_of_first-none}
use Rattle.mp4_fragments.proofs.values.sum_of.Goals as goal

pub returns : goal.returns
returns c = omega (arith, c.sum_between.ensures, sum_of_first-none c.args.values.now c.args.default_value)
