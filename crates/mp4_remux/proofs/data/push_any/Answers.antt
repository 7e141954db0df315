use Rattle.std.proofs.Common.{arith}
use Rattle.mp4_remux.proofs.data.push_any.Goals as goal

pub returns-clause-within : goal.returns-clause-within
returns-clause-within c = λ len all le. c.in_ok-push_extent.ensures.within len all (omega arith, le)
