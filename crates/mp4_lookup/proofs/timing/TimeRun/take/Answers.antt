use Rattle.std.proofs.Common.{refl, arith}
use Rattle.mp4_lookup.proofs.Steps.{time_first, time_taken}
use Rattle.mp4_lookup.proofs.timing.TimeRun.take.Goals as goal

pub returns-clause-taken : goal.returns-clause-taken
returns-clause-taken c = λ runs track here. time_first runs track c.args.k _ here c.requires.some

pub returns-clause-rest : goal.returns-clause-rest
returns-clause-rest c = λ runs here.
    time_taken runs c.args.k _ _ c.requires.first here (omega arith) (omega (arith, c.from.ensures)) refl refl
