use Rattle.std.proofs.Common.{refl, arith}
use Rattle.mp4_lookup.proofs.ChunkRuns.{chunk_taken}
use Rattle.mp4_lookup.proofs.chunk_run.ChunkRun.take.Goals as goal

pub returns-in-Some-clause-rest : goal.returns-in-Some-clause-rest
returns-in-Some-clause-rest c = λ t k first here there.
    chunk_taken t k c.args.size c.args.self.now _ first here there refl refl (omega arith)
    (omega (arith, c.in-Some.ensures, c.from.ensures))

pub returns-in-None-clause-rest : goal.returns-in-None-clause-rest
returns-in-None-clause-rest c = λ t k first here there. record {
  entry = record { first = λ h. absurd (omega (arith, h)); last = λ n from to. absurd (omega (arith, to)) };
  first = λ h. absurd (omega (arith, h));
  samples = λ n from to. absurd (omega (arith, from, to));
  after = λ more. absurd (omega (arith, more));
}
