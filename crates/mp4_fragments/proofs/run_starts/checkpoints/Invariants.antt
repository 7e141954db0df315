use Rattle.std.proofs.Common.{◌≡◌, ◌*◌, length}
use Rattle.mp4_fragments.specs.RunSamples.{at_run_sample}
use Rattle.mp4_fragments.specs.Checkpoints.{AreCheckpoints}
use Rattle.mp4_fragments.proofs.run_starts.checkpoints.Given as goal

abbrev pub invariant-loop-q : goal.invariant-loop-q
invariant-loop-q l = record {
  checks : AreCheckpoints l.run l.defaults l.fn.first l.checks;
  many : length l.checks ≡ l.q;
  at : l.at ≡ at_run_sample l.run l.defaults l.fn.first (64 * l.q);
}
