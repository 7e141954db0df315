use Rattle.std.proofs.Common.{refl}
use Rattle.mp4_lookup.proofs.Steps.{offsets_past}
use Rattle.mp4_lookup.proofs.timing.OffsetRun.past.Goals as goal

pub returns-clause-run : goal.returns-clause-run
returns-clause-run c = offsets_past c.args.runs.now c.args.k _ c.requires.first c.requires.past refl refl
