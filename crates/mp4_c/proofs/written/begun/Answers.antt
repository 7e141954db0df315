-- A writer begins in an empty sink.
use Rattle.std.proofs.Common.{[]}
use Rattle.mp4_c.proofs.written.begun.Goals as goal

pub returns-in-Ok-clause-begun : goal.returns-in-Ok-clause-begun
returns-in-Ok-clause-begun g c =
    rw c.in_ok-config.ensures.config at (c.in-Ok.ensures.ok [] c.requires.none c.requires.empty)
