-- Where a walk is has one proof at most, so it may be a ghost field.
use Rattle.std.specs.Prelude.{List}
use Rattle.std.proofs.Props.{props}
use Rattle.mp4_fragments.specs.Cursor.{IsAmongRuns}
use Rattle.mp4_fragments.specs.RunSamples.{PlacedRun}
use Rattle.mp4_fragments.specs.declared.cursor.RunPosition.{RunPosition}
use Rattle.mp4_fragments.specs.declared.cursor.RunPosition.TheVariants.{InRun, AfterRun}

pub IsAmongRuns-prop : (runs : List PlacedRun) (p : RunPosition) → IsProp (IsAmongRuns runs p)
IsAmongRuns-prop runs (InRun c) = hlevel props
IsAmongRuns-prop runs (AfterRun e) = hlevel props
