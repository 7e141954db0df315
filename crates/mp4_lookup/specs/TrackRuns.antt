-- The runs that fragments add to a track (ISO/IEC 14496-12, 8.8.8).
use Rattle.std.specs.Prelude.{List}
use Rattle.mp4_fragments.specs.Index.{runs_of}
use Rattle.mp4_fragments.specs.RunSamples.{PlacedRun}
use Rattle.mp4_lookup.specs.declared.track.Mp4Track.{Mp4Track}

-- each with the place and the time at which it begins, in file order
abbrev pub track_runs : Mp4Track → List PlacedRun
track_runs t = runs_of t.trafs t.defaults t.runs
