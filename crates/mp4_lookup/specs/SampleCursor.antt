-- A cursor over the samples of a track, which are asked for by their numbers.
use Rattle.std.specs.Prelude.{ℕ, Option, Some, None, Result, Ok}
use Rattle.mp4_codec.specs.Cause.{Cause}
use Rattle.mp4_samples.specs.declared.sample.Place.{Place}
use Rattle.mp4_lookup.specs.declared.sample_cursor.SampleCursor.{SampleCursor}
use Rattle.mp4_lookup.specs.declared.track.Mp4Track.{Mp4Track}
use Rattle.mp4_lookup.specs.InOrder.{number_after}
use Rattle.mp4_lookup.specs.Tracks.{answer_at}
use Rattle.mp4_lookup.specs.TrackRuns.{track_runs}

-- the track whose samples it is over
abbrev pub track_of : SampleCursor → Mp4Track
track_of c = c.walk.tables.track.now

-- what is answered at a number of a track; past all numbers of 32 bits there is no sample
abbrev pub answer_of : Mp4Track → Option ℕ → Result (Option Place) Cause
answer_of t None = Ok None
answer_of t (Some k) = answer_at t.trak t.trafs (track_runs t) k

-- the number after this one, if it is there
abbrev pub next_after : Option ℕ → Option ℕ
next_after None = None
next_after (Some k) = number_after k
