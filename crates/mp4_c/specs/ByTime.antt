-- The samples of a track by the time at which they are decoded.
use Rattle.std.specs.Prelude.{ℕ, ◌+◌, ◌^◌, Bool, Option, Some, None}
use Rattle.mp4_lookup.specs.ByTime.{is_sync_sample, sample_by}
use Rattle.mp4_lookup.specs.TrackRuns.{track_runs}
use Rattle.mp4_lookup.specs.declared.track.Mp4Track.{Mp4Track}
use Rattle.mp4_samples.specs.Tables.{tables_of}
use Rattle.mp4_media.specs.Partition.{AnswersLast}
use Rattle.mp4_c.specs.declared.answer.Answer.{Answer}
use Rattle.mp4_c.specs.Answers.{done}
use Rattle.mp4_c.specs.Replies.{Gave, Reply}

-- what is replied of a number that was found, if one was: 0 says that none was
abbrev pub number_reply : Option ℕ → Reply ℕ
number_reply None = record { answer = done 0 0; room = 0 }
number_reply (Some k) = record { answer = done 1 1; room = k }

-- a call has given the last number below the end that has this
abbrev pub GaveLast : (ℕ → Bool) → ℕ → ℕ → Answer → Type 0
GaveLast has end new answer = (found : Option ℕ) × (AnswersLast has end found) × (Gave (number_reply found) new answer)

-- a call has given the number of the last sample of a track that is decoded at or before a time, as `sample_at` does
abbrev pub GaveSampleAt : ℕ → Mp4Track → ℕ → ℕ → Answer → Type 0
GaveSampleAt time t old new answer =
    GaveLast (sample_by (tables_of t.trak) (track_runs t) time) (2 ^ 32) new answer

-- a call has given the number of the last sync sample of a track up to number k, as `sync_sample_at_or_before` does
abbrev pub GaveSyncSample : ℕ → Mp4Track → ℕ → ℕ → Answer → Type 0
GaveSyncSample k t old new answer =
    GaveLast (is_sync_sample (tables_of t.trak) (track_runs t)) (k + 1) new answer
