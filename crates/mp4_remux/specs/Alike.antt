-- Two movies of which the samples of a track are read alike.
use Rattle.std.specs.Prelude.{◌≡◌, ◌+◌, ◌≤◌, ◌⊎◌, ℕ, Some, None, Ok}
use Rattle.mp4_samples.specs.Samples.{TimedSample}
use Rattle.mp4_media.specs.RoundTrip.{sample_read, samples_counted}
use Rattle.mp4_media.specs.declared.reader.Mp4Reader.{Mp4Reader}

-- The track with this id is read from both movies alike: the same samples at the numbers from 1 on, with their bytes,
-- times and marks, and then none, or there are none as the track says; and both have equally many.
pub record HasSameSamples (one other : Mp4Reader) (id : ℕ) : Type 0 where
  pub count : ℕ
  pub same : (k : ℕ) → 1 ≤ k → k ≤ count → (s : TimedSample) × ((sample_read one id k ≡ Ok (Some s))
      × (sample_read other id k ≡ Ok (Some s)))
  pub none : ((count ≡ 0) × (samples_counted one id ≡ Ok 0)) ⊎ ((sample_read one id (count + 1) ≡ Ok None)
      × (sample_read other id (count + 1) ≡ Ok None))
  pub counted : samples_counted other id ≡ samples_counted one id
