-- Why a movie isn't written: the first part of it that is refused, and why.
use Rattle.std.specs.Prelude.{◌≡◌, ◌⊎◌, ℕ, List, [], None, Some, take, slice_get}
use Rattle.mp4_codec.specs.Cause.{Cause, out_of_memory}
use Rattle.mp4_mux.specs.declared.config.TrackConfig.{TrackConfig}
use Rattle.mp4_mux.specs.Writing.{WriterState, end_cause, start_cause, started, track_cause}
use Rattle.mp4_c.specs.declared.configs.Brand.{Brand}
use Rattle.mp4_c.specs.declared.configs.NewMovie.{NewMovie}
use Rattle.mp4_c.specs.declared.configs.NewTrack.{NewTrack}
use Rattle.mp4_c.specs.declared.samples.SampleRow.{SampleRow}
use Rattle.mp4_c.specs.declared.written.Part.{Part}
use Rattle.mp4_c.specs.declared.written.Part.TheVariants.{Movie, Track, Sample, End}
use Rattle.mp4_c.specs.TrackConfigs.{IsConfigOf, row_fault}
use Rattle.mp4_c.specs.Written.{AreWritten, HasTracks, config_of, sample_fault, with_rows}

-- a track isn't added: its row says no configuration, or the writer refuses the one that it says
pub data IsTrackFault (source : List ℕ) (st : WriterState) (row : NewTrack) (c : Cause) : Type 0 where
  no_config : row_fault source row ≡ Some c → IsTrackFault source st row c
  refused : (config : TrackConfig) → IsConfigOf source row config → track_cause st config ≡ Some c
      → IsTrackFault source st row c

-- the row with this index, from 0, is that of the first track that isn't added
abbrev pub IsRefusedTrack : List ℕ → List NewTrack → WriterState → ℕ → Cause → Type 0
IsRefusedTrack source rows begun k c =
    (row : NewTrack) × (st : WriterState) × (slice_get rows k ≡ Some row)
    × (HasTracks source (take k rows) begun st) × (IsTrackFault source st row c)

-- the row with this index, from 0, is that of the first sample that isn't written
abbrev pub IsRefusedSample : List ℕ → List SampleRow → WriterState → ℕ → Cause → Type 0
IsRefusedSample source rows ready k c =
    (row : SampleRow) × (slice_get rows k ≡ Some row) × (AreWritten source ready (take k rows))
    × (sample_fault source (with_rows source ready (take k rows)) row ≡ Some c)

-- A part of a writing is refused for this cause, after the writer had begun so; all that comes before it was accepted.
pub data IsRefusedPart (begun : WriterState) (tracks : List NewTrack) (source : List ℕ) (rows : List SampleRow)
    (part : Part) (k : ℕ) (c : Cause) : Type 0 where
  track : part ≡ Track → IsRefusedTrack source tracks begun k c → IsRefusedPart begun tracks source rows part k c
  sample : part ≡ Sample → (ready : WriterState) → HasTracks source tracks begun ready
      → IsRefusedSample source rows ready k c → IsRefusedPart begun tracks source rows part k c
  end : part ≡ End → k ≡ 0 → (ready : WriterState) → HasTracks source tracks begun ready
      → AreWritten source ready rows
      → end_cause (with_rows source ready rows) ≡ Some c → IsRefusedPart begun tracks source rows part k c

-- A writing is refused at this part for this cause, and for none before it: what the movie is begun with, or what comes
-- after it.
pub data IsRefusal (movie : NewMovie) (brands : List Brand) (tracks : List NewTrack) (source : List ℕ)
    (rows : List SampleRow) (part : Part) (k : ℕ) (c : Cause) : Type 0 where
  begin : part ≡ Movie → k ≡ 0 → start_cause (config_of movie brands) ≡ Some c
      → IsRefusal movie brands tracks source rows part k c
  later : start_cause (config_of movie brands) ≡ None
      → IsRefusedPart (started [] (config_of movie brands)) tracks source rows part k c
      → IsRefusal movie brands tracks source rows part k c

-- memory ran out, or this holds of the cause
abbrev pub OrNoMemory : (Cause → Type 0) → Cause → Type 0
OrNoMemory Refused c = (c ≡ out_of_memory) ⊎ Refused c
