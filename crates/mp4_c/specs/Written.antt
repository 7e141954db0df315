-- What is written of the tracks and samples that a caller gives.
use Rattle.std.specs.Prelude.{◌≡◌, ⊤, ℕ, List, [], ◌∷◌, length, Option, None, IfSome, true, false, map, ◌==◌}
use Rattle.std.specs.Prelude.{if◌then◌else◌}
use Rattle.mp4_codec.specs.Cause.{Cause, ◌or◌}
use Rattle.mp4_codec.specs.declared.four_cc.FourCC.{FourCC}
use Rattle.mp4_samples.specs.Samples.{Sample}
use Rattle.mp4_mux.specs.declared.config.Mp4Config.{Mp4Config}
use Rattle.mp4_mux.specs.declared.config.TrackConfig.{TrackConfig}
use Rattle.mp4_media.specs.Finished.{Opens}
use Rattle.mp4_media.specs.WriterFields.{KeptMovie, MayHold}
use Rattle.mp4_mux.specs.Writing.{WriterState, sample_cause, start_cause, started, track_cause, whole_of, with_end}
use Rattle.mp4_mux.specs.Writing.{with_sample, with_track}
use Rattle.mp4_mux.specs.Written.{IsWrittenMovie}
use Rattle.mp4_c.specs.declared.configs.Brand.{Brand}
use Rattle.mp4_c.specs.declared.configs.NewMovie.{NewMovie}
use Rattle.mp4_c.specs.declared.configs.NewTrack.{NewTrack}
use Rattle.mp4_c.specs.declared.samples.SampleRow.{SampleRow}
use Rattle.mp4_c.specs.Parts.{part_at, part_fault}
use Rattle.mp4_c.specs.TrackConfigs.{IsConfigOf}

-- the brand of four bytes
abbrev pub four_cc : Brand → FourCC
four_cc b = record { value = b.code }

-- what a movie is begun with
abbrev pub config_of : NewMovie → List Brand → Mp4Config
config_of movie brands = record {
  major_brand = record { value = movie.major_brand };
  minor_version = movie.minor_version;
  compatible_brands = map four_cc brands;
  timescale = movie.timescale;
}

-- the sample of a row: its bytes lie in the source
abbrev pub sample_in : List ℕ → SampleRow → Sample
sample_in source row = record {
  bytes = part_at source row.offset row.size;
  duration = row.duration;
  rendering_offset = row.rendering_offset;
  is_sync = if row.is_sync == 0 then false else true;
}

-- why a sample isn't written: its bytes aren't whole in the source, or the writer refuses it
abbrev pub sample_fault : List ℕ → WriterState → SampleRow → Option Cause
sample_fault source st row =
    part_fault source row.offset row.size or sample_cause st row.track_id (sample_in source row)

-- a writer refuses no sample of these rows, one after the other
unfoldable pub AreWritten : List ℕ → WriterState → List SampleRow → Type 0
AreWritten source st [] = ⊤
AreWritten source st (r ∷ rs) =
    (sample_fault source st r ≡ None) × AreWritten source (with_sample st r.track_id (sample_in source r)) rs

-- a writer with the samples of these rows more, in their order
unfoldable pub with_rows : List ℕ → WriterState → List SampleRow → WriterState
with_rows source st [] = st
with_rows source st (r ∷ rs) = with_rows source (with_sample st r.track_id (sample_in source r)) rs

-- a writer has one track more, which it doesn't refuse, and whose configuration is that of a row
abbrev pub HasTrack : List ℕ → NewTrack → WriterState → WriterState → Type 0
HasTrack source row old new =
    (config : TrackConfig) × (IsConfigOf source row config) × (track_cause old config ≡ None)
    × (new ≡ with_track old config)

-- a writer has exactly the tracks of these rows more, in their order, none of which it refuses
unfoldable pub HasTracks : List ℕ → List NewTrack → WriterState → WriterState → Type 0
HasTracks source [] old new = new ≡ old
HasTracks source (r ∷ rs) old new =
    (next : WriterState) × (HasTrack source r old next) × (HasTracks source rs next new)

-- These bytes are those of a writer after its end: a file that opens, whose tables describe the samples that were
-- written.
abbrev pub IsEndOf : WriterState → List ℕ → Type 0
IsEndOf st bytes =
    (bytes ≡ whole_of (with_end st)) × (Opens (with_end st)) × (IsWrittenMovie (with_end st))

-- A sink has the bytes of a writer after its end: as many, and where they are known, these.
pub record IsEndIn (st : WriterState) (contents : Option (List ℕ)) (len : ℕ) : Type 0 where
  pub bytes : IfSome contents (λ bytes. bytes ≡ whole_of (with_end st))
  pub count : len ≡ length (whole_of (with_end st))
  pub opens : Opens (with_end st)
  pub written : IsWrittenMovie (with_end st)

-- after a call, a writer may have a state to which this leads from each state that it may have had
abbrev pub Leads : (WriterState → WriterState → Type 0) → KeptMovie → KeptMovie → Type 0
Leads To old new = (st : WriterState) → MayHold old st → (next : WriterState) × (To st next) × (MayHold new next)

-- These bytes are those of a writer that had begun so, to which exactly these tracks were added, and then exactly the
-- samples of these rows, in their order, none of which was refused, and which was ended.
abbrev pub IsMovieOf : WriterState → List NewTrack → List ℕ → List SampleRow → List ℕ → Type 0
IsMovieOf begun tracks source rows bytes =
    (ready : WriterState) × (HasTracks source tracks begun ready) × (AreWritten source ready rows)
    × (IsEndOf (with_rows source ready rows) bytes)

-- The same of the bytes that a sink has.
abbrev pub IsMovieIn : WriterState → List NewTrack → List ℕ → List SampleRow → Option (List ℕ) → ℕ → Type 0
IsMovieIn begun tracks source rows contents len =
    (ready : WriterState) × (HasTracks source tracks begun ready) × (AreWritten source ready rows)
    × (IsEndIn (with_rows source ready rows) contents len)

-- These bytes are those of a movie that is begun so, which isn't refused, with these tracks and samples.
abbrev pub IsMovie : NewMovie → List Brand → List NewTrack → List ℕ → List SampleRow → List ℕ → Type 0
IsMovie movie brands tracks source rows bytes = (start_cause (config_of movie brands) ≡ None)
    × IsMovieOf (started [] (config_of movie brands)) tracks source rows bytes
