-- What becomes of the samples of a track in a format.
use Rattle.std.specs.Prelude.{◌==◌, if◌then◌else◌, ◌≡◌, ◌+◌, ◌≤◌, ◌<◌, ℕ, List, length}
use Rattle.std.specs.Prelude.{Option, Some, None, Result, Ok, Err}
use Rattle.mp4_codec.specs.declared.error.Error.{Error}
use Rattle.mp4_codec.specs.Cause.{Cause, cause_of, seen}
use Rattle.mp4_entry.specs.declared.avc1.Avc1Box.{Avc1Box}
use Rattle.mp4_entry.specs.declared.hev1.Hev1Box.{Hev1Box}
use Rattle.mp4_entry.specs.declared.esds.EsdsBox.{EsdsBox}
use Rattle.mp4_entry.specs.declared.mp4a.Mp4aBox.{Mp4aBox}
use Rattle.mp4_boxes.specs.declared.trak.TrakBox.{TrakBox}
use Rattle.mp4_samples.specs.Tables.{tables_of}
use Rattle.mp4_extract.specs.declared.adts.AdtsConfig.{AdtsConfig}
use Rattle.mp4_extract.specs.declared.annex_b.AnnexB.{AnnexB}
use Rattle.mp4_extract.specs.declared.error.ExtractError.{ExtractError}
use Rattle.mp4_extract.specs.declared.error.ExtractError.TheVariants.{OutOfMemory, Track, WrongFormat, NoSuchSample}
use Rattle.mp4_extract.specs.declared.error.ExtractError.TheVariants.{OtherDescription, Sample, Read, Write}
use Rattle.mp4_extract.specs.declared.form.SampleForm.{SampleForm}
use Rattle.mp4_extract.specs.declared.form.SampleForm.TheVariants.{AsStored, AnnexB as StreamForm, Adts as FrameForm}
use Rattle.mp4_extract.specs.declared.format.SampleFormat.{SampleFormat}
use Rattle.mp4_extract.specs.declared.format.SampleFormat.TheVariants.{AsStored as Stored, AnnexB as Stream}
use Rattle.mp4_extract.specs.declared.format.SampleFormat.TheVariants.{Adts as Frames}
use Rattle.mp4_extract.specs.Adts.{AdtsNumbers, adts_of, frame_of, numbers_of}
use Rattle.mp4_extract.specs.ByteStream.{HasUnit, IsStreamOf, RefusesStream, length_size}
use Rattle.mp4_extract.specs.ParameterSets.{HasArrays, HasSets, avc_stream, hevc_stream}

-- the byte stream of a track with these sample entries, if it is one of video
abbrev pub entry_stream : Option Avc1Box → Option Hev1Box → Result (Option AnnexB) Cause
entry_stream (Some e) hevc = Ok (Some (avc_stream e.avcc))
entry_stream None (Some e) = seen (λ stream. Some stream) (hevc_stream e.hvcc)
entry_stream None None = Ok None

unfoldable pub track_stream : TrakBox → Result (Option AnnexB) Cause
track_stream trak = entry_stream (tables_of trak).stsd.avc1 (tables_of trak).stsd.hev1

-- what the headers of a stream say, where it is of MPEG-4 audio, 0x40 (ISO/IEC 14496-1, 7.2.6.6), and they can
abbrev pub esds_adts : Option EsdsBox → Option AdtsNumbers
esds_adts None = None
esds_adts (Some e) =
    if e.es_desc.dec_config.object_type_indication == 0x40 then adts_of e.es_desc.dec_config.dec_specific else None

abbrev pub entry_adts : Option Mp4aBox → Option AdtsNumbers
entry_adts None = None
entry_adts (Some e) = esds_adts e.esds

-- what the headers of a track of sound say, where it is one and they can
unfoldable pub track_adts : TrakBox → Option AdtsNumbers
track_adts trak = entry_adts (tables_of trak).stsd.mp4a

-- this is the form of a track's samples in a format
abbrev pub IsFormOf : TrakBox → SampleFormat → SampleForm → Type 0
IsFormOf trak Stored form = form ≡ AsStored
IsFormOf trak Stream form = (stream : AnnexB) × (form ≡ StreamForm stream) × (track_stream trak ≡ Ok (Some stream))
IsFormOf trak Frames form =
    (config : AdtsConfig) × (form ≡ FrameForm config) × (track_adts trak ≡ Some (numbers_of config))

-- a track has no form in a format
abbrev pub HasNoForm : TrakBox → SampleFormat → Type 0
HasNoForm trak Stored = ⊥
HasNoForm trak Stream = track_stream trak ≡ Ok None
HasNoForm trak Frames = track_adts trak ≡ None

-- the decoder of a track with these sample entries is started with parameter sets, for which memory is wanted
abbrev pub WantsEntry : Option Avc1Box → Option Hev1Box → Type 0
WantsEntry (Some e) hevc = HasSets e.avcc
WantsEntry None (Some e) = HasArrays e.hvcc
WantsEntry None None = ⊥

abbrev pub WantsSets : TrakBox → Type 0
WantsSets trak = WantsEntry (tables_of trak).stsd.avc1 (tables_of trak).stsd.hev1

-- for this error is a track refused; as its samples are stored it never is
abbrev pub RefusesTrack : TrakBox → SampleFormat → ExtractError → Type 0
RefusesTrack trak format OutOfMemory = (format ≡ Stream) × (WantsSets trak)
RefusesTrack trak format (Track e) = (format ≡ Stream) × (track_stream trak ≡ Err (cause_of e))
RefusesTrack trak format (WrongFormat id refused) =
    (id ≡ trak.tkhd.track_id) × (refused ≡ format) × HasNoForm trak format
RefusesTrack trak format (NoSuchSample id k count) = ⊥
RefusesTrack trak format (OtherDescription k description other) = ⊥
RefusesTrack trak format (Sample k place e) = ⊥
RefusesTrack trak format (Read k e) = ⊥
RefusesTrack trak format (Write k e) = ⊥

-- these bytes are a sample in a form
abbrev pub IsInForm : SampleForm → List ℕ → List ℕ → Type 0
IsInForm AsStored sample bytes = bytes ≡ sample
IsInForm (StreamForm stream) sample bytes = IsStreamOf stream sample bytes
IsInForm (FrameForm config) sample bytes = frame_of config sample ≡ Ok bytes

-- for this cause has a sample no such form
abbrev pub RefusesSample : SampleForm → List ℕ → Error → Type 0
RefusesSample AsStored sample e = ⊥
RefusesSample (StreamForm stream) sample e = RefusesStream (length_size stream) sample e
RefusesSample (FrameForm config) sample e = frame_of config sample ≡ Err (cause_of e)

-- memory is wanted for a sample in a form, where a buffer has room for so many bytes: it isn't as it is stored, a byte
-- of it is written before it is refused, and the room isn't enough
abbrev pub NeedsRoom : SampleForm → ℕ → List ℕ → Type 0
NeedsRoom AsStored room sample = ⊥
NeedsRoom (StreamForm stream) room sample = HasUnit (length_size stream) sample
NeedsRoom (FrameForm config) room sample = (7 + length sample ≤ 8191) × (room < 7 + length sample)

-- memory is wanted for a sample in a form that is put into a buffer which has room for so many bytes: also where it is
-- as it is stored
abbrev pub WantsBuffer : SampleForm → ℕ → List ℕ → Type 0
WantsBuffer AsStored room sample = room < length sample
WantsBuffer (StreamForm stream) room sample = NeedsRoom (StreamForm stream) room sample
WantsBuffer (FrameForm config) room sample = NeedsRoom (FrameForm config) room sample
