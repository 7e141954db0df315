-- The headers of a track that is written, and that of its movie, are written and read back equal.
use Rattle.std.proofs.Common.{◌≡◌, ℕ, ◌+◌, ◌-◌, ◌^◌, ◌<◌, Bool, true, false, cond, ltb, eqb, length, None, refl}
use Rattle.std.proofs.Common.{ap, ◌∙◌, arith, lit<}
use Rattle.std.specs.Prelude.{IfSome}
use Rattle.std.proofs.lemmas.Bool.{cond_both}
use Rattle.mp4_codec.specs.declared.box_type.BoxType.TheVariants.{VmhdBox as vmhd, SmhdBox as smhd}
use Rattle.mp4_codec.specs.Cause.{◌or◌}
use Rattle.mp4_codec.specs.Bytes.{version_refusal, value_refusal}
use Rattle.mp4_codec.specs.Boxes.{optional}
use Rattle.mp4_codec.specs.FramingLaws.{length-box_bytes}
use Rattle.mp4_leaf.specs.Matrix.{IsInRangeMatrix, unity}
use Rattle.mp4_leaf.specs.Times.{times_refusal}
use Rattle.mp4_leaf.specs.Language.{language_refusal}
use Rattle.mp4_leaf.specs.Tkhd.{tkhd_payload, tkhd_refusal, IsInRangeTkhd}
use Rattle.mp4_leaf.specs.TkhdLaws.{length-tkhd_payload}
use Rattle.mp4_leaf.specs.Mdhd.{mdhd_payload, mdhd_refusal, IsInRangeMdhd}
use Rattle.mp4_leaf.specs.MdhdLaws.{length-mdhd_payload}
use Rattle.mp4_leaf.specs.Mvhd.{mvhd_payload, mvhd_refusal, IsInRangeMvhd}
use Rattle.mp4_leaf.specs.MvhdLaws.{length-mvhd_payload}
use Rattle.mp4_leaf.specs.Hdlr.{hdlr_payload, IsInRangeHdlr, IsWellFormedHdlr}
use Rattle.mp4_leaf.specs.HdlrLaws.{length-hdlr_payload}
use Rattle.mp4_leaf.specs.Vmhd.{vmhd_payload, IsInRangeVmhd, IsWellFormedVmhd, default_vmhd}
use Rattle.mp4_leaf.specs.VmhdLaws.{length-vmhd_payload}
use Rattle.mp4_leaf.specs.Smhd.{smhd_payload, IsInRangeSmhd, IsWellFormedSmhd, default_smhd}
use Rattle.mp4_leaf.specs.SmhdLaws.{length-smhd_payload}
use Rattle.mp4_entry.specs.declared.config.MediaConfig.{MediaConfig}
use Rattle.mp4_entry.specs.declared.config.MediaConfig.TheVariants.{AvcConfig as Avc, HevcConfig as Hevc}
use Rattle.mp4_entry.specs.declared.config.MediaConfig.TheVariants.{Vp9Config as Vp9, AacConfig as Aac}
use Rattle.mp4_entry.specs.declared.config.MediaConfig.TheVariants.{TtxtConfig as Ttxt}
use Rattle.mp4_entry.specs.declared.track_type.TrackType.{TrackType}
use Rattle.mp4_entry.specs.declared.track_type.TrackType.TheVariants.{Video, Audio, Subtitle}
use Rattle.mp4_entry.specs.Config.{IsInRangeMediaConfig}
use Rattle.mp4_entry.specs.TrackType.{handler_number}
use Rattle.mp4_mux.specs.declared.config.TrackConfig.{TrackConfig}
use Rattle.mp4_mux.specs.Config.{IsInRangeTrackConfig}
use Rattle.mp4_mux.specs.TrackHeaders.{version_for, header_length, picture_size, tkhd_for, mdhd_for, hdlr_for}
use Rattle.mp4_mux.specs.TrackHeaders.{vmhd_for, smhd_for, media_header_length, mvhd_for}

-- the version of a header, and its bytes

version_for-small : (duration : ℕ) → version_for duration < 2 ^ 8
version_for-small duration = chosen (ltb (2 ^ 32 - 1) duration)
  where
    chosen : (b : Bool) → cond b 1 0 < 2 ^ 8
    chosen true = lit< tt
    chosen false = lit< tt

-- the version that is chosen has room for the duration
times_for-sound : (duration : ℕ) → times_refusal (version_for duration) 0 0 duration ≡ None
unfolding times_refusal value_refusal
times_for-sound duration =
    cond_both (ltb (2 ^ 32 - 1) duration) 1 0 (λ v. (version_refusal v or value_refusal v 0 or value_refusal v 0
    or value_refusal v duration) ≡ None) (λ _. refl) (λ small. rw small refl)

header_length_for : (n duration : ℕ)
    → 8 + cond (eqb (version_for duration) 1) (n + 12) n ≡ header_length (n + 8) duration
header_length_for n duration = chosen (ltb (2 ^ 32 - 1) duration)
  where
    chosen : (b : Bool) → 8 + cond (eqb (cond b 1 0) 1) (n + 12) n ≡ cond b (n + 8 + 12) (n + 8)
    chosen true = omega arith
    chosen false = omega arith

pub unity-in_range : IsInRangeMatrix unity
unity-in_range = record {
  a = omega arith;
  b = omega arith;
  u = omega arith;
  c = omega arith;
  d = omega arith;
  v = omega arith;
  x = omega arith;
  y = omega arith;
  w = omega arith;
}

-- the header of a track

record IsSmallPicture (media : MediaConfig) : Type 0 where
  width : (picture_size media).0 < 2 ^ 16
  height : (picture_size media).1 < 2 ^ 16

small_picture : (media : MediaConfig) → IsInRangeMediaConfig media → IsSmallPicture media
small_picture (Avc c) h = record { width = h.width; height = h.height }
small_picture (Hevc c) h = record { width = h.width; height = h.height }
small_picture (Vp9 c) h = record { width = h.width; height = h.height }
small_picture (Aac c) h = record { width = lit< tt; height = lit< tt }
small_picture (Ttxt c) h = record { width = lit< tt; height = lit< tt }

pub length-tkhd_for : (id duration : ℕ) (media : MediaConfig)
    → 8 + length (tkhd_payload (tkhd_for id duration media)) ≡ header_length 92 duration
length-tkhd_for id duration media =
    ap (λ n. 8 + n) (length-tkhd_payload (tkhd_for id duration media)) ∙ header_length_for 84 duration

pub tkhd_for-in_range : (id duration : ℕ) (media : MediaConfig) → id < 2 ^ 32 → duration < 2 ^ 64
    → IsInRangeMediaConfig media → IsInRangeTkhd (tkhd_for id duration media)
tkhd_for-in_range id duration media small short h =
    let picture = small_picture media h in
    record {
      version = version_for-small duration;
      creation_time = lit< tt;
      modification_time = lit< tt;
      track_id = small;
      duration = short;
      layer = lit< tt;
      alternate_group = lit< tt;
      volume = lit< tt;
      matrix = unity-in_range;
      width = let w = picture.width in omega arith;
      height = let h = picture.height in omega arith;
    }

pub tkhd_for-sound : (id duration : ℕ) (media : MediaConfig) → tkhd_refusal (tkhd_for id duration media) ≡ None
unfolding tkhd_refusal
tkhd_for-sound id duration media = times_for-sound duration

-- the header of its media

pub length-mdhd_for : (duration : ℕ) (config : TrackConfig)
    → 8 + length (mdhd_payload (mdhd_for duration config)) ≡ header_length 32 duration
length-mdhd_for duration config =
    ap (λ n. 8 + n) (length-mdhd_payload (mdhd_for duration config)) ∙ header_length_for 24 duration

pub mdhd_for-in_range : (duration : ℕ) (config : TrackConfig) → duration < 2 ^ 64 → IsInRangeTrackConfig config
    → IsInRangeMdhd (mdhd_for duration config)
mdhd_for-in_range duration config short h = record {
  version = version_for-small duration;
  creation_time = lit< tt;
  modification_time = lit< tt;
  timescale = h.timescale;
  duration = short;
}

pub mdhd_for-sound : (duration : ℕ) (config : TrackConfig) → language_refusal config.language ≡ None
    → mdhd_refusal (mdhd_for duration config) ≡ None
unfolding mdhd_refusal
mdhd_for-sound duration config e = rw (times_for-sound duration) e

-- its handler

handler_number-small : (kind : TrackType) → handler_number kind < 2 ^ 32
handler_number-small Video = lit< tt
handler_number-small Audio = lit< tt
handler_number-small Subtitle = lit< tt

pub length-hdlr_for : (kind : TrackType) → 8 + length (hdlr_payload (hdlr_for kind)) ≡ 33
length-hdlr_for kind = ap (λ n. 8 + n) (length-hdlr_payload (hdlr_for kind))

pub hdlr_for-in_range : (kind : TrackType) → IsInRangeHdlr (hdlr_for kind)
hdlr_for-in_range kind =
    record { version = lit< tt; handler_type = (handler_number kind, handler_number-small kind, refl) }

pub hdlr_for-well_formed : (kind : TrackType) → IsWellFormedHdlr (hdlr_for kind)
hdlr_for-well_formed kind = record { flags = lit< tt; name = tt }

-- the headers of video and of sound

default_vmhd-in_range : IsInRangeVmhd default_vmhd
default_vmhd-in_range =
    record { version = lit< tt; graphics_mode = lit< tt; red = lit< tt; green = lit< tt; blue = lit< tt }

default_smhd-in_range : IsInRangeSmhd default_smhd
default_smhd-in_range = record { version = lit< tt; balance = omega arith }

pub length-media_header : (media : MediaConfig) → length (optional vmhd vmhd_payload (vmhd_for media))
    + length (optional smhd smhd_payload (smhd_for media)) ≡ media_header_length media
length-media_header (Avc c) =
    omega (arith, length-box_bytes vmhd (vmhd_payload default_vmhd), length-vmhd_payload default_vmhd)
length-media_header (Hevc c) =
    omega (arith, length-box_bytes vmhd (vmhd_payload default_vmhd), length-vmhd_payload default_vmhd)
length-media_header (Vp9 c) = refl
length-media_header (Aac c) =
    omega (arith, length-box_bytes smhd (smhd_payload default_smhd), length-smhd_payload default_smhd)
length-media_header (Ttxt c) = refl

pub vmhd_for-in_range : (media : MediaConfig) → IfSome (vmhd_for media) IsInRangeVmhd
vmhd_for-in_range (Avc c) = default_vmhd-in_range
vmhd_for-in_range (Hevc c) = default_vmhd-in_range
vmhd_for-in_range (Vp9 c) = tt
vmhd_for-in_range (Aac c) = tt
vmhd_for-in_range (Ttxt c) = tt

pub vmhd_for-well_formed : (media : MediaConfig) → IfSome (vmhd_for media) IsWellFormedVmhd
vmhd_for-well_formed (Avc c) = lit< tt
vmhd_for-well_formed (Hevc c) = lit< tt
vmhd_for-well_formed (Vp9 c) = tt
vmhd_for-well_formed (Aac c) = tt
vmhd_for-well_formed (Ttxt c) = tt

pub smhd_for-in_range : (media : MediaConfig) → IfSome (smhd_for media) IsInRangeSmhd
smhd_for-in_range (Avc c) = tt
smhd_for-in_range (Hevc c) = tt
smhd_for-in_range (Vp9 c) = tt
smhd_for-in_range (Aac c) = default_smhd-in_range
smhd_for-in_range (Ttxt c) = tt

pub smhd_for-well_formed : (media : MediaConfig) → IfSome (smhd_for media) IsWellFormedSmhd
smhd_for-well_formed (Avc c) = tt
smhd_for-well_formed (Hevc c) = tt
smhd_for-well_formed (Vp9 c) = tt
smhd_for-well_formed (Aac c) = lit< tt
smhd_for-well_formed (Ttxt c) = tt

-- the header of a movie

pub length-mvhd_for : (timescale duration : ℕ)
    → 8 + length (mvhd_payload (mvhd_for timescale duration)) ≡ header_length 108 duration
length-mvhd_for timescale duration =
    ap (λ n. 8 + n) (length-mvhd_payload (mvhd_for timescale duration)) ∙ header_length_for 100 duration

pub mvhd_for-in_range : (timescale duration : ℕ) → timescale < 2 ^ 32 → duration < 2 ^ 64
    → IsInRangeMvhd (mvhd_for timescale duration)
mvhd_for-in_range timescale duration h short = record {
  version = version_for-small duration;
  creation_time = lit< tt;
  modification_time = lit< tt;
  timescale = h;
  duration = short;
  rate = lit< tt;
  volume = lit< tt;
  matrix = unity-in_range;
  next_track_id = lit< tt;
}

pub mvhd_for-sound : (timescale duration : ℕ) → mvhd_refusal (mvhd_for timescale duration) ≡ None
unfolding mvhd_refusal
mvhd_for-sound timescale duration = times_for-sound duration
