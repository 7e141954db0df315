-- The kinds of tracks, by their handlers (ISO/IEC 14496-12, 8.4.3).
use Rattle.std.specs.Prelude.{ℕ, [], ◌∷◌, Result}
use Rattle.std.specs.Int.{w32, from_be_bytes}
use Rattle.mp4_codec.specs.declared.four_cc.FourCC.{FourCC}
use Rattle.mp4_codec.specs.Cause.{Cause}
use Rattle.mp4_entry.specs.declared.track_type.TrackType.{TrackType}
use Rattle.mp4_entry.specs.declared.track_type.TrackType.TheVariants.{Video, Audio, Subtitle}
use Rattle.mp4_entry.specs.Numbered.{numbered}

-- the four bytes of a handler, as a number: "vide", "soun", "sbtl"
abbrev pub handler_number : TrackType → ℕ
handler_number Video = 0x76696465
handler_number Audio = 0x736f756e
handler_number Subtitle = 0x7362746c

-- the kind of track with this handler
abbrev pub track_type_of : FourCC → Result TrackType Cause
track_type_of handler =
    numbered handler_number (Video ∷ Audio ∷ Subtitle ∷ []) (from_be_bytes w32 handler.value)
