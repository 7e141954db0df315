-- The names of codecs, and what they say of their configurations (RFC 6381, 3.3 and 3.4).
use Rattle.std.specs.Prelude.{ℕ, ◌-◌, ◌/◌, ◌%◌, ◌==◌, ◌&&◌, nat_lt, if◌then◌else◌, slice_index, take, drop}
use Rattle.std.specs.Prelude.{List, [], ◌∷◌, ◌++◌, length, codes, replicate, Option, Some, None, false, true}
use Rattle.std.specs.Prelude.{is_some, option_map}
use Rattle.std.specs.Fmt.{decimal, digit_glyph, digits}
use Rattle.std.specs.Int.{w32, from_be_bytes, reverse_bits}
use Rattle.std.specs.List.{flat_map}
use Rattle.std.specs.Option.{option_map_or, option_or}
use Rattle.mp4_codec.specs.declared.box_type.BoxType.{BoxType}
use Rattle.mp4_codec.specs.BoxType.{code_of}
use Rattle.mp4_codec.specs.Bytes.{coded}
use Rattle.mp4_entry.specs.declared.avc1.Avc1Box.{Avc1Box}
use Rattle.mp4_entry.specs.declared.esds.DecoderConfigDescriptor.{DecoderConfigDescriptor}
use Rattle.mp4_entry.specs.declared.esds.EsdsBox.{EsdsBox}
use Rattle.mp4_entry.specs.declared.hev1.Hev1Box.{Hev1Box}
use Rattle.mp4_entry.specs.declared.mp4a.Mp4aBox.{Mp4aBox}
use Rattle.mp4_entry.specs.declared.stsd.StsdBox.{StsdBox}
use Rattle.mp4_entry.specs.declared.vp09.Vp09Box.{Vp09Box}
use Rattle.mp4_report.specs.declared.codec_name.HevcName.{HevcName}
use Rattle.mp4_report.specs.declared.codec_name.CodecName.{CodecName}
use Rattle.mp4_report.specs.declared.codec_name.CodecName.TheVariants.{Avc1, Entry, Hev1, Mpeg4Audio, OtherAudio, Vp09}

-- the type of a sample entry alone
abbrev pub entry_name : List ℕ → CodecName
entry_name code = Entry (record { value = code })

-- of AVC: the profile, its constraints and the level
abbrev pub avc1_name : Avc1Box → CodecName
avc1_name entry =
    Avc1 (entry.avcc.avc_profile_indication ∷ entry.avcc.profile_compatibility ∷ entry.avcc.avc_level_indication ∷ [])

-- The name of a configuration of HEVC, where it isn't cut (ISO/IEC 14496-15, 8.3.3.1.2): its second byte has the
-- profile space in two bits, the tier in one and the profile in five, then come the flags of compatibility in four
-- bytes, the constraints in six, and the level in one.
unfoldable pub hevc_name : List ℕ → Option HevcName
hevc_name config =
    let general = slice_index config 1 in
    if nat_lt (length config) 13 then None else Some (record {
      profile_space = general / 64;
      profile = general % 32;
      compatibility = from_be_bytes w32 (take 4 (drop 2 config));
      is_high_tier = general / 32 % 2 == 1;
      level = slice_index config 12;
      constraints = take 6 (drop 6 config);
    })

abbrev pub hev1_name : Hev1Box → CodecName
hev1_name entry = option_map_or Hev1 (hevc_name entry.hvcc.raw) (entry_name (codes "hev1"))

-- of VP9, after four bytes of the version and flags: the profile, the level, and the bits of a sample, in the upper
-- half of a byte (VP Codec ISO Media File Format Binding)
unfoldable pub vp09_name : Vp09Box → CodecName
vp09_name entry =
    let config = entry.vpcc.raw in
    if nat_lt (length config) 7 then entry_name (codes "vp09") else
    Vp09 (slice_index config 4 ∷ slice_index config 5 ∷ slice_index config 6 / 16 ∷ [])

-- the name of sound: of MPEG-4 audio, the object type 0x40 (ISO/IEC 14496-1, 7.2.6.6), the type of its sound is said
-- (ISO/IEC 14496-3, 1.5.1.1), and else the object type
unfoldable pub sound_name : DecoderConfigDescriptor → CodecName
sound_name d =
    if d.object_type_indication == 0x40 then Mpeg4Audio d.dec_specific.profile else
    OtherAudio d.object_type_indication

abbrev pub mp4a_name : Mp4aBox → CodecName
mp4a_name entry =
    option_map_or (λ (esds : EsdsBox). sound_name esds.es_desc.dec_config) entry.esds (entry_name (codes "mp4a"))

-- the name of a track's codec, by the first sample entry that is there
unfoldable pub codec_name : StsdBox → Option CodecName
codec_name stsd =
    option_or (option_map avc1_name stsd.avc1) (option_or (option_map hev1_name stsd.hev1)
    (option_or (option_map vp09_name stsd.vp09) (option_or (option_map mp4a_name stsd.mp4a)
    (if is_some stsd.tx3g then Some (entry_name (codes "tx3g")) else
    option_map (λ (other : BoxType). Entry (coded (code_of other))) stsd.other))))

-- the letter of a profile space: none, A, B or C
unfoldable pub profile_space_letter : ℕ → List ℕ
profile_space_letter space =
    if space == 0 then [] else if space == 1 then codes "A" else if space == 2 then codes "B" else codes "C"

-- the numbers without those at the end that are 0
unfoldable pub without_end_zeros : List ℕ → List ℕ
without_end_zeros [] = []
without_end_zeros (byte ∷ bytes) =
    let others = without_end_zeros bytes in if (byte == 0) && (length others == 0) then [] else byte ∷ others

-- each constraint in hex after a full stop, but those at the end that are 0
abbrev pub constraints_text : List ℕ → List ℕ
constraints_text constraints =
    flat_map (λ constraint. codes "." ++ digits 16 true constraint) (without_end_zeros constraints)

-- `hev1.` and the profile with the letter of its space, the flags of compatibility in hex, the last bit first, the
-- tier, L or H, with the level, and the constraints (ISO/IEC 14496-15, E.3)
unfoldable pub hevc_text : HevcName → List ℕ
hevc_text name =
    codes "hev1." ++ (profile_space_letter name.profile_space ++ (decimal name.profile
    ++ (codes "." ++ (digits 16 true (reverse_bits w32 name.compatibility)
    ++ (codes "." ++ ((if name.is_high_tier then codes "H" else codes "L") ++ (decimal name.level
    ++ constraints_text name.constraints)))))))

-- a byte in two digits of hex
abbrev pub hex_pair : ℕ → List ℕ
hex_pair byte = digit_glyph false (byte / 16) ∷ digit_glyph false (byte % 16) ∷ []

-- a number in two decimal digits, or more
abbrev pub two_digits : ℕ → List ℕ
two_digits number = replicate (2 - length (decimal number)) 48 ++ decimal number

-- a name as a text: of AVC in hex, of VP9 in decimals, of sound its object type in hex and the type of MPEG-4 sound in
-- decimals; the characters of another type of entry aren't said here
abbrev pub codec_text : CodecName → Option (List ℕ)
codec_text (Avc1 numbers) = Some (codes "avc1." ++ (hex_pair (slice_index numbers 0)
    ++ (hex_pair (slice_index numbers 1) ++ hex_pair (slice_index numbers 2))))
codec_text (Hev1 name) = Some (hevc_text name)
codec_text (Mpeg4Audio kind) = Some (if kind == 0 then codes "mp4a.40" else codes "mp4a.40." ++ decimal kind)
codec_text (OtherAudio object) = Some (codes "mp4a." ++ hex_pair object)
codec_text (Vp09 numbers) = Some (codes "vp09." ++ (two_digits (slice_index numbers 0)
    ++ (codes "." ++ (two_digits (slice_index numbers 1) ++ (codes "." ++ two_digits (slice_index numbers 2))))))
codec_text (Entry code) = None
