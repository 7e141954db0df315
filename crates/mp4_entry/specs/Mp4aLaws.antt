-- A sample entry of MPEG-4 audio is read as it was written.
use Rattle.std.proofs.Common.{◌≡◌, ℕ, ◌+◌, ◌^◌, ◌<◌, List, [], length, Option, Some, None, Ok, refl, arith}
use Rattle.std.specs.Prelude.{IfSome}
use Rattle.std.specs.List.{AllByRecursion}
use Rattle.std.specs.Option.{option_to_list}
use Rattle.mp4_codec.specs.declared.box_type.BoxType.TheVariants.{EsdsBox as esds, WaveBox as wave}
use Rattle.mp4_codec.specs.BoxType.{box_type}
use Rattle.mp4_codec.specs.Boxes.{optional, optional_refusal}
use Rattle.mp4_codec.specs.Framing.{IsEncodable}
use Rattle.mp4_codec.specs.FramingLaws.{length-box_bytes}
use Rattle.mp4_codec.specs.FieldLaws.{number_again, zeros_again, length-number, length-zeros, length-then}
use Rattle.mp4_codec.specs.WriteLaws.{is_written, write_cause-none}
use Rattle.mp4_codec.specs.Children.{children, first_fault, all_of, last_of, walk}
use Rattle.mp4_codec.specs.WrittenChildren.{last_child-again}
use Rattle.mp4_entry.specs.declared.esds.EsdsBox.{EsdsBox}
use Rattle.mp4_entry.specs.declared.mp4a.Mp4aBox.{Mp4aBox}
use Rattle.mp4_entry.specs.declared.mp4a.AacConfig.{AacConfig}
use Rattle.mp4_entry.specs.Esds.{esds_of, esds_payload, esds_refusal, IsInRangeEsds, IsWellFormedEsds}
use Rattle.mp4_entry.specs.EsdsLaws.{esds_again, length-esds_payload}
use Rattle.mp4_entry.specs.Mp4a.{last_payload, or_wave_esds, child_esds, versioned_esds, mp4a_of, mp4a_payload}
use Rattle.mp4_entry.specs.Mp4a.{mp4a_refusal, IsCanonicalMp4a, mp4a_of_config, mp4a_config_length}

pub length-mp4a_payload : (b : Mp4aBox) → length (mp4a_payload b) ≡ 28 + length (optional esds esds_payload b.esds)
unfolding mp4a_payload
length-mp4a_payload b = simp (length-then, length-number, length-zeros) (omega arith)

esds_encodable : IsEncodable esds
unfolding box_type
esds_encodable = record { named = refl; code = omega arith }

small_optional : (o : Option EsdsBox) → length (optional esds esds_payload o) < 2 ^ 32
small_optional None = omega arith
small_optional (Some b) = omega (arith, length-box_bytes esds (esds_payload b), length-esds_payload b)

-- an esds within its entry is canonical where that is
each_esds : (o : Option EsdsBox) → IfSome o IsInRangeEsds → IfSome o IsWellFormedEsds
    → optional_refusal esds_refusal o ≡ None
    → AllByRecursion (λ b. esds_of (esds_payload b) ≡ Ok b) (option_to_list o)
each_esds None in_range well_formed sound = tt
each_esds (Some b) in_range well_formed sound =
    let fits : 8 + length (esds_payload b) < 2 ^ 32 = omega (arith, length-esds_payload b) in (
      esds_again b (record {
        in_range = in_range;
        well_formed = well_formed;
        written = write_cause-none (esds_payload b) (esds_refusal b) fits sound;
      }),
      tt,
    )

-- no bytes hold no wave
no_wave : last_payload wave [] ≡ Ok None
unfolding children walk first_fault last_of all_of
no_wave = refl

nothing_more : (o : Option EsdsBox) → or_wave_esds (optional esds esds_payload o) o ≡ Ok o
nothing_more None = rw no_wave refl
nothing_more (Some b) = refl

child_esds_again : (o : Option EsdsBox) → AllByRecursion (λ b. esds_of (esds_payload b) ≡ Ok b) (option_to_list o)
    → child_esds (optional esds esds_payload o) ≡ Ok o
unfolding child_esds
child_esds_again o each =
    rw (last_child-again esds esds_payload esds_of o esds_encodable (small_optional o) each) (nothing_more o)

versioned_esds_again : (bytes : List ℕ) → versioned_esds 0 bytes ≡ child_esds bytes
unfolding versioned_esds
versioned_esds_again bytes = refl

pub mp4a_again : (b : Mp4aBox) → IsCanonicalMp4a b → mp4a_of (mp4a_payload b) ≡ Ok b
unfolding mp4a_of mp4a_payload mp4a_refusal
mp4a_again b f =
    let sound = (is_written (mp4a_payload b) (mp4a_refusal b) f.written).sound in
    rw (
      zeros_again 6 _,
      number_again 2 b.data_reference_index _ f.in_range.data_reference_index,
      number_again 2 0 _ (omega arith),
      zeros_again 6 _,
      number_again 2 b.channelcount _ f.in_range.channelcount,
      number_again 2 b.samplesize _ f.in_range.samplesize,
      zeros_again 4 _,
      number_again 4 b.samplerate.raw _ f.in_range.samplerate,
      versioned_esds_again (optional esds esds_payload b.esds),
      child_esds_again b.esds (each_esds b.esds f.in_range.esds f.well_formed sound),
    ) refl

-- the bytes of the entry of a configuration, its header included
pub mp4a_of_config_size : (c : AacConfig) → 8 + length (mp4a_payload (mp4a_of_config c)) ≡ mp4a_config_length c
mp4a_of_config_size c = simp (length-mp4a_payload, length-box_bytes, length-esds_payload) refl
