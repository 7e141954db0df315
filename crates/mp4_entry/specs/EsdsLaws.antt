-- An elementary stream descriptor is read as it was written.
use Rattle.std.proofs.Common.{◌≡◌, ℕ, ◌+◌, ◌-◌, ◌*◌, ◌/◌, ◌%◌, ◌^◌, ◌≤◌, ◌<◌, false, eqb}
use Rattle.std.proofs.Common.{List, [], length, drop, None, Ok, refl, sym, ap, ◌∙◌, arith}
use Rattle.std.proofs.lemmas.Nat.{div-mul-add}
use Rattle.mp4_codec.specs.Cause.{◌or◌}
use Rattle.mp4_codec.specs.Bytes.{number}
use Rattle.mp4_codec.specs.FieldLaws.{number_again, length-number, length-then, then_nothing}
use Rattle.mp4_codec.specs.WriteLaws.{is_written, or_parts}
use Rattle.mp4_entry.specs.Descriptor.{padded_at, descriptor}
use Rattle.mp4_entry.specs.DescriptorLaws.{padded_at-split, padded_again, first_of-descriptor, first_of-last}
use Rattle.mp4_entry.specs.DescriptorLaws.{length-descriptor, padded_at-rest, padded_at-nothing}
use Rattle.mp4_entry.specs.declared.esds.EsdsBox.{EsdsBox}
use Rattle.mp4_entry.specs.declared.esds.ESDescriptor.{ESDescriptor}
use Rattle.mp4_entry.specs.declared.esds.DecoderConfigDescriptor.{DecoderConfigDescriptor}
use Rattle.mp4_entry.specs.declared.esds.DecoderSpecificDescriptor.{DecoderSpecificDescriptor}
use Rattle.mp4_entry.specs.Narrow.{past}
use Rattle.mp4_entry.specs.NarrowLaws.{within}
use Rattle.mp4_entry.specs.Esds.{bits, profile_in, frequency_in, frequency_end, decoder_specific_of}
use Rattle.mp4_entry.specs.Esds.{decoder_config_of, is_set, after_options, es_descriptor_of, esds_of, specific_word}
use Rattle.mp4_entry.specs.Esds.{stream_byte, decoder_config, es_descriptor, esds_payload, esds_refusal}
use Rattle.mp4_entry.specs.Esds.{specific_refusal, IsInRangeEsds, IsCanonicalEsds}

pub length-decoder_config : (d : DecoderConfigDescriptor) → length (decoder_config d) ≡ 17
unfolding decoder_config
length-decoder_config d = simp (length-then, length-number, length-descriptor) (omega arith)

pub length-es_descriptor : (d : ESDescriptor) → length (es_descriptor d) ≡ 25
unfolding es_descriptor
length-es_descriptor d = simp (length-then, length-number, length-descriptor, length-decoder_config) (omega arith)

pub length-esds_payload : (b : EsdsBox) → length (esds_payload b) ≡ 31
unfolding esds_payload
length-esds_payload b = simp (length-then, length-number, length-descriptor, length-es_descriptor) (omega arith)

-- two bytes are the high ones of 48 bits
word_again : (w : ℕ) → w < 65536 → (padded_at 6 (number 2 w)).0 ≡ w * 4294967296
word_again w h =
    let fits : w < 256 ^ 2 = omega (arith, h) in
    let two : padded_at 2 (number 2 w) ≡ (w, []) =
    ap (padded_at 2) (sym (then_nothing (number 2 w))) ∙ padded_again 2 w [] fits in
    let rest_is : drop 2 (number 2 w) ≡ [] =
    sym (padded_at-rest 2 (number 2 w)) ∙ ap (λ (x : ℕ × List ℕ). x.1) two in
    let split = ap (λ (x : ℕ × List ℕ). x.0) (padded_at-split 2 4 (number 2 w)) in
    split ∙ rw (ap (λ (x : ℕ × List ℕ). x.0) two, rest_is, padded_at-nothing 4) (omega arith)

-- what a word says, field by field
record Says (word p f c : ℕ) : Type 0 where
  profile : profile_in word ≡ p
  freq_index : frequency_in word ≡ f
  chan_conf : bits (frequency_end word) 4 word ≡ c

-- where neither the object type nor the frequency's index says that more bits follow
says : (word p f c : ℕ) → p ≤ 30 → f ≤ 14 → bits 0 5 word ≡ p → bits 5 4 word ≡ f → bits 9 4 word ≡ c
    → Says word p f c
says word p f c hp hf first second third =
    let short : eqb p 31 ≡ false = grind arith in
    let listed : eqb f 15 ≡ false = grind arith in record {
      profile = rw (first, short) refl;
      freq_index = rw (first, short) second;
      chan_conf = rw (first, short, second, listed) third;
    }

quotient : (word above below unit : ℕ) → word ≡ above * unit + below → below < unit → word / unit ≡ above
quotient word above below unit e h = ap (λ (x : ℕ). x / unit) e ∙ div-mul-add above unit below h

word_says : (p f c : ℕ) → p ≤ 30 → f ≤ 14 → c ≤ 15 → Says ((p * 2048 + f * 128 + c * 8) * 4294967296) p f c
word_says p f c hp hf hc =
    let word = (p * 2048 + f * 128 + c * 8) * 4294967296 in
    let first : word / 8796093022208 ≡ p =
    quotient word p (f * 549755813888 + c * 34359738368) 8796093022208 (omega arith) (omega arith) in
    let second : word / 549755813888 ≡ p * 16 + f =
    quotient word (p * 16 + f) (c * 34359738368) 549755813888 (omega arith) (omega arith) in
    let third : word / 34359738368 ≡ p * 256 + f * 16 + c =
    quotient word (p * 256 + f * 16 + c) 0 34359738368 (omega arith) (omega arith) in
    says word p f c hp hf (rw first (omega arith)) (rw second (omega arith)) (rw third (omega arith))

-- the numbers of a configuration fit their bits
record Fits (d : DecoderSpecificDescriptor) : Type 0 where
  profile : d.profile ≤ 30
  freq_index : d.freq_index ≤ 14
  chan_conf : d.chan_conf ≤ 15

specific_again : (d : DecoderSpecificDescriptor) → Fits d → decoder_specific_of (number 2 (specific_word d)) ≡ d
unfolding decoder_specific_of
specific_again d f =
    let small : specific_word d < 65536 = omega (arith, f.profile, f.freq_index, f.chan_conf) in
    let s = word_says d.profile d.freq_index d.chan_conf f.profile f.freq_index f.chan_conf in
    rw (word_again (specific_word d) small, s.chan_conf, s.freq_index, s.profile) refl

-- the numbers of a decoder fit their bits
record FitsConfig (d : DecoderConfigDescriptor) : Type 0 where
  object_type_indication : d.object_type_indication < 2 ^ 8
  stream_type : d.stream_type ≤ 63
  up_stream : d.up_stream ≤ 1
  buffer_size_db : d.buffer_size_db ≤ 2 ^ 24 - 1
  max_bitrate : d.max_bitrate < 2 ^ 32
  avg_bitrate : d.avg_bitrate < 2 ^ 32
  dec_specific : Fits d.dec_specific

stream_type_again : (s u : ℕ) → u ≤ 1 → (s * 4 + u * 2 + 1) / 4 ≡ s
stream_type_again s u h = omega arith

up_stream_again : (s u : ℕ) → u ≤ 1 → (s * 4 + u * 2 + 1) / 2 % 2 ≡ u
up_stream_again s u h = omega arith

short_number : (n x : ℕ) → n < 128 → length (number n x) < 128
short_number n x h = omega (arith, length-number n x, h)

config_again : (d : DecoderConfigDescriptor) → FitsConfig d → decoder_config_of (decoder_config d) ≡ d
unfolding decoder_config_of decoder_config
config_again d f =
    let byte : stream_byte d < 256 ^ 1 = omega (arith, f.stream_type, f.up_stream) in
    let buffer : d.buffer_size_db < 256 ^ 3 = omega (arith, f.buffer_size_db) in
    let last = first_of-last 5 (number 2 (specific_word d.dec_specific)) (omega arith)
    (short_number 2 (specific_word d.dec_specific) (omega arith)) in
    rw (
      padded_again 1 d.object_type_indication _ f.object_type_indication,
      padded_again 1 (stream_byte d) _ byte,
      padded_again 3 d.buffer_size_db _ buffer,
      padded_again 4 d.max_bitrate _ f.max_bitrate,
      padded_again 4 d.avg_bitrate _ f.avg_bitrate,
      last,
      specific_again d.dec_specific f.dec_specific,
      stream_type_again d.stream_type d.up_stream f.up_stream,
      up_stream_again d.stream_type d.up_stream f.up_stream,
    ) refl

no_options : (bytes : List ℕ) → after_options 0 bytes ≡ bytes
unfolding is_set
no_options bytes = refl

es_again : (d : ESDescriptor) → d.es_id < 2 ^ 16 → FitsConfig d.dec_config → es_descriptor_of (es_descriptor d) ≡ d
unfolding es_descriptor_of es_descriptor
es_again d id f =
    let size : length (decoder_config d.dec_config) < 128 = omega (arith, length-decoder_config d.dec_config) in
    rw (
      padded_again 2 d.es_id _ id,
      padded_again 1 0 _ (omega arith),
      no_options _,
      first_of-descriptor 4 (decoder_config d.dec_config) (descriptor 6 (number 1 2)) (omega arith) size,
      config_again d.dec_config f,
    ) refl

specific_fits : (d : DecoderSpecificDescriptor) → specific_refusal d ≡ None → Fits d
specific_fits d e =
    let all = or_parts (past 30 d.profile or past 14 d.freq_index) (past 15 d.chan_conf) e in
    let two = or_parts (past 30 d.profile) (past 14 d.freq_index) all.0 in record {
      profile = within 30 d.profile two.0;
      freq_index = within 14 d.freq_index two.1;
      chan_conf = within 15 d.chan_conf all.1;
    }

config_fits : (b : EsdsBox) → IsInRangeEsds b → esds_refusal b ≡ None → FitsConfig b.es_desc.dec_config
unfolding esds_refusal
config_fits b r e =
    let d = b.es_desc.dec_config in
    let most = 2 ^ 24 - 1 in
    let all =
    or_parts (specific_refusal d.dec_specific or past 63 d.stream_type or past 1 d.up_stream)
    (past most d.buffer_size_db) e in
    let three = or_parts (specific_refusal d.dec_specific or past 63 d.stream_type) (past 1 d.up_stream) all.0 in
    let two = or_parts (specific_refusal d.dec_specific) (past 63 d.stream_type) three.0 in record {
      object_type_indication = r.object_type_indication;
      stream_type = within 63 d.stream_type two.1;
      up_stream = within 1 d.up_stream three.1;
      buffer_size_db = within most d.buffer_size_db all.1;
      max_bitrate = r.max_bitrate;
      avg_bitrate = r.avg_bitrate;
      dec_specific = specific_fits d.dec_specific two.0;
    }

pub esds_again : (b : EsdsBox) → IsCanonicalEsds b → esds_of (esds_payload b) ≡ Ok b
unfolding esds_of esds_payload
esds_again b f =
    let sound = (is_written (esds_payload b) (esds_refusal b) f.written).sound in
    let size : length (es_descriptor b.es_desc) < 128 = omega (arith, length-es_descriptor b.es_desc) in
    rw (
      number_again 1 b.version _ f.in_range.version,
      number_again 3 b.flags _ f.well_formed,
      first_of-last 3 (es_descriptor b.es_desc) (omega arith) size,
      es_again b.es_desc f.in_range.es_id (config_fits b f.in_range sound),
    ) refl
