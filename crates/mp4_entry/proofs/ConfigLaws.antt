-- What is made of a configuration that is not refused is written.
use Rattle.std.proofs.Common.{◌≡◌, ℕ, ◌+◌, ◌≤◌, Bool, true, false, cond, ltb, length, Some, None, refl, arith}
use Rattle.mp4_codec.specs.declared.box_type.BoxType.TheVariants.{Avc1Box as avc1, Hev1Box as hev1, Vp09Box as vp09}
use Rattle.mp4_codec.specs.declared.box_type.BoxType.TheVariants.{Mp4aBox as mp4a, Tx3gBox as tx3g}
use Rattle.mp4_codec.specs.Cause.{unrepresentable, ◌or◌}
use Rattle.mp4_codec.specs.Boxes.{write_cause}
use Rattle.mp4_codec.specs.FramingLaws.{length-box_bytes}
use Rattle.mp4_codec.specs.WriteLaws.{or_parts, write_cause-none}
use Rattle.mp4_entry.specs.declared.avc1.AvcConfig.{AvcConfig}
use Rattle.mp4_entry.specs.declared.mp4a.AacConfig.{AacConfig}
use Rattle.mp4_entry.specs.declared.sample_freq_index.SampleFreqIndex.{SampleFreqIndex}
use Rattle.mp4_entry.specs.declared.sample_freq_index.SampleFreqIndex.TheVariants.{Freq96000, Freq88200, Freq64000}
use Rattle.mp4_entry.specs.declared.sample_freq_index.SampleFreqIndex.TheVariants.{Freq48000, Freq44100, Freq32000}
use Rattle.mp4_entry.specs.declared.sample_freq_index.SampleFreqIndex.TheVariants.{Freq24000, Freq22050, Freq16000}
use Rattle.mp4_entry.specs.declared.sample_freq_index.SampleFreqIndex.TheVariants.{Freq12000, Freq11025, Freq8000}
use Rattle.mp4_entry.specs.declared.sample_freq_index.SampleFreqIndex.TheVariants.{Freq7350}
use Rattle.mp4_entry.specs.declared.channel_config.ChannelConfig.{ChannelConfig}
use Rattle.mp4_entry.specs.declared.channel_config.ChannelConfig.TheVariants.{Mono, Stereo, Three, Four, Five}
use Rattle.mp4_entry.specs.declared.channel_config.ChannelConfig.TheVariants.{FiveOne, SevenOne}
use Rattle.mp4_entry.specs.declared.config.MediaConfig.{MediaConfig}
use Rattle.mp4_entry.specs.declared.config.MediaConfig.TheVariants.{AvcConfig as Avc, HevcConfig as Hevc}
use Rattle.mp4_entry.specs.declared.config.MediaConfig.TheVariants.{Vp9Config as Vp9, AacConfig as Aac}
use Rattle.mp4_entry.specs.declared.config.MediaConfig.TheVariants.{TtxtConfig as Ttxt}
use Rattle.mp4_entry.specs.Avcc.{avcc_refusal}
use Rattle.mp4_entry.specs.Narrow.{past}
use Rattle.mp4_entry.specs.NarrowLaws.{within}
use Rattle.mp4_entry.specs.Avc1.{avc1_payload, avc1_refusal, avc1_of_config}
use Rattle.mp4_entry.specs.Avc1Laws.{avc1_of_config_size}
use Rattle.mp4_entry.specs.Hev1.{hev1_payload, hev1_of_config}
use Rattle.mp4_entry.specs.Hev1Laws.{hev1_of_config_size}
use Rattle.mp4_entry.specs.Vp09.{vp09_payload, vp09_of_config}
use Rattle.mp4_entry.specs.Vp09Laws.{vp09_of_config_size}
use Rattle.mp4_entry.specs.SampleFreqIndex.{freq_number}
use Rattle.mp4_entry.specs.ChannelConfig.{channel_number}
use Rattle.mp4_entry.specs.Esds.{esds_refusal}
use Rattle.mp4_entry.specs.Mp4a.{mp4a_payload, mp4a_refusal, mp4a_of_config}
use Rattle.mp4_entry.specs.Mp4aLaws.{mp4a_of_config_size}
use Rattle.mp4_entry.specs.Tx3g.{tx3g_payload, default_tx3g}
use Rattle.mp4_entry.specs.Tx3gLaws.{length-tx3g_payload}
use Rattle.mp4_entry.specs.Config.{avc_refusal, aac_refusal, media_refusal, entry_length}
use Rattle.mp4_entry.specs.Stsd.{entry_bytes, entry_of_config, stsd_of_config, stsd_payload, stsd_refusal}
use Rattle.mp4_entry.specs.StsdLaws.{length-stsd_payload}

-- the box of the entry of a configuration has its length
length-entry : (c : MediaConfig) → length (entry_bytes (entry_of_config c)) ≡ entry_length c
length-entry (Avc c) =
    omega (arith, length-box_bytes avc1 (avc1_payload (avc1_of_config c)), avc1_of_config_size c)
length-entry (Hevc c) =
    omega (arith, length-box_bytes hev1 (hev1_payload (hev1_of_config c)), hev1_of_config_size c)
length-entry (Vp9 c) =
    omega (arith, length-box_bytes vp09 (vp09_payload (vp09_of_config c)), vp09_of_config_size c)
length-entry (Aac c) =
    omega (arith, length-box_bytes mp4a (mp4a_payload (mp4a_of_config c)), mp4a_of_config_size c)
length-entry (Ttxt c) =
    omega (arith, length-box_bytes tx3g (tx3g_payload default_tx3g), length-tx3g_payload default_tx3g)

pub length-stsd_of_config : (c : MediaConfig) → length (stsd_payload (stsd_of_config c)) ≡ 8 + entry_length c
length-stsd_of_config (Avc c) = omega (arith, length-stsd_payload (stsd_of_config (Avc c)), length-entry (Avc c))
length-stsd_of_config (Hevc c) = omega (arith, length-stsd_payload (stsd_of_config (Hevc c)), length-entry (Hevc c))
length-stsd_of_config (Vp9 c) = omega (arith, length-stsd_payload (stsd_of_config (Vp9 c)), length-entry (Vp9 c))
length-stsd_of_config (Aac c) = omega (arith, length-stsd_payload (stsd_of_config (Aac c)), length-entry (Aac c))
length-stsd_of_config (Ttxt c) = omega (arith, length-stsd_payload (stsd_of_config (Ttxt c)), length-entry (Ttxt c))

-- parameter sets that have room in the 16 bits of their lengths
record HaveRoom (c : AvcConfig) : Type 0 where
  sequence : past 0xffff (length c.seq_param_set) ≡ None
  picture : past 0xffff (length c.pic_param_set) ≡ None

have_room : (c : AvcConfig) → avc_refusal c ≡ None → HaveRoom c
have_room c e = chosen (ltb (length c.seq_param_set) 4) e
  where
    chosen : (short : Bool)
        → cond short (Some unrepresentable)
        (past 0xffff (length c.seq_param_set) or past 0xffff (length c.pic_param_set))
        ≡ None → HaveRoom c
    chosen true e = absurd cc
    chosen false e =
        let parts = or_parts (past 0xffff (length c.seq_param_set)) (past 0xffff (length c.pic_param_set)) e in
        record { sequence = parts.0; picture = parts.1 }

avc1_sound : (c : AvcConfig) → HaveRoom c → avc1_refusal (avc1_of_config c) ≡ None
unfolding avc1_refusal avcc_refusal
avc1_sound c h = rw (h.sequence, h.picture) refl

few_frequencies : (index : SampleFreqIndex) → past 14 (freq_number index) ≡ None
few_frequencies Freq96000 = refl
few_frequencies Freq88200 = refl
few_frequencies Freq64000 = refl
few_frequencies Freq48000 = refl
few_frequencies Freq44100 = refl
few_frequencies Freq32000 = refl
few_frequencies Freq24000 = refl
few_frequencies Freq22050 = refl
few_frequencies Freq16000 = refl
few_frequencies Freq12000 = refl
few_frequencies Freq11025 = refl
few_frequencies Freq8000 = refl
few_frequencies Freq7350 = refl

few_channels : (config : ChannelConfig) → past 15 (channel_number config) ≡ None
few_channels Mono = refl
few_channels Stereo = refl
few_channels Three = refl
few_channels Four = refl
few_channels Five = refl
few_channels FiveOne = refl
few_channels SevenOne = refl

few_types : (n : ℕ) → cond (ltb n 1) (Some unrepresentable) (past 30 n) ≡ None → past 30 n ≡ None
few_types n e = chosen (ltb n 1) e
  where
    chosen : (b : Bool) → cond b (Some unrepresentable) (past 30 n) ≡ None → past 30 n ≡ None
    chosen true e = absurd cc
    chosen false e = e

mp4a_sound : (c : AacConfig) → aac_refusal c ≡ None → mp4a_refusal (mp4a_of_config c) ≡ None
unfolding mp4a_refusal esds_refusal
mp4a_sound c e = rw (few_types c.profile.number e, few_frequencies c.freq_index, few_channels c.chan_conf) refl

sound : (c : MediaConfig) → media_refusal c ≡ None → stsd_refusal (stsd_of_config c) ≡ None
sound (Avc c) e = avc1_sound c (have_room c e)
sound (Hevc c) e = refl
sound (Vp9 c) e = refl
sound (Aac c) e = mp4a_sound c e
sound (Ttxt c) e = refl

short : (c : MediaConfig) → media_refusal c ≡ None → entry_length c ≤ 131175
short (Avc c) e =
    let h = have_room c e in
    let first : length c.seq_param_set ≤ 0xffff = within 0xffff (length c.seq_param_set) h.sequence in
    let second : length c.pic_param_set ≤ 0xffff = within 0xffff (length c.pic_param_set) h.picture in
    omega (arith, first, second)
short (Hevc c) e = omega arith
short (Vp9 c) e = omega arith
short (Aac c) e = omega arith
short (Ttxt c) e = omega arith

-- the description of a track is written where its configuration is not refused
pub media_written : (c : MediaConfig) → media_refusal c ≡ None
    → write_cause (stsd_payload (stsd_of_config c)) (stsd_refusal (stsd_of_config c)) ≡ None
media_written c e =
    write_cause-none (stsd_payload (stsd_of_config c)) (stsd_refusal (stsd_of_config c))
    (omega (arith, length-stsd_of_config c, short c e)) (sound c e)
