-- What a sample entry says of sound.
use Rattle.std.specs.Prelude.{ℕ, ◌*◌, ◌/◌, ◌&&◌, ◌||◌, ◌==◌, if◌then◌else◌, Option, Some, None, option_map, unwrap_or}
use Rattle.std.specs.Prelude.{not}
use Rattle.std.specs.Option.{option_map_or}
use Rattle.std.specs.Result.{result_ok}
use Rattle.mp4_entry.specs.ChannelConfig.{channel_config_of, channel_number}
use Rattle.mp4_entry.specs.SampleFreqIndex.{freq_index_of, hertz}
use Rattle.mp4_entry.specs.declared.channel_config.ChannelConfig.{ChannelConfig}
use Rattle.mp4_entry.specs.declared.esds.DecoderConfigDescriptor.{DecoderConfigDescriptor}
use Rattle.mp4_entry.specs.declared.esds.DecoderSpecificDescriptor.{DecoderSpecificDescriptor}
use Rattle.mp4_entry.specs.declared.esds.EsdsBox.{EsdsBox}
use Rattle.mp4_entry.specs.declared.mp4a.Mp4aBox.{Mp4aBox}
use Rattle.mp4_report.specs.declared.sound.Sound.{Sound}

-- how many channels an arrangement of them has (ISO/IEC 14496-3, 1.6.3.5)
unfoldable pub channel_count : ChannelConfig → ℕ
channel_count config = if channel_number config == 7 then 8 else channel_number config

-- the channels of sound of a type whose decoder is started with so many: of parametric stereo, type 29, two are made of
-- one (ISO/IEC 14496-3, 1.5.1.2)
unfoldable pub channels_of_type : ℕ → ℕ → ℕ
channels_of_type profile channels = if (profile == 29) && (channels == 1) then 2 else channels

-- the channels that the number of an arrangement says, if it is that of one
unfoldable pub channels_by_number : ℕ → Option ℕ
channels_by_number number = option_map channel_count (result_ok (channel_config_of number))

-- the hertz that an index of a frequency says, if it is that of one
unfoldable pub frequency_by_index : ℕ → Option ℕ
frequency_by_index index = option_map hertz (result_ok (freq_index_of index))

-- the sound that an entry itself says: its frequency is a number of 16.16 bits (ISO/IEC 14496-12, 12.2.3)
abbrev pub entry_sound : Mp4aBox → Sound
entry_sound entry = record {
  sampling_frequency = entry.samplerate.raw / 65536;
  core_frequency = None;
  channels = entry.channelcount;
}

-- sound of a type, of this frequency as it is encoded: of types 5 and 29, whose upper half of frequencies is replicated
-- from the lower, twice as many samples are played (ISO/IEC 14496-3, 1.5.1.2)
abbrev pub played_sound : ℕ → ℕ → ℕ → Sound
played_sound profile channels frequency =
    if (profile == 5) || (profile == 29) then
    record { sampling_frequency = frequency * 2; core_frequency = Some frequency; channels = channels } else
    record { sampling_frequency = frequency; core_frequency = None; channels = channels }

-- the sound that a decoder is started with: what that doesn't say is as the entry says
unfoldable pub decoder_sound : DecoderSpecificDescriptor → Sound → Sound
decoder_sound d said =
    let channels = channels_of_type d.profile (unwrap_or (channels_by_number d.chan_conf) said.channels) in
    option_map_or (played_sound d.profile channels) (frequency_by_index d.freq_index)
    (record said { channels = channels })

-- the sound of an entry whose decoder is started so: as that says, where it is of MPEG-4 audio, object type 0x40, and
-- has a type of sound, else as the entry says
abbrev pub configured_sound : Mp4aBox → DecoderConfigDescriptor → Sound
configured_sound entry d =
    if (d.object_type_indication == 0x40) && not (d.dec_specific.profile == 0)
    then decoder_sound d.dec_specific (entry_sound entry) else entry_sound entry

unfoldable pub sound_of : Mp4aBox → Sound
sound_of entry =
    option_map_or (λ (esds : EsdsBox). configured_sound entry esds.es_desc.dec_config) entry.esds (entry_sound entry)
