-- What a movie is begun with, and what a track is added with.
use Rattle.std.specs.Prelude.{[], ◌∷◌, ◌<◌, ◌^◌, Option, Some, ◌==◌, if◌then◌else◌}
use Rattle.std.specs.List.{AllByRecursion}
use Rattle.mp4_codec.specs.Bytes.{IsCode}
use Rattle.mp4_codec.specs.Cause.{Cause, zero_timescale, ◌or◌}
use Rattle.mp4_leaf.specs.Language.{language_refusal}
use Rattle.mp4_entry.specs.declared.config.MediaConfig.{MediaConfig}
use Rattle.mp4_entry.specs.Config.{media_refusal, track_type_in, IsInRangeMediaConfig}
use Rattle.mp4_mux.specs.declared.config.Mp4Config.{Mp4Config}
use Rattle.mp4_mux.specs.declared.config.TrackConfig.{TrackConfig}

-- each number of a configuration is within its type
pub record IsInRangeConfig (config : Mp4Config) : Type 0 where
  pub major_brand : IsCode config.major_brand
  pub minor_version : config.minor_version < 2 ^ 32
  pub compatible_brands : AllByRecursion IsCode config.compatible_brands
  pub timescale : config.timescale < 2 ^ 32

-- a track of 1000 ticks a second and of no language, of the kind that its media are of
abbrev pub track_config_of : MediaConfig → TrackConfig
track_config_of media =
    record {
      track_type = track_type_in media;
      timescale = 1000;
      language = 0x75 ∷ 0x6e ∷ 0x64 ∷ [];
      media_conf = media;
    }

-- why no track is added with a configuration: it has no ticks, or its language or its media have no encoding
unfoldable pub config_cause : TrackConfig → Option Cause
config_cause c =
    if c.timescale == 0 then Some zero_timescale else (language_refusal c.language or media_refusal c.media_conf)

-- each number of it is within its type
pub record IsInRangeTrackConfig (c : TrackConfig) : Type 0 where
  pub timescale : c.timescale < 2 ^ 32
  pub media_conf : IsInRangeMediaConfig c.media_conf
