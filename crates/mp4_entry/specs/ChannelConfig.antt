-- The channels of sound, by their numbers (ISO/IEC 14496-3, 1.6.3.5).
use Rattle.std.specs.Prelude.{ℕ, List, [], ◌∷◌, Result}
use Rattle.mp4_codec.specs.Cause.{Cause}
use Rattle.mp4_entry.specs.declared.channel_config.ChannelConfig.{ChannelConfig}
use Rattle.mp4_entry.specs.declared.channel_config.ChannelConfig.TheVariants.{Mono, Stereo, Three, Four, Five}
use Rattle.mp4_entry.specs.declared.channel_config.ChannelConfig.TheVariants.{FiveOne, SevenOne}
use Rattle.mp4_entry.specs.Numbered.{numbered}

-- the number of a configuration
abbrev pub channel_number : ChannelConfig → ℕ
channel_number Mono = 1
channel_number Stereo = 2
channel_number Three = 3
channel_number Four = 4
channel_number Five = 5
channel_number FiveOne = 6
channel_number SevenOne = 7

-- the configurations in the order of their numbers
abbrev pub channel_configs : List ChannelConfig
channel_configs = Mono ∷ Stereo ∷ Three ∷ Four ∷ Five ∷ FiveOne ∷ SevenOne ∷ []

-- the configuration with this number
abbrev pub channel_config_of : ℕ → Result ChannelConfig Cause
channel_config_of n = numbered channel_number channel_configs n
