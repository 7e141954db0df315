-- What a fragment's samples have where nothing else is said of them (ISO/IEC 14496-12, 8.8.3 and 8.8.7).
use Rattle.std.specs.Option.{unwrap_or}
use Rattle.mp4_moof.specs.declared.trex.TrexBox.{TrexBox}
use Rattle.mp4_moof.specs.declared.traf.TrafBox.{TrafBox}
use Rattle.mp4_fragments.specs.declared.defaults.SampleDefaults.{SampleDefaults}

-- of a track of which nothing is said
abbrev pub no_defaults : SampleDefaults
no_defaults = record { duration = 0; size = 0; flags = 0 }

-- as the movie says them for a track
abbrev pub defaults_of_trex : TrexBox → SampleDefaults
defaults_of_trex t = record {
  duration = t.default_sample_duration;
  size = t.default_sample_size;
  flags = t.default_sample_flags;
}

-- as a fragment says them, else the movie
abbrev pub defaults_in : TrafBox → SampleDefaults → SampleDefaults
defaults_in traf track = record {
  duration = unwrap_or traf.tfhd.default_sample_duration track.duration;
  size = unwrap_or traf.tfhd.default_sample_size track.size;
  flags = unwrap_or traf.tfhd.default_sample_flags track.flags;
}
