pub mod FileBoxes
pub mod FileGrammar
pub mod Opening
pub mod MovieTracks
pub mod Reading
pub mod InOrder
pub mod Walk
pub mod WriterFields
pub mod WriterAnswers
pub mod Finished
pub mod WriterCalls
pub mod RoundTrip
-- what callers cite of the crates below, by the name of this one: errors, places in bytes, what a call is Ok with, the
-- numerals of metadata, the tables and samples of a track, where a lookup leads, by number and by time, and what it
-- costs, a writer, what it is configured with, and its calls
pub use Rattle.mp4_codec.specs.Cause
pub use Rattle.mp4_codec.specs.Cursor
pub use Rattle.mp4_codec.specs.Steps
pub use Rattle.mp4_codec.specs.declared.error.Error
pub use Rattle.mp4_entry.specs.declared.config.MediaConfig
pub use Rattle.mp4_meta.specs.Metadata
pub use Rattle.mp4_samples.specs.Tables
pub use Rattle.mp4_samples.specs.Places
pub use Rattle.mp4_samples.specs.Plain
pub use Rattle.mp4_samples.specs.Samples
pub use Rattle.mp4_lookup.specs.Rule
pub use Rattle.mp4_lookup.specs.Tracks
pub use Rattle.mp4_lookup.specs.TrackRuns
pub use Rattle.mp4_lookup.specs.SampleCursor
pub use Rattle.mp4_lookup.specs.ByTime
pub use Rattle.mp4_search.specs.Partition
pub use Rattle.mp4_lookup.specs.Costs
pub use Rattle.mp4_mux.specs.declared.config.Mp4Config
pub use Rattle.mp4_mux.specs.declared.config.TrackConfig
pub use Rattle.mp4_mux.specs.Config
pub use Rattle.mp4_mux.specs.Calls
pub use Rattle.mp4_mux.specs.Writing
pub use Rattle.mp4_mux.specs.Written
