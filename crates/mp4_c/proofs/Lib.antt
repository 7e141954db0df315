pub mod Fills
pub mod SampleRows
pub mod TrackRows
pub mod Writing
pub mod Refusals
pub mod Remuxing
