pub mod Sizes
pub mod Numbering
pub mod Changes
pub mod Entries
pub mod Runs
