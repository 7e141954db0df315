pub mod Held
pub mod Parts
