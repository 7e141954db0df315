pub mod Tables
pub mod Places
pub mod Plain
pub mod Samples
pub mod Coding
