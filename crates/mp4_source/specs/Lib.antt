pub mod Block
pub mod Source
pub mod Answers
pub mod Sink
