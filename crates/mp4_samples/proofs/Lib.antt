pub mod BorrowedSamples
pub mod ChunkLaws
pub mod LastLaws
